-- `host_counts::generate_graph` meets its contract: the call where the shapes are right, and zeros where they are not.
-- Assumes nothing.
use Rattle.host_counts.proofs.HostLaws.{graph_accepted, graph_unshaped}
use Rattle.host_counts.proofs.generate_graph.Goals as goal

pub returns-in-Ok : goal.returns-in-Ok
returns-in-Ok c =
    graph_accepted _ _ c.args.marks.now c.args.tiles.now c.args.answer.now _ c.of_plot.ensures
    c.args.nodes.now c.args.counts.now c.args.edges.now _ _
    c.in-Ok.is c.board_from.ensures c.tiles_from.ensures c.generate_graph.ensures

pub returns-in-Err : goal.returns-in-Err
returns-in-Err c =
    graph_unshaped _ _ c.args.marks.now c.args.tiles.now c.args.answer.now _ c.of_plot.ensures
    c.args.nodes.now c.args.counts.now c.args.edges.now _ c.in-Err.is
    c.clear_from.ensures c.clear_from-in-Err.ensures c.clear_from-in-Err-2.ensures c.refuse.ensures
