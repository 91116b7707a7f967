-- `host_counts::calls::generate_graph` meets its contract: what `generate_graph` answers is told.
-- Assumes nothing.
use Rattle.host_counts.proofs.ToldLaws.{graph_told, graph_refused}
use Rattle.host_counts.proofs.calls.generate_graph.Goals as goal

pub returns-in-Ok : goal.returns-in-Ok
returns-in-Ok c =
    graph_told _ _ c.args.nodes.now c.args.counts.now c.args.edges.now _ _ _ _ _ _ c.generate_graph-made.ensures.answer _ _ c.in-Ok.is c.accept_graph.ensures

pub returns-in-Err : goal.returns-in-Err
returns-in-Err c =
    graph_refused _ _ c.args.nodes.now c.args.counts.now c.args.edges.now _ _ _ _ _ _ c.generate_graph-made.ensures.answer _ _ c.in-Err.is c.refuse.ensures
