-- `host_tilings::tiling` meets its contract: the call where the shapes are right, and zeros where they are not.
-- Assumes nothing.
use Rattle.host_tilings.proofs.HostLaws.{tiling_words, tiling_accepted, tiling_unshaped}
use Rattle.host_tilings.proofs.tiling.Goals as goal

pub tiling-requires : goal.tiling-requires
tiling-requires c =
    tiling_words c.args.nodes.now c.args.counts.now c.args.edges.now c.args.graph.now c.args.m.now c.args.out.now c.args.answer.now _ c.of_tiling.ensures c.in-Ok.is

pub returns-in-Ok : goal.returns-in-Ok
returns-in-Ok c =
    tiling_accepted c.args.nodes.now c.args.counts.now c.args.edges.now c.args.graph.now c.args.m.now c.args.out.now c.args.answer.now _ c.of_tiling.ensures c.in-Ok.is _ c.graph_from.ensures c.tiling.ensures

pub returns-in-Err : goal.returns-in-Err
returns-in-Err c =
    tiling_unshaped c.args.nodes.now c.args.counts.now c.args.edges.now c.args.graph.now c.args.m.now c.args.out.now c.args.answer.now _ c.of_tiling.ensures _ c.in-Err.is c.clear_from.ensures c.refuse.ensures
