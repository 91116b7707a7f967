-- `graph::get_edges` meets its contract: the children are counted, then written if there is room, and the words behind the last are cleared.
-- Assumes nothing.
use Rattle.graph.proofs.GraphLoops.{gets_refused, gets_number}
use Rattle.graph.proofs.get_edges.Goals as goal

pub returns-then-out-count : goal.returns-then-out-count
returns-then-out-count c =
    gets_refused _ _ _ _ _ c.count_edges-count.ensures c.if-out-count.true _
    c.clear_from.ensures

pub returns : goal.returns
returns c =
    gets_number _ _ _ _ _ c.count_edges-count.ensures c.if-out-count.false _ _
    c.write_edges.auto.out c.write_edges.ensures c.clear_from-2.ensures
