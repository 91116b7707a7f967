-- `graph::count_edges` meets its contract: the edges that are lent are looked at one by one from the first on.
-- Assumes nothing.
use Rattle.graph.proofs.GraphLoops.{counted_none, counted_hit, counted_miss, counted_all}
use Rattle.graph.proofs.count_edges.Goals as goal
use Rattle.graph.proofs.count_edges.Goals.{then-edges-i, else-edges-i}

pub loop-i-init : goal.loop-i-init
loop-i-init c = counted_none _ _

pub loop-i-preserved : goal.loop-i-preserved
loop-i-preserved c =
    elim c.if-edges-i.branch [
      | then-edges-i w ↦ counted_hit _ _ _ _ c.loop-i.invariant _ w.if-edges-i.true w.count-is
      | else-edges-i w ↦ counted_miss _ _ _ _ c.loop-i.invariant _ w.if-edges-i.false w.count-is
    ]

pub returns : goal.returns
returns c = counted_all _ _ _ _ _ _ c.loop-i.invariant c.lent_edges-i-end.ensures c.loop-i.auto.i-end c.loop-i-test.false
