-- `graph::write_edges` meets its contract: each child is stored behind those before it.
-- Assumes nothing.
use Rattle.std.proofs.Common.{◌∙◌}
use Rattle.graph.proofs.GraphLoops.{written_none, written_hit, written_miss, written_all}
use Rattle.graph.proofs.write_edges.Goals as goal
use Rattle.graph.proofs.write_edges.Goals.{then-parent-node, else-parent-node}

pub loop-i-init : goal.loop-i-init
loop-i-init c = written_none _ _ _

pub loop-i-preserved : goal.loop-i-preserved
loop-i-preserved c =
    elim c.if-parent-node.branch [
      | then-parent-node w ↦ written_hit _ _ _ _ _ c.loop-i.invariant _ _ w.if-parent-node.true w.count-is (w.out-is ∙ w.store.ensures)
      | else-parent-node w ↦ written_miss _ _ _ _ _ c.loop-i.invariant _ _ w.if-parent-node.false w.count-is w.out-is
    ]

pub returns : goal.returns
returns c = written_all _ _ _ _ _ c.loop-i.invariant _ _ c.lent_edges-i-end.ensures c.loop-i.auto.i-end c.loop-i-test.false
