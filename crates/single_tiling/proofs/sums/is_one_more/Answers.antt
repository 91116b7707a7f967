-- `single_tiling::sums::is_one_more` meets its contract: the sizes are tested in order.
-- Assumes nothing.
use Rattle.std.proofs.Common.{refl, sym, ◌∙◌}
use Rattle.std.proofs.Math.Bool.{and-false}
use Rattle.std.proofs.lemmas.Bool.{le-leb, lt-leb}
use Rattle.cells.specs.FirstsLaws.{any_miss, any_hit, any_end}
use Rattle.single_tiling.proofs.sums.is_one_more.Goals as goal
use Rattle.single_tiling.proofs.sums.is_one_more.Goals.{else-size-n-via-then-size-n+else-table-n, else-size-n-via-else-size-n}

pub loop-size-init : goal.loop-size-init
loop-size-init c = refl

pub returns-then-table-n : goal.returns-then-table-n
returns-then-table-n c =
    sym (c.loop-size.invariant ∙ any_hit _ _ _ 0 c.loop-size-test.true (rw (le-leb _ _ c.if-size-n.true, c.if-table-n.true)))

pub loop-size-preserved : goal.loop-size-preserved
loop-size-preserved c =
    c.loop-size.invariant
    ∙ any_miss _ _ _ 0 c.loop-size-test.true
    (elim c.else-size-n.branch [
      | else-size-n-via-then-size-n+else-table-n w ↦ rw (w.if-table-n.false) (and-false _)
      | else-size-n-via-else-size-n w ↦ rw (lt-leb _ _ w.if-size-n.false)
    ])

pub returns : goal.returns
returns c = sym (c.loop-size.invariant ∙ any_end _ _ _ 0 c.loop-size-test.false c.loop-size.auto.size-index-end)
