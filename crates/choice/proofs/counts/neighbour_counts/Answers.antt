-- `choice::counts::neighbour_counts` meets its contract: the counts are filled in order (`Filled`).
-- Assumes nothing.
use Rattle.std.proofs.Common.{ℕ, arith}
use lib.ListN.{length-replicate, get_or-replicate}
use Rattle.cells.specs.ArrayLaws.{filled_start, filled_step, filled_end}
use Rattle.choice.proofs.counts.neighbour_counts.Goals as goal

pub loop-cell-init : goal.loop-cell-init
loop-cell-init c =
    filled_start 0 _ (λ k. 0) 256 0 _ (length-replicate {A = ℕ} 256 0) (λ k h. get_or-replicate 256 k 0 0 h) (λ k h. absurd (omega arith))

pub bounds-counts-cell : goal.bounds-counts-cell
bounds-counts-cell c = omega (arith, c.loop-cell.invariant.long)

pub loop-cell-preserved : goal.loop-cell-preserved
loop-cell-preserved c = filled_step 0 _ _ 256 _ _ _ c.loop-cell.invariant c.loop-cell-test.true c.count_at.ensures

pub returns : goal.returns
returns c = filled_end 0 _ _ 256 _ _ c.loop-cell.invariant (λ k h i. absurd (omega (arith, c.loop-cell-test.false)))
