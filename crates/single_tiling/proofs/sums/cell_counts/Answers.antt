-- `single_tiling::sums::cell_counts` meets its contract: the numbers of cells are put down in order; no tile of some accepted tiles is refused.
-- Assumes nothing.
use Rattle.std.proofs.Common.{◌<◌, length, arith, rules}
use Rattle.single_tiling.proofs.SumSteps.{count_is, count_ok, fill_more}
use Rattle.single_tiling.proofs.sums.cell_counts.Goals as goal

pub loop-i-init : goal.loop-i-init
loop-i-init c = (search rules, λ k h. absurd (omega arith))

pub unwrap-requires : goal.unwrap-requires
unwrap-requires c = count_ok _ c.requires _ c.loop-i-test.true _ c.get.ensures _ c.count_cells.ensures

pub bounds-sizes-i : goal.bounds-sizes-i
bounds-sizes-i c = omega (arith, c.requires.0, c.loop-i.invariant.0)

pub loop-i-preserved : goal.loop-i-preserved
loop-i-preserved c =
    let room : c.loop-i.i < length c.loop-i.sizes = omega (arith, c.requires.0, c.loop-i.invariant.0) in
    (search rules, fill_more _ c.loop-i.sizes _ _ c.loop-i.invariant.1 room (count_is _ c.requires _ c.loop-i-test.true _ c.get.ensures _ c.count_cells.ensures _ c.unwrap.ensures))

pub returns : goal.returns
returns c = λ i h. c.loop-i.invariant.1 i (omega arith)
