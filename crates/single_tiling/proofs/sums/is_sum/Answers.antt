-- `single_tiling::sums::is_sum` meets its contract: every sum is marked, from 0 up.
-- Assumes nothing.
use Rattle.std.proofs.Common.{◌≤◌, length, replicate, false, true, refl, arith}
use lib.ListN.{set}
use Rattle.single_tiling.specs.SumLaws.{marked_start}
use Rattle.single_tiling.proofs.SumSteps.{sum_next, sum_found}
use Rattle.single_tiling.proofs.sums.is_sum.Goals as goal
use Rattle.single_tiling.proofs.sums.is_sum.Goals.{else-loop-m-test, then-loop-m-test+else-m-n}

pub loop-m-init : goal.loop-m-init
loop-m-init c = (refl, marked_start _ (set (replicate 257 false) 0 true) refl)

pub loop-m-preserved : goal.loop-m-preserved
loop-m-preserved c =
    let room : c.args.tiles.count ≤ length c.cell_counts-sizes.result = omega (arith, c.requires.0) in
    sum_next c.args.tiles c.cell_counts-sizes.result c.cell_counts-sizes.ensures c.loop-m.table _ c.loop-m.m c.loop-m.invariant room (omega arith) (omega arith) _ c.is_one_more.ensures refl

pub returns : goal.returns
returns c =
    let room : c.args.tiles.count ≤ length c.cell_counts-sizes.result = omega (arith, c.requires.0) in
    elim c.loop-m-test.branch [
      | else-loop-m-test w ↦ rw (w.table-is) (sum_found c.args.tiles c.cell_counts-sizes.result c.cell_counts-sizes.ensures c.loop-m.table c.loop-m.m _ c.loop-m.invariant.1 (omega arith))
      | then-loop-m-test+else-m-n w ↦
          let next = sum_next c.args.tiles c.cell_counts-sizes.result c.cell_counts-sizes.ensures c.loop-m.table _ c.loop-m.m c.loop-m.invariant room (omega arith) (omega arith) _ w.is_one_more.ensures w.table-is in
          sum_found c.args.tiles c.cell_counts-sizes.result c.cell_counts-sizes.ensures _ _ _ next.1 (omega arith)
    ]
