-- `choice::scan::scan_column` meets its contract: the loop keeps the best of the rows so far (`Scanned`), and the running bit number is
-- 16 × row + column at every cell.
-- Assumes nothing.
use Rattle.std.proofs.Common.{◌≡◌, arith}
use Rattle.choice.proofs.ChoiceLaws.{scanned_none, scanned_more}
use Rattle.choice.proofs.scan.scan_column.Goals as goal

pub loop-row-init : goal.loop-row-init
loop-row-init c = (omega arith, scanned_none _ _ _ _)

pub loop-row-preserved : goal.loop-row-preserved
loop-row-preserved c = (omega arith, scanned_more _ _ _ _ _ _ _ _ c.loop-row.invariant.0 c.loop-row.invariant.1 c.look_at-best.ensures)

pub returns : goal.returns
returns c =
    let end : c.loop-row._row ≡ c.args.rectangle.height = omega arith in
    record { best = rw (← end) c.loop-row.invariant.1; below = omega arith }
