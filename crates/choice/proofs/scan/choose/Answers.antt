-- `choice::scan::choose` meets its contract: the loop keeps the best of the columns so far, and the running bit number is 16 × row + column
-- at the top of every column.
-- Assumes nothing.
use Rattle.std.proofs.Common.{◌≡◌, arith}
use Rattle.choice.proofs.ChoiceLaws.{columns_none, columns_more}
use Rattle.choice.proofs.scan.choose.Goals as goal

pub loop-col-init : goal.loop-col-init
loop-col-init c = (omega arith, columns_none _ _ _)

pub loop-col-preserved : goal.loop-col-preserved
loop-col-preserved c = (omega arith, columns_more _ _ _ _ _ _ c.loop-col.invariant.1 c.scan_column-scan.ensures.best)

pub returns : goal.returns
returns c = let end : c.loop-col.col ≡ c.args.rectangle.width = omega arith in rw (← end) c.loop-col.invariant.1
