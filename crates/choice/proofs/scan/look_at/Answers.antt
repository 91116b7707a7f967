-- `choice::scan::look_at` meets its contract: a marked cell changes nothing, and a free one is taken if its count is higher.
-- Assumes nothing.
use Rattle.std.proofs.Common.{sym}
use Rattle.choice.proofs.ChoiceLaws.{look_marked, look_first, look_higher, look_lower}
use Rattle.choice.proofs.scan.look_at.Goals as goal

pub returns-then-has_cell : goal.returns-then-has_cell
returns-then-has_cell c = look_marked _ c.args.counts.now _ _ (sym c.if-has_cell.ensures)

pub returns-in-Some : goal.returns-in-Some
returns-in-Some c = look_lower _ c.args.counts.now _ _ (sym c.if-has_cell.ensures) _ _ c.in-Some.is c.if-count-high.true

pub returns-in_default : goal.returns-in_default
returns-in_default c = look_higher _ c.args.counts.now _ _ (sym c.if-has_cell.ensures) _ _ c.in-Some.is c.if-count-high.false

pub returns-in_default-2 : goal.returns-in_default-2
returns-in_default-2 c = look_first _ c.args.counts.now _ _ (sym c.if-has_cell.ensures) c.in_default.is
