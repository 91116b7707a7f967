-- `choice::counts::count_at` meets its contract: the outer cells' 1 and the laid marks beside the cell are added up.
-- Assumes nothing.
use Rattle.std.proofs.Common.{sym, arith}
use Rattle.choice.specs.CountLaws.{count_outside}
use Rattle.choice.proofs.ChoiceLaws.{count_sum, inside_small}
use Rattle.choice.proofs.counts.count_at.Goals as goal

pub returns-then-not-has_cell : goal.returns-then-not-has_cell
returns-then-not-has_cell c = sym (count_outside _ _ _ _ (sym c.if-not-has_cell.ensures))

pub laid_beside-up-requires : goal.laid_beside-up-requires
laid_beside-up-requires c = inside_small _ _ _ c.args.rectangle.low (sym c.if-not-has_cell.ensures)

pub laid_beside-down-requires : goal.laid_beside-down-requires
laid_beside-down-requires c = inside_small _ _ _ c.args.rectangle.low (sym c.if-not-has_cell.ensures)

pub laid_beside-left-requires : goal.laid_beside-left-requires
laid_beside-left-requires c = inside_small _ _ _ c.args.rectangle.low (sym c.if-not-has_cell.ensures)

pub laid_beside-right-requires : goal.laid_beside-right-requires
laid_beside-right-requires c = inside_small _ _ _ c.args.rectangle.low (sym c.if-not-has_cell.ensures)

pub outer_mark-requires : goal.outer_mark-requires
outer_mark-requires c = let s = inside_small _ _ _ c.args.rectangle.low (sym c.if-not-has_cell.ensures) in (omega arith, omega arith)

pub returns : goal.returns
returns c =
    count_sum _ _ _ _ (sym c.if-not-has_cell.ensures) _ _ _ _ _
    c.outer_mark.ensures.0 c.laid_beside-up.ensures.0 c.laid_beside-down.ensures.0
    c.laid_beside-left.ensures.0 c.laid_beside-right.ensures.0
