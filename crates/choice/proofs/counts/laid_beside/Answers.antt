-- `choice::counts::laid_beside` meets its contract: the place one step on, tested for a laid mark.
-- Assumes nothing.
use Rattle.std.proofs.Common.{sym, ap, ◌∙◌, arith, rules}
use Rattle.rectangle.proofs.PlaceLaws.{code_lt}
use Rattle.choice.specs.Choice.{one}
use Rattle.choice.proofs.ChoiceLaws.{beside_nowhere, beside_placed, beside_place, one_byte, one_le}
use Rattle.choice.proofs.counts.laid_beside.Goals as goal

pub returns-in_default : goal.returns-in_default
returns-in_default c = (beside_nowhere _ _ _ _ _ c.requires (code_lt _) (sym c.in_default.ensures), search rules)

pub overflow_mul-r : goal.overflow_mul-r
overflow_mul-r c = let p = beside_placed _ _ 0 _ _ c.requires (code_lt _) _ _ (sym c.in-Some.ensures) in omega arith

pub overflow_add-r : goal.overflow_add-r
overflow_add-r c = let p = beside_placed _ _ 0 _ _ c.requires (code_lt _) _ _ (sym c.in-Some.ensures) in omega arith

pub returns : goal.returns
returns c =
    let e = c.from.ensures ∙ one_byte c.has_cell.result in (
      e ∙ ap one c.has_cell.ensures ∙ beside_place _ _ _ _ _ c.requires (code_lt _) _ _ (sym c.in-Some.ensures),
      rw e (one_le c.has_cell.result),
    )
