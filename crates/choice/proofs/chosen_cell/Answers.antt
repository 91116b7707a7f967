-- `choice::chosen_cell` meets its contract: the size is tested; the best cell by the array of counts is the chosen one.
-- Assumes nothing.
use Rattle.std.proofs.Common.{ℕ, sym, ap, ap₂, ◌∙◌}
use Rattle.cells.specs.Set.{number}
use Rattle.refusal.specs.Refusal.{given}
use Rattle.rectangle.proofs.SizeLaws.{sized, unsized}
use Rattle.choice.specs.ChosenLaws.{chosen_for_refused}
use Rattle.choice.specs.Parts.{chosen_for}
use Rattle.choice.proofs.FoundLaws.{found_is}
use Rattle.choice.proofs.chosen_cell.Goals as goal

pub returns-in_default : goal.returns-in_default
returns-in_default c = sym (chosen_for_refused _ _ _ _ (unsized _ _ _ c.of_size.ensures c.in_default.is))

pub returns : goal.returns
returns c =
    let s = sized _ _ _ c.of_size.ensures _ c.in-Some.is in
    ap given c.choose.ensures
    ∙ found_is _ _ s.0 _ _ _ c.neighbour_counts-counts.ensures
    ∙ ap₂ (λ (w h : ℕ). chosen_for w h (number c.args.marks) (number c.args.laid)) s.1 s.2
