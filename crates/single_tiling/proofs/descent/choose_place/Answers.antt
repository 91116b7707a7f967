-- `single_tiling::descent::choose_place` meets its contract: the test of the chosen cell's count is that of any free cell.
-- Assumes nothing.
use Rattle.std.proofs.Common.{ap, ◌∙◌, Ok}
use Rattle.refusal.specs.RefusalLaws.{is_ok_given}
use Rattle.choice.specs.Choice.{chosen_count}
use Rattle.single_tiling.proofs.PlaceLaws.{read_given, place_full, place_single, place_four, place_other}
use Rattle.single_tiling.proofs.descent.choose_place.Goals as goal

pub unwrap-found-requires : goal.unwrap-found-requires
unwrap-found-requires c = is_ok_given _ _ (c.chosen_cell.ensures ∙ read_given _ c.requires chosen_count)

pub returns-in_err-cell : goal.returns-in_err-cell
returns-in_err-cell c = rw c.from_residual.ensures (λ paths e. place_full _ c.requires _ c.chosen_cell.ensures (c.unwrap-found.ensures ∙ ap Ok c.in_err-cell.was) paths)

pub returns-then-single : goal.returns-then-single
returns-then-single c = place_single _ c.requires _ c.chosen_cell.ensures _ _ (c.unwrap-found.ensures ∙ ap Ok c.in_ok-cell.was) _ c.if-single.true

pub returns-then-count-eq4 : goal.returns-then-count-eq4
returns-then-count-eq4 c = place_four _ c.requires _ c.chosen_cell.ensures _ _ (c.unwrap-found.ensures ∙ ap Ok c.in_ok-cell.was) _ c.if-single.false c.if-count-eq4.true

pub returns : goal.returns
returns c = place_other _ c.requires _ c.chosen_cell.ensures _ _ (c.unwrap-found.ensures ∙ ap Ok c.in_ok-cell.was) _ c.if-single.false c.if-count-eq4.false
