-- `children::placing::add_children` meets its contract: the cell that is found is the chosen one; the tiles are put down on it.
-- Assumes nothing.
use Rattle.std.proofs.Common.{ap, ◌∙◌, Ok}
use Rattle.refusal.specs.RefusalLaws.{is_ok_given}
use Rattle.choice.specs.ChosenLaws.{found_full, found_cell, found_count}
use Rattle.children.specs.ChildLaws.{children_full, children_pruned}
use Rattle.children.proofs.PlacingLaws.{found_told, found_pruned, kept_none, kept_all}
use Rattle.children.proofs.placing.add_children.Goals as goal

pub unwrap-found-requires : goal.unwrap-found-requires
unwrap-found-requires c = is_ok_given _ _ (found_told _ c.args.parent.sound _ c.args.parent.both _ c.chosen_cell.ensures)

pub returns-in_default : goal.returns-in_default
returns-in_default c =
    let told = found_told _ c.args.parent.sound _ c.args.parent.both _ c.chosen_cell.ensures in
    kept_none _ _ _ (children_full _ _ (found_full _ _ told (c.unwrap-found.ensures ∙ ap Ok c.in_default.is)))

pub returns-then-is_pruned : goal.returns-then-is_pruned
returns-then-is_pruned c =
    let told = found_told _ c.args.parent.sound _ c.args.parent.both _ c.chosen_cell.ensures in
    let f = c.unwrap-found.ensures ∙ ap Ok c.in-Some.is in
    kept_none _ _ _
    (children_pruned _ _ (found_pruned _ c.args.parent.sound _ _ (found_cell _ _ told _ _ f) (found_count _ _ told _ _ f) _ _ c.is_pruned.ensures ∙ c.if-is_pruned.true))

pub returns : goal.returns
returns c =
    let told = found_told _ c.args.parent.sound _ c.args.parent.both _ c.chosen_cell.ensures in
    let f = c.unwrap-found.ensures ∙ ap Ok c.in-Some.is in
    kept_all _ _ _ _ (found_cell _ _ told _ _ f)
    (found_pruned _ c.args.parent.sound _ _ (found_cell _ _ told _ _ f) (found_count _ _ told _ _ f) _ _ c.is_pruned.ensures ∙ c.if-is_pruned.false) _
    c.add_tiles.ensures
