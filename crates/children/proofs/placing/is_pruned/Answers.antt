-- `children::placing::is_pruned` meets its contract: the tiles are asked only at count 4.
-- Assumes nothing.
use Rattle.refusal.specs.RefusalLaws.{is_ok_given}
use Rattle.children.proofs.PlacingLaws.{single_told, pruned_told}
use Rattle.children.proofs.placing.is_pruned.Goals as goal

pub unwrap-requires : goal.unwrap-requires
unwrap-requires c = is_ok_given _ _ (single_told _ _ c.args.tested.sound c.contains_single_tile.ensures)

pub returns-then-count-eq4 : goal.returns-then-count-eq4
returns-then-count-eq4 c = pruned_told _ _ c.args.tested.sound c.contains_single_tile.ensures _ _ c.if-count-eq4.true c.unwrap.ensures
