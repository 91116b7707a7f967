-- `children::placing::add_tiles` meets its contract: the tiles are put down in order.
-- Assumes nothing.
use Rattle.std.proofs.Common.{◌≡◌, length, refl, sym, subst, arith, rules}
use mathlib.Core.Bool.{So}
use Rattle.tiles.specs.ReadLaws.{sound_tile}
use Rattle.tile.specs.Path.{Path, is_path}
use Rattle.children.proofs.PlacingLaws.{keeps_none, tiles_none, tiles_more, tiles_all, part_path, part_sound}
use Rattle.children.proofs.placing.add_tiles.Goals as goal

pub loop-i-init : goal.loop-i-init
loop-i-init c = (refl, tiles_none _ _ _ _ _ _ (keeps_none _))

pub overflow_add-end : goal.overflow_add-end
overflow_add-end c = let short = (sound_tile _ c.args.tested.sound _ c.loop-i-test.true).0 in let few = c.args.tested.few in omega arith

pub slice_bounds-add_fits-end : goal.slice_bounds-add_fits-end
slice_bounds-add_fits-end c = let short = (sound_tile _ c.args.tested.sound _ c.loop-i-test.true).0 in let few = c.args.tested.few in let long : length c.args.tested.tiles.codes ≡ 2048 = search rules in omega arith

pub add_fits-state-requires : goal.add_fits-state-requires
add_fits-state-requires c = (subst (λ (p : Path). So (is_path p)) (sym (part_path c.args.tested.tiles.lens c.args.tested.tiles.codes c.loop-i.i)) (part_sound _ c.args.tested.sound _ c.loop-i-test.true))

pub loop-i-preserved : goal.loop-i-preserved
loop-i-preserved c = (search rules, tiles_more _ _ _ _ _ _ _ _ (part_path c.args.tested.tiles.lens c.args.tested.tiles.codes c.loop-i.i) (c.add_fits-state.ensures _ c.loop-i.invariant.1))

pub returns : goal.returns
returns c = tiles_all _ _ _ _ _ _ _ _ (omega arith) c.loop-i-test.false c.loop-i.invariant.1
