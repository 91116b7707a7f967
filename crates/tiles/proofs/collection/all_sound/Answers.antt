-- `tiles::collection::all_sound` meets its contract: the tiles are tested in order.
-- Assumes nothing.
use Rattle.std.proofs.Common.{◌≡◌, sym, ap, ◌∙◌, arith}
use Rattle.cells.specs.Lists.{all_below}
use Rattle.cells.specs.ArrayLaws.{all_below_none, all_below_more, all_below_fails}
use Rattle.tiles.specs.Paths.{sound_at}
use Rattle.tiles.proofs.collection.all_sound.Goals as goal

pub loop-i-init : goal.loop-i-init
loop-i-init c = all_below_none _

pub returns-then-not-sound : goal.returns-then-not-sound
unfolding sound_at
returns-then-not-sound c = sym (all_below_fails _ _ _ c.loop-i-test.true (sym c.sound.ensures ∙ c.if-not-sound.true))

pub loop-i-preserved : goal.loop-i-preserved
unfolding sound_at
loop-i-preserved c = all_below_more _ _ c.loop-i.invariant (sym c.sound.ensures ∙ c.if-not-sound.false)

pub returns : goal.returns
returns c =
    let all : c.loop-i.i ≡ c.args.tiles.count = omega arith in
    sym (ap (all_below (sound_at c.args.tiles.lens c.args.tiles.codes)) (sym all) ∙ c.loop-i.invariant)
