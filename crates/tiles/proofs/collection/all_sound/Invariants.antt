use Rattle.std.proofs.Common.{◌≡◌, true}
use Rattle.cells.specs.Lists.{all_below}
use Rattle.tiles.specs.Paths.{sound_at}
use Rattle.tiles.proofs.collection.all_sound.Given as goal

abbrev pub invariant-loop-i : goal.invariant-loop-i
invariant-loop-i l = all_below (sound_at l.tiles.lens l.tiles.codes) l.i ≡ true
