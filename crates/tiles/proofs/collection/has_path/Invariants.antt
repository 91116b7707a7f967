use Rattle.std.proofs.Common.{◌≡◌, ℕ, ◌<◌, false}
use Rattle.tiles.specs.Paths.{same_path, path_at}
use Rattle.tiles.proofs.collection.has_path.Given as goal

abbrev pub invariant-loop-i : goal.invariant-loop-i
invariant-loop-i l = (k : ℕ) → k < l.i → same_path (path_at l.tiles.lens l.tiles.codes k) l.path ≡ false
