use Rattle.std.proofs.Common.{◌≡◌, ℕ, ◌<◌}
use Rattle.tile.specs.Path.{cell_count}
use Rattle.tiles.specs.Paths.{path_at}
use Rattle.tiles.proofs.collection.all_cover.Given as goal

abbrev pub invariant-loop-i : goal.invariant-loop-i
invariant-loop-i l = (k : ℕ) → k < l.i → cell_count (path_at l.tiles.lens l.tiles.codes k) ≡ l.cells
