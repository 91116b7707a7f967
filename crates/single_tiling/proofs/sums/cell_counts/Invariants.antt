use Rattle.std.proofs.Common.{◌≡◌, ℕ, ◌<◌, [], length, get_or}
use Rattle.tile.specs.Path.{cell_count}
use Rattle.tiles.specs.Paths.{paths_in}
use Rattle.single_tiling.proofs.sums.cell_counts.Given as goal

abbrev pub invariant-loop-i : goal.invariant-loop-i
invariant-loop-i l = (length l.sizes ≡ 64) × ((k : ℕ) → k < l.i → get_or l.sizes k 0 ≡ cell_count (get_or (paths_in l.tiles) k []))
