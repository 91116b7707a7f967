-- Definitions: what `tile_fits_at_position` answers, which serves the crates above, and how many children there can be. No contract of a call outside this
-- crate cites them. Assumes nothing.
use Rattle.std.specs.Prelude.{cond, ◌&&◌, Option, None, Some, List, [], ◌∷◌, ℕ, ◌+◌, leb, length}
use Rattle.cells.specs.declared.Cells.{Cells}
use Rattle.cells.specs.Set.{number}
use Rattle.tile.specs.Path.{is_path, Path, points, cells}
use Rattle.rectangle.specs.Board.{position_of, size_ok}
use Rattle.fit.specs.Fit.{cover, moved, offset, point_at}
use Rattle.rectangle.specs.Parts.{free_in}

-- the piece that some codes make as a path, with point j on a cell of a rectangle with some marks; none for a size that no board has, for codes that
-- are no path, and for a point that the path does not have
unfoldable pub fit_in : ℕ → ℕ → ℕ → List ℕ → ℕ → ℕ → List ℕ
unfolding size_ok is_path cover free_in points cells
fit_in w h m codes j cell = cond (size_ok w h && (is_path codes && leb j (length codes))) (cover (free_in w h m) 0 (moved (offset (point_at codes j) (position_of cell)) codes)) []

-- what `tile_fits_at_position` answers: one piece, or none
abbrev pub fit_pieces : Option Cells → List ℕ
fit_pieces (Some piece) = number piece ∷ []
fit_pieces None = []

-- "Children never exceed the sum of k + 1 over the tiles"
unfoldable pub most_children : List Path → ℕ
most_children [] = 0
most_children (path ∷ paths) = length path + 1 + most_children paths
