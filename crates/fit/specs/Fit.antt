-- Definitions: pieces, and the fit of a path with one of its points on a cell. What stands in quotation marks is 01's, from its section Children.
-- Assumes nothing.
use Rattle.std.specs.Prelude.{◌≡◌, Bool, not, cond, ℕ, ◌+◌, eqb, ◌+ℤ◌, neg_ℤ, length, get_or}
use Rattle.std.proofs.Math.Bool.{So}
use mathlib.Core.List.{List, [], ◌∷◌, map, flat_map, Memᴰ as Mem}
use Rattle.cells.specs.Set.{with_cell}
use Rattle.cells.specs.Lists.{any, firsts, list_of}
use Rattle.direction.specs.Direction.{Position, at, origin, shift}
use Rattle.tile.specs.Path.{Path, points, cells}
use Rattle.rectangle.specs.Board.{Board, cell_of, position_of, free_at}

-- ---- pieces

-- the set with the cells at the positions of a list
unfoldable pub with_cells : ℕ → List Position → ℕ
unfolding with_cell cell_of
with_cells n [] = n
with_cells n (p ∷ ps) = with_cells (with_cell n (cell_of p)) ps

-- the set with the cells at the positions of a list, or nothing: "a step that leaves the board or meets a mark gives no piece"
unfoldable pub cover : (Position → Bool) → ℕ → List Position → List ℕ
unfolding any with_cells
cover free n ps = cond (any (λ p. not (free p)) ps) [] (with_cells n ps ∷ [])

-- a tile's cells, moved by an offset
abbrev pub moved : Position → Path → List Position
moved d path = map (λ p. shift p d) (cells path)

-- the one offset that takes a position to another
abbrev pub offset : Position → Position → Position
offset p q = at (q.row +ℤ neg_ℤ p.row) (q.col +ℤ neg_ℤ p.col)

-- point j of a path from the origin on
abbrev pub point_at : Path → ℕ → Position
point_at path j = get_or (points origin path) j origin

-- a tile's cells, moved by an offset, stand on free cells
abbrev pub Fits : Board → Path → Position → Type 0
Fits b path d = (p : Position) → Mem p (moved d path) → So (free_at b p)

-- a piece, whatever its place: "a tile's cells moved unturned onto free cells"
abbrev pub IsPiece : Board → List Path → ℕ → Type 0
IsPiece b paths n = (path : Path) × Mem path paths × (d : Position) × Fits b path d × (n ≡ with_cells 0 (moved d path))

-- "put that point on the chosen cell": the piece that a tile makes with point j of its path on a cell, or none. "A piece is the set of
-- cells covered"
unfoldable pub fit_at : Board → Path → ℕ → ℕ → List ℕ
unfolding cover free_at points cells
fit_at b path j cell = cover (free_at b) 0 (moved (offset (point_at path j) (position_of cell)) path)

-- "for path points 0 to k"
unfoldable pub fits_of : Board → ℕ → Path → List ℕ
unfolding flat_map fit_at list_of
fits_of b cell path = flat_map (λ j. fit_at b path j cell) (list_of (λ j. j) (length path + 1))

-- "for tiles in order"; "the first of equal pieces is kept"
unfoldable pub pieces : Board → List Path → ℕ → List ℕ
unfolding firsts flat_map fits_of
pieces b paths cell = firsts eqb (flat_map (fits_of b cell) paths)
