-- Definitions: free positions by a number of marks, where one step leads in a rectangle, and its size, by which functions answer that serve the crates
-- above. No contract of a call outside this crate cites them. Assumes nothing.
use Rattle.std.specs.Prelude.{Bool, not, cond, Option, None, Some, ◌&&◌, ℕ, ltb, pos, nat_abs}
use Rattle.cells.specs.Set.{has_cell}
use Rattle.direction.specs.Direction.{Position, at, shift, step}
use Rattle.rectangle.specs.declared.sized.Rectangle.{Rectangle}
use Rattle.rectangle.specs.Board.{cell_of, inside, size_ok}

-- the place at a position of which a test holds
unfoldable pub place_if : (Position → Bool) → Position → Option (ℕ × ℕ)
place_if test p = cond (test p) (Some (nat_abs p.row, nat_abs p.col)) None

-- where one step by a code leads from a row and a column: nowhere off the rectangle, from a row or a column that no board has, and by a code
-- that is no direction
unfoldable pub place_after : ℕ → ℕ → ℕ → ℕ → ℕ → Option (ℕ × ℕ)
unfolding place_if inside step
place_after w h row col code = cond (ltb row 16 && (ltb col 16 && ltb code 8)) (place_if (inside w h) (shift (at (pos row) (pos col)) (step code))) None

-- `free_at` by a number of marks, whatever their kind: a position is in the rectangle and its cell is none of the marks
unfoldable pub free_in : ℕ → ℕ → ℕ → Position → Bool
unfolding inside has_cell cell_of
free_in w h m p = inside w h p && not (has_cell m (cell_of p))

-- the width and the height of a rectangle
abbrev pub size_of : Option Rectangle → Option (ℕ × ℕ)
size_of None = None
size_of (Some r) = Some (r.width, r.height)

-- a width and a height, if a board may have them
unfoldable pub size_if : ℕ → ℕ → Option (ℕ × ℕ)
unfolding size_ok
size_if w h = cond (size_ok w h) (Some (w, h)) None
