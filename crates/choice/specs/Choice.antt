-- Definitions: neighbour counts and the chosen cell. What stands in quotation marks is 01's, from its section Children. Assumes nothing.
use Rattle.std.specs.Prelude.{Bool, true, cond, ◌&&◌, ◌||◌, Option, None, Some, List, [], ◌∷◌, ◌++◌, ℕ, zero, suc, ◌+◌, ◌*◌, ◌/◌, ◌%◌, eqb, ltb}
use Rattle.cells.specs.Set.{has_cell}
use Rattle.cells.specs.Lists.{any, list_of}
use Rattle.direction.specs.Direction.{shift, step}
use Rattle.rectangle.specs.Board.{Board, cell_of, position_of, inside, is_free}

-- ---- neighbour counts

-- 1 if a test holds, else 0
unfoldable pub one : Bool → ℕ
one test = cond test 1 0

-- whether the cell of a row and a column is in the outer rows and columns
unfoldable pub outer : ℕ → ℕ → ℕ → ℕ → Bool
outer w h row col = eqb row 0 || eqb col 0 || eqb (row + 1) h || eqb (col + 1) w

-- whether there is a laid mark one step by a code from a cell
unfoldable pub laid_beside : ℕ → ℕ → ℕ → ℕ → ℕ → Bool
unfolding inside has_cell cell_of step
laid_beside w h laid cell code =
    inside w h (shift (position_of cell) (step code)) && has_cell laid (cell_of (shift (position_of cell) (step code)))

-- "A cell's neighbour count is 1 in the outer rows and columns (corners too), else 0, plus its edge neighbours with laid marks. Fixed
-- marks never add": of a width, a height and laid marks; 0 outside the rectangle. Edge neighbours are one step Up, Down, Left and Right, codes 0 to 3
unfoldable pub neighbour_count : ℕ → ℕ → ℕ → ℕ → ℕ
unfolding one outer laid_beside inside
neighbour_count w h laid cell =
    cond (inside w h (position_of cell))
    (one (outer w h (cell / 16) (cell % 16)) + (one (laid_beside w h laid cell 0) + (one (laid_beside w h laid cell 1) + (one (laid_beside w h laid cell 2) + one (laid_beside w h laid cell 3)))))
    0

-- the neighbour count of a cell of a board
abbrev pub count_of : Board → ℕ → ℕ
count_of b cell = neighbour_count b.width b.height b.laid cell

-- ---- the chosen cell

-- the cells of the first columns, column by column, each from its top
unfoldable pub columns : ℕ → ℕ → List ℕ
unfolding list_of
columns h zero = []
columns h (suc c) = columns h c ++ list_of (λ row. 16 * row + c) h

-- whether a cell's count is higher than that of the best cell so far
unfoldable pub higher : (ℕ → ℕ) → ℕ → Option ℕ → Bool
higher count cell None = true
higher count cell (Some best) = ltb (count best) (count cell)

-- the best of the cells so far and of a list: a cell takes the place of the best if it is free and its count is higher
unfoldable pub best_of : (ℕ → Bool) → (ℕ → ℕ) → Option ℕ → List ℕ → Option ℕ
unfolding higher
best_of free count best [] = best
best_of free count best (cell ∷ cells) = best_of free count (cond (free cell && higher count cell best) (Some cell) best) cells

-- "The chosen cell is the free cell with the highest neighbour count; ties go to the lowest column, then the lowest row"
unfoldable pub chosen : Board → Option ℕ
unfolding best_of is_free neighbour_count columns
chosen b = best_of (is_free b) (count_of b) None (columns b.height b.width)

-- "any free cell has count 4"
unfoldable pub has_four : Board → Bool
unfolding any is_free neighbour_count columns
has_four b = any (λ cell. is_free b cell && eqb (count_of b cell) 4) (columns b.height b.width)

-- ---- `chosen_cell`

-- a cell and its count
unfoldable pub cell_with_count_by : (ℕ → ℕ) → Option ℕ → Option (ℕ × ℕ)
cell_with_count_by count None = None
cell_with_count_by count (Some cell) = Some (cell, count cell)

-- a cell and its neighbour count
unfoldable pub cell_with_count : Board → Option ℕ → Option (ℕ × ℕ)
unfolding cell_with_count_by neighbour_count
cell_with_count b o = cell_with_count_by (count_of b) o

-- the chosen cell and its neighbour count; none for a full board
unfoldable pub chosen_count : Board → Option (ℕ × ℕ)
unfolding cell_with_count chosen
chosen_count b = cell_with_count b (chosen b)
