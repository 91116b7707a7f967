-- Definitions: boards by their numbers; cells and positions; free cells; which boards are accepted; and boards by other boards.
-- What stands in quotation marks is 01's, from its sections Boards and Children. Assumes nothing.
use Rattle.std.specs.Prelude.{Bool, false, not, cond, ◌&&◌, ◌||◌, ℕ, ◌+◌, ◌-◌, ◌*◌, ◌/◌, ◌%◌, eqb, ltb, leb, ℤ, pos, negsuc, nat_abs}
use Rattle.cells.specs.Set.{has_cell, set_of, union_of, size}
use Rattle.cells.specs.Lists.{all_below}
use Rattle.refusal.specs.Refusal.{Answer, refused, given}
use Rattle.direction.specs.Direction.{Position, at}

-- "A board handed in carries its size and each kind of mark"; the marks are sets of cells
pub record Board : Type 0 where
  pub width : ℕ
  pub height : ℕ
  pub fixed : ℕ
  pub laid : ℕ

-- ---- cells and positions

-- "Cell (row, column) is bit 16 × row + column": the cell at a position of the rectangle
unfoldable pub cell_of : Position → ℕ
cell_of p = 16 * nat_abs p.row + nat_abs p.col

-- the position of a cell
abbrev pub position_of : ℕ → Position
position_of cell = at (pos (cell / 16)) (pos (cell % 16))

-- whether a number is one of 0 to n - 1
unfoldable pub below : ℕ → ℤ → Bool
below n (pos k) = ltb k n
below n (negsuc k) = false

-- whether a position is in the rectangle of a width and a height
unfoldable pub inside : ℕ → ℕ → Position → Bool
unfolding below
inside w h p = below h p.row && below w p.col

-- ---- marks

-- both kinds of marks together
unfoldable pub marks : Board → ℕ
unfolding union_of
marks b = union_of b.fixed b.laid

-- whether a cell has a mark of either kind
unfoldable pub is_marked : Board → ℕ → Bool
unfolding has_cell
is_marked b cell = has_cell b.fixed cell || has_cell b.laid cell

-- "A cell with no mark is free": a position is free if it is in the rectangle and its cell has no mark
unfoldable pub free_at : Board → Position → Bool
unfolding inside is_marked cell_of
free_at b p = inside b.width b.height p && not (is_marked b (cell_of p))

-- whether the position of a cell is free
unfoldable pub is_free : Board → ℕ → Bool
unfolding free_at
is_free b cell = free_at b (position_of cell)

-- the set of the free cells
unfoldable pub free_set : Board → ℕ
unfolding set_of is_free
free_set b = set_of (is_free b)

-- how many cells are free
unfoldable pub free_count : Board → ℕ
unfolding free_set size
free_count b = size (free_set b)

-- "a full board has no free cell"
unfoldable pub is_full : Board → Bool
unfolding free_count
is_full b = eqb (free_count b) 0

-- ---- which boards are accepted

-- "Width and height are each 1 to 16, or both 0"
unfoldable pub size_ok : ℕ → ℕ → Bool
size_ok w h = eqb w 0 && eqb h 0 || ltb 0 w && leb w 16 && (ltb 0 h && leb h 16)

-- a cell is not both fixed and laid, and has no mark outside the rectangle
unfoldable pub mark_ok : Board → ℕ → Bool
unfolding has_cell is_marked inside
mark_ok b cell =
    not (has_cell b.fixed cell && has_cell b.laid cell) && (inside b.width b.height (position_of cell) || not (is_marked b cell))

-- the size and every mark are as they have to be
unfoldable pub valid : Board → Bool
unfolding size_ok mark_ok all_below
valid b = size_ok b.width b.height && all_below (mark_ok b) 256

-- refusal 4 for "size wrong, a mark outside the rectangle, or a cell both fixed and laid"
unfoldable pub accept_board : Board → Answer Board
unfolding valid
accept_board b = cond (valid b) (given b) (refused 4)

-- ---- boards by other boards

-- the 0 by 0 board
abbrev pub no_board : Board
no_board = record { width = 0; height = 0; fixed = 0; laid = 0 }

-- "A board in an output, layer or node is four words, both kinds together; its fixed marks are the starting board's": the board of a number of marks
abbrev pub board_at : Board → ℕ → Board
board_at b n = record { width = b.width; height = b.height; fixed = b.fixed; laid = n - b.fixed }

-- "Marking a piece hands back the changed board"
unfoldable pub lay : Board → ℕ → Board
unfolding union_of
lay b piece = record { width = b.width; height = b.height; fixed = b.fixed; laid = union_of b.laid piece }
