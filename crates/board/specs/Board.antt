-- Definitions: what the struct of the code stands for, which of them are accepted, and the boards that are made. What stands in quotation marks is
-- 01's, from its section Boards, or 02's, from its request 2. Assumes nothing.
use Rattle.std.specs.Prelude.{◌≡◌, Result, Bool, cond, ◌&&◌, ◌||◌, ℕ, ◌+◌, ◌*◌, ◌/◌, ◌%◌, pos, ltb, leb}
use Rattle.cells.specs.declared.Cells.{Cells}
use Rattle.cells.specs.Set.{set_of, with_cell, number}
use Rattle.refusal.specs.declared.Refusal.{Refusal}
use Rattle.refusal.specs.Refusal.{Answer, refused, given, bind_answer, map_answer, answer_of}
use Rattle.direction.specs.Direction.{Position, at}
use Rattle.rectangle.specs.Board.{Board, inside, no_board, cell_of, position_of, free_at, size_ok, accept_board}
use Rattle.board.specs.declared.RectangularBoard.{RectangularBoard}

-- the board that the struct stands for
abbrev pub board_of : RectangularBoard → Board
board_of b = record { width = b.width; height = b.height; fixed = number b.fixed; laid = number b.laid }

-- the struct of a size and of the two kinds of marks, as they stand
abbrev pub of_marks : ℕ → ℕ → Cells → Cells → RectangularBoard
of_marks w h f l = record { width = w; height = h; fixed = f; laid = l }

-- refusal 4 for "size wrong, a mark outside the rectangle, or a cell both fixed and laid"
unfoldable pub read_board : RectangularBoard → Answer Board
unfolding accept_board
read_board b = accept_board (board_of b)

-- ---- boards that are made

-- whether a cell of the rectangle is in the first rows, and in a column below one or from another on
unfoldable pub shape_mark : ℕ → ℕ → ℕ → ℕ → ℕ → ℕ → Bool
unfolding inside
shape_mark w h rows low high cell =
    inside w h (position_of cell) && (ltb (cell / 16) rows && (ltb (cell % 16) low || leb high (cell % 16)))

-- the board of a size with these cells fixed, none where there are no such rows; refusal 4 for a wrong size
unfoldable pub shaped : ℕ → ℕ → ℕ → ℕ → ℕ → Answer Board
unfolding size_ok set_of shape_mark
shaped w h rows low high =
    cond (size_ok w h) (given record { width = w; height = h; fixed = set_of (shape_mark w h rows low high); laid = 0 }) (refused 4)

-- "RB: width byte, height byte": a rectangle with no marks
unfoldable pub new_board : ℕ → ℕ → Answer Board
unfolding shaped
new_board w h = shaped w h 0 0 0

-- "LB is n × scale wide, 2 × scale high, rows 0 to scale − 1 marked from column scale on"
unfoldable pub l_board : ℕ → ℕ → Answer Board
unfolding shaped
l_board n scale = shaped (n * scale) (2 * scale) scale 0 scale

-- "TB is (2n + 1) × scale wide, 2 × scale high; in those rows columns below n × scale and from (n + 1) × scale are marked"
unfoldable pub t_board : ℕ → ℕ → Answer Board
unfolding shaped
t_board n scale = shaped ((2 * n + 1) * scale) (2 * scale) scale (n * scale) ((n + 1) * scale)

-- ---- holes: the buildings of request 2

-- "mark that cell as fixed": the board with the cell at a position fixed
unfoldable pub fix_at : Board → Position → Board
unfolding cell_of with_cell
fix_at b p = record { width = b.width; height = b.height; fixed = with_cell b.fixed (cell_of p); laid = b.laid }

-- the board with a hole at a row and a column: refusal 4 for a board that is not accepted, then "15 when a cell is outside the board or marked already"
unfoldable pub with_hole : Board → ℕ → ℕ → Answer Board
unfolding accept_board bind_answer free_at fix_at
with_hole b row column =
    bind_answer (accept_board b) (λ b. cond (free_at b (at (pos row) (pos column))) (given (fix_at b (at (pos row) (pos column)))) (refused 15))

-- ---- the answers of the code

-- a made board, or the refusal
abbrev pub MakesBoard : Answer Board → Result RectangularBoard Refusal → Type 0
MakesBoard a r = map_answer board_of (answer_of r) ≡ a
