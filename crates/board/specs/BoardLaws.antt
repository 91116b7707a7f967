-- Laws of the struct: the struct of a board, which boards are accepted, what the test of a board tells, that every board that is made is accepted, and
-- the board of some marks. Rests on `Board` and on the laws of boards by their numbers. Assumes nothing.
use Rattle.std.specs.Prelude.{Err, Ok, Result, ⊤}
use Rattle.std.proofs.Math.Path.{◌≡◌, refl, ap}
use Rattle.std.proofs.Common.{sym, ap₂, ◌∙◌, arith}
use Rattle.std.specs.Prelude.{Bool, ◌&&◌, ◌||◌, ℕ, ◌/◌, ◌%◌, ◌^◌, ◌<◌, ltb}
use Rattle.std.proofs.Math.Bool.{true, false, So, not, cond}
use Rattle.std.proofs.Math.Dec.{leb}
use Rattle.cells.specs.Set.{union_of, set_of}
use Rattle.cells.specs.BitLaws.{Within}
use Rattle.cells.specs.SetLaws.{union_within, has_cell_none, has_cell_set_of}
use Rattle.cells.specs.WordLaws.{cells_of, number_cells_of}
use Rattle.cells.specs.ArrayLaws.{all_below_all}
use Rattle.refusal.specs.Refusal.{refusal_number, refused, given, refusal_of, verdict_number}
use Rattle.refusal.specs.RefusalLaws.{refused_of}
use Rattle.refusal.specs.declared.Refusal.{Refusal}
use Rattle.rectangle.specs.Board.{board_at, Board, position_of, inside, is_marked, size_ok, mark_ok, valid}
use Rattle.rectangle.proofs.BoardLaws.{accept_board_given, accept_board_refused, accept_board_accepted, accept_board_is, accept_board_positive}
use Rattle.board.specs.declared.RectangularBoard.{RectangularBoard}
use Rattle.board.specs.Board.{board_of, of_marks, read_board, shape_mark, shaped}

-- ---- the struct of a board

-- a board as the code has it
abbrev pub struct_of : Board → RectangularBoard
struct_of b = of_marks b.width b.height (cells_of b.fixed) (cells_of b.laid)

-- it holds that board, where the marks are sets of 256 cells
pub board_struct : (b : Board) → b.fixed < 2 ^ 256 → b.laid < 2 ^ 256 → board_of (struct_of b) ≡ b
board_struct b f l =
    ap₂ (λ (x y : ℕ). record { width = b.width; height = b.height; fixed = x; laid = y }) (number_cells_of b.fixed f) (number_cells_of b.laid l)

-- ---- which boards are accepted

module _ (b : RectangularBoard) where
  pub read_board_given : valid (board_of b) ≡ true → read_board b ≡ given (board_of b)
  unfolding read_board
  read_board_given e = accept_board_given (board_of b) e

  pub read_board_refused : valid (board_of b) ≡ false → read_board b ≡ refused 4
  unfolding read_board
  read_board_refused e = accept_board_refused (board_of b) e

  pub read_board_accepted : 0 ≡ refusal_of (read_board b) → valid (board_of b) ≡ true
  unfolding read_board
  read_board_accepted e = accept_board_accepted (board_of b) e

  -- a board that is read is the one that is stored, and a refusal has a number above 0
  pub read_board_is : (board : Board) → read_board b ≡ given board → (board_of b ≡ board) × So (valid (board_of b))
  unfolding read_board
  read_board_is board e = accept_board_is (board_of b) board e

  pub read_board_positive : (n : ℕ) → read_board b ≡ refused n → 0 < n
  unfolding read_board
  read_board_positive n e = accept_board_positive (board_of b) n e

  -- what the test of a board tells: its verdict v has the refusal's number, which whoever asks hands on
  module _ (v : Result ⊤ Refusal) (e : verdict_number v ≡ refusal_of (read_board b)) where
    pub check_accepted : v ≡ Ok tt → valid (board_of b) ≡ true
    check_accepted q = read_board_accepted (sym (ap verdict_number q) ∙ e)

    pub check_refused : (r : Refusal) → v ≡ Err r → read_board b ≡ refused (refusal_number r)
    check_refused r q = refused_of (read_board b) r (sym (ap verdict_number q) ∙ e)

-- ---- a board that is made is accepted: its fixed marks are inside the rectangle, and it has no laid ones

module _ (w h rows low high : ℕ) where
  abbrev made : Board
  made = record { width = w; height = h; fixed = set_of (shape_mark w h rows low high); laid = 0 }

  shaped_ok : (cell : ℕ) → cell < 256 → mark_ok made cell ≡ true
  unfolding mark_ok is_marked shape_mark
  shaped_ok cell l =
      rw (has_cell_set_of (shape_mark w h rows low high) cell l, has_cell_none cell)
      (go (inside w h (position_of cell)) (ltb (cell / 16) rows && (ltb (cell % 16) low || leb high (cell % 16))))
    where
      go : (a b : Bool) → (not (a && b && false) && (a || not (a && b || false))) ≡ true
      go true true = refl
      go true false = refl
      go false b = refl

  pub shaped_valid : (b : Board) → shaped w h rows low high ≡ given b → valid b ≡ true
  unfolding shaped valid
  shaped_valid b e = go (size_ok w h) refl e
    where
      go : (t : Bool) → size_ok w h ≡ t → cond t (given made) (refused 4) ≡ given b → valid b ≡ true
      go true f g = let q : made ≡ b = cc in ap valid (sym q) ∙ rw f (all_below_all (mark_ok made) 256 shaped_ok)
      go false f g = let z : ◌≡◌ {A = ℕ} 0 1 = cc in absurd (omega arith)

-- ---- `with_marks`

-- the board of marks that have the fixed ones among them
pub with_within : (b : Board) (m : ℕ) → m < 2 ^ 256 → Within b.fixed m → board_at b (union_of b.fixed m) ≡ board_at b m
with_within b m l w = ap (board_at b) (union_within b.fixed m l w)
