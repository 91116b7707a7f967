-- What `new`, `l_board`, `t_board`, `with_hole`, `with_marks` and `mark_tile_at_position` hand back. Rests on `Board`, on `HoleLaws` and on the laws of sizes. Assumes nothing.
use Rattle.std.specs.Prelude.{Ok}
use Prim.Native.Nat.{ℕ, ◌+◌, ◌-◌, ◌*◌, ◌≤◌, ◌<◌}
use mathlib.Core.Path.{◌≡◌, refl, sym, ap, ap₂, ◌∙◌}
use mathlib.Core.Bool.{true, false, So, not, and-false}
use mathlib.Core.Logic.{◌⊎◌, ⊎_elim}
use native.Mathlib.Nat.{mul-zero, mul-le-mul, le-mul_of_pos_right}
use native.Mathlib.Omega.{arith}
use borrow.Author.Tests.{le-ltb}
use lib.Dec.{ltb}
use lib.IntN.{pos}
use Rattle.cells.specs.declared.Cells.{Cells}
use Rattle.cells.specs.Set.{has_cell, set_of, with_cell, union_of, number}
use Rattle.direction.specs.Direction.{Position, at}
use Rattle.refusal.specs.Refusal.{Answer, refused, given, map_answer}
use Rattle.rectangle.specs.Board.{board_at, Board, no_board, cell_of, below, inside, marks, free_at, size_ok, valid, lay}
use Rattle.rectangle.proofs.BoardLaws.{size_ok_wide, size_ok_high, inside_iff, is_marked_marks, valid_width, valid_height}
use Rattle.board.specs.Board.{of_marks, board_of, shape_mark, shaped, l_board, t_board, fix_at, with_hole, MakesBoard}
use Rattle.board.specs.HoleLaws.{with_hole_given}
use Rattle.board.specs.declared.RectangularBoard.{RectangularBoard}

-- ---- one shape

module _ (w h rows low high : ℕ) where
  pub shaped_refused : size_ok w h ≡ false → shaped w h rows low high ≡ refused 4
  unfolding shaped
  shaped_refused e = rw e

  pub makes_shaped : size_ok w h ≡ true → (f l : Cells) → number f ≡ set_of (shape_mark w h rows low high) → number l ≡ 0 → (x : RectangularBoard) → x ≡ of_marks w h f l → MakesBoard (shaped w h rows low high) (Ok x)
  unfolding shaped map_answer
  makes_shaped e f l p q x s = rw e (ap (λ (y : RectangularBoard). given (board_of y)) s ∙ (λ i. given (record { width = w; height = h; fixed = p i; laid = q i })))

pub makes_refused : (a : Answer Board) (n : ℕ) → a ≡ refused n → map_answer board_of (refused n) ≡ a
unfolding map_answer
makes_refused a n e = sym e

-- a board with a piece laid, by its parts
pub lay_parts : (b : RectangularBoard) (piece t : Cells) → number t ≡ union_of (number b.laid) (number piece) → board_of (record { width = b.width; height = b.height; fixed = b.fixed; laid = t }) ≡ lay (board_of b) (number piece)
unfolding lay
lay_parts b piece t q = λ i. record { width = b.width; height = b.height; fixed = number b.fixed; laid = q i }

-- the board of some marks, by its parts
pub with_parts : (b : RectangularBoard) (n : ℕ) (t : Cells) (x : RectangularBoard) → x ≡ of_marks b.width b.height b.fixed t → number t ≡ n - number b.fixed → board_of x ≡ board_at (board_of b) n
with_parts b n t x s q =
    ap board_of s ∙ (λ i. record { width = b.width; height = b.height; fixed = number b.fixed; laid = q i })

-- ---- a hole

module _ (b : Board) (row column : ℕ) where
  abbrev there : Position
  there = at (pos row) (pos column)

  pub hole_below : b.height ≤ row → free_at b there ≡ false
  unfolding free_at inside below
  hole_below h = rw (le-ltb row b.height h)

  pub hole_beside : b.width ≤ column → free_at b there ≡ false
  unfolding free_at inside below
  hole_beside h = rw (le-ltb column b.width h, and-false (ltb row b.height))

  pub hole_outside : (b.height ≤ row) ⊎ ((row < b.height) × (b.width ≤ column)) → free_at b there ≡ false
  hole_outside h = ⊎_elim hole_below (λ k. hole_beside k.1) h

  -- what both kinds of marks together say of a cell of the rectangle
  module _ (ok : valid b ≡ true) (high : row < b.height) (wide : column < b.width) where
    hole_cell : 16 * row + column < 256
    hole_cell = omega (arith, valid_width b ok, valid_height b ok)

    told : free_at b there ≡ not (has_cell (marks b) (16 * row + column))
    unfolding free_at cell_of
    told = rw ((inside_iff b.width b.height row column).1 (high, wide)) (ap not (is_marked_marks b (16 * row + column) hole_cell))

    pub hole_marked : (m : ℕ) → m ≡ marks b → true ≡ has_cell m (16 * row + column) → free_at b there ≡ false
    hole_marked m q e = told ∙ ap not (ap (λ (n : ℕ). has_cell n (16 * row + column)) (sym q) ∙ sym e)

    pub hole_free : (m : ℕ) → m ≡ marks b → false ≡ has_cell m (16 * row + column) → So (free_at b there)
    hole_free m q e = told ∙ ap not (ap (λ (n : ℕ). has_cell n (16 * row + column)) (sym q) ∙ sym e)

-- the board with a free cell fixed, by its parts
pub makes_hole : (b : RectangularBoard) (row column : ℕ) → valid (board_of b) ≡ true → So (free_at (board_of b) (at (pos row) (pos column))) → (f : Cells) → number f ≡ with_cell (number b.fixed) (16 * row + column)
    → MakesBoard (with_hole (board_of b) row column) (Ok (record { width = b.width; height = b.height; fixed = f; laid = b.laid }))
unfolding fix_at cell_of map_answer
makes_hole b row column ok free f p =
    rw (with_hole_given (board_of b) row column ok free) (λ i. given (record { width = b.width; height = b.height; fixed = p i; laid = number b.laid }))

-- ---- L and T

module _ (n scale : ℕ) where
  -- scale 0: the 0 by 0 board
  pub l_none : scale ≡ 0 → shaped 0 0 0 0 0 ≡ l_board n scale
  unfolding l_board
  l_none e = rw (e, mul-zero n)

  pub t_none : scale ≡ 0 → shaped 0 0 0 0 0 ≡ t_board n scale
  unfolding t_board
  t_none e =
      let none : (k : ℕ) → k * scale ≡ 0 = λ k. ap (λ (s : ℕ). k * s) e ∙ mul-zero k in
      sym
      (ap (λ (x : ℕ). shaped x (2 * scale) scale (n * scale) ((n + 1) * scale)) (none (2 * n + 1))
      ∙ ap (λ (x : ℕ). shaped 0 x scale (n * scale) ((n + 1) * scale)) (none 2)
      ∙ ap (λ (x : ℕ). shaped 0 0 x (n * scale) ((n + 1) * scale)) e
      ∙ ap₂ (shaped 0 0 0) (none n) (none (n + 1)))

  -- too high
  pub l_high : 8 < scale → l_board n scale ≡ refused 4
  unfolding l_board
  l_high h = shaped_refused (n * scale) (2 * scale) scale 0 scale (size_ok_high (n * scale) (2 * scale) (omega arith))

  pub t_high : 8 < scale → t_board n scale ≡ refused 4
  unfolding t_board
  t_high h =
      shaped_refused ((2 * n + 1) * scale) (2 * scale) scale (n * scale) ((n + 1) * scale) (size_ok_high ((2 * n + 1) * scale) (2 * scale) (omega arith))

  -- too wide
  pub l_wide : (scale ≡ 0 → ⊥) → 16 < n → l_board n scale ≡ refused 4
  unfolding l_board
  l_wide z h =
      let pos : 0 < scale = omega arith in
      shaped_refused (n * scale) (2 * scale) scale 0 scale (size_ok_wide (n * scale) (2 * scale) (omega (arith, le-mul_of_pos_right n pos)))

  pub t_wide : (scale ≡ 0 → ⊥) → 16 < n → t_board n scale ≡ refused 4
  unfolding t_board
  t_wide z h =
      let pos : 0 < scale = omega arith in
      shaped_refused ((2 * n + 1) * scale) (2 * scale) scale (n * scale) ((n + 1) * scale) (size_ok_wide ((2 * n + 1) * scale) (2 * scale) (omega (arith, le-mul_of_pos_right (2 * n + 1) pos)))

  -- too high or too wide
  pub l_large : (scale ≡ 0 → ⊥) → (8 < scale) ⊎ ((scale ≤ 8) × (16 < n)) → l_board n scale ≡ refused 4
  l_large z h = ⊎_elim l_high (λ k. l_wide z k.1) h

  pub t_large : (scale ≡ 0 → ⊥) → (8 < scale) ⊎ ((scale ≤ 8) × (16 < n)) → t_board n scale ≡ refused 4
  t_large z h = ⊎_elim t_high (λ k. t_wide z k.1) h

  pub l_shaped : shaped (n * scale) (2 * scale) scale 0 scale ≡ l_board n scale
  unfolding l_board
  l_shaped = refl

  pub t_shaped : shaped ((2 * n + 1) * scale) (2 * scale) scale (n * scale) ((n + 1) * scale) ≡ t_board n scale
  unfolding t_board
  t_shaped = refl

-- products of small numbers are small
pub small_product : (a scale : ℕ) → a ≤ 33 → scale ≤ 8 → a * scale ≤ 264
small_product a scale h k = mul-le-mul h k
