-- Laws of a board with a hole: what `with_hole` answers; that neighbour counts stay; and that the board with a free cell fixed is accepted, has that one fixed mark more and that one free cell less,
-- and is else as before. Rests on `Board` and on the laws of boards by their numbers. Assumes nothing.
use Rattle.std.specs.Prelude.{◌≡◌, ◌⊎◌, Bool, cond, ◌&&◌, ◌||◌, ℕ, suc, ◌^◌, ◌<◌, pos}
use Rattle.std.proofs.Math.Path.{refl, sym, ap, subst}
use Rattle.std.proofs.Common.{◌∙◌, inl, inr}
use Rattle.std.proofs.Math.Bool.{true, false, So, not, and-eq-true_iff, and-false}
use Rattle.std.proofs.lemmas.Bool.{false≢true}
use Rattle.std.proofs.Math.Dec.{eqb}
use borrow.Author.Tests.{eq-eqb, eqb-true, not-true}
use Rattle.cells.specs.Set.{has_cell, with_cell, size}
use Rattle.cells.specs.SetLaws.{bit_free, has_cell_ext, has_cell_with_cell, with_cell_lt, size_with_cell_new}
use Rattle.cells.specs.ArrayLaws.{all_below_all}
use Rattle.direction.specs.Direction.{Position, at}
use Rattle.refusal.specs.Refusal.{refused, given, bind_answer}
use Rattle.refusal.specs.RefusalLaws.{refused_given, refused_inj, given_inj}
use Rattle.rectangle.specs.Board.{Board, cell_of, position_of, inside, is_marked, free_at, is_free, free_set, free_count, mark_ok, valid, accept_board}
use Rattle.rectangle.proofs.BoardLaws.{accept_board_given, accept_board_refused, cell_of_lt, cell_of_position_of, position_of_cell_of, free_at_inside, valid_size, valid_mark, valid_width, valid_height, has_cell_free_set, free_set_lt}
use Rattle.choice.specs.Choice.{count_of}
use Rattle.board.specs.Board.{fix_at, with_hole}

-- ---- what is answered

module _ (b : Board) (row column : ℕ) where
  abbrev there : Position
  there = at (pos row) (pos column)

  accepted : valid b ≡ true → with_hole b row column ≡ cond (free_at b there) (given (fix_at b there)) (refused 15)
  unfolding with_hole bind_answer
  accepted ok = rw (accept_board_given b ok)

  pub with_hole_given : valid b ≡ true → So (free_at b there) → with_hole b row column ≡ given (fix_at b there)
  with_hole_given ok free = accepted ok ∙ rw free

  pub with_hole_bad : valid b ≡ true → free_at b there ≡ false → with_hole b row column ≡ refused 15
  with_hole_bad ok e = accepted ok ∙ rw e

  with_hole_invalid : valid b ≡ false → with_hole b row column ≡ refused 4
  unfolding with_hole bind_answer
  with_hole_invalid e = rw (accept_board_refused b e)

  -- the refusal of the board is handed on
  pub with_hole_handed : (n : ℕ) → accept_board b ≡ refused n → with_hole b row column ≡ refused n
  unfolding with_hole bind_answer
  with_hole_handed n e = rw e

  pub with_hole_is : (c : Board) → with_hole b row column ≡ given c → (valid b ≡ true) × So (free_at b there) × (c ≡ fix_at b there)
  with_hole_is c e = go (valid b) refl (free_at b there) refl
    where
      go : (t : Bool) → valid b ≡ t → (u : Bool) → free_at b there ≡ u → (valid b ≡ true) × So (free_at b there) × (c ≡ fix_at b there)
      go true q true f = (q, f, given_inj c (fix_at b there) (sym e ∙ with_hole_given q f))
      go true q false f = absurd (refused_given 15 c (sym (with_hole_bad q f) ∙ e))
      go false q u f = absurd (refused_given 4 c (sym (with_hole_invalid q) ∙ e))

  pub with_hole_refused : (n : ℕ) → with_hole b row column ≡ refused n → (n ≡ 4) ⊎ (n ≡ 15)
  with_hole_refused n e = go (valid b) refl (free_at b there) refl
    where
      go : (t : Bool) → valid b ≡ t → (u : Bool) → free_at b there ≡ u → (n ≡ 4) ⊎ (n ≡ 15)
      go true q true f = absurd (refused_given n (fix_at b there) (sym e ∙ with_hole_given q f))
      go true q false f = inr (refused_inj n 15 (sym e ∙ with_hole_bad q f))
      go false q u f = inl (refused_inj n 4 (sym e ∙ with_hole_invalid q))

-- ---- a cell that is fixed

-- "Neighbour counts ignore these cells": they are as before, of every cell
pub fix_at_neighbours : (b : Board) (p : Position) (cell : ℕ) → count_of (fix_at b p) cell ≡ count_of b cell
unfolding fix_at
fix_at_neighbours b p cell = refl

-- ---- a free cell that is fixed

module _ (b : Board) (p : Position) (ok : So (valid b)) (free : So (free_at b p)) where
  within : So (inside b.width b.height p)
  within = free_at_inside b p free

  -- a free cell of an accepted board is one of 256, and has no mark
  free_cell_lt : cell_of p < 256
  free_cell_lt = cell_of_lt b.width b.height p within (valid_width b ok) (valid_height b ok)

  no_marks_lem : (has_cell b.fixed (cell_of p) ≡ false) × (has_cell b.laid (cell_of p) ≡ false)
  unfolding free_at is_marked
  no_marks_lem =
      go (has_cell b.fixed (cell_of p)) (has_cell b.laid (cell_of p))
      (not-true (is_marked b (cell_of p)) ((and-eq-true_iff (inside b.width b.height p) (not (is_marked b (cell_of p)))).0 free).1)
    where
      go : (x y : Bool) → (x || y) ≡ false → (x ≡ false) × (y ≡ false)
      go true y e = absurd (false≢true (sym e))
      go false y e = (refl, e)

  pub fix_at_lt : b.fixed < 2 ^ 256 → (fix_at b p).fixed < 2 ^ 256
  unfolding fix_at
  fix_at_lt h = with_cell_lt 256 b.fixed (cell_of p) h free_cell_lt

  pub fix_at_size : size (fix_at b p).fixed ≡ suc (size b.fixed)
  unfolding fix_at
  fix_at_size = size_with_cell_new b.fixed (cell_of p) free_cell_lt (bit_free b.fixed (cell_of p) no_marks_lem.0)

  -- the fixed marks are those before and the cell
  pub fix_at_fixed : (cell : ℕ) → has_cell (fix_at b p).fixed cell ≡ (has_cell b.fixed cell || eqb (cell_of p) cell)
  unfolding fix_at
  fix_at_fixed cell = has_cell_with_cell b.fixed (cell_of p) cell free_cell_lt

  -- the other free cells stay free
  pub fix_at_free : (q : Position) → free_at (fix_at b p) q ≡ (free_at b q && not (eqb (cell_of p) (cell_of q)))
  unfolding free_at is_marked fix_at
  fix_at_free q =
      ap (λ t. inside b.width b.height q && not (t || has_cell b.laid (cell_of q))) (has_cell_with_cell b.fixed (cell_of p) (cell_of q) free_cell_lt)
      ∙ go (inside b.width b.height q) (has_cell b.fixed (cell_of q)) (has_cell b.laid (cell_of q)) (eqb (cell_of p) (cell_of q))
    where
      go : (i f l e : Bool) → (i && not ((f || e) || l)) ≡ ((i && not (f || l)) && not e)
      go false f l e = refl
      go true true l e = refl
      go true false true true = refl
      go true false true false = refl
      go true false false true = refl
      go true false false false = refl

  -- the board is accepted
  marks_ok : (cell : ℕ) → cell < 256 → mark_ok (fix_at b p) cell ≡ true
  unfolding mark_ok is_marked fix_at
  marks_ok cell h =
      ap (λ t. not (t && has_cell b.laid cell) && (inside b.width b.height (position_of cell) || not (t || has_cell b.laid cell))) (has_cell_with_cell b.fixed (cell_of p) cell free_cell_lt)
      ∙ go (has_cell b.fixed cell) (has_cell b.laid cell) (inside b.width b.height (position_of cell)) (eqb (cell_of p) cell) own (valid_mark b ok cell h)
    where
      own : eqb (cell_of p) cell ≡ true → (inside b.width b.height (position_of cell) ≡ true) × (has_cell b.laid cell ≡ false)
      own e =
          let same : cell_of p ≡ cell = eqb-true (cell_of p) cell e in (
            subst (λ (q : Position). So (inside b.width b.height q)) (sym (position_of_cell_of b.width b.height p within (valid_width b ok)) ∙ ap position_of same) within,
            ap (has_cell b.laid) (sym same) ∙ no_marks_lem.1,
          )

      go : (f l i e : Bool) → (e ≡ true → (i ≡ true) × (l ≡ false)) → (not (f && l) && (i || not (f || l))) ≡ true → (not ((f || e) && l) && (i || not ((f || e) || l))) ≡ true
      go true l i e h k = k
      go false l i false h k = k
      go false l i true h k = rw ((h refl).0, (h refl).1)

  pub fix_at_valid : valid (fix_at b p) ≡ true
  unfolding valid fix_at
  fix_at_valid = rw (valid_size b ok) (all_below_all (mark_ok (fix_at b p)) 256 marks_ok)

  free_after : (cell : ℕ) → is_free (fix_at b p) cell ≡ (is_free b cell && not (eqb (cell_of p) cell))
  unfolding is_free
  free_after cell = fix_at_free (position_of cell) ∙ ap (λ (n : ℕ). free_at b (position_of cell) && not (eqb (cell_of p) n)) (cell_of_position_of cell)

  free_before : is_free b (cell_of p) ≡ true
  unfolding is_free
  free_before = ap (free_at b) (position_of_cell_of b.width b.height p within (valid_width b ok)) ∙ free

  -- and has one free cell less
  pub fix_at_count : suc (free_count (fix_at b p)) ≡ free_count b
  unfolding free_count
  fix_at_count =
      sym (size_with_cell_new (free_set (fix_at b p)) (cell_of p) free_cell_lt (bit_free (free_set (fix_at b p)) (cell_of p) gone))
      ∙ ap size
      (has_cell_ext (with_cell (free_set (fix_at b p)) (cell_of p)) (free_set b) (with_cell_lt 256 (free_set (fix_at b p)) (cell_of p) (free_set_lt (fix_at b p)) free_cell_lt) (free_set_lt b) same)
    where
      gone : has_cell (free_set (fix_at b p)) (cell_of p) ≡ false
      gone =
          has_cell_free_set (fix_at b p) (cell_of p) free_cell_lt
          ∙ free_after (cell_of p)
          ∙ ap (λ t. is_free b (cell_of p) && not t) (eq-eqb (cell_of p) (cell_of p) refl)
          ∙ and-false (is_free b (cell_of p))

      go : (x e : Bool) → (e ≡ true → x ≡ true) → ((x && not e) || e) ≡ x
      go true true h = refl
      go true false h = refl
      go false true h = sym (h refl)
      go false false h = refl

      same : (cell : ℕ) → cell < 256 → has_cell (with_cell (free_set (fix_at b p)) (cell_of p)) cell ≡ has_cell (free_set b) cell
      same cell h =
          has_cell_with_cell (free_set (fix_at b p)) (cell_of p) cell free_cell_lt
          ∙ ap (λ t. t || eqb (cell_of p) cell) (has_cell_free_set (fix_at b p) cell h ∙ free_after cell)
          ∙ go (is_free b cell) (eqb (cell_of p) cell) (λ e. ap (is_free b) (sym (eqb-true (cell_of p) cell e)) ∙ free_before)
          ∙ sym (has_cell_free_set b cell h)
