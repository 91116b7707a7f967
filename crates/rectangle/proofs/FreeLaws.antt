-- Laws of free cells: a cell is free if it is in the rectangle and has no mark; there are at most 256; and full boards of one size have the same
-- marks. Rests on `BoardLaws`. Assumes nothing.
use Rattle.std.specs.Prelude.{◌≡◌, refl, ◌↔◌, Bool, true, false, cond, ℕ, ◌-◌, ◌≤◌, ◌<◌}
use Rattle.std.proofs.Common.{sym, ap₂, ◌∙◌, arith}
use Rattle.std.proofs.Math.Path.{ap}
use Rattle.std.proofs.Math.Bool.{So, not, and-eq-true_iff}
use Rattle.std.proofs.lemmas.Bool.{false≢true}
use Rattle.std.proofs.Math.Decide.{ℕ_discrete}
use borrow.Author.Tests.{not-true}
use Rattle.cells.specs.Set.{bit, has_cell}
use Rattle.cells.specs.BitLaws.{bit_le, bit_ext}
use Rattle.cells.specs.SetLaws.{has_cell_iff, has_cell_false, size_le, bit_free}
use Rattle.rectangle.specs.Board.{Board, cell_of, position_of, inside, marks, is_marked, is_free, free_set, free_count, is_full, valid}
use Rattle.rectangle.proofs.BoardLaws.{cell_of_position_of, marks_lt, is_marked_marks, has_cell_free_set, full_none, valid_inside, valid_width, valid_height, free_inside}

-- ---- free cells and marks

-- there are at most 256
pub free_le : (b : Board) → free_count b ≤ 256
unfolding free_count
free_le b = size_le (free_set b)

-- 1 for a cell of the rectangle, else 0
abbrev pub in_bit : Board → ℕ → ℕ
in_bit b c = cond (inside b.width b.height (position_of c)) 1 0

module _ (b : Board) where
  -- a cell is free if it is in the rectangle and has no mark
  pub free_iff : (c : ℕ) → c < 256 → So (is_free b c) ↔ (So (inside b.width b.height (position_of c)) × (bit (marks b) c ≡ 0))
  unfolding is_free
  free_iff c h =
      let both = and-eq-true_iff (inside b.width b.height (position_of c)) (not (is_marked b (cell_of (position_of c)))) in
      let same : is_marked b (cell_of (position_of c)) ≡ has_cell (marks b) c = ap (is_marked b) (cell_of_position_of c) ∙ is_marked_marks b c h in (
        λ f. ((both.0 f).0, bit_free (marks b) c (sym same ∙ not-true (is_marked b (cell_of (position_of c))) (both.0 f).1)),
        λ r. both.1 (r.0, ap not (same ∙ has_cell_false (marks b) c r.1)),
      )

  pub bit_free_set : (c : ℕ) → c < 256 → bit (free_set b) c ≡ in_bit b c - bit (marks b) c
  bit_free_set c h = go (ℕ_discrete (bit (free_set b) c) 1) (inside b.width b.height (position_of c)) refl
    where
      go : Dec (bit (free_set b) c ≡ 1) → (t : Bool) → inside b.width b.height (position_of c) ≡ t
          → bit (free_set b) c ≡ cond t 1 0 - bit (marks b) c
      go (yes e) true i = omega (arith, ((free_iff c h).0 (sym (has_cell_free_set b c h) ∙ (has_cell_iff (free_set b) c).1 e)).1)
      go (yes e) false i = absurd (false≢true (sym i ∙ ((free_iff c h).0 (sym (has_cell_free_set b c h) ∙ (has_cell_iff (free_set b) c).1 e)).0))
      go (no e) true i =
          let n : bit (marks b) c ≡ 0 → ⊥ = λ z. e ((has_cell_iff (free_set b) c).0 (has_cell_free_set b c h ∙ (free_iff c h).1 (i, z))) in
          omega (arith, bit_le (free_set b) c)
      go (no e) false i = omega (arith, bit_le (free_set b) c)

  module _ (ok : So (valid b)) where
    pub free_lt : (c : ℕ) → So (is_free b c) → c < 256
    free_lt c f = omega (arith, free_inside b c f, valid_width b ok, valid_height b ok)

    -- the marks of a full board are the cells of the rectangle
    full_bit : is_full b ≡ true → (c : ℕ) → c < 256 → bit (marks b) c ≡ in_bit b c
    full_bit e c h = go (inside b.width b.height (position_of c)) refl (ℕ_discrete (bit (marks b) c) 1)
      where
        go : (t : Bool) → inside b.width b.height (position_of c) ≡ t → Dec (bit (marks b) c ≡ 1) → bit (marks b) c ≡ cond t 1 0
        go true i (yes m) = m
        go true i (no m) = absurd (full_none b e c h ((free_iff c h).1 (i, omega (arith, bit_le (marks b) c))))
        go false i (yes m) = absurd (false≢true (sym i ∙ valid_inside b ok c h ((has_cell_iff (marks b) c).1 m)))
        go false i (no m) = omega (arith, bit_le (marks b) c)

-- full boards of one size have the same marks
pub full_marks_lem : (b d : Board) → So (valid b) → So (valid d) → b.width ≡ d.width → b.height ≡ d.height
    → is_full b ≡ true → is_full d ≡ true → marks b ≡ marks d
full_marks_lem b d p q w h e f =
    bit_ext 256 (marks b) (marks d) (marks_lt b) (marks_lt d)
    (λ c l. full_bit b p e c l ∙ ap₂ (λ (x y : ℕ). cond (inside x y (position_of c)) 1 0) w h ∙ sym (full_bit d q f c l))
