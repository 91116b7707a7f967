-- Laws of neighbour counts: a count is at most 4, 0 outside the rectangle, and 4 only where every edge neighbour on the board is laid.
-- Rests on `Choice`. Assumes nothing.
use Rattle.std.specs.Prelude.{◌≡◌, refl, Bool, true, false, ◌&&◌, ◌||◌, ℕ, zero, suc, ◌+◌, ◌/◌, ◌%◌, ◌≤◌, ◌<◌, ltb, pos}
use Rattle.std.proofs.Math.Path.{ap}
use Rattle.std.proofs.Common.{◌∙◌}
use Rattle.std.proofs.Math.Bool.{So, not, and-false}
use Rattle.std.proofs.lemmas.Bool.{false≢true}
use native.Mathlib.Omega.{arith}
use borrow.Author.Tests.{eqb-true, le-ltb}
use Rattle.std.proofs.Math.Dec.{eqb}
use Rattle.cells.specs.Set.{has_cell}
use Rattle.direction.specs.Direction.{Position, at, shift, step}
use Rattle.rectangle.specs.Board.{cell_of, position_of, inside}
use Rattle.choice.specs.Choice.{one, outer, laid_beside, neighbour_count}

-- ---- 1 and 0 for a test

pub one_le : (t : Bool) → one t ≤ 1
unfolding one
one_le true = omega arith
one_le false = omega arith

one_mono : (s t : Bool) → (So s → So t) → one s ≤ one t
unfolding one
one_mono true true f = omega arith
one_mono true false f = absurd (false≢true (f refl))
one_mono false t f = omega arith

one_or : (s t : Bool) → one (s || t) ≤ one s + one t
unfolding one
one_or true t = omega arith
one_or false t = omega arith

-- ---- an outer cell has a neighbour outside

-- 1 if the neighbour of a position by a code is outside the rectangle, else 0
off : ℕ → ℕ → Position → ℕ → ℕ
off w h p code = one (not (inside w h (shift p (step code))))

module _ (w h row col : ℕ) where
  up_off : So (eqb row 0) → So (not (inside w h (shift (at (pos row) (pos col)) (step 0))))
  unfolding inside step
  up_off e = ap (λ (r : ℕ). not (inside w h (shift (at (pos r) (pos col)) (step 0)))) (eqb-true row 0 e)

  down_off : So (eqb (row + 1) h) → So (not (inside w h (shift (at (pos row) (pos col)) (step 1))))
  unfolding inside step
  down_off e = let l : h ≤ row + 1 = omega (arith, eqb-true (row + 1) h e) in rw (le-ltb (row + 1) h l)

  left_off : So (eqb col 0) → So (not (inside w h (shift (at (pos row) (pos col)) (step 2))))
  unfolding inside step
  left_off e = ap (λ (c : ℕ). not (inside w h (shift (at (pos row) (pos c)) (step 2)))) (eqb-true col 0 e) ∙ ap not (and-false (ltb (row + 0) h))

  right_off : So (eqb (col + 1) w) → So (not (inside w h (shift (at (pos row) (pos col)) (step 3))))
  unfolding inside step
  right_off e = let l : w ≤ col + 1 = omega (arith, eqb-true (col + 1) w e) in rw (le-ltb (col + 1) w l) (ap not (and-false (ltb (row + 0) h)))

  outer_off : one (outer w h row col) ≤ off w h (at (pos row) (pos col)) 0 + (off w h (at (pos row) (pos col)) 1 + (off w h (at (pos row) (pos col)) 2 + off w h (at (pos row) (pos col)) 3))
  unfolding outer off
  outer_off =
      let p : Position = at (pos row) (pos col) in
      let a = one_or (eqb row 0 || eqb col 0 || eqb (row + 1) h) (eqb (col + 1) w) in
      let b = one_or (eqb row 0 || eqb col 0) (eqb (row + 1) h) in
      let c = one_or (eqb row 0) (eqb col 0) in
      let u = one_mono (eqb row 0) (not (inside w h (shift p (step 0)))) up_off in
      let d = one_mono (eqb (row + 1) h) (not (inside w h (shift p (step 1)))) down_off in
      let l = one_mono (eqb col 0) (not (inside w h (shift p (step 2)))) left_off in
      let r = one_mono (eqb (col + 1) w) (not (inside w h (shift p (step 3)))) right_off in
      omega arith

-- ---- the count

-- 1 if the neighbour by a code is outside or laid, else 0
abbrev off_or_laid : ℕ → ℕ → ℕ → ℕ → ℕ → ℕ
off_or_laid w h laid cell code = off w h (position_of cell) code + one (laid_beside w h laid cell code)

off_or_laid_le : (w h laid cell code : ℕ) → off_or_laid w h laid cell code ≤ 1
unfolding off laid_beside one
off_or_laid_le w h laid cell code =
    go (inside w h (shift (position_of cell) (step code))) (has_cell laid (cell_of (shift (position_of cell) (step code))))
  where
    go : (s t : Bool) → one (not s) + one (s && t) ≤ 1
    go true true = omega arith
    go true false = omega arith
    go false t = omega arith

off_or_laid_one : (w h laid cell code : ℕ) → off_or_laid w h laid cell code ≡ 1 → So (inside w h (shift (position_of cell) (step code))) → So (has_cell laid (cell_of (shift (position_of cell) (step code))))
unfolding off laid_beside one
off_or_laid_one w h laid cell code =
    go (inside w h (shift (position_of cell) (step code))) (has_cell laid (cell_of (shift (position_of cell) (step code))))
  where
    go : (s t : Bool) → one (not s) + one (s && t) ≡ 1 → So s → So t
    go s true n e = refl
    go true false n e = absurd (omega arith)
    go false false n e = e

-- ---- the count

pub count_outside : (w h laid cell : ℕ) → inside w h (position_of cell) ≡ false → neighbour_count w h laid cell ≡ 0
unfolding neighbour_count
count_outside w h laid cell e = rw e

pub count_inside : (w h laid cell : ℕ) → So (inside w h (position_of cell)) → neighbour_count w h laid cell ≡ one (outer w h (cell / 16) (cell % 16)) + (one (laid_beside w h laid cell 0) + (one (laid_beside w h laid cell 1) + (one (laid_beside w h laid cell 2) + one (laid_beside w h laid cell 3))))
unfolding neighbour_count
count_inside w h laid cell e = rw e

module _ (w h laid cell : ℕ) where
  -- the outer cells' 1 is made up for by a neighbour outside
  count_off_or_laid : neighbour_count w h laid cell ≤ off_or_laid w h laid cell 0 + (off_or_laid w h laid cell 1 + (off_or_laid w h laid cell 2 + off_or_laid w h laid cell 3))
  count_off_or_laid = go (inside w h (position_of cell)) refl
    where
      go : (t : Bool) → inside w h (position_of cell) ≡ t → neighbour_count w h laid cell ≤ off_or_laid w h laid cell 0 + (off_or_laid w h laid cell 1 + (off_or_laid w h laid cell 2 + off_or_laid w h laid cell 3))
      go true e = omega (arith, count_inside w h laid cell e, outer_off w h (cell / 16) (cell % 16))
      go false e = omega (arith, count_outside w h laid cell e)

  pub count_le : neighbour_count w h laid cell ≤ 4
  count_le =
      omega (arith, count_off_or_laid, off_or_laid_le w h laid cell 0, off_or_laid_le w h laid cell 1, off_or_laid_le w h laid cell 2, off_or_laid_le w h laid cell 3)

  count_full : neighbour_count w h laid cell ≡ 4 → (code : ℕ) → code < 4 → off_or_laid w h laid cell code ≡ 1
  count_full four =
      let a = off_or_laid_le w h laid cell 0 in
      let b = off_or_laid_le w h laid cell 1 in
      let c = off_or_laid_le w h laid cell 2 in
      let d = off_or_laid_le w h laid cell 3 in
      let s = count_off_or_laid in
      each (omega arith) (omega arith) (omega arith) (omega arith)
    where
      each : off_or_laid w h laid cell 0 ≡ 1 → off_or_laid w h laid cell 1 ≡ 1 → off_or_laid w h laid cell 2 ≡ 1 → off_or_laid w h laid cell 3 ≡ 1 → (code : ℕ) → code < 4 → off_or_laid w h laid cell code ≡ 1
      each a b c d zero l = a
      each a b c d (suc zero) l = b
      each a b c d (suc (suc zero)) l = c
      each a b c d (suc (suc (suc zero))) l = d
      each a b c d (suc (suc (suc (suc code)))) l = absurd (omega arith)

  -- count 4: every edge neighbour on the board is laid
  pub count_four : neighbour_count w h laid cell ≡ 4 → (code : ℕ) → code < 4 → So (inside w h (shift (position_of cell) (step code))) → So (has_cell laid (cell_of (shift (position_of cell) (step code))))
  count_four four code l = off_or_laid_one w h laid cell code (count_full four code l)
