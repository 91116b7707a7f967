-- What the tests and loops of the code come to: the laid mark beside a cell, the outer cells, the count of a cell, and the scan for the best cell.
-- Rests on `CountLaws` and on the laws of places. Assumes nothing.
use mathlib.Core.Path.{◌≡◌, refl, sym, ap, ap₂, ◌∙◌}
use mathlib.Core.Bool.{Bool, true, false, So, cond, ◌&&◌, ◌||◌, or-true}
use mathlib.Core.List.{List, [], ◌∷◌, ◌++◌}
use Rattle.std.specs.Prelude.{Option, None, Some, unwrap_or}
use Prim.Native.Nat.{ℕ, ◌+◌, ◌*◌, ◌/◌, ◌%◌, min, ◌≤◌, ◌<◌}
use mir.Val.{bool_byte}
use native.Mathlib.Numerals.{add-one}
use native.Mathlib.Omega.{arith}
use borrow.Author.Tests.{lt-ltb, le-ltb}
use lib.Dec.{eqb}
use Rattle.cells.specs.Set.{has_cell}
use Rattle.cells.specs.Lists.{list_of}
use Rattle.cells.specs.ArrayLaws.{list_of_snoc}
use Rattle.direction.specs.Direction.{shift, step}
use Rattle.rectangle.specs.Board.{position_of, inside}
use Rattle.rectangle.specs.Parts.{place_if, place_after}
use Rattle.rectangle.proofs.BoardLaws.{inside_iff}
use Rattle.rectangle.proofs.PlaceLaws.{Placed, place_false, place_placed, placed_cell, place_after_is}
use Rattle.choice.specs.Inner.{array_count, Looked}
use Rattle.choice.specs.Choice.{one, outer, laid_beside, neighbour_count, columns, higher, best_of, cell_with_count_by}
use Rattle.choice.specs.CountLaws.{count_inside}

-- ---- the laid mark beside a cell

module _ (w h laid cell code : ℕ) (l : cell < 256) (k : code < 8) where
  -- one step from a cell leads to the place at the position one step on
  pub beside_step : place_after w h (cell / 16) (cell % 16) code ≡ place_if (inside w h) (shift (position_of cell) (step code))
  beside_step = place_after_is w h (cell / 16) (cell % 16) code (omega arith) (omega arith) k

  pub beside_nowhere : place_after w h (cell / 16) (cell % 16) code ≡ None → 0 ≡ one (laid_beside w h laid cell code)
  unfolding one laid_beside
  beside_nowhere f = rw (place_false (inside w h) (shift (position_of cell) (step code)) (sym f ∙ beside_step))

  pub beside_placed : (r c : ℕ) → place_after w h (cell / 16) (cell % 16) code ≡ Some (r, c) → Placed w h (shift (position_of cell) (step code)) r c
  beside_placed r c f = place_placed w h (shift (position_of cell) (step code)) r c (place_after w h (cell / 16) (cell % 16) code) beside_step f

  pub beside_place : (r c : ℕ) → place_after w h (cell / 16) (cell % 16) code ≡ Some (r, c) → one (has_cell laid (16 * r + c)) ≡ one (laid_beside w h laid cell code)
  unfolding laid_beside
  beside_place r c f =
      let s = beside_placed r c f in
      rw (s.is_inside, placed_cell w h (shift (position_of cell) (step code)) r c s)

-- a test as a number, and that it is 0 or 1
pub one_byte : (t : Bool) → bool_byte t ≡ one t
unfolding one
one_byte true = refl
one_byte false = refl

pub one_le : (t : Bool) → one t ≤ 1
unfolding one
one_le true = omega arith
one_le false = omega arith

-- ---- the outer rows and columns

-- a corner counts once
capped : (x y : Bool) → min (one x + one y) 1 ≡ one (x || y)
unfolding one
capped true true = refl
capped true false = refl
capped false true = refl
capped false false = refl

module _ (w h row col : ℕ) where
  by_edges : outer w h row col ≡ ((eqb row 0 || eqb (row + 1) h) || (eqb col 0 || eqb (col + 1) w))
  unfolding outer
  by_edges = go (eqb row 0) (eqb col 0) (eqb (row + 1) h) (eqb (col + 1) w)
    where
      go : (a b c d : Bool) → (a || b || c || d) ≡ ((a || c) || (b || d))
      go true b c d = refl
      go false true c d = sym (or-true c)
      go false false c d = refl

  pub outer_is : (p q : ℕ) → p ≡ one (eqb row 0 || eqb (row + 1) h) → q ≡ one (eqb col 0 || eqb (col + 1) w) → min (p + q) 1 ≡ one (outer w h row col)
  outer_is p q e f = ap₂ (λ (a b : ℕ). min (a + b) 1) e f ∙ capped _ _ ∙ ap one (sym by_edges)

-- ---- the count of a cell

-- a cell of a rectangle is one of the 256
pub inside_small : (w h cell : ℕ) → h ≤ 16 → So (inside w h (position_of cell)) → cell < 256
inside_small w h cell l i = let s = (inside_iff w h (cell / 16) (cell % 16)).0 i in omega (arith, s.0)

pub count_sum : (w h laid cell : ℕ) → So (inside w h (position_of cell)) → (o u d l r : ℕ) → o ≡ one (outer w h (cell / 16) (cell % 16)) → u ≡ one (laid_beside w h laid cell 0) → d ≡ one (laid_beside w h laid cell 1) → l ≡ one (laid_beside w h laid cell 2) → r ≡ one (laid_beside w h laid cell 3) → o + (u + (d + (l + r))) ≡ neighbour_count w h laid cell
count_sum w h laid cell i o u d l r a b c e f = rw (a, b, c, e, f) (sym (count_inside w h laid cell i))

-- ---- one cell more is looked at

count_told : (count : ℕ → ℕ) (d other high : ℕ) → Some (other, high) ≡ cell_with_count_by count (Some d) → high ≡ count d
unfolding cell_with_count_by
count_told count d other high e = ap (λ (o : Option (ℕ × ℕ)). (unwrap_or o (0, 0)).1) e

some_none : (p : ℕ × ℕ) → Some p ≡ None → ⊥
some_none p e = cc

module _ (marks : ℕ) (counts : List ℕ) where
  module _ (cell : ℕ) (best : Option (ℕ × ℕ)) where
    pub look_marked : has_cell marks cell ≡ true → Looked marks counts best (cell ∷ []) best
    unfolding best_of
    look_marked e o q = rw e q

    module _ (e : has_cell marks cell ≡ false) where
      pub look_first : best ≡ None → Looked marks counts best (cell ∷ []) (Some (cell, array_count counts cell))
      unfolding best_of higher cell_with_count_by
      look_first f None q = rw e
      look_first f (Some d) q = absurd (some_none _ (sym q ∙ f))

      pub look_higher : (other high : ℕ) → best ≡ Some (other, high) → high < array_count counts cell → Looked marks counts best (cell ∷ []) (Some (cell, array_count counts cell))
      unfolding best_of higher cell_with_count_by
      look_higher other high f l None q = rw e
      look_higher other high f l (Some d) q =
          let g = count_told (array_count counts) d other high (sym f ∙ q) in
          rw (e, lt-ltb (array_count counts d) (array_count counts cell) (omega arith))

      pub look_lower : (other high : ℕ) → best ≡ Some (other, high) → array_count counts cell ≤ high → Looked marks counts best (cell ∷ []) best
      unfolding best_of higher cell_with_count_by
      look_lower other high f l None q = absurd (some_none _ (sym f ∙ q))
      look_lower other high f l (Some d) q =
          let g = count_told (array_count counts) d other high (sym f ∙ q) in
          rw (e, le-ltb (array_count counts d) (array_count counts cell) (omega arith)) q

-- ---- the scan of a column, and of the columns

best_of_append : (free : ℕ → Bool) (count : ℕ → ℕ) (best : Option ℕ) (xs ys : List ℕ) → best_of free count best (xs ++ ys) ≡ best_of free count (best_of free count best xs) ys
unfolding best_of
best_of_append free count best [] ys = refl
best_of_append free count best (x ∷ xs) ys = best_of_append free count (cond (free x && higher count x best) (Some x) best) xs ys

module _ (free : ℕ → Bool) (count : ℕ → ℕ) where
  -- the best of a list, if the best before it is told by first
  abbrev pub Scanned : Option (ℕ × ℕ) → Option (ℕ × ℕ) → List ℕ → Type 0
  Scanned first best cells = (o : Option ℕ) → first ≡ cell_with_count_by count o → best ≡ cell_with_count_by count (best_of free count o cells)

  pub scanned_none : (first : Option (ℕ × ℕ)) (f : ℕ → ℕ) → Scanned first first (list_of f 0)
  unfolding best_of list_of
  scanned_none first f o e = e

  -- the cell that is looked at is the next of the list
  pub scanned_more : (first best next : Option (ℕ × ℕ)) (f : ℕ → ℕ) (n cell : ℕ) → cell ≡ f n → Scanned first best (list_of f n) → Scanned best next (cell ∷ []) → Scanned first next (list_of f (n + 1))
  scanned_more first best next f n cell q a b o e =
      b (best_of free count o (list_of f n)) (a o e)
      ∙ ap (λ (c : ℕ). cell_with_count_by count (best_of free count (best_of free count o (list_of f n)) (c ∷ []))) q
      ∙ ap (cell_with_count_by count) (sym (ap (best_of free count o) (list_of_snoc f n) ∙ best_of_append free count o (list_of f n) (f n ∷ [])))

  pub columns_none : (h : ℕ) → None ≡ cell_with_count_by count (best_of free count None (columns h 0))
  unfolding best_of columns cell_with_count_by
  columns_none h = refl

  pub columns_more : (h c : ℕ) (best next : Option (ℕ × ℕ)) → best ≡ cell_with_count_by count (best_of free count None (columns h c)) → Scanned best next (list_of (λ row. 16 * row + c) h) → next ≡ cell_with_count_by count (best_of free count None (columns h (c + 1)))
  unfolding columns
  columns_more h c best next e s =
      s (best_of free count None (columns h c)) e
      ∙ ap (cell_with_count_by count) (sym (ap (λ (k : ℕ). best_of free count None (columns h k)) (add-one c) ∙ best_of_append free count None (columns h c) (list_of (λ row. 16 * row + c) h)))
