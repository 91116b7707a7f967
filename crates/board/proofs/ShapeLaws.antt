-- What the tests and loops of `shape` come to: the marks of a shape, the test of a board and the count of its free cells.
-- Rests on the laws of boards. Assumes nothing.
use mathlib.Core.Path.{◌≡◌, refl, sym, ap, ◌∙◌}
use mathlib.Core.Bool.{Bool, true, false, not, cond, ◌&&◌, ◌||◌}
use Prim.Native.Nat.{ℕ, ◌+◌, ◌*◌, ◌/◌, ◌%◌, ◌^◌, ◌≤◌, ◌<◌}
use native.Mathlib.Nat.{zero-mul, add-zero}
use native.Mathlib.Numerals.{add-one}
use native.Mathlib.Omega.{arith}
use borrow.Author.Tests.{lt-ltb, le-ltb}
use Rattle.cells.specs.Set.{has_cell, from_bits, set_of, with_cell, size_below, size}
use Rattle.cells.specs.Lists.{all_below}
use Rattle.cells.specs.BitLaws.{bit_high, bit_from_bits, from_bits_lt}
use Rattle.cells.specs.SetLaws.{digit}
use Rattle.rectangle.specs.Board.{Board, position_of, inside, is_marked, free_at, is_free, free_set, free_count, size_ok, mark_ok, valid}
use Rattle.rectangle.proofs.BoardLaws.{cell_of_position_of}
use Rattle.board.specs.Board.{shape_mark}

-- ---- a set that is filled in the order of its cells

module _ (test : ℕ → Bool) where
  unfoldable pub bits : ℕ → ℕ
  bits cell = cond (test cell) 1 0

  pub filled_none : (n : ℕ) → n ≡ 0 → n ≡ from_bits 0 bits
  unfolding from_bits
  filled_none n e = e

  more : (i : ℕ) → i < 256 → (t : Bool) → cond t (with_cell (from_bits i bits) i) (from_bits i bits) ≡ from_bits i bits + cond t 1 0 * 2 ^ i
  unfolding with_cell bits
  more i h true = rw (lt-ltb i 256 h, bit_high i (from_bits i bits) i (from_bits_lt bits (λ c. digit (test c)) i) (omega arith))
  more i h false = sym (ap (λ (k : ℕ). from_bits i bits + k) (zero-mul (2 ^ i)) ∙ add-zero (from_bits i bits))

  pub filled_more : (n m i : ℕ) → i < 256 → n ≡ from_bits i bits → m ≡ cond (test i) (with_cell n i) n → m ≡ from_bits (i + 1) bits
  unfolding from_bits bits
  filled_more n m i h e g = g ∙ rw (e, add-one) (more i h (test i))

  pub filled_all : (n i : ℕ) → n ≡ from_bits i bits → i ≤ 256 → 256 ≤ i → n ≡ set_of test
  unfolding set_of bits
  filled_all n i e l k = let q : i ≡ 256 = omega arith in e ∙ ap (λ (j : ℕ). from_bits j bits) q

-- ---- the whole test

module _ (b : Board) where
  pub refused_size : size_ok b.width b.height ≡ false → false ≡ valid b
  unfolding valid
  refused_size e = rw e

  pub accepted_marks : size_ok b.width b.height ≡ true → all_below (mark_ok b) 256 ≡ valid b
  unfolding valid
  accepted_marks e = rw e

pub all_below_end : (p : ℕ → Bool) (i : ℕ) → all_below p i ≡ true → i ≤ 256 → 256 ≤ i → true ≡ all_below p 256
all_below_end p i e l k = let q : i ≡ 256 = omega arith in sym e ∙ ap (all_below p) q

-- ---- the count of the free cells

pub free_is : (b : Board) (cell : ℕ) → ((inside b.width b.height (position_of cell) && not (has_cell b.fixed cell)) && not (has_cell b.laid cell)) ≡ is_free b cell
unfolding is_free free_at is_marked
free_is b cell = rw cell_of_position_of (go (inside b.width b.height (position_of cell)) (has_cell b.fixed cell) (has_cell b.laid cell))
  where
    go : (i f l : Bool) → ((i && not f) && not l) ≡ (i && not (f || l))
    go true true l = refl
    go true false l = refl
    go false f l = refl

module _ (b : Board) where
  pub counted_none : 0 ≡ size_below 0 (free_set b)
  unfolding size_below
  counted_none = refl

  pub counted_more : (n m i : ℕ) → i < 256 → n ≡ size_below i (free_set b) → m ≡ n + cond (is_free b i) 1 0 → m ≡ size_below (i + 1) (free_set b)
  unfolding size_below free_set set_of
  counted_more n m i h e f =
      f ∙ rw (add-one, e) (ap (λ (k : ℕ). size_below i (free_set b) + k) (sym (bit_from_bits (λ cell. cond (is_free b cell) 1 0) (λ c. digit (is_free b c)) 256 i h)))

  pub counted_all : (n i : ℕ) → n ≡ size_below i (free_set b) → i ≤ 256 → 256 ≤ i → n ≡ free_count b
  unfolding free_count size
  counted_all n i e l k = let q : i ≡ 256 = omega arith in e ∙ ap (λ (j : ℕ). size_below j (free_set b)) q
