-- Laws of `sum_of`: lists joined, functions that agree on the members, a function that is 0 on them or on all but one, sums and multiples of
-- functions, images. Rests on `Counts`. Assumes nothing.
use Rattle.std.specs.Prelude.{◌≡◌}
use Rattle.std.proofs.Math.Path.{refl, sym, ap, ap₂}
use Rattle.std.proofs.Common.{◌∙◌, mul-zero}
use Rattle.std.proofs.Math.Logic.{⊎_elim}
use mathlib.Core.List.Memᴰ.{cases_cons}
use mathlib.Core.List.Memᴰ.{cast}
use mathlib.Core.List.Memᴰ.{head as here}
use mathlib.Core.List.Memᴰ.{not-nil}
use mathlib.Core.List.Memᴰ.{tail as there}
use mathlib.Core.List.{List, [], ◌∷◌, ◌++◌, map, flat_map, Memᴰ as Mem}
use Prim.Native.Nat.{ℕ, ◌+◌, ◌*◌}
use Rattle.std.proofs.Math.Nat.{mul-add}
use native.Mathlib.Omega.{arith}
use Rattle.cells.specs.FirstsLaws.{Once}
use Rattle.covers.specs.Counts.{sum_of}

module _ {A : Type 0} where
  pub sum_append : (f : A → ℕ) (xs ys : List A) → sum_of f (xs ++ ys) ≡ sum_of f xs + sum_of f ys
  unfolding sum_of
  sum_append f [] ys = omega arith
  sum_append f (x ∷ xs) ys = omega (arith, sum_append f xs ys)

  -- functions that agree on the members
  pub sum_ext : (f g : A → ℕ) (xs : List A) → ((x : A) → Mem x xs → f x ≡ g x) → sum_of f xs ≡ sum_of g xs
  unfolding sum_of
  sum_ext f g [] h = refl
  sum_ext f g (x ∷ xs) h = ap₂ ◌+◌ (h x (here refl)) (sum_ext f g xs (λ y m. h y (there m)))

  pub sum_zero : (f : A → ℕ) (xs : List A) → ((x : A) → Mem x xs → f x ≡ 0) → sum_of f xs ≡ 0
  unfolding sum_of
  sum_zero f [] h = refl
  sum_zero f (x ∷ xs) h = omega (arith, h x (here refl), sum_zero f xs (λ y m. h y (there m)))

  -- a sum in which one element at most counts
  pub sum_single : (f : A → ℕ) (xs : List A) (x : A) → Once xs → Mem x xs → ((y : A) → (y ≡ x → ⊥) → f y ≡ 0) → sum_of f xs ≡ f x
  unfolding sum_of
  sum_single f [] x o m n = absurd (not-nil m)
  sum_single f (z ∷ xs) x o m n =
      ⊎_elim (λ e. omega (arith, ap f e, sum_zero f xs (λ y k. n y (λ q. o.0 (cast (sym e ∙ sym q) k)))))
      (λ k. omega (arith, n z (λ q. o.0 (cast q k)), sum_single f xs x o.1 k n))
      (cases_cons m)

  pub sum_plus : (f g : A → ℕ) (xs : List A) → sum_of (λ x. f x + g x) xs ≡ sum_of f xs + sum_of g xs
  unfolding sum_of
  sum_plus f g [] = omega arith
  sum_plus f g (x ∷ xs) = omega (arith, sum_plus f g xs)

  pub sum_times : (k : ℕ) (f : A → ℕ) (xs : List A) → sum_of (λ x. k * f x) xs ≡ k * sum_of f xs
  unfolding sum_of
  sum_times k f [] = sym (mul-zero k)
  sum_times k f (x ∷ xs) = omega (arith, sum_times k f xs, mul-add k (f x) (sum_of f xs))

module _ {A B : Type 0} where
  pub sum_map : (f : B → ℕ) (g : A → B) (xs : List A) → sum_of f (map g xs) ≡ sum_of (λ x. f (g x)) xs
  unfolding sum_of
  sum_map f g [] = refl
  sum_map f g (x ∷ xs) = ap (λ (n : ℕ). f (g x) + n) (sum_map f g xs)

  pub sum_flat_map : (f : B → ℕ) (g : A → List B) (xs : List A) → sum_of f (flat_map g xs) ≡ sum_of (λ x. sum_of f (g x)) xs
  unfolding sum_of flat_map
  sum_flat_map f g [] = refl
  sum_flat_map f g (x ∷ xs) = sum_append f (g x) (flat_map g xs) ∙ ap (λ (n : ℕ). sum_of f (g x) + n) (sum_flat_map f g xs)
