-- Laws of places in any list: what a list has at a place is among its elements, and each of these has a place; a longer list has the same before the end of a shorter one;
-- where a list has nothing. Assumes nothing.
use Rattle.std.specs.Prelude.{◌≡◌, refl, ◌↔◌, ◌⊎◌, ℕ, zero, suc, ◌≤◌, ◌<◌, length, None, Some}
use Rattle.std.proofs.Common.{sym, ap, ◌∙◌, inl, inr, ⊎_elim, arith}
use mathlib.Core.List.Memᴰ.{cases_cons}
use mathlib.Core.List.Memᴰ.{head as here}
use mathlib.Core.List.Memᴰ.{not-nil}
use mathlib.Core.List.Memᴰ.{tail as there}
use mathlib.Core.List.{List, [], ◌∷◌, ◌++◌, Memᴰ as Mem}
use Rattle.std.specs.List.{slice_get}

module _ {A : Type 0} where
  -- what a list has at a place is among its elements,
  pub at_mem : (l : List A) (i : ℕ) (x : A) → slice_get l i ≡ Some x → Mem x l
  at_mem [] i x e = absurd (let z : ◌≡◌ {A = ℕ} 0 1 = cc in omega arith)
  at_mem (y ∷ l) zero x e = let same : x ≡ y = cc in here same
  at_mem (y ∷ l) (suc i) x e = there (at_mem l i x e)

  -- and each of these has a place
  pub mem_at : (l : List A) (x : A) → Mem x l → (i : ℕ) × (slice_get l i ≡ Some x)
  mem_at [] x m = absurd (not-nil m)
  mem_at (y ∷ l) x m = ⊎_elim (λ e. (0, ap Some (sym e))) (λ k. let r = mem_at l x k in (suc r.0, r.1)) (cases_cons m)

  -- it stands before the end,
  pub at_below : (l : List A) (i : ℕ) (x : A) → slice_get l i ≡ Some x → i < length l
  at_below [] i x e = absurd (let z : ◌≡◌ {A = ℕ} 0 1 = cc in omega arith)
  at_below (y ∷ l) zero x e = omega arith
  at_below (y ∷ l) (suc i) x e = let h = at_below l i x e in omega arith

  -- a list has the same before its end, whatever follows,
  pub at_earlier : (l rest : List A) (i : ℕ) → i < length l → slice_get (l ++ rest) i ≡ slice_get l i
  at_earlier [] rest i h = absurd (omega arith)
  at_earlier (y ∷ l) rest zero h = refl
  at_earlier (y ∷ l) rest (suc i) h = at_earlier l rest i (omega arith)

  -- so that what it has stays there
  pub at_kept : (l rest : List A) (i : ℕ) (x : A) → slice_get l i ≡ Some x → slice_get (l ++ rest) i ≡ Some x
  at_kept l rest i x e = at_earlier l rest i (at_below l i x e) ∙ e

  -- what stands behind it has the next place,
  pub at_seam : (l : List A) (x : A) (rest : List A) → slice_get (l ++ x ∷ rest) (length l) ≡ Some x
  at_seam [] x rest = refl
  at_seam (y ∷ l) x rest = at_seam l x rest

  -- and of one element more all others stand where they were
  pub at_cases : (l : List A) (y : A) (i : ℕ) (x : A) → slice_get (l ++ y ∷ []) i ≡ Some x → (slice_get l i ≡ Some x) ⊎ ((i ≡ length l) × (y ≡ x))
  at_cases [] y zero x e = inr (refl, cc)
  at_cases [] y (suc i) x e = absurd (let z : ◌≡◌ {A = ℕ} 0 1 = cc in omega arith)
  at_cases (z ∷ l) y zero x e = inl e
  at_cases (z ∷ l) y (suc i) x e = ⊎_elim inl (λ r. inr (ap suc r.0, r.1)) (at_cases l y i x e)

-- a list has nothing at a place exactly if it ends before it
pub absent_iff : {A : Type 0} (l : List A) (i : ℕ) → (slice_get l i ≡ None) ↔ (length l ≤ i)
absent_iff [] i = (λ e. omega arith, λ h. refl)
absent_iff (x ∷ l) zero = (λ e. absurd (let z : ◌≡◌ {A = ℕ} 0 1 = cc in omega arith), λ h. absurd (omega arith))
absent_iff (x ∷ l) (suc i) = let r = absent_iff l i in (λ e. let h = r.0 e in omega arith, λ h. r.1 (omega arith))
