-- Laws of the search for a set in lent words: what the first place is, and that it tells whether the set is there. Rests on `Lists` and `ArrayLaws`.
-- Assumes nothing.
use Rattle.std.specs.Prelude.{◌≡◌, Bool, List, length}
use Rattle.std.proofs.Math.Path.{refl, sym, ap}
use Rattle.std.proofs.Common.{◌∙◌}
use Rattle.std.proofs.Math.Bool.{true, false, cond}
use Rattle.std.specs.Prelude.{None, Some}
use Rattle.cells.specs.OptionLaws.{none-ne-some, some-injective}
use Prim.Native.Nat.{ℕ, zero, suc, ◌+◌, ◌-◌, ◌/◌, ◌≤◌, ◌<◌, min}
use Rattle.std.proofs.Math.Decide.{ℕ_discrete}
use native.Mathlib.Omega.{arith}
use Rattle.std.proofs.Math.Dec.{eqb}
use Rattle.cells.specs.Lists.{holds, set_at}
use Rattle.cells.specs.Parts.{first_from, find_set}
use Rattle.cells.specs.ListLaws.{sets_in}
use Rattle.cells.specs.ArrayLaws.{any_list_of, none_list_of}

module _ (test : ℕ → Bool) where
  -- place k passes the test and none before it does
  pub first_from_found : (i count k : ℕ) → i ≤ k → k < i + count → test k ≡ true → ((j : ℕ) → i ≤ j → j < k → test j ≡ false)
      → first_from test i count ≡ Some k
  unfolding first_from
  first_from_found i zero k h l e n = absurd (omega arith)
  first_from_found i (suc count) k h l e n =
      go (ℕ_discrete i k) (λ q. first_from_found (suc i) count k (omega arith) (omega arith) e (λ j a b. n j (omega arith) b))
    where
      go : Dec (i ≡ k) → ((i ≡ k → ⊥) → first_from test (suc i) count ≡ Some k) → cond (test i) (Some i) (first_from test (suc i) count) ≡ Some k
      go (yes q) later = rw (ap test q ∙ e) (ap Some q)
      go (no q) later = rw (n i (omega arith) (omega arith)) (later q)

  -- one place more does not pass the test
  pub missed_more : (i k : ℕ) → ((j : ℕ) → i ≤ j → j < k → test j ≡ false) → test k ≡ false → (j : ℕ) → i ≤ j → j < k + 1 → test j ≡ false
  missed_more i k n e j a b = go (ℕ_discrete j k)
    where
      go : Dec (j ≡ k) → test j ≡ false
      go (yes q) = ap test q ∙ e
      go (no q) = n j a (omega arith)

  -- no place passes the test
  pub first_from_missed : (i count : ℕ) → ((j : ℕ) → i ≤ j → j < i + count → test j ≡ false) → first_from test i count ≡ None
  unfolding first_from
  first_from_missed i zero n = refl
  first_from_missed i (suc count) n =
      rw (n i (omega arith) (omega arith)) (first_from_missed (suc i) count (λ j a b. n j (omega arith) (omega arith)))

  -- a place that is told is one of them and passes the test
  pub first_from_some : (i count k : ℕ) → Some k ≡ first_from test i count → (i ≤ k) × (k < i + count) × (test k ≡ true)
  unfolding first_from
  first_from_some i zero k e = absurd (none-ne-some k (sym e))
  first_from_some i (suc count) k e = go (test i) refl e (first_from_some (suc i) count k)
    where
      go : (t : Bool) → test i ≡ t → Some k ≡ cond t (Some i) (first_from test (suc i) count)
          → (Some k ≡ first_from test (suc i) count → (suc i ≤ k) × (k < suc i + count) × (test k ≡ true)) → (i ≤ k) × (k < i + suc count) × (test k ≡ true)
      go true q f later = let s : k ≡ i = some-injective k i f in (omega arith, omega arith, ap test s ∙ q)
      go false q f later = let r = later f in let a = r.0 in let b = r.1 in (omega arith, omega arith, r.2)

  -- where none is told, none passes it
  pub first_from_none : (i count : ℕ) → None ≡ first_from test i count → (j : ℕ) → i ≤ j → j < i + count → test j ≡ false
  unfolding first_from
  first_from_none i zero e j a b = absurd (omega arith)
  first_from_none i (suc count) e j a b = go (test i) refl e (ℕ_discrete j i) (first_from_none (suc i) count)
    where
      go : (t : Bool) → test i ≡ t → None ≡ cond t (Some i) (first_from test (suc i) count) → Dec (j ≡ i)
          → (None ≡ first_from test (suc i) count → (j : ℕ) → suc i ≤ j → j < suc i + count → test j ≡ false) → test j ≡ false
      go true q f d later = absurd (none-ne-some i f)
      go false q f (yes s) later = ap test s ∙ q
      go false q f (no s) later = later f j (omega arith) (omega arith)

-- ---- the search as it goes: the sets before place i are not it

module _ (ws : List ℕ) (from to x i : ℕ) (missed : (k : ℕ) → from ≤ k → k < i → eqb (set_at ws k) x ≡ false) where
  pub set_found : from ≤ i → i < to → i < length ws / 4 → eqb (set_at ws i) x ≡ true → Some i ≡ find_set ws from to x
  unfolding find_set
  set_found h k l e = sym (first_from_found (λ j. eqb (set_at ws j) x) from (min to (length ws / 4) - from) i h (omega arith) e missed)

  pub set_missed : min to (length ws / 4) ≤ i → None ≡ find_set ws from to x
  unfolding find_set
  set_missed h = sym (first_from_missed (λ j. eqb (set_at ws j) x) from (min to (length ws / 4) - from) (λ j a b. missed j a (omega arith)))

-- ---- the search among the first n sets tells whether a set is one of them

module _ (ws : List ℕ) (n x : ℕ) where
  pub found_holds : (i : ℕ) → Some i ≡ find_set ws 0 n x → true ≡ holds eqb (sets_in ws n) x
  unfolding find_set holds sets_in
  found_holds i e =
      let s = first_from_some (λ j. eqb (set_at ws j) x) 0 (min n (length ws / 4) - 0) i e in
      let l = s.1 in
      sym (any_list_of (λ y. eqb y x) (set_at ws) (min n (length ws / 4)) i (omega arith) s.2)

  pub missed_holds : None ≡ find_set ws 0 n x → false ≡ holds eqb (sets_in ws n) x
  unfolding find_set holds sets_in
  missed_holds e =
      sym
      (none_list_of (λ y. eqb y x) (set_at ws) (min n (length ws / 4))
      (λ j l. first_from_none (λ j. eqb (set_at ws j) x) 0 (min n (length ws / 4) - 0) e j (omega arith) (omega arith)))
