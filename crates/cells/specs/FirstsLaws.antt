-- Laws of "first appearances kept": the same elements, each once, in order; lists that hold nothing new and lists that are all new;
-- a one-to-one image. Membership is mathlib's. Rests on `Lists`. Assumes nothing.
use Rattle.std.specs.Prelude.{◌≡◌, ◌⊎◌, ◌↔◌, Bool, get_or, drop}
use Rattle.std.proofs.Math.Path.{refl, sym, ap, ap₂}
use Rattle.std.proofs.Common.{◌∙◌, subst, add-one}
use Rattle.std.proofs.Math.Logic.{inl, inr, ⊎_elim}
use Rattle.std.proofs.Math.Bool.{true, false, So, ◌||◌, cond}
use Rattle.std.proofs.lemmas.Bool.{false≢true}
use mathlib.Core.List.Memᴰ.{append_cases}
use mathlib.Core.List.Memᴰ.{append_left}
use mathlib.Core.List.Memᴰ.{append_right}
use mathlib.Core.List.Memᴰ.{cases_cons}
use mathlib.Core.List.Memᴰ.{eq_of_singleton}
use mathlib.Core.List.Memᴰ.{head as here}
use mathlib.Core.List.Memᴰ.{not-nil}
use mathlib.Core.List.Memᴰ.{tail as there}
use mathlib.Core.List.{List, [], ◌∷◌, ◌++◌, map, map-append, append_assoc, append-nil, Memᴰ as Mem}
use Prim.Native.Nat.{ℕ, zero, suc, ◌+◌, ◌≤◌, ◌<◌}
use native.Mathlib.Omega.{arith}
use Rattle.std.proofs.Math.ListN.{length, length-append}
use Rattle.std.proofs.Math.Seq.{drop-cons, drop-length}
use Rattle.cells.specs.Lists.{any, holds, add_new, add_firsts, firsts}

-- the test tells equal elements
module _ {A : Type 0} (same : A → A → Bool) where
  abbrev pub Tells : Type 0
  Tells = (x y : A) → So (same x y) ↔ (x ≡ y)

-- each element stands once
abbrev pub Once : {A : Type 0} → List A → Type 0
Once [] = Unit {0}
Once (x ∷ xs) = (Mem x xs → ⊥) × Once xs

pub once_snoc : {A : Type 0} (xs : List A) (y : A) → Once xs → (Mem y xs → ⊥) → Once (xs ++ y ∷ [])
once_snoc [] y o n = (λ m. not-nil m, tt)
once_snoc (x ∷ xs) y o n =
    (λ m. ⊎_elim (λ k. o.0 k) (λ k. n (here (sym (eq_of_singleton k)))) (append_cases xs m), once_snoc xs y o.1 (λ m. n (there m)))

or_left : (a b : Bool) → So a → So (a || b)
or_left true b h = refl
or_left false b h = absurd (false≢true h)

or_right : (a b : Bool) → So b → So (a || b)
or_right true b h = refl
or_right false b h = h

or_cases : (a b : Bool) → So (a || b) → So a ⊎ So b
or_cases true b h = inl refl
or_cases false b h = inr h

-- two tests that both tell something are one where what they tell is one
pub so_eq : (a b : Bool) → (So a → So b) → (So b → So a) → a ≡ b
so_eq true true f g = refl
so_eq true false f g = sym (f refl)
so_eq false true f g = g refl
so_eq false false f g = refl

-- an element at a place is an element
pub mem_get_d : {A : Type 0} (xs : List A) (i : ℕ) (d : A) → i < length xs → Mem (get_or xs i d) xs
mem_get_d [] i d h = absurd (omega arith)
mem_get_d (x ∷ xs) zero d h = here refl
mem_get_d (x ∷ xs) (suc i) d h = there (mem_get_d xs i d (omega arith))

-- a test of some element
module _ {A : Type 0} (p : A → Bool) where
  pub any_true : (xs : List A) (x : A) → Mem x xs → p x ≡ true → any p xs ≡ true
  unfolding any
  any_true [] x m e = absurd (not-nil m)
  any_true (y ∷ ys) x m e =
      ⊎_elim (λ q. or_left (p y) (any p ys) (ap p (sym q) ∙ e)) (λ k. or_right (p y) (any p ys) (any_true ys x k e)) (cases_cons m)

  pub any_some : (xs : List A) → any p xs ≡ true → (x : A) × Mem x xs × (p x ≡ true)
  unfolding any
  any_some [] e = absurd (false≢true e)
  any_some (y ∷ ys) e =
      ⊎_elim (λ h. (y, here refl, h)) (λ h. let r = any_some ys h in (r.0, there r.1, r.2)) (or_cases (p y) (any p ys) e)

-- a search from the front: the test of a list is the test of what is left of it
module _ {A : Type 0} (p : A → Bool) (xs : List A) (i : ℕ) (d : A) where
  pub any_miss : i < length xs → p (get_or xs i d) ≡ false → any p (drop i xs) ≡ any p (drop (i + 1) xs)
  unfolding any
  any_miss h e = rw (add-one, drop-cons xs i d h, e)

  pub any_hit : i < length xs → p (get_or xs i d) ≡ true → any p (drop i xs) ≡ true
  unfolding any
  any_hit h e = rw (drop-cons xs i d h, e)

  pub any_end : length xs ≤ i → i ≤ length xs → any p (drop i xs) ≡ false
  unfolding any
  any_end h k = let e : i ≡ length xs = omega arith in rw (e, drop-length xs)

module _ {A : Type 0} (same : A → A → Bool) where
  -- ---- without looking at the test

  pub add_firsts_append : (xs ys zs : List A) → add_firsts same xs (ys ++ zs) ≡ add_firsts same (add_firsts same xs ys) zs
  unfolding add_firsts
  add_firsts_append xs [] zs = refl
  add_firsts_append xs (y ∷ ys) zs = add_firsts_append (add_new same xs y) ys zs

  length_add_new : (xs : List A) (y : A) → (length xs ≤ length (add_new same xs y)) × (length (add_new same xs y) ≤ suc (length xs))
  unfolding add_new
  length_add_new xs y = go (holds same xs y)
    where
      go : (b : Bool) → (length xs ≤ length (cond b xs (xs ++ y ∷ []))) × (length (cond b xs (xs ++ y ∷ [])) ≤ suc (length xs))
      go true = (omega arith, omega arith)
      go false = (omega (arith, length-append xs (y ∷ [])), omega (arith, length-append xs (y ∷ [])))

  pub length_add_firsts : (xs ys : List A) → (length xs ≤ length (add_firsts same xs ys)) × (length (add_firsts same xs ys) ≤ length xs + length ys)
  unfolding add_firsts
  length_add_firsts xs [] = (omega arith, omega arith)
  length_add_firsts xs (y ∷ ys) = let a = length_add_new xs y in let b = length_add_firsts (add_new same xs y) ys in (omega arith, omega arith)

  -- a list with nothing new adds nothing, and a new element is added at the end
  pub add_new_old : (xs : List A) (y : A) → holds same xs y ≡ true → add_new same xs y ≡ xs
  unfolding add_new
  add_new_old xs y e = rw e

  pub add_new_new : (xs : List A) (y : A) → holds same xs y ≡ false → add_new same xs y ≡ xs ++ y ∷ []
  unfolding add_new
  add_new_new xs y e = rw e

  pub add_firsts_old : (xs ys : List A) → ((y : A) → Mem y ys → holds same xs y ≡ true) → add_firsts same xs ys ≡ xs
  unfolding add_firsts
  add_firsts_old xs [] h = refl
  add_firsts_old xs (y ∷ ys) h = ap (λ l. add_firsts same l ys) (add_new_old xs y (h y (here refl))) ∙ add_firsts_old xs ys (λ z m. h z (there m))

  -- ---- where the test tells equal elements

  module _ (tells : Tells same) where
    -- two elements are equal or not, and an element is in a list or not
    pub same_false : (x y : A) → (x ≡ y → ⊥) → same x y ≡ false
    same_false x y n = so_eq (same x y) false (λ e. absurd (n ((tells x y).0 e))) (λ e. absurd (false≢true e))

    pub same_cases : (x y : A) → (x ≡ y) ⊎ (x ≡ y → ⊥)
    same_cases x y = go (same x y) refl
      where
        go : (b : Bool) → same x y ≡ b → (x ≡ y) ⊎ (x ≡ y → ⊥)
        go true e = inl ((tells x y).0 e)
        go false e = inr (λ q. false≢true (sym e ∙ (tells x y).1 q))

    pub holds_iff : (xs : List A) (y : A) → So (holds same xs y) ↔ Mem y xs
    unfolding holds
    holds_iff [] y = (λ e. absurd (false≢true e), λ m. absurd (not-nil m))
    holds_iff (x ∷ xs) y =
        let rest = holds_iff xs y in (
          λ e. ⊎_elim (λ p. here (sym ((tells x y).0 p))) (λ q. there (rest.0 q)) (or_cases (same x y) (holds same xs y) e),
          λ m. ⊎_elim (λ p. or_left (same x y) (holds same xs y) ((tells x y).1 (sym p))) (λ q. or_right (same x y) (holds same xs y) (rest.1 q)) (cases_cons m),
        )

    pub holds_false : (xs : List A) (y : A) → (Mem y xs → ⊥) → holds same xs y ≡ false
    holds_false xs y n = go (holds same xs y) refl
      where
        go : (b : Bool) → holds same xs y ≡ b → holds same xs y ≡ false
        go true e = absurd (n ((holds_iff xs y).0 e))
        go false e = e

    pub mem_cases : (xs : List A) (y : A) → Mem y xs ⊎ (Mem y xs → ⊥)
    mem_cases xs y = go (holds same xs y) refl
      where
        go : (b : Bool) → holds same xs y ≡ b → Mem y xs ⊎ (Mem y xs → ⊥)
        go true e = inl ((holds_iff xs y).0 e)
        go false e = inr (λ m. false≢true (sym e ∙ (holds_iff xs y).1 m))

    pub mem_add_new : (xs : List A) (y z : A) → Mem z (add_new same xs y) ↔ (Mem z xs ⊎ (z ≡ y))
    mem_add_new xs y z = go (holds same xs y) refl
      where
        go : (b : Bool) → holds same xs y ≡ b → Mem z (add_new same xs y) ↔ (Mem z xs ⊎ (z ≡ y))
        go true e =
            let same-list = add_new_old xs y e in (
              λ m. inl (subst (Mem z) same-list m),
              λ s. subst (Mem z) (sym same-list) (⊎_elim (λ m. m) (λ p. subst (λ w. Mem w xs) (sym p) ((holds_iff xs y).0 e)) s),
            )
        go false e =
            let longer = add_new_new xs y e in (
              λ m. ⊎_elim (λ k. inl k) (λ k. inr (eq_of_singleton k)) (append_cases xs (subst (Mem z) longer m)),
              λ s. subst (Mem z) (sym longer) (⊎_elim (λ m. append_left (y ∷ []) m) (λ p. append_right xs (here p)) s),
            )

    pub once_add_new : (xs : List A) (y : A) → Once xs → Once (add_new same xs y)
    once_add_new xs y o = go (holds same xs y) refl
      where
        go : (b : Bool) → holds same xs y ≡ b → Once (add_new same xs y)
        go true e = subst Once (sym (add_new_old xs y e)) o
        go false e = subst Once (sym (add_new_new xs y e)) (once_snoc xs y o (λ m. false≢true (sym e ∙ (holds_iff xs y).1 m)))

    pub mem_add_firsts : (xs ys : List A) (z : A) → Mem z (add_firsts same xs ys) ↔ (Mem z xs ⊎ Mem z ys)
    unfolding add_firsts
    mem_add_firsts xs [] z = (λ m. inl m, λ s. ⊎_elim (λ m. m) (λ m. absurd (not-nil m)) s)
    mem_add_firsts xs (y ∷ ys) z =
        let more = mem_add_firsts (add_new same xs y) ys z in
        let one = mem_add_new xs y z in (
          λ m. ⊎_elim (λ k. ⊎_elim (λ a. inl a) (λ p. inr (here p)) (one.0 k)) (λ k. inr (there k)) (more.0 m),
          λ s. more.1 (⊎_elim (λ a. inl (one.1 (inl a))) (λ k. ⊎_elim (λ p. inl (one.1 (inr p))) (λ q. inr q) (cases_cons k)) s),
        )

    pub once_add_firsts : (xs ys : List A) → Once xs → Once (add_firsts same xs ys)
    unfolding add_firsts
    once_add_firsts xs [] o = o
    once_add_firsts xs (y ∷ ys) o = once_add_firsts (add_new same xs y) ys (once_add_new xs y o)

    -- the same elements, each once
    pub mem_firsts : (xs : List A) (z : A) → Mem z (firsts same xs) ↔ Mem z xs
    unfolding firsts
    mem_firsts xs z =
        let r = mem_add_firsts [] xs z in
        (λ m. ⊎_elim (λ k. absurd (not-nil k)) (λ k. k) (r.0 m), λ m. r.1 (inr m))

    pub once_firsts : (xs : List A) → Once (firsts same xs)
    unfolding firsts
    once_firsts xs = once_add_firsts [] xs tt

    -- a list of new elements, each once, is added whole
    pub add_firsts_new : (xs ys : List A) → Once ys → ((y : A) → Mem y ys → Mem y xs → ⊥) → add_firsts same xs ys ≡ xs ++ ys
    unfolding add_firsts
    add_firsts_new xs [] o n = sym (append-nil xs)
    add_firsts_new xs (y ∷ ys) o n =
        ap (λ l. add_firsts same l ys) (add_new_new xs y (holds_false xs y (n y (here refl))))
        ∙ add_firsts_new (xs ++ y ∷ []) ys o.1
        (λ z m k. ⊎_elim (λ a. n z (there m) a) (λ a. o.0 (subst (λ w. Mem w ys) (eq_of_singleton a) m)) (append_cases xs k))
        ∙ append_assoc xs (y ∷ []) ys

    -- what a list has none of is added behind it as it would be without it
    add_new_apart : (xs ys : List A) (z : A) → (Mem z xs → ⊥) → add_new same (xs ++ ys) z ≡ xs ++ add_new same ys z
    add_new_apart xs ys z n = go (holds same ys z) refl
      where
        go : (b : Bool) → holds same ys z ≡ b → add_new same (xs ++ ys) z ≡ xs ++ add_new same ys z
        go true e =
            add_new_old (xs ++ ys) z ((holds_iff (xs ++ ys) z).1 (append_right xs ((holds_iff ys z).0 e)))
            ∙ ap (λ l. xs ++ l) (sym (add_new_old ys z e))
        go false e =
            add_new_new (xs ++ ys) z
            (holds_false (xs ++ ys) z (λ m. ⊎_elim n (λ k. false≢true (sym e ∙ (holds_iff ys z).1 k)) (append_cases xs m)))
            ∙ append_assoc xs ys (z ∷ []) ∙ ap (λ l. xs ++ l) (sym (add_new_new ys z e))

    pub add_firsts_apart : (xs ys zs : List A) → ((z : A) → Mem z zs → Mem z xs → ⊥) → add_firsts same (xs ++ ys) zs ≡ xs ++ add_firsts same ys zs
    unfolding add_firsts
    add_firsts_apart xs ys [] n = refl
    add_firsts_apart xs ys (z ∷ zs) n =
        ap (λ l. add_firsts same l zs) (add_new_apart xs ys z (n z (here refl))) ∙ add_firsts_apart xs (add_new same ys z) zs (λ w m. n w (there m))

-- ---- the image under a map that keeps the tests

module _ {A B : Type 0} (sameA : A → A → Bool) (sameB : B → B → Bool) (f : A → B) (keeps : (x y : A) → sameB (f x) (f y) ≡ sameA x y) where
  holds_map : (xs : List A) (y : A) → holds sameB (map f xs) (f y) ≡ holds sameA xs y
  unfolding holds
  holds_map [] y = refl
  holds_map (x ∷ xs) y = ap₂ ◌||◌ (keeps x y) (holds_map xs y)

  add_new_map : (xs : List A) (y : A) → add_new sameB (map f xs) (f y) ≡ map f (add_new sameA xs y)
  unfolding add_new
  add_new_map xs y = ap (λ b. cond b (map f xs) (map f xs ++ f y ∷ [])) (holds_map xs y) ∙ go (holds sameA xs y)
    where
      go : (b : Bool) → cond b (map f xs) (map f xs ++ f y ∷ []) ≡ map f (cond b xs (xs ++ y ∷ []))
      go true = refl
      go false = sym (map-append f xs (y ∷ []))

  add_firsts_map : (xs ys : List A) → add_firsts sameB (map f xs) (map f ys) ≡ map f (add_firsts sameA xs ys)
  unfolding add_firsts
  add_firsts_map xs [] = refl
  add_firsts_map xs (y ∷ ys) = ap (λ l. add_firsts sameB l (map f ys)) (add_new_map xs y) ∙ add_firsts_map (add_new sameA xs y) ys

  pub firsts_map : (xs : List A) → firsts sameB (map f xs) ≡ map f (firsts sameA xs)
  unfolding firsts
  firsts_map xs = add_firsts_map [] xs
