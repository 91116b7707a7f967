-- Laws of members of lists: at which place a member stands; the members and the length of `flat_map`; the members of a list given by its elements; two
-- maps that agree on the members; a map that is one-to-one on them, and a map back; lists joined; lists with each element once, and how long they
-- can be; `eqb` tells equal numbers. Rests on `ArrayLaws` and `FirstsLaws`. Assumes nothing.
use Rattle.std.specs.Prelude.{◌≡◌, ◌↔◌, eqb, length, get_or}
use Rattle.std.proofs.Math.Path.{refl, sym, ap, subst}
use Rattle.std.proofs.Common.{ap₂, ◌∙◌, add-one, eq-eqb, eqb-true}
use Rattle.std.proofs.Math.Logic.{⊎_elim}
use mathlib.Core.List.Memᴰ.{append_cases}
use mathlib.Core.List.Memᴰ.{append_left}
use mathlib.Core.List.Memᴰ.{append_right}
use mathlib.Core.List.Memᴰ.{cases_cons}
use mathlib.Core.List.Memᴰ.{cast}
use mathlib.Core.List.Memᴰ.{head as here}
use mathlib.Core.List.Memᴰ.{not-nil}
use mathlib.Core.List.Memᴰ.{of_map}
use mathlib.Core.List.Memᴰ.{tail as there}
use mathlib.Core.List.{List, [], ◌∷◌, ◌++◌, map, flat_map, append-nil, append_assoc, Memᴰ as Mem}
use Prim.Native.Nat.{ℕ, zero, suc, ◌*◌, ◌≤◌, ◌<◌}
use native.Mathlib.Omega.{arith}
use Rattle.std.proofs.Math.ListN.{length-append}
use Rattle.cells.specs.FirstsLaws.{Once, mem_get_d, once_snoc, Tells}
use Rattle.cells.specs.Lists.{list_of}
use Rattle.cells.specs.ArrayLaws.{length_list_of, get_d_list_of, list_of_snoc}

pub eqb_tells : Tells eqb
eqb_tells x y = (λ e. eqb-true x y e, λ e. eq-eqb x y e)

module _ {A : Type 0} where
  -- a list without members
  pub no_member : (xs : List A) → ((x : A) → Mem x xs → ⊥) → xs ≡ []
  no_member [] n = refl
  no_member (x ∷ xs) n = absurd (n x (here refl))

  -- a member stands at a place
  pub mem_place : (xs : List A) (x d : A) → Mem x xs → (i : ℕ) × (i < length xs) × (get_or xs i d ≡ x)
  mem_place [] x d m = absurd (not-nil m)
  mem_place (y ∷ ys) x d m =
      ⊎_elim (λ e. (0, omega arith, sym e)) (λ k. let r = mem_place ys x d k in (suc r.0, omega (arith, r.1), r.2)) (cases_cons m)

  -- the elements of a list given by them
  pub mem_list_of : (f : ℕ → A) (n : ℕ) (x : A) → Mem x (list_of f n) ↔ ((i : ℕ) × (i < n) × (x ≡ f i))
  mem_list_of f n x = (to, from)
    where
      to : Mem x (list_of f n) → (i : ℕ) × (i < n) × (x ≡ f i)
      to m =
          let r = mem_place (list_of f n) x x m in
          let h : r.0 < n = omega (arith, r.1, length_list_of f n) in
          (r.0, h, sym r.2 ∙ get_d_list_of f n r.0 x h)

      from : (i : ℕ) × (i < n) × (x ≡ f i) → Mem x (list_of f n)
      from r =
          cast (r.2 ∙ sym (get_d_list_of f n r.0 x r.1))
          (mem_get_d (list_of f n) r.0 x (omega (arith, r.1, length_list_of f n)))

module _ {A B : Type 0} where
  -- a member of what is joined is a member of one of the parts
  pub mem_flat_map : (f : A → List B) (xs : List A) (y : B) → Mem y (flat_map f xs) ↔ ((x : A) × Mem x xs × Mem y (f x))
  unfolding flat_map
  mem_flat_map f [] y = (λ m. absurd (not-nil m), λ r. absurd (not-nil r.1))
  mem_flat_map f (x ∷ xs) y =
      let rest = mem_flat_map f xs y in (
        λ m. ⊎_elim (λ k. (x, here refl, k)) (λ k. let r = rest.0 k in (r.0, there r.1, r.2)) (append_cases (f x) m),
        λ r.
            ⊎_elim (λ e. append_left (flat_map f xs) (subst (λ (z : A). Mem y (f z)) e r.2)) (λ k. append_right (f x) (rest.1 (r.0, k, r.2)))
            (cases_cons r.1),
      )

  -- parts of k elements at most
  pub length_flat_map : (f : A → List B) (k : ℕ) (xs : List A) → ((x : A) → length (f x) ≤ k) → length (flat_map f xs) ≤ length xs * k
  unfolding flat_map
  length_flat_map f k [] h = omega arith
  length_flat_map f k (x ∷ xs) h = omega (arith, length-append (f x) (flat_map f xs), h x, length_flat_map f k xs h)

  pub map_ext : (f g : A → B) (xs : List A) → ((x : A) → Mem x xs → f x ≡ g x) → map f xs ≡ map g xs
  map_ext f g [] h = refl
  map_ext f g (x ∷ xs) h = ap₂ ◌∷◌ (h x (here refl)) (map_ext f g xs (λ y m. h y (there m)))

  pub once_map : (f : A → B) (xs : List A) → ((x y : A) → Mem x xs → Mem y xs → f x ≡ f y → x ≡ y) → Once xs → Once (map f xs)
  once_map f [] h o = tt
  once_map f (x ∷ xs) h o = (
    λ m. let r = of_map f xs m in o.0 (cast (h x r.0 (here refl) (there r.1) (sym r.2)) r.1),
    once_map f xs (λ y z m k. h y z (there m) (there k)) o.1,
  )

  -- a map back, on the members
  pub map_back : (f : A → B) (g : B → A) (xs : List A) → ((x : A) → Mem x xs → g (f x) ≡ x) → map g (map f xs) ≡ xs
  map_back f g [] h = refl
  map_back f g (x ∷ xs) h = ap₂ ◌∷◌ (h x (here refl)) (map_back f g xs (λ y m. h y (there m)))

-- ---- lists joined

module _ {A B : Type 0} where
  pub flat_map_append : (f : A → List B) (xs ys : List A) → flat_map f (xs ++ ys) ≡ flat_map f xs ++ flat_map f ys
  unfolding flat_map
  flat_map_append f [] ys = refl
  flat_map_append f (x ∷ xs) ys = ap (λ (l : List B). f x ++ l) (flat_map_append f xs ys) ∙ sym (append_assoc (f x) (flat_map f xs) (flat_map f ys))

  pub flat_map_snoc : (f : A → List B) (xs : List A) (x : A) → flat_map f (xs ++ x ∷ []) ≡ flat_map f xs ++ f x
  unfolding flat_map
  flat_map_snoc f xs x = flat_map_append f xs (x ∷ []) ∙ ap (λ (l : List B). flat_map f xs ++ l) (append-nil (f x))

-- ---- each element once

module _ {A : Type 0} where
  -- two lists with no element in common
  pub once_append : (xs ys : List A) → Once xs → Once ys → ((x : A) → Mem x xs → Mem x ys → ⊥) → Once (xs ++ ys)
  once_append [] ys o u apart = u
  once_append (x ∷ xs) ys o u apart = (
    λ m. ⊎_elim o.0 (apart x (here refl)) (append_cases xs m),
    once_append xs ys o.1 u (λ y m. apart y (there m)),
  )

  -- elements of which no two are the same
  pub once_list_of : (f : ℕ → A) (n : ℕ) → ((m k : ℕ) → m < n → k < n → f m ≡ f k → m ≡ k) → Once (list_of f n)
  unfolding list_of
  once_list_of f zero inj = tt
  once_list_of f (suc n) inj =
      subst Once (sym (ap (list_of f) (sym (add-one n)) ∙ list_of_snoc f n))
      (once_snoc (list_of f n) (f n) (once_list_of f n (λ m k h i. inj m k (omega arith) (omega arith)))
      (λ m. let r = (mem_list_of f n (f n)).0 m in let h = r.1 in let e = inj n r.0 (omega arith) (omega arith) r.2 in omega arith))

  -- a list in which x stands, cut there
  pub mem_split : (x : A) (xs : List A) → Mem x xs → (s : List A) × (t : List A) × (xs ≡ s ++ x ∷ t)
  mem_split x [] m = absurd (not-nil m)
  mem_split x (y ∷ xs) m =
      ⊎_elim (λ e. ([], xs, ap (λ (z : A). z ∷ xs) (sym e))) (λ k. let r = mem_split x xs k in (y ∷ r.0, r.1, ap (λ (l : List A). y ∷ l) r.2))
      (cases_cons m)

  -- what is in a list cut at x and is not x is in the rest
  pub mem_rest : (x y : A) (s t : List A) → (y ≡ x → ⊥) → Mem y (s ++ x ∷ t) → Mem y (s ++ t)
  mem_rest x y [] t ne m = ⊎_elim (λ e. absurd (ne e)) (λ k. k) (cases_cons m)
  mem_rest x y (z ∷ s) t ne m = ⊎_elim (λ e. here e) (λ k. there (mem_rest x y s t ne k)) (cases_cons m)

  -- a list with each element once is no longer than a list that has all its elements
  pub once_length : (xs ys : List A) → Once xs → ((x : A) → Mem x xs → Mem x ys) → length xs ≤ length ys
  once_length [] ys o h = omega arith
  once_length (x ∷ xs) ys o h =
      let c = mem_split x ys (h x (here refl)) in
      let r = once_length xs (c.0 ++ c.1) o.1
      (λ y m. mem_rest x y c.0 c.1 (λ e. o.0 (cast (sym e) m)) (subst (Mem y) c.2 (h y (there m)))) in
      omega (arith, r, ap length c.2, length-append c.0 c.1, length-append c.0 (x ∷ c.1))

module _ {A B : Type 0} where
  -- lists with each element once, no two of which have an element in common, joined
  pub once_flat_map : (f : A → List B) (xs : List A) → Once xs → ((x : A) → Mem x xs → Once (f x))
      → ((x y : A) (z : B) → Mem x xs → Mem y xs → Mem z (f x) → Mem z (f y) → x ≡ y) → Once (flat_map f xs)
  unfolding flat_map
  once_flat_map f [] o u apart = tt
  once_flat_map f (x ∷ xs) o u apart =
      once_append (f x) (flat_map f xs) (u x (here refl)) (once_flat_map f xs o.1 (λ y m. u y (there m)) (λ y z w m k. apart y z w (there m) (there k)))
      (λ z m k. let r = (mem_flat_map f xs z).0 k in o.0 (cast (apart x r.0 z (here refl) (there r.1) m r.2) r.1))
