-- Laws of numberings: how many there are is unique; a numbering is carried along a map that is one-to-one onto; none, and exactly one; pairs, and lists of one of each kind.
-- Rests on `Counts` and cells' `MemberLaws`. Assumes nothing.
use Rattle.std.specs.Prelude.{◌≡◌, refl, ℕ, zero, suc, ◌+◌, ◌*◌, ◌/◌, ◌%◌, ◌≤◌, ◌<◌}
use Rattle.std.proofs.Common.{sym, ap, ap₂, subst, ◌∙◌, le_antisymm, mul-zero, mod-lt, div-add-mod', div-lt_iff_lt-mul, arith}
use mathlib.Core.List.Memᴰ.{head as here}
use mathlib.Core.List.Memᴰ.{tail as there}
use mathlib.Core.List.{List, [], ◌∷◌, tail, Memᴰ as Mem}
use Rattle.std.proofs.Math.Arith.{digits_lt, digits_div, digits_mod}
use Rattle.cells.specs.FirstsLaws.{Once}
use Rattle.cells.specs.Lists.{list_of}
use Rattle.cells.specs.ArrayLaws.{length_list_of}
use Rattle.cells.specs.MemberLaws.{mem_list_of, once_list_of, once_length}
use Rattle.covers.specs.Counts.{Numbering, Exactly}

-- ---- the number is unique

module _ {A B : Type 0} {Is : A → Type 0} {Has : B → Type 0} where
  -- what goes one-to-one into something else is no more than it
  pub exactly_le : {n k : ℕ} (g : A → B) → ((a : A) → Is a → Has (g a)) → ((a b : A) → Is a → Is b → g a ≡ g b → a ≡ b) → Exactly n Is
      → Exactly k Has → n ≤ k
  exactly_le {n} {k} g to inj F H =
      let r = once_length (list_of (λ m. g (F.0 m)) n) (list_of H.0 k) distinct within in
      omega (arith, length_list_of (λ m. g (F.0 m)) n, length_list_of H.0 k)
    where
      within : (y : B) → Mem y (list_of (λ m. g (F.0 m)) n) → Mem y (list_of H.0 k)
      within y m =
          let r = (mem_list_of (λ m. g (F.0 m)) n y).0 m in
          let q = H.1.all (g (F.0 r.0)) (to (F.0 r.0) (F.1.each r.0 r.1)) in
          (mem_list_of H.0 k y).1 (q.0, q.1, r.2 ∙ sym q.2)

      distinct : Once (list_of (λ m. g (F.0 m)) n)
      distinct = once_list_of (λ m. g (F.0 m)) n
          (λ m k h i e. F.1.once m k h i (inj (F.0 m) (F.0 k) (F.1.each m h) (F.1.each k i) e))

  -- a numbering is carried along a map that is one-to-one onto
  pub carry : {n : ℕ} {f : ℕ → A} (g : A → B) → ((a : A) → Is a → Has (g a)) → ((a b : A) → Is a → Is b → g a ≡ g b → a ≡ b)
      → ((b : B) → Has b → (a : A) × Is a × (g a ≡ b)) → Numbering Is n f → Numbering Has n (λ m. g (f m))
  carry {f = f} g to inj onto F = record {
    each = λ m h. to (f m) (F.each m h);
    once = λ m k h i e. F.once m k h i (inj (f m) (f k) (F.each m h) (F.each k i) e);
    all = λ b h. let r = onto b h in let q = F.all r.0 r.1 in (q.0, q.1, ap g q.2 ∙ r.2);
  }

module _ {A : Type 0} {Is : A → Type 0} where
  pub exactly_unique : {n k : ℕ} → Exactly n Is → Exactly k Is → n ≡ k
  exactly_unique F H = le_antisymm (exactly_le (λ a. a) (λ a h. h) (λ a b h i e. e) F H) (exactly_le (λ a. a) (λ a h. h) (λ a b h i e. e) H F)

  -- the same numbering, told otherwise
  pub renumber : {n k : ℕ} {f g : ℕ → A} → n ≡ k → ((m : ℕ) → m < k → g m ≡ f m) → Numbering Is n f → Numbering Is k g
  renumber {f = f} {g = g} e same F = record {
    each = λ m h. subst Is (sym (same m h)) (F.each m (omega arith));
    once = λ m k h i p. F.once m k (omega arith) (omega arith) (sym (same m h) ∙ p ∙ same k i);
    all = λ a h. let r = F.all a h in let l = r.1 in (r.0, omega arith, same r.0 (omega arith) ∙ r.2);
  }

  -- there is none
  pub numbering_none : (f : ℕ → A) → ((a : A) → Is a → ⊥) → Numbering Is 0 f
  numbering_none f none = record {
    each = λ m h. absurd (omega arith);
    once = λ m k h i e. absurd (omega arith);
    all = λ a h. absurd (none a h);
  }

  -- there is one: it is that one, and no other is
  pub exactly_one : (a : A) → Is a → ((b : A) → Is b → b ≡ a) → Exactly 1 Is
  exactly_one a h only = (
    λ m. a,
    record {
      each = λ m i. h;
      once = λ m k i j e. omega arith;
      all = λ b i. (0, omega arith, sym (only b i));
    },
  )

  pub one_is : (E : Exactly 1 Is) → Is (E.0 0)
  one_is E = E.1.each 0 (omega arith)

  pub one_only : (E : Exactly 1 Is) (a : A) → Is a → a ≡ E.0 0
  one_only E a h = let r = E.1.all a h in let l = r.1 in let z : r.0 ≡ 0 = omega arith in sym r.2 ∙ ap E.0 z

-- ---- pairs

-- the pairs of n things and k others: the first of the pair with the number m has the number m / k, and the second m % k
module _ {A B : Type 0} {Is : A → Type 0} {Has : B → Type 0} (n k : ℕ) (F : Exactly n Is) (H : Exactly k Has) where
  abbrev pair_at : ℕ → A × B
  pair_at m = (F.0 (m / k), H.0 (m % k))

  some_second : (m : ℕ) → m < n * k → 0 < k
  some_second m h = go k h
    where
      go : (j : ℕ) → m < n * j → 0 < j
      go zero i = absurd (omega (arith, mul-zero n))
      go (suc j) i = omega arith

  first_below_lem : (m : ℕ) → m < n * k → m / k < n
  first_below_lem m h = (div-lt_iff_lt-mul (some_second m h)).1 h

  second_below : (m : ℕ) → m < n * k → m % k < k
  second_below m h = mod-lt m (some_second m h)

  pub exactly_pairs : Exactly (n * k) (λ (p : A × B). Is p.0 × Has p.1)
  exactly_pairs = (
    pair_at,
    record {
      each = λ m h. (F.1.each (m / k) (first_below_lem m h), H.1.each (m % k) (second_below m h));
      once = λ m j h i e.
          let first : m / k ≡ j / k = F.1.once (m / k) (j / k) (first_below_lem m h) (first_below_lem j i) (ap (λ (p : A × B). p.0) e) in
          let second : m % k ≡ j % k = H.1.once (m % k) (j % k) (second_below m h) (second_below j i) (ap (λ (p : A × B). p.1) e) in
          sym (div-add-mod' m k) ∙ ap₂ (λ (x y : ℕ). x * k + y) first second ∙ div-add-mod' j k;
      all = λ p h.
          let a = F.1.all p.0 h.0 in
          let b = H.1.all p.1 h.1 in (
            a.0 * k + b.0,
            digits_lt a.1 b.1,
            ap₂ (λ (x : A) (y : B). (x, y)) (ap F.0 (digits_div a.0 b.1) ∙ a.2) (ap H.0 (digits_mod a.0 b.1) ∙ b.2),
          );
    },
  )

-- ---- lists of one of each kind

-- the product of f over a list
abbrev pub product_of : {K : Type 0} → (K → ℕ) → List K → ℕ
product_of f [] = 1
product_of f (x ∷ xs) = f x * product_of f xs

-- a list of things, one for each element of another list, each of that element's kind
abbrev pub OneOfEach : {K A : Type 0} → (K → A → Type 0) → List K → List A → Type 0
OneOfEach Is [] [] = Unit {0}
OneOfEach Is [] (a ∷ rest) = ⊥
OneOfEach Is (x ∷ xs) [] = ⊥
OneOfEach Is (x ∷ xs) (a ∷ rest) = Is x a × OneOfEach Is xs rest

module _ {K A : Type 0} (Is : K → A → Type 0) (n : K → ℕ) where
  no_other : (rest : List A) → OneOfEach Is [] rest → rest ≡ []
  no_other [] h = refl
  no_other (a ∷ rest) h = absurd h

  -- a list is its first element and the rest
  cut_off : (x : K) (xs : List K) (rest : List A) → OneOfEach Is (x ∷ xs) rest → (p : A × List A) × (Is x p.0 × OneOfEach Is xs p.1) × (p.0 ∷ p.1 ≡ rest)
  cut_off x xs [] h = absurd h
  cut_off x xs (a ∷ rest) h = ((a, rest), h, refl)

  pub exactly_lists : (xs : List K) → ((x : K) → Mem x xs → Exactly (n x) (Is x)) → Exactly (product_of n xs) (OneOfEach Is xs)
  exactly_lists [] each = exactly_one [] tt no_other
  exactly_lists (x ∷ xs) each =
      let pairs = exactly_pairs (n x) (product_of n xs) (each x (here refl)) (exactly_lists xs (λ y m. each y (there m))) in (
        λ m. (pairs.0 m).0 ∷ (pairs.0 m).1,
        carry (λ (p : A × List A). p.0 ∷ p.1) (λ p h. h) (λ p q h i e. same_pair p q e) (cut_off x xs) pairs.1,
      )
    where
      head_or : A → List A → A
      head_or d [] = d
      head_or d (a ∷ rest) = a

      same_pair : (p q : A × List A) → p.0 ∷ p.1 ≡ q.0 ∷ q.1 → p ≡ q
      same_pair p q e = ap₂ (λ (a : A) (rest : List A). (a, rest)) (ap (head_or p.0) e) (ap tail e)
