-- Laws of the first of some lists that has an element, and of the first tiling in child order: what is found is one of the lists, and nothing is found
-- just where all are empty; by an index; more steps than a measure that falls change nothing; what is found is a child sequence to a full board, and
-- where nothing is found there is none. No boards. Rests on `Inner` and covers' `Counts`. Assumes nothing.
use Rattle.std.specs.Prelude.{◌≡◌, Bool, length}
use Rattle.std.proofs.Math.Path.{refl, sym, ap, ap₂, subst}
use Rattle.std.proofs.Common.{◌∙◌, add-zero, zero-add}
use Rattle.std.proofs.Math.Logic.{⊎_elim}
use Rattle.std.proofs.Math.Bool.{true, false, So, cond}
use mathlib.Core.List.Memᴰ.{cases_cons}
use mathlib.Core.List.Memᴰ.{cast}
use mathlib.Core.List.Memᴰ.{head as here}
use mathlib.Core.List.Memᴰ.{not-nil}
use mathlib.Core.List.Memᴰ.{tail as there}
use mathlib.Core.List.{List, [], ◌∷◌, ◌++◌, map, flat_map, nil≢cons, cons≢nil, Memᴰ as Mem}
use Prim.Native.Nat.{ℕ, zero, suc, ◌+◌, ◌-◌, ◌≤◌, ◌<◌}
use native.Mathlib.Omega.{arith}
use Rattle.cells.specs.FirstsLaws.{Tells, holds_iff, add_new_old, add_new_new}
use Rattle.cells.specs.Lists.{holds, add_new, add_firsts, firsts, list_from, list_of}
use Rattle.cells.specs.MemberLaws.{mem_list_of}
use Rattle.covers.specs.Counts.{Steps, ChildSequence}
use Rattle.single_tiling.specs.Inner.{or_else, first_of, in_front, first_tiling}

-- ---- the first of two lists

module _ {B : Type 0} where
  pub or_else_nil : (xs : List B) → or_else xs [] ≡ xs
  unfolding or_else
  or_else_nil [] = refl
  or_else_nil (x ∷ xs) = refl

  or_else_some : (xs ys : List B) → 0 < length xs → or_else xs ys ≡ xs
  unfolding or_else
  or_else_some [] ys h = absurd (omega arith)
  or_else_some (x ∷ xs) ys h = refl

  or_else_assoc : (xs ys zs : List B) → or_else (or_else xs ys) zs ≡ or_else xs (or_else ys zs)
  unfolding or_else
  or_else_assoc [] ys zs = refl
  or_else_assoc (x ∷ xs) ys zs = refl

  -- nothing in either
  or_else_none : (xs ys : List B) → or_else xs ys ≡ [] → (xs ≡ []) × (ys ≡ [])
  unfolding or_else
  or_else_none [] ys e = (refl, e)
  or_else_none (x ∷ xs) ys e = absurd (cons≢nil e)

  -- a second list that has an element only where the first has one
  or_else_same : (xs ys : List B) → (xs ≡ [] → ys ≡ []) → or_else xs ys ≡ xs
  unfolding or_else
  or_else_same [] ys h = h refl
  or_else_same (x ∷ xs) ys h = refl

  pub in_front_some : (s : B) (xs : List B) → 0 < length xs → in_front s xs ≡ s ∷ xs
  unfolding in_front
  in_front_some s [] h = absurd (omega arith)
  in_front_some s (x ∷ xs) h = refl

  pub in_front_none : (s : B) (xs : List B) → xs ≡ [] → in_front s xs ≡ []
  unfolding in_front
  in_front_none s xs e = rw e

  none_in_front : (s : B) (xs : List B) → in_front s xs ≡ [] → xs ≡ []
  unfolding in_front
  none_in_front s [] e = refl
  none_in_front s (x ∷ xs) e = absurd (cons≢nil e)

-- ---- the first of the lists f x

module _ {A B : Type 0} (f : A → List B) where
  first_of_some : (xs : List A) (y : B) (ys : List B) → first_of f xs ≡ y ∷ ys → (x : A) × Mem x xs × (f x ≡ y ∷ ys)
  unfolding first_of
  first_of_some [] y ys e = absurd (nil≢cons e)
  first_of_some (x ∷ xs) y ys e = go (f x) refl e (first_of_some xs y ys)
    where
      go : (l : List B) → f x ≡ l → or_else l (first_of f xs) ≡ y ∷ ys → (first_of f xs ≡ y ∷ ys → (z : A) × Mem z xs × (f z ≡ y ∷ ys))
          → (z : A) × Mem z (x ∷ xs) × (f z ≡ y ∷ ys)
      go [] q e rest = let r = rest e in (r.0, there r.1, r.2)
      go (z ∷ zs) q e rest = (x, here refl, q ∙ e)

  first_of_none : (xs : List A) → first_of f xs ≡ [] → (x : A) → Mem x xs → f x ≡ []
  unfolding first_of
  first_of_none [] e x m = absurd (not-nil m)
  first_of_none (y ∷ xs) e x m =
      let r = or_else_none (f y) (first_of f xs) e in
      ⊎_elim (λ q. ap f q ∙ r.0) (λ k. first_of_none xs r.1 x k) (cases_cons m)

  none_first_of : (xs : List A) → ((x : A) → Mem x xs → f x ≡ []) → first_of f xs ≡ []
  unfolding first_of
  none_first_of [] h = refl
  none_first_of (x ∷ xs) h = ap₂ or_else (h x (here refl)) (none_first_of xs (λ y m. h y (there m)))

  pub first_of_append : (xs ys : List A) → first_of f (xs ++ ys) ≡ or_else (first_of f xs) (first_of f ys)
  unfolding first_of
  first_of_append [] ys = refl
  first_of_append (x ∷ xs) ys = ap (or_else (f x)) (first_of_append xs ys) ∙ sym (or_else_assoc (f x) (first_of f xs) (first_of f ys))

  -- of lists f x and g x that are the same for the members
  pub first_of_ext : (g : A → List B) (xs : List A) → ((x : A) → Mem x xs → f x ≡ g x) → first_of f xs ≡ first_of g xs
  unfolding first_of
  first_of_ext g [] h = refl
  first_of_ext g (x ∷ xs) h = ap₂ or_else (h x (here refl)) (first_of_ext g xs (λ y m. h y (there m)))

  pub first_of_map : {C : Type 0} (g : C → A) (xs : List C) → first_of f (map g xs) ≡ first_of (λ x. f (g x)) xs
  unfolding first_of
  first_of_map g [] = refl
  first_of_map g (x ∷ xs) = ap (or_else (f (g x))) (first_of_map g xs)

  pub first_of_flat_map : {C : Type 0} (g : C → List A) (xs : List C) → first_of f (flat_map g xs) ≡ first_of (λ x. first_of f (g x)) xs
  unfolding first_of flat_map
  first_of_flat_map g [] = refl
  first_of_flat_map g (x ∷ xs) = first_of_append (g x) (flat_map g xs) ∙ ap (or_else (first_of f (g x))) (first_of_flat_map g xs)

  -- what appears again makes no difference
  module _ (same : A → A → Bool) (tells : Tells same) where
    first_of_add_new : (xs : List A) (y : A) → first_of f (add_new same xs y) ≡ or_else (first_of f xs) (f y)
    unfolding first_of
    first_of_add_new xs y = go (holds same xs y) refl
      where
        go : (t : Bool) → holds same xs y ≡ t → first_of f (add_new same xs y) ≡ or_else (first_of f xs) (f y)
        go true e =
            ap (first_of f) (add_new_old same xs y e)
            ∙ sym (or_else_same (first_of f xs) (f y) (λ q. first_of_none xs q y ((holds_iff same tells xs y).0 e)))
        go false e = ap (first_of f) (add_new_new same xs y e) ∙ first_of_append xs (y ∷ []) ∙ ap (or_else (first_of f xs)) (or_else_nil (f y))

    first_of_add_firsts : (xs ys : List A) → first_of f (add_firsts same xs ys) ≡ or_else (first_of f xs) (first_of f ys)
    unfolding first_of add_firsts
    first_of_add_firsts xs [] = sym (or_else_nil (first_of f xs))
    first_of_add_firsts xs (y ∷ ys) =
        first_of_add_firsts (add_new same xs y) ys
        ∙ ap (λ (l : List B). or_else l (first_of f ys)) (first_of_add_new xs y)
        ∙ or_else_assoc (first_of f xs) (f y) (first_of f ys)

    pub first_of_firsts : (xs : List A) → first_of f (firsts same xs) ≡ first_of f xs
    unfolding first_of firsts
    first_of_firsts xs = first_of_add_firsts [] xs

-- ---- by an index

module _ {B : Type 0} where
  -- the first of g a, g (a + 1) and so on, n of them
  abbrev scan : (ℕ → List B) → ℕ → ℕ → List B
  scan g a n = first_of g (list_from (λ k. k) a n)

  scan_join : (g : ℕ → List B) (a m n : ℕ) → scan g a (m + n) ≡ or_else (scan g a m) (scan g (a + m) n)
  unfolding first_of list_from
  scan_join g a zero n = ap₂ (scan g) (sym (add-zero a)) (zero-add n)
  scan_join g a (suc m) n =
      let e : suc m + n ≡ suc (m + n) = omega arith in
      let q : suc a + m ≡ a + suc m = omega arith in
      ap (scan g a) e
      ∙ ap (or_else (g a)) (scan_join g (suc a) m n)
      ∙ sym (or_else_assoc (g a) (scan g (suc a) m) (scan g (suc a + m) n))
      ∙ ap (λ (k : ℕ). or_else (or_else (g a) (scan g (suc a) m)) (scan g k n)) q

  scan_move : (g : ℕ → List B) (c a n : ℕ) → scan g (c + a) n ≡ scan (λ k. g (c + k)) a n
  unfolding first_of list_from
  scan_move g c a zero = refl
  scan_move g c a (suc n) =
      let e : suc (c + a) ≡ c + suc a = omega arith in
      ap (or_else (g (c + a))) (ap (λ (k : ℕ). scan g k n) e ∙ scan_move g c (suc a) n)

  -- the first m, and then the others
  pub first_join : (g : ℕ → List B) (m n : ℕ)
      → first_of g (list_of (λ k. k) (m + n)) ≡ or_else (first_of g (list_of (λ k. k) m)) (first_of (λ k. g (m + k)) (list_of (λ k. k) n))
  unfolding list_of
  first_join g m n =
      let e : 0 + m ≡ m + 0 = omega arith in
      scan_join g 0 m n ∙ ap (or_else (scan g 0 m)) (ap (λ (k : ℕ). scan g k n) e ∙ scan_move g m 0 n)

  pub first_ext : (g h : ℕ → List B) (n : ℕ) → ((k : ℕ) → k < n → g k ≡ h k) → first_of g (list_of (λ k. k) n) ≡ first_of h (list_of (λ k. k) n)
  first_ext g h n e =
      first_of_ext g h (list_of (λ k. k) n)
      (λ x m. let r = (mem_list_of (λ k. k) n x).0 m in let l : x < n = subst (λ (k : ℕ). k < n) (sym r.2) r.1 in e x l)

  pub first_miss : (g : ℕ → List B) (n : ℕ) → ((k : ℕ) → k < n → g k ≡ []) → first_of g (list_of (λ k. k) n) ≡ []
  first_miss g n e =
      none_first_of g (list_of (λ k. k) n)
      (λ x m. let r = (mem_list_of (λ k. k) n x).0 m in let l : x < n = subst (λ (k : ℕ). k < n) (sym r.2) r.1 in e x l)

  -- where the last of n lists are empty the first m are enough
  pub first_short : (g h : ℕ → List B) (m n : ℕ) → m ≤ n → ((k : ℕ) → k < m → g k ≡ h k) → ((k : ℕ) → m ≤ k → k < n → h k ≡ [])
      → first_of g (list_of (λ k. k) m) ≡ first_of h (list_of (λ k. k) n)
  first_short g h m n le e z =
      let q : m + (n - m) ≡ n = omega arith in
      first_ext g h m e
      ∙ sym (or_else_nil (first_of h (list_of (λ k. k) m)))
      ∙ ap (or_else (first_of h (list_of (λ k. k) m))) (sym (first_miss (λ k. h (m + k)) (n - m) (λ k l. z (m + k) (omega arith) (omega arith))))
      ∙ sym (first_join h m (n - m))
      ∙ ap (λ (k : ℕ). first_of h (list_of (λ k. k) k)) q

  pub first_hit : (g : ℕ → List B) (n i : ℕ) → i < n → ((k : ℕ) → k < i → g k ≡ []) → 0 < length (g i) → first_of g (list_of (λ k. k) n) ≡ g i
  unfolding first_of list_of list_from or_else
  first_hit g n i h e l =
      let q : n ≡ i + suc (n - (i + 1)) = omega arith in
      ap (λ (k : ℕ). first_of g (list_of (λ k. k) k)) q
      ∙ first_join g i (suc (n - (i + 1)))
      ∙ ap (λ (xs : List B). or_else xs (first_of (λ k. g (i + k)) (list_of (λ k. k) (suc (n - (i + 1)))))) (first_miss g i e)
      ∙ ap (λ (k : ℕ). or_else (g k) (scan (λ k. g (i + k)) 1 (n - (i + 1)))) (add-zero i)
      ∙ or_else_some (g i) (scan (λ k. g (i + k)) 1 (n - (i + 1))) l

-- ---- the first tiling

module _ {B : Type 0} (full : B → Bool) (children : B → List B) where
  pub tiling_full : (n : ℕ) (s : B) → full s ≡ true → first_tiling full children n s ≡ s ∷ []
  unfolding first_tiling
  tiling_full zero s e = rw e
  tiling_full (suc n) s e = rw e

  pub tiling_more : (n : ℕ) (s : B) → full s ≡ false → first_tiling full children (suc n) s ≡ in_front s (first_of (first_tiling full children n) (children s))
  unfolding first_tiling
  tiling_more n s e = rw e

  -- a board that is not full and has no children
  pub tiling_none : (n : ℕ) (s : B) → full s ≡ false → children s ≡ [] → first_tiling full children n s ≡ []
  unfolding first_tiling first_of in_front
  tiling_none zero s e q = rw e
  tiling_none (suc n) s e q = rw (e, q)

  -- what is found is a child sequence to a full board
  pub tiling_sound : (n : ℕ) (s x : B) (xs : List B) → first_tiling full children n s ≡ x ∷ xs → (t : B) × ChildSequence children s t (x ∷ xs) × So (full t)
  unfolding first_tiling
  tiling_sound zero s x xs e = go (full s) refl e
    where
      go : (t : Bool) → full s ≡ t → cond t (s ∷ []) [] ≡ x ∷ xs → (t : B) × ChildSequence children s t (x ∷ xs) × So (full t)
      go true f e = subst (λ (l : List B). (t : B) × ChildSequence children s t l × So (full t)) e (s, (refl, refl), f)
      go false f e = absurd (nil≢cons e)
  tiling_sound (suc n) s x xs e = go (full s) refl (first_of (first_tiling full children n) (children s)) refl e (tiling_sound n)
    where
      go : (t : Bool) → full s ≡ t → (l : List B) → first_of (first_tiling full children n) (children s) ≡ l → cond t (s ∷ []) (in_front s l) ≡ x ∷ xs
          → ((u y : B) (ys : List B) → first_tiling full children n u ≡ y ∷ ys → (t : B) × ChildSequence children u t (y ∷ ys) × So (full t))
          → (t : B) × ChildSequence children s t (x ∷ xs) × So (full t)
      go true f l q e rest = subst (λ (l : List B). (t : B) × ChildSequence children s t l × So (full t)) e (s, (refl, refl), f)
      go false f [] q e rest = absurd (nil≢cons (sym (in_front_none s [] refl) ∙ e))
      go false f (y ∷ ys) q e rest =
          let c = first_of_some (first_tiling full children n) (children s) y ys q in
          let r = rest c.0 y ys c.2 in
          subst (λ (l : List B). (t : B) × ChildSequence children s t l × So (full t)) (sym (in_front_some s (y ∷ ys) (omega arith)) ∙ e)
          (r.0, (refl, (cast r.1.0 c.1, r.1.1)), r.2)

  -- of a measure that falls at each child
  module _ (Ok : B → Type 0) (μ : B → ℕ) (falls : (s t : B) → Ok s → Mem t (children s) → Ok t × (μ t < μ s)) where
    -- nothing is found behind a board of measure 0
    low : (n : ℕ) (s : B) → Ok s → μ s ≤ 0 → first_of (first_tiling full children n) (children s) ≡ []
    low n s ok h = none_first_of (first_tiling full children n) (children s) (λ t m. let r = falls s t ok m in let l = r.1 in absurd (omega arith))

    pub tiling_steps : (n m : ℕ) (s : B) → Ok s → μ s ≤ n → μ s ≤ m → first_tiling full children n s ≡ first_tiling full children m s
    unfolding first_tiling
    tiling_steps zero zero s ok h k = refl
    tiling_steps zero (suc m) s ok h k = ap (cond (full s) (s ∷ [])) (sym (in_front_none s (first_of (first_tiling full children m) (children s)) (low m s ok h)))
    tiling_steps (suc n) zero s ok h k = ap (cond (full s) (s ∷ [])) (in_front_none s (first_of (first_tiling full children n) (children s)) (low n s ok k))
    tiling_steps (suc n) (suc m) s ok h k =
        ap (λ (l : List B). cond (full s) (s ∷ []) (in_front s l))
        (first_of_ext (first_tiling full children n) (first_tiling full children m) (children s)
        (λ t c. let r = falls s t ok c in let l = r.1 in tiling_steps n m t r.0 (omega arith) (omega arith)))

    -- where nothing is found no child sequence comes to a full board
    steps_complete : (n : ℕ) (s : B) → Ok s → μ s ≤ n → first_tiling full children n s ≡ []
        → (t : B) (xs : List B) → Steps (λ s t. Mem t (children s)) s xs t → So (full t) → ⊥
    steps_complete zero s ok h e t [] w f = cons≢nil (sym (tiling_full zero s (ap full w ∙ f)) ∙ e)
    steps_complete zero s ok h e t (y ∷ ys) w f = let l = (falls s y ok w.0).1 in absurd (omega arith)
    steps_complete (suc n) s ok h e t [] w f = cons≢nil (sym (tiling_full (suc n) s (ap full w ∙ f)) ∙ e)
    steps_complete (suc n) s ok h e t (y ∷ ys) w f = go (full s) refl (steps_complete n y)
      where
        go : (v : Bool) → full s ≡ v
            → (Ok y → μ y ≤ n → first_tiling full children n y ≡ [] → (t : B) (xs : List B) → Steps (λ s t. Mem t (children s)) y xs t → So (full t) → ⊥) → ⊥
        go true q rest = cons≢nil (sym (tiling_full (suc n) s q) ∙ e)
        go false q rest =
            let r = falls s y ok w.0 in
            let l = r.1 in
            let nothing = none_in_front s (first_of (first_tiling full children n) (children s)) (sym (tiling_more n s q) ∙ e) in
            rest r.0 (omega arith) (first_of_none (first_tiling full children n) (children s) nothing y w.0) t ys w.1 f

    pub tiling_complete : (n : ℕ) (s : B) → Ok s → μ s ≤ n → first_tiling full children n s ≡ []
        → (t : B) (xs : List B) → ChildSequence children s t xs → So (full t) → ⊥
    tiling_complete n s ok h e t [] w f = w
    tiling_complete n s ok h e t (x ∷ xs) w f =
        steps_complete n s ok h e t xs (subst (λ (z : B). Steps (λ s t. Mem t (children s)) z xs t) w.0 w.1) f
