-- Laws of lists of entries: weights; equal boards joined, which keeps the boards, each once, and the weights; one child added to a list that is
-- joined already. Rests on `Counts`, `SumLaws` and cells' `MemberLaws`. Assumes nothing.
use Rattle.std.specs.Prelude.{◌≡◌, ◌↔◌, Bool, ◌||◌, ℕ, ◌+◌, ◌≤◌, ◌<◌}
use Rattle.std.proofs.Math.Path.{refl, ap}
use Rattle.std.proofs.Common.{sym, subst, ◌∙◌}
use Rattle.std.proofs.Math.Logic.{⊎_elim}
use Rattle.std.proofs.Math.Bool.{true, false, cond}
use mathlib.Core.List.Memᴰ.{cases_cons}
use mathlib.Core.List.Memᴰ.{cast}
use mathlib.Core.List.Memᴰ.{map as mem-map}
use mathlib.Core.List.Memᴰ.{not-nil}
use mathlib.Core.List.Memᴰ.{of_map}
use mathlib.Core.List.{List, [], ◌∷◌, ◌++◌, map, map-append, map-map, map-id, Memᴰ as Mem}
use native.Mathlib.Omega.{arith}
use Rattle.cells.specs.FirstsLaws.{Once, same_false, mem_cases, add_firsts_append, mem_firsts, once_firsts, Tells}
use Rattle.cells.specs.Lists.{holds, add_new, firsts}
use Rattle.cells.specs.MemberLaws.{mem_split, map_ext}
use Rattle.covers.specs.Counts.{Entry, boards, weight, gather}
use Rattle.covers.specs.Inner.{add_paths}
use Rattle.covers.proofs.SumLaws.{sum_append, sum_zero}

-- ---- an entry and its board

module _ {B : Type 0} where
  pub mem_boards : (es : List (Entry B)) (e : Entry B) → Mem e es → Mem e.0 (boards es)
  mem_boards es e m = mem-map (λ (e : Entry B). e.0) m

  pub mem_entry : (es : List (Entry B)) (t : B) → Mem t (boards es) → (e : Entry B) × Mem e es × (e.0 ≡ t)
  mem_entry es t m = of_map (λ (e : Entry B). e.0) es m

-- ---- weights

-- no count is 0
abbrev pub Nonzero : {B : Type 0} → List (Entry B) → Type 0
Nonzero {B} es = (e : Entry B) → Mem e es → 0 < e.1

module _ {B : Type 0} (same : B → B → Bool) where
  pub weight_append : (t : B) (es ds : List (Entry B)) → weight same t (es ++ ds) ≡ weight same t es + weight same t ds
  unfolding weight
  weight_append t es ds = sum_append (λ e. cond (same e.0 t) e.1 0) es ds

  pub boards_gather : (es : List (Entry B)) → boards (gather same es) ≡ firsts same (boards es)
  unfolding gather
  boards_gather es =
      map-map (λ (e : Entry B). e.0) _ (firsts same (boards es)) ∙ map-id (firsts same (boards es))

  pub boards_add_paths : (c : B) (k : ℕ) (es : List (Entry B)) → boards (add_paths same c k es) ≡ add_new same (boards es) c
  unfolding add_paths add_new
  boards_add_paths c k [] = refl
  boards_add_paths c k (e ∷ es) = go (same e.0 c) (holds same (boards es) c) (boards_add_paths c k es)
    where
      go : (b h : Bool) → boards (add_paths same c k es) ≡ cond h (boards es) (boards es ++ c ∷ [])
          → boards (cond b ((e.0, e.1 + k) ∷ es) (e ∷ add_paths same c k es)) ≡ cond (b || h) (e.0 ∷ boards es) (e.0 ∷ boards es ++ c ∷ [])
      go true h ih = refl
      go false true ih = ap (λ (l : List B). e.0 ∷ l) ih
      go false false ih = ap (λ (l : List B). e.0 ∷ l) ih

  module _ (tells : Tells same) where
    -- what an entry of the board s adds to the weight of t
    pub cond_same : (s t : B) (k : ℕ) → s ≡ t → cond (same s t) k 0 ≡ k
    cond_same s t k q = rw ((tells s t).1 q)

    pub cond_other : (s t : B) (k : ℕ) → (s ≡ t → ⊥) → cond (same s t) k 0 ≡ 0
    cond_other s t k n = rw (same_false same tells s t n)

    -- the weight of a board that is not there is 0, and of one that stands once its count
    pub weight_none : (t : B) (es : List (Entry B)) → (Mem t (boards es) → ⊥) → weight same t es ≡ 0
    unfolding weight
    weight_none t es n =
        sum_zero (λ e. cond (same e.0 t) e.1 0) es (λ e m. cond_other e.0 t e.1 (λ q. n (cast (sym q) (mem_boards es e m))))

    pub weight_entry : (es : List (Entry B)) (e : Entry B) → Once (boards es) → Mem e es → weight same e.0 es ≡ e.1
    unfolding weight
    weight_entry [] e o m = absurd (not-nil m)
    weight_entry (d ∷ es) e o m =
        ⊎_elim
        (λ q.
        let r : d.0 ≡ e.0 = ap (λ (x : Entry B). x.0) (sym q) in
        let c : d.1 ≡ e.1 = ap (λ (x : Entry B). x.1) (sym q) in
        omega (arith, cond_same d.0 e.0 d.1 r, weight_none e.0 es (λ k. o.0 (cast r k))))
        (λ k. omega (arith, cond_other d.0 e.0 d.1 (λ r. o.0 (cast r (mem_boards es e k))), weight_entry es e o.1 k))
        (cases_cons m)

    -- a weight is no less than one of the counts
    pub weight_least : (es : List (Entry B)) (e : Entry B) → Mem e es → e.1 ≤ weight same e.0 es
    unfolding weight
    weight_least es e m =
        let r = mem_split e es m in
        omega (arith, ap (weight same e.0) r.2, weight_append e.0 r.0 (e ∷ r.1), cond_same e.0 e.0 e.1 refl)

    -- ---- equal boards joined

    -- the boards are the same, each once, and so are the weights
    pub once_gather : (es : List (Entry B)) → Once (boards (gather same es))
    once_gather es = subst Once (sym (boards_gather es)) (once_firsts same tells (boards es))

    pub mem_gather : (es : List (Entry B)) (t : B) → Mem t (boards (gather same es)) ↔ Mem t (boards es)
    mem_gather es t = rw (boards_gather es) (mem_firsts same tells (boards es) t)

    -- an entry is a board with its weight
    gather_entry : (es : List (Entry B)) (t : B) → Mem t (boards es) → Mem (t, weight same t es) (gather same es)
    unfolding gather
    gather_entry es t m = mem-map (λ s. (s, weight same s es)) ((mem_firsts same tells (boards es) t).1 m)

    pub weight_gather : (t : B) (es : List (Entry B)) → weight same t (gather same es) ≡ weight same t es
    weight_gather t es =
        ⊎_elim (λ m. weight_entry (gather same es) (t, weight same t es) (once_gather es) (gather_entry es t m))
        (λ n. weight_none t (gather same es) (λ m. n ((mem_gather es t).0 m)) ∙ sym (weight_none t es n))
        (mem_cases same tells (boards es) t)

    pub gather_positive : (es : List (Entry B)) → Nonzero es → Nonzero (gather same es)
    gather_positive es z e m =
        let r = mem_entry es e.0 ((mem_gather es e.0).0 (mem_boards (gather same es) e m)) in
        let w : e.1 ≡ weight same e.0 es = sym (weight_entry (gather same es) e (once_gather es) m) ∙ weight_gather e.0 es in
        omega (arith, z r.0 r.1, weight_least es r.0 r.1, ap (λ t. weight same t es) r.2)

    -- ---- one child more

    pub weight_add_paths : (t c : B) (k : ℕ) (es : List (Entry B)) → weight same t (add_paths same c k es) ≡ weight same t es + cond (same c t) k 0
    unfolding add_paths weight
    weight_add_paths t c k [] = omega arith
    weight_add_paths t c k (e ∷ es) = go (same e.0 c) refl (weight_add_paths t c k es)
      where
        plus : (b : Bool) → cond b (e.1 + k) 0 ≡ cond b e.1 0 + cond b k 0
        plus true = refl
        plus false = refl

        go : (b : Bool) → same e.0 c ≡ b → weight same t (add_paths same c k es) ≡ weight same t es + cond (same c t) k 0
            → weight same t (cond b ((e.0, e.1 + k) ∷ es) (e ∷ add_paths same c k es)) ≡ weight same t (e ∷ es) + cond (same c t) k 0
        go true q ih = omega (arith, plus (same e.0 t), ap (λ (s : B). cond (same s t) k 0) ((tells e.0 c).0 q))
        go false q ih = omega arith

    -- entries of the same boards in the same order, each once, with the same weights, are the same
    entries_ext : (es ds : List (Entry B)) → boards es ≡ boards ds → Once (boards es) → ((t : B) → weight same t es ≡ weight same t ds) → es ≡ ds
    entries_ext es ds e o w =
        weighted es o
        ∙ ap (map (λ (s : B). (s, weight same s es))) e
        ∙ map_ext (λ (s : B). (s, weight same s es)) (λ (s : B). (s, weight same s ds)) (boards ds) (λ s m. ap (λ (n : ℕ). (s, n)) (w s))
        ∙ sym (weighted ds (subst Once e o))
      where
        weighted : (es : List (Entry B)) → Once (boards es) → es ≡ map (λ (s : B). (s, weight same s es)) (boards es)
        weighted es o =
            sym (map-id es)
            ∙ map_ext (λ (e : Entry B). e) (λ (e : Entry B). (e.0, weight same e.0 es)) es
            (λ e m. ap (λ (n : ℕ). (e.0, n)) (sym (weight_entry es e o m)))
            ∙ sym (map-map (λ (s : B). (s, weight same s es)) (λ (e : Entry B). e.0) es)

    weight_snoc : (t : B) (es : List (Entry B)) (c : B) (k : ℕ) → weight same t (es ++ (c, k) ∷ []) ≡ weight same t es + cond (same c t) k 0
    unfolding weight
    weight_snoc t es c k = weight_append t es ((c, k) ∷ []) ∙ omega arith

    boards_snoc : (es : List (Entry B)) (c : B) (k : ℕ) → boards (gather same (es ++ (c, k) ∷ [])) ≡ add_new same (boards (gather same es)) c
    unfolding firsts
    boards_snoc es c k =
        boards_gather (es ++ (c, k) ∷ [])
        ∙ ap (firsts same) (map-append (λ e. e.0) es ((c, k) ∷ []))
        ∙ add_firsts_append same [] (boards es) (c ∷ [])
        ∙ ap (λ (l : List B). add_new same l c) (sym (boards_gather es))

    -- what is built of the shares one by one is what is built of all
    pub gather_snoc : (es : List (Entry B)) (c : B) (k : ℕ) → gather same (es ++ (c, k) ∷ []) ≡ add_paths same c k (gather same es)
    gather_snoc es c k =
        entries_ext (gather same (es ++ (c, k) ∷ [])) (add_paths same c k (gather same es))
        (boards_snoc es c k ∙ sym (boards_add_paths c k (gather same es)))
        (once_gather (es ++ (c, k) ∷ []))
        (λ t. omega (arith, weight_gather t (es ++ (c, k) ∷ []), weight_snoc t es c k, weight_add_paths t c k (gather same es), weight_gather t es))
