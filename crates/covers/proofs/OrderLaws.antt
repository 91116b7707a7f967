-- Laws of the order of a layer, which makes no difference: lists with the same entries give every board the same weight; two lists that do so have
-- the same sums, next layers that do so too and, where no count is 0, the same boards, equally many where each stands once.
-- Rests on `LayerLaws`. Assumes nothing.
use Rattle.std.specs.Prelude.{◌≡◌, refl, ◌↔◌, Bool, true, false, length}
use Rattle.std.proofs.Math.Path.{sym, ap, ap₂}
use Rattle.std.proofs.Common.{◌∙◌, ⊎_elim, mul-zero, mul-one, add-mul, arith}
use Rattle.std.proofs.Math.Bool.{cond}
use mathlib.Core.List.Memᴰ.{append_left}
use mathlib.Core.List.Memᴰ.{append_right}
use mathlib.Core.List.Memᴰ.{cast}
use mathlib.Core.List.Memᴰ.{head as here}
use mathlib.Core.List.Memᴰ.{tail as there}
use mathlib.Core.List.{List, [], ◌∷◌, ◌++◌, Memᴰ as Mem}
use Prim.Native.Nat.{ℕ, ◌+◌, ◌*◌, ◌<◌}
use Rattle.std.proofs.Math.Nat.{zero-mul}
use Rattle.std.proofs.lemmas.List.{length-map}
use Rattle.cells.specs.FirstsLaws.{Once, mem_cases, mem_firsts, once_firsts, Tells}
use Rattle.cells.specs.Lists.{firsts}
use Rattle.cells.specs.MemberLaws.{once_length}
use Rattle.covers.specs.Counts.{full_count, Entry, boards, sum_of, shares, weight, gather}
use Rattle.covers.proofs.SumLaws.{sum_ext, sum_zero, sum_single, sum_plus, sum_times}
use Rattle.covers.proofs.GatherLaws.{Nonzero, mem_boards, mem_entry, once_gather, gather_positive, cond_same, cond_other, weight_none, weight_entry, weight_least, weight_gather}
use Rattle.covers.proofs.LayerLaws.{weight_shares, shares_positive}

cond_times : (b : Bool) (k : ℕ) → cond b k 0 ≡ k * cond b 1 0
cond_times true k = sym (mul-one k)
cond_times false k = sym (mul-zero k)

module _ {B : Type 0} (same : B → B → Bool) where
  -- two lists of entries in which every board has the same weight
  abbrev pub Alike : List (Entry B) → List (Entry B) → Type 0
  Alike es ds = (t : B) → weight same t es ≡ weight same t ds

  module _ (tells : Tells same) where
    -- a sum that is linear in the counts is a sum over boards, each with its weight
    sum_weights : (h : B → ℕ) (ss : List B) → Once ss → (es : List (Entry B)) → ((t : B) → Mem t (boards es) → Mem t ss)
        → sum_of (λ e. e.1 * h e.0) es ≡ sum_of (λ t. weight same t es * h t) ss
    unfolding weight
    sum_weights h ss o [] has = sym (sum_zero (λ t. 0 * h t) ss (λ t m. zero-mul (h t)))
    sum_weights h ss o (e ∷ es) has =
        let f : B → ℕ = λ t. cond (same e.0 t) e.1 0 * h t in
        let g : B → ℕ = λ t. weight same t es * h t in
        let one : sum_of f ss ≡ f e.0 =
        sum_single f ss e.0 o (has e.0 (here refl))
        (λ t n. ap (λ (k : ℕ). k * h t) (cond_other same tells e.0 t e.1 (λ q. n (sym q))) ∙ zero-mul (h t)) in
        ap₂ ◌+◌ (ap (λ (k : ℕ). k * h e.0) (sym (cond_same same tells e.0 e.0 e.1 refl)) ∙ sym one)
        (sum_weights h ss o es (λ t m. has t (there m)))
        ∙ sym (sum_plus f g ss)
        ∙ sum_ext (λ t. f t + g t) (λ t. weight same t (e ∷ es) * h t) ss
        (λ t m. sym (add-mul (cond (same e.0 t) e.1 0) (weight same t es) (h t)))

    -- so it is the same where the weights are
    pub alike_sum : (h : B → ℕ) (es ds : List (Entry B)) → Alike es ds → sum_of (λ e. e.1 * h e.0) es ≡ sum_of (λ e. e.1 * h e.0) ds
    alike_sum h es ds a =
        sum_weights h ss o es (λ t m. (mem_firsts same tells (boards es ++ boards ds) t).1 (append_left (boards ds) m))
        ∙ sum_ext (λ t. weight same t es * h t) (λ t. weight same t ds * h t) ss (λ t m. ap (λ (k : ℕ). k * h t) (a t))
        ∙ sym (sum_weights h ss o ds (λ t m. (mem_firsts same tells (boards es ++ boards ds) t).1 (append_right (boards es) m)))
      where
        ss : List B
        ss = firsts same (boards es ++ boards ds)

        o : Once ss
        o = once_firsts same tells (boards es ++ boards ds)

    -- ---- the next layer

    -- the paths that an entry gives to t are its count times how often t is among its children
    weight_linear : (children : B → List B) (t : B) (es : List (Entry B))
        → weight same t (gather same (shares children es)) ≡ sum_of (λ e. e.1 * sum_of (λ c. cond (same c t) 1 0) (children e.0)) es
    weight_linear children t es =
        weight_gather same tells t (shares children es)
        ∙ weight_shares same children t es
        ∙ sum_ext (λ e. sum_of (λ c. cond (same c t) e.1 0) (children e.0)) (λ e. e.1 * sum_of (λ c. cond (same c t) 1 0) (children e.0)) es
        (λ e m.
        sum_ext (λ c. cond (same c t) e.1 0) (λ c. e.1 * cond (same c t) 1 0) (children e.0) (λ c i. cond_times (same c t) e.1)
        ∙ sum_times e.1 (λ c. cond (same c t) 1 0) (children e.0))

    -- lists with the same entries, whatever their order, where each board stands once
    pub alike_order : (es ds : List (Entry B)) → Once (boards es) → Once (boards ds) → ((e : Entry B) → Mem e es ↔ Mem e ds) → Alike es ds
    alike_order es ds o u h t =
        ⊎_elim
        (λ m.
        let r = mem_entry es t m in
        ap (λ (x : B). weight same x es) (sym r.2)
        ∙ weight_entry same tells es r.0 o r.1
        ∙ sym (weight_entry same tells ds r.0 u ((h r.0).0 r.1))
        ∙ ap (λ (x : B). weight same x ds) r.2)
        (λ n. weight_none same tells t es n ∙ sym (weight_none same tells t ds (λ m. n (back m))))
        (mem_cases same tells (boards es) t)
      where
        back : Mem t (boards ds) → Mem t (boards es)
        back m = let r = mem_entry ds t m in cast (sym r.2) (mem_boards es r.0 ((h r.0).1 r.1))

    -- the full board's path count is a sum that is linear in the counts
    pub alike_full_count : (full : B → Bool) (es ds : List (Entry B)) → Alike es ds → full_count full es ≡ full_count full ds
    unfolding full_count
    alike_full_count full es ds a = linear es ∙ alike_sum (λ s. cond (full s) 1 0) es ds a ∙ sym (linear ds)
      where
        linear : (es : List (Entry B)) → sum_of (λ e. cond (full e.0) e.1 0) es ≡ sum_of (λ e. e.1 * cond (full e.0) 1 0) es
        linear es = sum_ext (λ e. cond (full e.0) e.1 0) (λ e. e.1 * cond (full e.0) 1 0) es (λ e m. cond_times (full e.0) e.1)

    pub alike_next : (children : B → List B) (es ds : List (Entry B)) → Alike es ds
        → Alike (gather same (shares children es)) (gather same (shares children ds))
    alike_next children es ds a t =
        weight_linear children t es
        ∙ alike_sum (λ s. sum_of (λ c. cond (same c t) 1 0) (children s)) es ds a
        ∙ sym (weight_linear children t ds)

    -- ---- the boards

    -- a board with a weight stands there
    weight_mem : (t : B) (es : List (Entry B)) → 0 < weight same t es → Mem t (boards es)
    weight_mem t es h = ⊎_elim (λ m. m) (λ n. absurd (omega (arith, weight_none same tells t es n))) (mem_cases same tells (boards es) t)

    -- the boards are the same where no count is 0, and equally many where each stands once
    pub alike_mem : (es ds : List (Entry B)) → Nonzero es → Alike es ds → (t : B) → Mem t (boards es) → Mem t (boards ds)
    alike_mem es ds z a t m =
        let r = mem_entry es t m in
        weight_mem t ds
        (omega (arith, z r.0 r.1, weight_least same tells es r.0 r.1, ap (λ s. weight same s es) r.2, a t))

    pub alike_length : (es ds : List (Entry B)) → Once (boards es) → Once (boards ds) → Nonzero es → Nonzero ds → Alike es ds
        → length es ≡ length ds
    alike_length es ds o p z y a =
        let l = once_length (boards es) (boards ds) o (alike_mem es ds z a) in
        let r = once_length (boards ds) (boards es) p (alike_mem ds es y (λ t. sym (a t))) in
        omega (arith, length-map es (λ e. e.0), length-map ds (λ e. e.0))

    -- and so the next layer has equally many boards
    pub alike_next_length : (children : B → List B) (es ds : List (Entry B)) → Nonzero es → Nonzero ds → Alike es ds
        → length (gather same (shares children es)) ≡ length (gather same (shares children ds))
    alike_next_length children es ds x y a =
        alike_length (gather same (shares children es)) (gather same (shares children ds))
        (once_gather same tells (shares children es)) (once_gather same tells (shares children ds))
        (gather_positive same tells (shares children es) (shares_positive children es x))
        (gather_positive same tells (shares children ds) (shares_positive children ds y)) (alike_next children es ds a)
