-- Laws of a list of entries as nodes: the number of a board is its place; the count at that number is the board's; edges are the steps from a board
-- to its children; the counts over the edges into a node add up to the board's weight among the children. And chains carried along a map.
-- Rests on `GatherLaws`. Assumes nothing.
use Rattle.std.specs.Prelude.{◌≡◌, refl, ◌↔◌, Bool, eqb, length, get_or}
use Rattle.std.proofs.Math.Path.{sym, ap}
use Rattle.std.proofs.Common.{ap₂, subst, ◌∙◌, ⊎_elim, zero-add, arith}
use Rattle.std.proofs.Math.Bool.{cond}
use mathlib.Core.List.Memᴰ.{cases_cons}
use mathlib.Core.List.Memᴰ.{cast}
use mathlib.Core.List.Memᴰ.{head as here}
use mathlib.Core.List.Memᴰ.{map as to_map}
use mathlib.Core.List.Memᴰ.{not-nil}
use mathlib.Core.List.Memᴰ.{of_map}
use mathlib.Core.List.Memᴰ.{tail as there}
use mathlib.Core.List.{List, [], ◌∷◌, ◌++◌, map, Memᴰ as Mem}
use Prim.Native.Nat.{ℕ, zero, suc, ◌+◌, ◌<◌}
use Rattle.cells.specs.FirstsLaws.{Once, mem_get_d, so_eq, same_false, same_cases, Tells}
use Rattle.cells.specs.MemberLaws.{mem_rest, eqb_tells, mem_flat_map, once_map, once_flat_map}
use Rattle.covers.specs.Counts.{Steps, Chain, Entry, boards, counts, sum_of, shares, weight, number_in, edges_of}
use Rattle.covers.proofs.GatherLaws.{mem_boards}
use Rattle.covers.proofs.SumLaws.{sum_ext, sum_map, sum_flat_map}

-- ---- chains carried along a map that takes steps to steps, on elements that a step does not leave

module _ {A : Type 0} (R : A → A → Type 0) (Good : A → Type 0) (stays : (x y : A) → Good x → R x y → Good y) where
  steps_good : (a b : A) (xs : List A) → Good a → Steps R a xs b → (x : A) → Mem x xs → Good x
  steps_good a b [] g c x m = absurd (not-nil m)
  steps_good a b (y ∷ ys) g c x m =
      ⊎_elim (λ e. subst Good (sym e) (stays a y g c.0)) (λ k. steps_good y b ys (stays a y g c.0) c.1 x k) (cases_cons m)

  pub chain_good : (a b : A) (xs : List A) → Good a → Chain R a b xs → (x : A) → Mem x xs → Good x
  chain_good a b [] g c x m = absurd (not-nil m)
  chain_good a b (y ∷ ys) g c x m =
      let h : Good y = subst Good (sym c.0) g in
      ⊎_elim (λ e. subst Good (sym e) h) (λ k. steps_good y b ys h c.1 x k) (cases_cons m)

  steps_end_good : (a b : A) (xs : List A) → Good a → Steps R a xs b → Good b
  steps_end_good a b [] g c = subst Good c g
  steps_end_good a b (y ∷ ys) g c = steps_end_good y b ys (stays a y g c.0) c.1

  pub chain_end_good : (a b : A) (xs : List A) → Good a → Chain R a b xs → Good b
  chain_end_good a b [] g c = absurd c
  chain_end_good a b (y ∷ ys) g c = steps_end_good y b ys (subst Good (sym c.0) g) c.1

  module _ {B : Type 0} (S : B → B → Type 0) (f : A → B) (keeps : (x y : A) → Good x → R x y → S (f x) (f y)) where
    steps_map : (a b : A) (xs : List A) → Good a → Steps R a xs b → Steps S (f a) (map f xs) (f b)
    steps_map a b [] g c = ap f c
    steps_map a b (y ∷ ys) g c = (keeps a y g c.0, steps_map y b ys (stays a y g c.0) c.1)

    pub chain_map : (a b : A) (xs : List A) → Good a → Chain R a b xs → Chain S (f a) (f b) (map f xs)
    chain_map a b [] g c = c
    chain_map a b (y ∷ ys) g c = (ap f c.0, steps_map y b ys (subst Good (sym c.0) g) c.1)

-- ---- edges

module _ {B : Type 0} (same : B → B → Bool) (children : B → List B) where
  -- the edges out of a board
  edges_from : List B → B → List (ℕ × ℕ)
  edges_from ss s = map (λ t. (number_in same ss s, number_in same ss t)) (children s)

  pub mem_edges : (ss : List B) (p c : ℕ) → Mem (p, c) (edges_of same children ss)
      → (s : B) × Mem s ss × ((t : B) × Mem t (children s) × (p ≡ number_in same ss s) × (c ≡ number_in same ss t))
  unfolding edges_of edges_from
  mem_edges ss p c m =
      let r = (mem_flat_map (edges_from ss) ss (p, c)).0 m in
      let q = of_map {B = ℕ × ℕ} (λ t. (number_in same ss r.0, number_in same ss t)) (children r.0) r.2 in
      (r.0, r.1, (q.0, q.1, ap (λ (x : ℕ × ℕ). x.0) (sym q.2), ap (λ (x : ℕ × ℕ). x.1) (sym q.2)))

  pub edge_mem : (ss : List B) (s t : B) → Mem s ss → Mem t (children s) → Mem (number_in same ss s, number_in same ss t) (edges_of same children ss)
  unfolding edges_of edges_from
  edge_mem ss s t m k =
      (mem_flat_map (edges_from ss) ss (number_in same ss s, number_in same ss t)).1
      (s, m, to_map {B = ℕ × ℕ} (λ t. (number_in same ss s, number_in same ss t)) k)

-- ---- the number of a board among the nodes

module _ {B : Type 0} (same : B → B → Bool) (tells : Tells same) where
  number_here : (s t : B) (ss : List B) → s ≡ t → number_in same (s ∷ ss) t ≡ 0
  unfolding number_in
  number_here s t ss e = rw ((tells s t).1 e)

  number_there : (s t : B) (ss : List B) → (s ≡ t → ⊥) → number_in same (s ∷ ss) t ≡ suc (number_in same ss t)
  unfolding number_in
  number_there s t ss n = rw (same_false same tells s t n)

  later : (s t : B) (ss : List B) → (s ≡ t → ⊥) → Mem t (s ∷ ss) → Mem t ss
  later s t ss n m = mem_rest s t [] ss (λ e. n (sym e)) m

  pub number_lt : (ss : List B) (t : B) → Mem t ss → number_in same ss t < length ss
  number_lt [] t m = absurd (not-nil m)
  number_lt (s ∷ ss) t m =
      ⊎_elim (λ e. omega (arith, number_here s t ss e)) (λ n. omega (arith, number_there s t ss n, number_lt ss t (later s t ss n m)))
      (same_cases same tells s t)

  pub get_d_number : (ss : List B) (t d : B) → Mem t ss → get_or ss (number_in same ss t) d ≡ t
  get_d_number [] t d m = absurd (not-nil m)
  get_d_number (s ∷ ss) t d m =
      ⊎_elim (λ e. ap (λ (k : ℕ). get_or (s ∷ ss) k d) (number_here s t ss e) ∙ e)
      (λ n. ap (λ (k : ℕ). get_or (s ∷ ss) k d) (number_there s t ss n) ∙ get_d_number ss t d (later s t ss n m)) (same_cases same tells s t)

  pub number_get_d : (ss : List B) (v : ℕ) (d : B) → Once ss → v < length ss → number_in same ss (get_or ss v d) ≡ v
  number_get_d [] v d o h = absurd (omega arith)
  number_get_d (s ∷ ss) zero d o h = number_here s s ss refl
  number_get_d (s ∷ ss) (suc v) d o h =
      let m = mem_get_d ss v d (omega arith) in
      number_there s (get_or ss v d) ss (λ e. o.0 (cast e m)) ∙ ap suc (number_get_d ss v d o.1 (omega arith))

  pub number_left : (ss ts : List B) (t : B) → Mem t ss → number_in same (ss ++ ts) t ≡ number_in same ss t
  number_left [] ts t m = absurd (not-nil m)
  number_left (s ∷ ss) ts t m =
      ⊎_elim (λ e. number_here s t (ss ++ ts) e ∙ sym (number_here s t ss e))
      (λ n. number_there s t (ss ++ ts) n ∙ ap suc (number_left ss ts t (later s t ss n m)) ∙ sym (number_there s t ss n))
      (same_cases same tells s t)

  pub number_right : (ss ts : List B) (t : B) → (Mem t ss → ⊥) → number_in same (ss ++ ts) t ≡ length ss + number_in same ts t
  number_right [] ts t n = sym (zero-add (number_in same ts t))
  number_right (s ∷ ss) ts t n =
      omega (arith, number_there s t (ss ++ ts) (λ e. n (here (sym e))), number_right ss ts t (λ m. n (there m)))

  -- numbers tell boards of the list apart
  number_inj : (ss : List B) (s t : B) → Mem s ss → Mem t ss → number_in same ss s ≡ number_in same ss t → s ≡ t
  number_inj ss s t m k e = sym (get_d_number ss s s m) ∙ ap (λ (v : ℕ). get_or ss v s) e ∙ get_d_number ss t s k

  eqb_number : (ss : List B) (s t : B) → Mem s ss → Mem t ss → eqb (number_in same ss s) (number_in same ss t) ≡ same s t
  eqb_number ss s t m k = so_eq (eqb (number_in same ss s) (number_in same ss t)) (same s t)
      (λ e. (tells s t).1 (number_inj ss s t m k ((eqb_tells (number_in same ss s) (number_in same ss t)).0 e)))
      (λ e. (eqb_tells (number_in same ss s) (number_in same ss t)).1 (ap (number_in same ss) ((tells s t).0 e)))

  -- an edge leads from a node's number to the number of a child of it
  pub edge_iff : (children : B → List B) (ss : List B) (d : B) → Once ss → ((s t : B) → Mem s ss → Mem t (children s) → Mem t ss) → (p c : ℕ)
      → Mem (p, c) (edges_of same children ss) ↔ ((p < length ss) × (c < length ss) × Mem (get_or ss c d) (children (get_or ss p d)))
  edge_iff children ss d once closed p c = (to, from)
    where
      to : Mem (p, c) (edges_of same children ss) → (p < length ss) × (c < length ss) × Mem (get_or ss c d) (children (get_or ss p d))
      to m =
          let r = mem_edges same children ss p c m in
          let x = r.2 in
          let k = closed r.0 x.0 r.1 x.1 in
          let parent : r.0 ≡ get_or ss p d = sym (ap (λ (v : ℕ). get_or ss v d) x.2 ∙ get_d_number ss r.0 d r.1) in
          let child : x.0 ≡ get_or ss c d = sym (ap (λ (v : ℕ). get_or ss v d) x.3 ∙ get_d_number ss x.0 d k) in (
            omega (arith, x.2, number_lt ss r.0 r.1),
            omega (arith, x.3, number_lt ss x.0 k),
            subst (λ (s : B). Mem (get_or ss c d) (children s)) parent (subst (λ (t : B). Mem t (children r.0)) child x.1),
          )

      from : (p < length ss) × (c < length ss) × Mem (get_or ss c d) (children (get_or ss p d)) → Mem (p, c) (edges_of same children ss)
      from h =
          subst (λ (e : ℕ × ℕ). Mem e (edges_of same children ss)) (ap₂ (λ (x y : ℕ). (x, y)) (number_get_d ss p d once h.0) (number_get_d ss c d once h.1))
          (edge_mem same children ss (get_or ss p d) (get_or ss c d) (mem_get_d ss p d h.0) h.2)

  -- ---- the count at a board's number

  pub count_number : (es : List (Entry B)) (e : Entry B) → Once (boards es) → Mem e es → get_or (counts es) (number_in same (boards es) e.0) 0 ≡ e.1
  count_number [] e o m = absurd (not-nil m)
  count_number (f ∷ es) e o m =
      ⊎_elim
      (λ q.
      ap (λ (v : ℕ). get_or (counts (f ∷ es)) v 0) (number_here f.0 e.0 (boards es) (ap (λ (x : Entry B). x.0) (sym q)))
      ∙ ap (λ (x : Entry B). x.1) (sym q))
      (λ k. ap (λ (v : ℕ). get_or (counts (f ∷ es)) v 0) (number_there f.0 e.0 (boards es) (λ q. o.0 (cast q (mem_boards es e k))))
      ∙ count_number es e o.1 k)
      (cases_cons m)

  -- ---- edges, each once

  module _ (children : B → List B) where
    -- where each child of each board stands once, and is a board of the list, each edge stands once
    pub once_edges : (ss : List B) → Once ss → ((s : B) → Mem s ss → Once (children s)) → ((s t : B) → Mem s ss → Mem t (children s) → Mem t ss)
        → Once (edges_of same children ss)
    unfolding edges_of edges_from
    once_edges ss o u closed = once_flat_map (edges_from same children ss) ss o
        (λ s m. once_map {B = ℕ × ℕ} (λ t. (number_in same ss s, number_in same ss t)) (children s)
        (λ t u k j e. number_inj ss t u (closed s t m k) (closed s u m j) (ap (λ (x : ℕ × ℕ). x.1) e)) (u s m))
        (λ s t e m k a b.
        let p = of_map {B = ℕ × ℕ} (λ u. (number_in same ss s, number_in same ss u)) (children s) a in
        let q = of_map {B = ℕ × ℕ} (λ u. (number_in same ss t, number_in same ss u)) (children t) b in
        number_inj ss s t m k (ap (λ (x : ℕ × ℕ). x.0) (p.2 ∙ sym q.2)))

    -- the counts over the edges into a board's node add up to the board's weight among the children of the list's boards
    pub sum_edges : (es : List (Entry B)) (t : B) → Once (boards es) → Mem t (boards es)
        → ((s u : B) → Mem s (boards es) → Mem u (children s) → Mem u (boards es))
        → sum_of (λ e. cond (eqb e.1 (number_in same (boards es) t)) (get_or (counts es) e.0 0) 0) (edges_of same children (boards es))
        ≡ weight same t (shares children es)
    unfolding edges_of edges_from weight shares
    sum_edges es t o m closed =
        sum_flat_map into (edges_from same children (boards es)) (boards es)
        ∙ sum_map (λ s. sum_of into (edges_from same children (boards es) s)) (λ e. e.0) es
        ∙ sum_ext (λ e. sum_of into (edges_from same children (boards es) e.0)) (λ e. sum_of at (map (λ c. (c, e.1)) (children e.0))) es each
        ∙ sym (sum_flat_map at (λ e. map (λ c. (c, e.1)) (children e.0)) es)
      where
        into : ℕ × ℕ → ℕ
        into e = cond (eqb e.1 (number_in same (boards es) t)) (get_or (counts es) e.0 0) 0

        at : Entry B → ℕ
        at e = cond (same e.0 t) e.1 0

        each : (e : Entry B) → Mem e es → sum_of into (edges_from same children (boards es) e.0) ≡ sum_of at (map (λ c. (c, e.1)) (children e.0))
        each e k =
            sum_map into (λ c. (number_in same (boards es) e.0, number_in same (boards es) c)) (children e.0)
            ∙ sum_ext (λ c. into (number_in same (boards es) e.0, number_in same (boards es) c)) (λ c. at (c, e.1)) (children e.0)
            (λ c j.
            let n = closed e.0 c (mem_boards es e k) j in
            ap₂ (λ (b : Bool) (n : ℕ). cond b n 0) (eqb_number (boards es) c t n m) (count_number es e o k))
            ∙ sym (sum_map at (λ c. (c, e.1)) (children e.0))
