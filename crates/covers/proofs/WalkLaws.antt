-- The walk by turns numbers the chains to a node: laws of `parents_of`, of `turn`, of chains taken apart at their last step, of `walk` and `node_list_to`.
-- Rests on `Counts` and `NumberingLaws`. Assumes nothing.
use Rattle.std.specs.Prelude.{◌≡◌, ◌⊎◌, ◌↔◌, Bool, true, false, cond, eqb, ltb}
use Rattle.std.proofs.Math.Path.{refl, sym, ap}
use Rattle.std.proofs.Common.{subst, ◌∙◌, inl, inr}
use Rattle.std.proofs.Math.Logic.{⊎_elim}
use mathlib.Core.List.Memᴰ.{append_cases}
use mathlib.Core.List.Memᴰ.{cases_cons}
use mathlib.Core.List.Memᴰ.{cast}
use mathlib.Core.List.Memᴰ.{head as here}
use mathlib.Core.List.Memᴰ.{not-nil}
use mathlib.Core.List.Memᴰ.{tail as there}
use mathlib.Core.List.{List, [], ◌∷◌, ◌++◌, append_cancel_right, Memᴰ as Mem}
use Prim.Native.Nat.{ℕ, zero, suc, ◌+◌, ◌-◌, ◌≤◌, ◌<◌}
use native.Mathlib.Omega.{arith}
use borrow.Author.Tests.{eqb-true, eqb-false, eq-eqb, ne_eqb, ltb-true, ltb-false, lt-ltb, le-ltb}
use Rattle.cells.specs.FirstsLaws.{Once}
use Rattle.covers.specs.Counts.{Numbering, Steps, Chain, sum_of, parents_of, turn, walk, node_list_to}
use Rattle.covers.specs.Setting.{SumRule}
use Rattle.covers.specs.Inner.{share}
use Rattle.covers.proofs.NumberingLaws.{carry, renumber}

-- ---- parents

module _ (count : ℕ → ℕ) (v : ℕ) (e : ℕ × ℕ) where
  pub share_same : v ≡ e.1 → share count v e ≡ count e.0
  unfolding share
  share_same q = rw (eq-eqb e.1 v (sym q))

  pub share_other : (v ≡ e.1 → ⊥) → share count v e ≡ 0
  unfolding share
  share_other n = rw (ne_eqb e.1 v (λ q. n (sym q)))

pub sum_parents_of : (count : ℕ → ℕ) (es : List (ℕ × ℕ)) (v : ℕ) → sum_of count (parents_of es v) ≡ sum_of (share count v) es
unfolding parents_of sum_of share
sum_parents_of count [] v = refl
sum_parents_of count (e ∷ es) v = go (eqb e.1 v) ∙ ap (λ (n : ℕ). cond (eqb e.1 v) (count e.0) 0 + n) (sum_parents_of count es v)
  where
    go : (b : Bool) → sum_of count (cond b (e.0 ∷ parents_of es v) (parents_of es v)) ≡ cond b (count e.0) 0 + sum_of count (parents_of es v)
    go true = refl
    go false = omega arith

pub mem_parents_of : (es : List (ℕ × ℕ)) (p v : ℕ) → Mem p (parents_of es v) ↔ Mem (p, v) es
unfolding parents_of
mem_parents_of [] p v = (λ m. absurd (not-nil m), λ m. absurd (not-nil m))
mem_parents_of (e ∷ es) p v = go (eqb e.1 v) refl (mem_parents_of es p v)
  where
    go : (b : Bool) → eqb e.1 v ≡ b → Mem p (parents_of es v) ↔ Mem (p, v) es
        → Mem p (cond b (e.0 ∷ parents_of es v) (parents_of es v)) ↔ Mem (p, v) (e ∷ es)
    go true t rest = (
      λ m. ⊎_elim (λ q. here (λ i. (q i, sym (eqb-true e.1 v t) i))) (λ k. there (rest.0 k)) (cases_cons m),
      λ m. ⊎_elim (λ q. here (ap (λ x. x.0) q)) (λ k. there (rest.1 k)) (cases_cons m),
    )
    go false t rest =
        (λ m. there (rest.0 m), λ m. ⊎_elim (λ q. absurd (eqb-false e.1 v t (sym (ap (λ x. x.1) q)))) (λ k. rest.1 k) (cases_cons m))

pub once_parents_of : (es : List (ℕ × ℕ)) (v : ℕ) → Once es → Once (parents_of es v)
unfolding parents_of
once_parents_of [] v o = tt
once_parents_of (e ∷ es) v o = go (eqb e.1 v) refl (once_parents_of es v o.1)
  where
    go : (b : Bool) → eqb e.1 v ≡ b → Once (parents_of es v) → Once (cond b (e.0 ∷ parents_of es v) (parents_of es v))
    go true t rest = (λ m. o.0 (cast (ap (λ x. (e.0, x)) (eqb-true e.1 v t)) ((mem_parents_of es e.0 v).0 m)), rest)
    go false t rest = rest

-- ---- turns

lt_or_le : (m n : ℕ) → (m < n) ⊎ (n ≤ m)
lt_or_le m n = go (ltb m n) refl
  where
    go : (b : Bool) → ltb m n ≡ b → (m < n) ⊎ (n ≤ m)
    go true e = inl (ltb-true m n e)
    go false e = inr (ltb-false m n e)

module _ (count : ℕ → ℕ) where
  -- the turn is passed, or it holds m
  pub turn_pass : (p : ℕ) (ps : List ℕ) (m : ℕ) → count p ≤ m → turn count (p ∷ ps) m ≡ turn count ps (m - count p)
  unfolding turn
  turn_pass p ps m h = rw (le-ltb m (count p) h)

  pub turn_hit : (p : ℕ) (ps : List ℕ) (m : ℕ) → m < count p → turn count (p ∷ ps) m ≡ (p, m)
  unfolding turn
  turn_hit p ps m h = rw (lt-ltb m (count p) h)

  -- a number below the sum gives one of ps and a number below its count, and each of these is given
  pub turn_in : (ps : List ℕ) (m : ℕ) → m < sum_of count ps → Mem (turn count ps m).0 ps × ((turn count ps m).1 < count (turn count ps m).0)
  unfolding sum_of
  turn_in [] m h = absurd (omega arith)
  turn_in (p ∷ ps) m h =
      ⊎_elim (λ k. rw (turn_hit p ps m k) (here refl, k))
      (λ k. let r = turn_in ps (m - count p) (omega arith) in rw (turn_pass p ps m k) (there r.0, r.1))
      (lt_or_le m (count p))

  pub turn_all : (ps : List ℕ) (p j : ℕ) → Mem p ps → j < count p → (m : ℕ) × (m < sum_of count ps) × (turn count ps m ≡ (p, j))
  unfolding sum_of
  turn_all [] p j m h = absurd (not-nil m)
  turn_all (q ∷ ps) p j m h =
      ⊎_elim (λ e. (j, omega (arith, ap count e), turn_hit q ps j (omega (arith, ap count e)) ∙ λ i. (sym e i, j)))
      (λ k.
      let r = turn_all ps p j k h in
      let l = r.1 in
      let less : count q + r.0 - count q ≡ r.0 = omega arith in
      (count q + r.0, omega arith, turn_pass q ps (count q + r.0) (omega arith) ∙ ap (turn count ps) less ∙ r.2))
      (cases_cons m)

  -- where each of ps stands once, two numbers never give the same
  turn_once : (ps : List ℕ) → Once ps → (m k : ℕ) → m < sum_of count ps → k < sum_of count ps → turn count ps m ≡ turn count ps k → m ≡ k
  unfolding sum_of
  turn_once [] o m k h l e = absurd (omega arith)
  turn_once (p ∷ ps) o m k h l e = go (lt_or_le m (count p)) (lt_or_le k (count p)) (turn_once ps o.1 (m - count p) (k - count p))
    where
      go : (m < count p) ⊎ (count p ≤ m) → (k < count p) ⊎ (count p ≤ k)
          → (m - count p < sum_of count ps → k - count p < sum_of count ps → turn count ps (m - count p) ≡ turn count ps (k - count p)
          → m - count p ≡ k - count p) → m ≡ k
      go (inl a) (inl b) rec = ap (λ x. x.1) (sym (turn_hit p ps m a) ∙ e ∙ turn_hit p ps k b)
      go (inl a) (inr b) rec =
          absurd (o.0 (cast (ap (λ x. x.0) (sym (turn_hit p ps m a) ∙ e ∙ turn_pass p ps k b)) (turn_in ps (k - count p) (omega arith)).0))
      go (inr a) (inl b) rec =
          absurd (o.0 (cast (ap (λ x. x.0) (sym (turn_hit p ps k b) ∙ sym e ∙ turn_pass p ps m a)) (turn_in ps (m - count p) (omega arith)).0))
      go (inr a) (inr b) rec = let r = rec (omega arith) (omega arith) (sym (turn_pass p ps m a) ∙ e ∙ turn_pass p ps k b) in omega arith

  turn_pairs : (ps : List ℕ) → Once ps → Numbering (λ (x : ℕ × ℕ). Mem x.0 ps × (x.1 < count x.0)) (sum_of count ps) (turn count ps)
  turn_pairs ps o = record {
    each = turn_in ps;
    once = turn_once ps o;
    all = λ x h. turn_all ps x.0 x.1 h.0 h.1;
  }

-- where the things of each p of ps are numbered by the numbers below its count, the turns number the pairs of a p and a thing of it
pub turn_numbers : {A : Type 0} (count : ℕ → ℕ) (Is : ℕ → A → Type 0) (f : ℕ → ℕ → A) (ps : List ℕ) → Once ps
    → ((p : ℕ) → Mem p ps → Numbering (Is p) (count p) (f p))
    → Numbering (λ (x : ℕ × A). Mem x.0 ps × Is x.0 x.1) (sum_of count ps)
    (λ m. ((turn count ps m).0, f (turn count ps m).0 (turn count ps m).1))
turn_numbers count Is f ps o F =
    carry (λ x. (x.0, f x.0 x.1)) (λ x h. (h.0, (F x.0 h.0).each x.1 h.1))
    (λ x y h i e.
    let p : x.0 ≡ y.0 = ap (λ z. z.0) e in
    let j : x.1 ≡ y.1 = (F x.0 h.0).once x.1 y.1 h.1 (rw p i.1) (ap (λ z. z.1) e ∙ ap (λ q. f q y.1) (sym p)) in
    λ t. (p t, j t))
    (λ b h. let r = (F b.0 h.0).all b.1 h.1 in ((b.0, r.0), (h.0, r.1), λ t. (b.0, r.2 t)))
    (turn_pairs count ps o)

-- ---- chains, taken apart at their last step

module _ {N : Type 0} (R : N → N → Type 0) where
  steps_snoc : (a p v : N) (xs : List N) → Steps R a xs p → R p v → Steps R a (xs ++ v ∷ []) v
  steps_snoc a p v [] s r = (subst (λ (x : N). R x v) (sym s) r, refl)
  steps_snoc a p v (x ∷ xs) s r = (s.0, steps_snoc x p v xs s.1 r)

  steps_last : (a x v : N) (xs : List N) → Steps R a (x ∷ xs) v → (p : N) × (ys : List N) × Steps R a ys p × R p v × (ys ++ v ∷ [] ≡ x ∷ xs)
  steps_last a x v [] s = (a, [], refl, subst (R a) s.1 s.0, ap (λ (y : N). y ∷ []) (sym s.1))
  steps_last a x v (y ∷ xs) s = let r = steps_last x y v xs s.1 in (r.0, x ∷ r.1, (s.0, r.2), r.3, ap (λ (l : List N). x ∷ l) r.4)

  steps_end : (a b c : N) (xs : List N) → Steps R a xs b → Steps R a xs c → b ≡ c
  steps_end a b c [] s t = sym s ∙ t
  steps_end a b c (x ∷ xs) s t = steps_end x b c xs s.1 t.1

  pub chain_snoc : (a p v : N) (xs : List N) → Chain R a p xs → R p v → Chain R a v (xs ++ v ∷ [])
  chain_snoc a p v [] s r = absurd s
  chain_snoc a p v (x ∷ xs) s r = (s.0, steps_snoc x p v xs s.1 r)

  -- a chain to another element is a chain to some p, a step from p, and v behind
  pub chain_last : (a v : N) (xs : List N) → (v ≡ a → ⊥) → Chain R a v xs → (p : N) × (ys : List N) × Chain R a p ys × R p v × (ys ++ v ∷ [] ≡ xs)
  chain_last a v [] ne s = absurd s
  chain_last a v (x ∷ []) ne s = absurd (ne (sym s.1 ∙ s.0))
  chain_last a v (x ∷ y ∷ xs) ne s = let r = steps_last x y v xs s.1 in (r.0, x ∷ r.1, (s.0, r.2), r.3, ap (λ (l : List N). x ∷ l) r.4)

  -- one list is a chain to one end
  pub chain_end : (a b c : N) (xs : List N) → Chain R a b xs → Chain R a c xs → b ≡ c
  chain_end a b c [] s t = absurd s
  chain_end a b c (x ∷ xs) s t = steps_end x b c xs s.1 t.1

-- ---- the chains from node 0 to v: those to the parents of v, with v behind

module _ (es : List (ℕ × ℕ)) where
  -- xs is a chain from node 0 to v
  abbrev Paths : ℕ → List ℕ → Type 0
  Paths v = Chain (λ p c. Mem (p, c) es) 0 v

  -- a parent of v and a chain to it
  abbrev ToParent : ℕ → ℕ × List ℕ → Type 0
  ToParent v x = Mem x.0 (parents_of es v) × Paths x.0 x.1

  longer : (v : ℕ) (x : ℕ × List ℕ) → ToParent v x → Paths v (x.1 ++ v ∷ [])
  longer v x h = chain_snoc (λ p c. Mem (p, c) es) 0 x.0 v x.1 h.1 ((mem_parents_of es x.0 v).0 h.0)

  longer_once : (v : ℕ) (x y : ℕ × List ℕ) → ToParent v x → ToParent v y → x.1 ++ v ∷ [] ≡ y.1 ++ v ∷ [] → x ≡ y
  longer_once v x y h i e =
      let c = append_cancel_right x.1 y.1 (v ∷ []) e in
      let p = chain_end (λ p c. Mem (p, c) es) 0 x.0 y.0 x.1 h.1 (subst (Paths y.0) (sym c) i.1) in
      λ t. (p t, c t)

  shorter : (v : ℕ) (xs : List ℕ) → Paths (suc v) xs → (x : ℕ × List ℕ) × ToParent (suc v) x × (x.1 ++ suc v ∷ [] ≡ xs)
  shorter v xs s =
      let r = chain_last (λ p c. Mem (p, c) es) 0 (suc v) xs (λ e. absurd (omega arith)) s in
      ((r.0, r.1), ((mem_parents_of es r.0 (suc v)).1 r.3, r.2), r.4)

-- ---- the walk

module _ (es : List (ℕ × ℕ)) (count : ℕ → ℕ) where
  -- the parent of v whose turn holds m, and what is left of m
  abbrev back : ℕ → ℕ → ℕ × ℕ
  back v m = turn count (parents_of es v) m

  pub walk_first : (k m : ℕ) → walk es count k 0 m ≡ 0 ∷ []
  unfolding walk
  walk_first zero m = refl
  walk_first (suc k) m = refl

  walk_next : (k v m : ℕ) → v < k → walk es count k (suc v) m ≡ walk es count (k - 1) (back (suc v) m).0 (back (suc v) m).1 ++ suc v ∷ []
  unfolding walk
  walk_next zero v m h = absurd (omega arith)
  walk_next (suc k) v m h = let less : suc k - 1 ≡ k = omega arith in rw (less, ne_eqb (suc v) 0 (λ e. absurd (omega arith)))

-- what is so of node 0, and of another node if it is so of all nodes before it, is so of all nodes below n
abbrev Next : ℕ → (ℕ → Type 0) → Type 0
Next n P = (v : ℕ) → suc v < n → ((p : ℕ) → p < suc v → P p) → P (suc v)

below : (n : ℕ) {P : ℕ → Type 0} → P 0 → Next n P → (v : ℕ) → v < n → P v
below n {P} first next v l = go n v l l
  where
    go : (k v : ℕ) → v < k → v < n → P v
    go zero v h l = absurd (omega arith)
    go (suc k) zero h l = first
    go (suc k) (suc v) h l = next v l (λ p i. go k p (omega arith) (omega arith))

module _ (n : ℕ) (es : List (ℕ × ℕ)) (count : ℕ → ℕ) (S : SumRule n es count) where
  lower : (v p : ℕ) → Mem p (parents_of es v) → p < v
  lower v p m = (S.rises p v ((mem_parents_of es p v).0 m)).0

  -- a number of another node gives a parent, which stands before it, and a number of the parent
  pub back_in : (v m : ℕ) → suc v < n → m < count (suc v)
      → let t = back es count (suc v) m in (t.0 < suc v) × (t.1 < count t.0) × Mem t.0 (parents_of es (suc v))
  back_in v m l h =
      let r = turn_in count (parents_of es (suc v)) m (omega (arith, S.sums (suc v) (omega arith) l)) in
      (lower (suc v) (back es count (suc v) m).0 r.0, r.1, r.0)

  -- v steps are enough, and more change nothing
  pub walk_enough : (k v m : ℕ) → v ≤ k → v < n → m < count v → walk es count k v m ≡ node_list_to es count v m
  unfolding node_list_to
  walk_enough k v m a l h = below n (λ k m a h. walk_first es count k m) next v l k m a h
    where
      next : Next n (λ v. (k m : ℕ) → v ≤ k → m < count v → walk es count k v m ≡ walk es count v v m)
      next v l rec k m a h =
          let t = back es count (suc v) m in
          let r = back_in v m l h in
          let less = r.0 in
          let enough : (i : ℕ) → v ≤ i → walk es count i t.0 t.1 ≡ walk es count t.0 t.0 t.1 =
          λ i b. rec t.0 less i t.1 (omega arith) r.1 in
          walk_next es count k v m a
          ∙ ap (λ (xs : List ℕ). xs ++ suc v ∷ []) (enough (k - 1) (omega arith) ∙ sym (enough (suc v - 1) (omega arith)))
          ∙ sym (walk_next es count (suc v) v m (omega arith))

  pub tiling_next : (v m : ℕ) → suc v < n → m < count (suc v)
      → node_list_to es count (suc v) m ≡ node_list_to es count (back es count (suc v) m).0 (back es count (suc v) m).1 ++ suc v ∷ []
  unfolding node_list_to
  tiling_next v m l h =
      let t = back es count (suc v) m in
      let r = back_in v m l h in
      let less = r.0 in
      walk_next es count (suc v) v m (omega arith)
      ∙ ap (λ (xs : List ℕ). xs ++ suc v ∷ []) (walk_enough (suc v - 1) t.0 t.1 (omega arith) (omega arith) r.1)

  -- ---- node 0: one chain, one number

  chain_first : (xs : List ℕ) → Paths es 0 xs → 0 ∷ [] ≡ xs
  chain_first [] s = absurd s
  chain_first (x ∷ []) s = ap (λ (y : ℕ). y ∷ []) (sym s.0)
  chain_first (x ∷ y ∷ xs) s = let r = steps_last (λ p c. Mem (p, c) es) x y 0 xs s.1 in absurd (omega (arith, (S.rises r.0 0 r.3).0))

  first_numbers : Numbering (Paths es 0) (count 0) (node_list_to es count 0)
  unfolding node_list_to
  first_numbers = record {
    each = λ m h. (refl, refl);
    once = λ m k h i e. omega (arith, S.first);
    all = λ xs s. (0, omega (arith, S.first), chain_first xs s);
  }

  -- ---- although an edge may stand twice: each number gives a chain, and each chain has a number

  pub tiling_chain : (v m : ℕ) → v < n → m < count v → Chain (λ p c. Mem (p, c) es) 0 v (node_list_to es count v m)
  tiling_chain v m l h = below n first_numbers.each next v l m h
    where
      next : Next n (λ v. (m : ℕ) → m < count v → Paths es v (node_list_to es count v m))
      next v l rec m h =
          let t = back es count (suc v) m in
          let r = back_in v m l h in
          subst (Paths es (suc v)) (sym (tiling_next v m l h))
          (longer es (suc v) (t.0, node_list_to es count t.0 t.1) (r.2, rec t.0 r.0 t.1 r.1))

  pub chain_tiling : (v : ℕ) → v < n → (xs : List ℕ) → Chain (λ p c. Mem (p, c) es) 0 v xs → (m : ℕ) × (m < count v) × (node_list_to es count v m ≡ xs)
  chain_tiling = below n first_numbers.all next
    where
      next : Next n (λ v. (xs : List ℕ) → Paths es v xs → (m : ℕ) × (m < count v) × (node_list_to es count v m ≡ xs))
      next v l rec xs s =
          let c = shorter es v xs s in
          let r = rec c.0.0 (lower (suc v) c.0.0 c.1.0) c.0.1 c.1.1 in
          let t = turn_all count (parents_of es (suc v)) c.0.0 r.0 c.1.0 r.1 in
          let h : t.0 < count (suc v) = omega (arith, t.1, S.sums (suc v) (omega arith) l) in
          let same = ap (λ (x : ℕ × ℕ). node_list_to es count x.0 x.1) t.2 ∙ r.2 in
          (t.0, h, tiling_next v t.0 l h ∙ ap (λ (ys : List ℕ). ys ++ suc v ∷ []) same ∙ c.2)

  -- each node of a tiling is one of the n
  pub tiling_below : (v m : ℕ) → v < n → m < count v → (u : ℕ) → Mem u (node_list_to es count v m) → u < n
  unfolding node_list_to
  tiling_below v m l h = below n first next v l m h
    where
      first : (m : ℕ) → m < count 0 → (u : ℕ) → Mem u (node_list_to es count 0 m) → u < n
      first m h u i = ⊎_elim (λ e. omega arith) (λ k. absurd (not-nil k)) (cases_cons i)

      next : Next n (λ v. (m : ℕ) → m < count v → (u : ℕ) → Mem u (node_list_to es count v m) → u < n)
      next v l rec m h u i =
          let t = back es count (suc v) m in
          let r = back_in v m l h in
          ⊎_elim (λ k. rec t.0 r.0 t.1 r.1 u k) (λ k. ⊎_elim (λ e. omega arith) (λ z. absurd (not-nil z)) (cases_cons k))
          (append_cases (node_list_to es count t.0 t.1) (subst (Mem u) (tiling_next v m l h) i))

  -- ---- where each edge stands once, the tilings by number are the chains, each once

  pub tiling_numbers : Once es → (v : ℕ) → v < n → Numbering (Chain (λ p c. Mem (p, c) es) 0 v) (count v) (node_list_to es count v)
  tiling_numbers o = below n first_numbers next
    where
      next : Next n (λ v. Numbering (Paths es v) (count v) (node_list_to es count v))
      next v l rec =
          renumber (sym (S.sums (suc v) (omega arith) l)) (λ m h. tiling_next v m l h)
          (carry (λ x. x.1 ++ suc v ∷ []) (longer es (suc v)) (longer_once es (suc v)) (shorter es v)
          (turn_numbers count (Paths es) (node_list_to es count) (parents_of es (suc v)) (once_parents_of es (suc v) o) (λ p m. rec p (lower (suc v) p m))))
