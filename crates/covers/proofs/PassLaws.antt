-- Laws of path counts worked in one pass over the edges: the count of a node when the first j edges have been passed, where each edge adds the count
-- of its parent to the count of its child. Edges stand in the order of their parents, and parents before children, so that the count of an edge's
-- parent is complete when the edge is passed. Rests on `GraphLaws` and `FindingLaws`. Assumes nothing.
use Rattle.std.specs.Prelude.{◌≡◌, refl, Bool, true, false, ℕ, zero, suc, ◌+◌, ◌≤◌, ◌<◌, eqb, length, get_or, take, drop}
use Rattle.std.proofs.Common.{sym, subst, ◌∙◌, ⊎_elim, eqb-true, ne_eqb, take-append-drop, take_all, take-suc}
use Rattle.std.proofs.Math.Path.{ap}
use Rattle.std.proofs.Math.Bool.{cond}
use mathlib.Core.List.Memᴰ.{append_cases}
use mathlib.Core.List.Memᴰ.{append_right}
use mathlib.Core.List.Memᴰ.{cases_cons}
use mathlib.Core.List.Memᴰ.{head as here}
use mathlib.Core.List.Memᴰ.{not-nil}
use mathlib.Core.List.Memᴰ.{of_map}
use mathlib.Core.List.Memᴰ.{tail as there}
use mathlib.Core.List.{List, [], ◌∷◌, ◌++◌, map, Memᴰ as Mem}
use Rattle.std.proofs.Math.Decide.{dec_lt}
use native.Mathlib.Omega.{arith}
use Rattle.std.proofs.lemmas.Bool.{eqb-false}
use Rattle.std.proofs.lemmas.List.{length-map}
use Rattle.std.proofs.Math.ListN.{get_or-eq_default}
use Rattle.cells.specs.FirstsLaws.{mem_get_d}
use Rattle.covers.specs.Setting.{Setting, child_boards, Laws, EqualSteps, entries_of, nodes_of, path_count_of, graph_edges}
use Rattle.covers.specs.Counts.{Entry, counts, sum_of, parents_of, number_in}
use Rattle.covers.proofs.SumLaws.{sum_append, sum_zero}
use Rattle.covers.specs.Inner.{share}
use Rattle.covers.proofs.WalkLaws.{share_same, share_other, sum_parents_of, mem_parents_of}
use Rattle.covers.proofs.GraphLaws.{edge_rises, sum_rule}
use Rattle.covers.proofs.FindingLaws.{edges_at, edges_zero, edges_suc, edges_all}

-- ---- edges in the order of their parents

-- no edge has a parent below the parent of an edge before it
abbrev Sorted : List (ℕ × ℕ) → Type 0
Sorted [] = Unit {0}
Sorted (e ∷ es) = ((x : ℕ × ℕ) → Mem x es → e.0 ≤ x.0) × Sorted es

-- edges out of parents up to p, and edges out of p behind them
sorted_append : (p : ℕ) (es ds : List (ℕ × ℕ)) → Sorted es → ((x : ℕ × ℕ) → Mem x es → x.0 ≤ p) → ((x : ℕ × ℕ) → Mem x ds → x.0 ≡ p)
    → Sorted (es ++ ds)
sorted_append p [] [] o l q = tt
sorted_append p [] (d ∷ ds) o l q =
    (λ x m. omega (arith, q d (here refl), q x (there m)), sorted_append p [] ds tt (λ x m. absurd (not-nil m)) (λ x m. q x (there m)))
sorted_append p (e ∷ es) ds o l q = (
  λ x m. ⊎_elim (λ k. o.0 x k) (λ k. omega (arith, l e (here refl), q x k)) (append_cases es m),
  sorted_append p es ds o.1 (λ x m. l x (there m)) q,
)

-- an edge and those behind it have no parent below its own
sorted_drop : (es : List (ℕ × ℕ)) (j : ℕ) → Sorted es → j < length es → (x : ℕ × ℕ) → Mem x (drop j es) → (get_or es j (0, 0)).0 ≤ x.0
sorted_drop [] j o h x m = absurd (omega arith)
sorted_drop (e ∷ es) zero o h x m = ⊎_elim (λ q. omega (arith, ap (λ (y : ℕ × ℕ). y.0) q)) (λ k. o.0 x k) (cases_cons m)
sorted_drop (e ∷ es) (suc j) o h x m = sorted_drop es j o.1 (omega arith) x m

-- ---- one pass over the edges

module _ {B P : Type 0} (G : Setting B P) (s : B) where
  -- the count of node v when the first j edges have been passed
  unfoldable pub passed : ℕ → ℕ → ℕ
  unfolding sum_of parents_of
  passed j v = cond (eqb v 0) 1 0 + sum_of (path_count_of G s) (parents_of (take j (graph_edges G s)) v)

  passed_shares : (j v : ℕ) → passed j v ≡ cond (eqb v 0) 1 0 + sum_of (share (path_count_of G s) v) (take j (graph_edges G s))
  unfolding passed
  passed_shares j v = ap (λ (n : ℕ). cond (eqb v 0) 1 0 + n) (sum_parents_of (path_count_of G s) (take j (graph_edges G s)) v)

module _ {B P : Type 0} (G : Setting B P) (L : Laws G) (a : ℕ) (E : EqualSteps G a) (s : B) (ok : G.Ok s) where
  abbrev nodes : List B
  nodes = nodes_of G s

  abbrev edges : List (ℕ × ℕ)
  edges = graph_edges G s

  abbrev count : ℕ → ℕ
  count = path_count_of G s

  abbrev edge : ℕ → ℕ × ℕ
  edge j = get_or edges j (0, 0)

  pub passed_zero : (v : ℕ) → passed G s 0 v ≡ cond (eqb v 0) 1 0
  unfolding passed
  passed_zero v = omega arith

  -- an edge goes up, to a node
  pub edge_in : (j : ℕ) → j < length edges → ((get_or edges j (0, 0)).0 < (get_or edges j (0, 0)).1) × ((get_or edges j (0, 0)).1 < length nodes)
  edge_in j h = edge_rises G L a E s ok (edge j).0 (edge j).1 (mem_get_d edges j (0, 0) h)

  -- ---- the order of the edges

  sorted_at : (i : ℕ) → i ≤ length nodes → Sorted (edges_at G s i) × ((x : ℕ × ℕ) → Mem x (edges_at G s i) → x.0 < i)
  sorted_at zero h = (
    subst Sorted (sym (edges_zero G L a E s ok)) tt,
    λ x m. absurd (not-nil (subst (Mem x) (edges_zero G L a E s ok) m)),
  )
  sorted_at (suc i) h =
      let r = sorted_at i (omega arith) in
      let q = edges_suc G L a E s ok i (omega arith) in (
        subst Sorted (sym q) (sorted_append i (edges_at G s i) new r.0 (λ x m. omega (arith, r.1 x m)) parent),
        λ x m. ⊎_elim (λ k. omega (arith, r.1 x k)) (λ k. omega (arith, parent x k)) (append_cases (edges_at G s i) (subst (Mem x) q m)),
      )
    where
      new : List (ℕ × ℕ)
      new = map (λ c. (i, number_in G.same_board nodes c)) (child_boards G (get_or nodes i s))

      parent : (x : ℕ × ℕ) → Mem x new → x.0 ≡ i
      parent x m =
          let r = of_map {B = ℕ × ℕ} (λ c. (i, number_in G.same_board nodes c)) (child_boards G (get_or nodes i s)) m in
          ap (λ (y : ℕ × ℕ). y.0) (sym r.2)

  sorted_edges : Sorted edges
  sorted_edges = subst Sorted (edges_all G L a E s ok (length nodes) (omega arith)) (sorted_at (length nodes) (omega arith)).0

  -- ---- all edges passed

  -- a node that no edge goes into
  no_parents : (v : ℕ) → ((p : ℕ) → Mem (p, v) edges → ⊥) → sum_of count (parents_of edges v) ≡ 0
  no_parents v n = sum_zero count (parents_of edges v) (λ p m. absurd (n p ((mem_parents_of edges p v).0 m)))

  -- node 0 has count 1, and any other number the sum of its parents' counts, which is 0 where there is no such node
  count_all : (v : ℕ) → cond (eqb v 0) 1 0 + sum_of count (parents_of edges v) ≡ count v
  count_all zero = omega (arith, (sum_rule G L a E s ok).first, no_parents 0 (λ p m. omega (arith, (edge_rises G L a E s ok p 0 m).0)))
  count_all (suc v) = go (dec_lt (suc v) (length nodes))
    where
      other : cond {A = ℕ} (eqb (suc v) 0) 1 0 ≡ 0
      other = rw (ne_eqb (suc v) 0 (λ q. omega arith))

      go : Dec (suc v < length nodes) → cond (eqb (suc v) 0) 1 0 + sum_of count (parents_of edges (suc v)) ≡ count (suc v)
      go (yes h) = omega (arith, other, (sum_rule G L a E s ok).sums (suc v) (omega arith) h)
      go (no h) =
          omega (
            arith,
            other,
            get_or-eq_default (counts (entries_of G s)) 0 {n = suc v}
                (omega (arith, length-map (entries_of G s) (λ (e : Entry B). e.0), length-map (entries_of G s) (λ (e : Entry B). e.1))),
            no_parents (suc v) (λ p m. omega (arith, (edge_rises G L a E s ok p (suc v) m).1)),
          )

  pub passed_all : (j v : ℕ) → length edges ≤ j → passed G s j v ≡ count v
  unfolding passed
  passed_all j v h = ap (λ (es : List (ℕ × ℕ)). cond (eqb v 0) 1 0 + sum_of count (parents_of es v)) (take_all j edges h) ∙ count_all v

  -- the edges passed and those to come
  passed_rest : (j v : ℕ) → passed G s j v + sum_of (share count v) (drop j edges) ≡ count v
  passed_rest j v =
      omega (
        arith,
        passed_all (length edges) v (omega arith),
        passed_shares G s (length edges) v,
        passed_shares G s j v,
        ap (sum_of (share count v)) (take_all (length edges) edges (omega arith)),
        ap (sum_of (share count v)) (take-append-drop j edges),
        sum_append (share count v) (take j edges) (drop j edges),
      )

  pub passed_le : (j v : ℕ) → passed G s j v ≤ count v
  passed_le j v = omega (arith, passed_rest j v)

  -- ---- one edge more

  -- the count of the edge's parent is complete: no edge from here on goes into it
  passed_parent : (j : ℕ) → j < length edges → passed G s j (edge j).0 ≡ count (edge j).0
  passed_parent j h =
      omega (
        arith,
        passed_rest j (edge j).0,
        sum_zero (share count (edge j).0) (drop j edges) (λ x m. share_other count (edge j).0 x (later x m)),
      )
    where
      later : (x : ℕ × ℕ) → Mem x (drop j edges) → (edge j).0 ≡ x.1 → ⊥
      later x m q =
          let k : Mem x edges = subst (Mem x) (take-append-drop j edges) (append_right (take j edges) m) in
          omega (arith, sorted_drop edges j sorted_edges h x m, (edge_rises G L a E s ok x.0 x.1 k).0)

  passed_next : (j v : ℕ) → j < length edges → passed G s (suc j) v ≡ passed G s j v + share count v (edge j)
  unfolding sum_of
  passed_next j v h =
      omega (
        arith,
        passed_shares G s (suc j) v,
        passed_shares G s j v,
        ap (sum_of (share count v)) (take-suc edges j (0, 0) h),
        sum_append (share count v) (take j edges) (edge j ∷ []),
      )

  -- each edge adds the count of its parent, as it stands, to the count of its child
  pub passed_suc : (j v : ℕ) → j < length edges
      → passed G s (suc j) v
      ≡ cond (eqb v (get_or edges j (0, 0)).1) (passed G s j v + passed G s j (get_or edges j (0, 0)).0) (passed G s j v)
  passed_suc j v h = go (eqb v (edge j).1) refl
    where
      go : (b : Bool) → eqb v (edge j).1 ≡ b → passed G s (suc j) v ≡ cond b (passed G s j v + passed G s j (edge j).0) (passed G s j v)
      go true q = omega (arith, passed_next j v h, share_same count v (edge j) (eqb-true v (edge j).1 q), passed_parent j h)
      go false q = omega (arith, passed_next j v h, share_other count v (edge j) (eqb-false v (edge j).1 q))
