-- What the functions of the check behind refusal 11 come to. Rests on `Tilings`, `TilingLaws`, and laws of `cells` and `covers`. Assumes nothing.
use mathlib.Core.Path.{◌≡◌, refl, sym, ap, ◌∙◌, subst}
use mathlib.Core.Bool.{Bool, true, false, not, ◌||◌}
use mathlib.Core.List.{List, [], ◌∷◌}
use Prim.Native.Nat.{ℕ, zero, suc, ◌+◌, ◌*◌, ◌≤◌, ◌<◌}
use native.Mathlib.Decide.{ℕ_discrete}
use native.Mathlib.Numerals.{add-one}
use native.Mathlib.Omega.{arith}
use borrow.Author.Tests.{lt-ltb, le-ltb, le-leb, lt-leb, eq-eqb, ne_eqb}
use lib.Dec.{eqb, leb}
use lib.ListN.{length}
use Rattle.cells.specs.Lists.{any, list_from, list_of}
use Rattle.cells.specs.ArrayLaws.{list_of_snoc}
use Rattle.covers.specs.Counts.{sum_of}
use Rattle.covers.proofs.SumLaws.{sum_append}
use Rattle.covers.specs.Inner.{share}
use Rattle.covers.proofs.WalkLaws.{share_same, share_other, sum_parents_of}
use Rattle.path_count.specs.PathCounts.{count_limit, count_in}
use Rattle.graph.specs.declared.GraphResult.{GraphResult}
use Rattle.graph.specs.Graph.{node_room, edge_room, edge_at}
use Rattle.graph.proofs.RoomLaws.{edge_room_lem}
use Rattle.graph.proofs.GraphLaws.{edges_in_lent}
use Rattle.numbered_tilings.specs.Tilings.{is_past, bad_edge, sound_count, bad_count, bad_graph}
use Rattle.numbered_tilings.proofs.TilingLaws.{sound_later}

-- ---- one edge, its parent and child read

module _ (e : ℕ × ℕ) (p c : ℕ) (at_p : p ≡ e.0) (at_c : c ≡ e.1) where
  pub falling_edge : (n : ℕ) → c ≤ p → true ≡ bad_edge n e
  unfolding bad_edge
  falling_edge n h = rw (le-leb e.1 e.0 (omega arith))

  pub rising_edge : (n : ℕ) → p < c → leb n c ≡ bad_edge n e
  unfolding bad_edge
  rising_edge n h = rw (lt-leb e.1 e.0 (omega arith), ← at_c)

  pub share_here : (count : ℕ → ℕ) (v r : ℕ) → c ≡ v → r ≡ count p → r ≡ share count v e
  share_here count v r h q = q ∙ ap count at_p ∙ sym (share_same count v e (sym h ∙ at_c))

  pub share_elsewhere : (count : ℕ → ℕ) (v : ℕ) → (c ≡ v → ⊥) → 0 ≡ share count v e
  share_elsewhere count v n = sym (share_other count v e (λ q. n (at_c ∙ sym q)))

-- ---- the sum of what the edges add

module _ {A : Type 0} (f : A → ℕ) (g : ℕ → A) where
  sum_more : (i : ℕ) → sum_of f (list_of g (i + 1)) ≡ sum_of f (list_of g i) + f (g i)
  unfolding sum_of
  sum_more i =
      let one : sum_of f (g i ∷ []) ≡ f (g i) = omega arith in
      ap (sum_of f) (list_of_snoc g i) ∙ sum_append f (list_of g i) (g i ∷ []) ∙ ap (λ (k : ℕ). sum_of f (list_of g i) + k) one

  -- more elements, no smaller sum
  sum_grows : (i n : ℕ) → i ≤ n → sum_of f (list_of g i) ≤ sum_of f (list_of g n)
  sum_grows i zero h = let e : i ≡ 0 = omega arith in rw e (omega arith)
  sum_grows i (suc n) h = go (ℕ_discrete i (suc n)) (sum_grows i n)
    where
      go : Dec (i ≡ suc n) → (i ≤ n → sum_of f (list_of g i) ≤ sum_of f (list_of g n)) → sum_of f (list_of g i) ≤ sum_of f (list_of g (suc n))
      go (yes e) less = rw e (omega arith)
      go (no e) less = let l = less (omega arith) in rw (← add-one n) (omega (arith, sum_more n))

module _ (counts edges : List ℕ) (v : ℕ) where
  -- what the first i edges add to the count of node v
  abbrev pub sum_to : ℕ → ℕ
  sum_to i = sum_of (share (count_in counts) v) (list_of (edge_at edges) i)

  pub sum_none : 0 ≡ sum_to 0
  unfolding sum_of list_of list_from
  sum_none = refl

  -- a node's count is bad if it is not the sum
  bad_sum : (count : ℕ) → 1 ≤ v → bad_count (list_of (edge_at edges) count) (count_in counts) v ≡ not (eqb (count_in counts v) (sum_to count))
  unfolding bad_count
  bad_sum count h =
      ap (λ (k : ℕ). not (eqb (count_in counts v) k))
      (sound_later (list_of (edge_at edges) count) (count_in counts) v h ∙ sum_parents_of (count_in counts) (list_of (edge_at edges) count) v)

  pub sum_told : (count i sum r : ℕ) → 1 ≤ v → sum ≡ sum_to i → i ≤ count → count ≤ i → r ≡ count_in counts v → (t : Bool) → t ≡ eqb r sum
      → not t ≡ bad_count (list_of (edge_at edges) count) (count_in counts) v
  sum_told count i sum r h e a b q t f =
      let all : i ≡ count = omega arith in
      rw (f, q, e, all) (sym (bad_sum count h))

  -- one edge more is added
  module _ (i sum s : ℕ) (e : sum ≡ sum_to i) (f : s ≡ share (count_in counts) v (edge_at edges i)) where
    pub sum_added : (next : ℕ) → next ≡ sum + s → next ≡ sum_to (i + 1)
    sum_added next g = let more = sum_more (share (count_in counts) v) (edge_at edges) i in omega arith

    -- a sum that is too large is no count's
    pub sum_passes : (r : ℕ) → r ≡ count_in counts v → r < count_limit → (count : ℕ) → 1 ≤ v → i < count → count_limit ≤ sum + s
        → true ≡ bad_count (list_of (edge_at edges) count) (count_in counts) v
    sum_passes r q fits count h k w =
        let more = sum_more (share (count_in counts) v) (edge_at edges) i in
        let grows = sum_grows (share (count_in counts) v) (edge_at edges) (i + 1) count (omega arith) in
        sym (bad_sum count h ∙ ap not (ne_eqb (count_in counts v) (sum_to count) (λ d. omega arith)))

-- ---- the first node

pub first_told : (es : List (ℕ × ℕ)) (count : ℕ → ℕ) (v r one : ℕ) → v ≡ 0 → r ≡ count v → one ≡ 1 → (t : Bool) → t ≡ eqb r one → not t ≡ bad_count es count v
unfolding bad_count sound_count
first_told es count v r one e q o t f = rw (f, q, e, o)

-- ---- the whole graph: the causes in order, each where those before it do not stand

pub edges_lent_lem : (words count room : ℕ) → room ≡ edge_room words → count ≤ room → 2 * count ≤ words
edges_lent_lem words count room e h = edge_room_lem count words (subst (λ (k : ℕ). count ≤ k) e h)

module _ (r : GraphResult) (nodes : ℕ) (counts edges : List ℕ) where
  pub no_nodes_lem : r.nodes ≡ 0 → true ≡ bad_graph r nodes counts edges
  unfolding bad_graph
  no_nodes_lem e = rw (eq-eqb r.nodes 0 e)

  module _ (some : r.nodes ≡ 0 → ⊥) (room : ℕ) (is-room : room ≡ node_room nodes (length counts)) where
    pub nodes_pass_lem : room < r.nodes → true ≡ bad_graph r nodes counts edges
    unfolding bad_graph
    nodes_pass_lem h = rw (ne_eqb r.nodes 0 some, lt-ltb (node_room nodes (length counts)) r.nodes (omega arith))

    module _ (lent : r.nodes ≤ room) (edges_room : ℕ) (is-edges-room : edges_room ≡ edge_room (length edges)) where
      pub edges_pass_lem : edges_room < r.edges → true ≡ bad_graph r nodes counts edges
      unfolding bad_graph
      edges_pass_lem h =
          rw (
            ne_eqb r.nodes 0 some,
            le-ltb (node_room nodes (length counts)) r.nodes (omega arith),
            lt-ltb (edge_room (length edges)) r.edges (omega arith),
          )

      module _ (within : r.edges ≤ edges_room) where
        -- the edges that the result tells are lent, so three causes are left
        causes_left : bad_graph r nodes counts edges
            ≡ (is_past r.nodes r.complete
            || any (bad_edge r.nodes) (list_of (edge_at edges) r.edges)
            || any (bad_count (list_of (edge_at edges) r.edges) (count_in counts)) (list_of (λ v. v) r.nodes))
        unfolding bad_graph
        causes_left =
            rw (
              ne_eqb r.nodes 0 some,
              le-ltb (node_room nodes (length counts)) r.nodes (omega arith),
              le-ltb (edge_room (length edges)) r.edges (omega arith),
              edges_in_lent edges r.edges (edges_lent_lem (length edges) r.edges edges_room is-edges-room within),
            )

        pub full_past_lem : is_past r.nodes r.complete ≡ true → true ≡ bad_graph r nodes counts edges
        full_past_lem e = sym (causes_left ∙ rw e)

        module _ (below : is_past r.nodes r.complete ≡ false) where
          pub edge_bad : any (bad_edge r.nodes) (list_of (edge_at edges) r.edges) ≡ true → true ≡ bad_graph r nodes counts edges
          edge_bad e = sym (causes_left ∙ rw (below, e))

          pub counts_told : any (bad_edge r.nodes) (list_of (edge_at edges) r.edges) ≡ false → (b : Bool)
              → b ≡ any (bad_count (list_of (edge_at edges) r.edges) (count_in counts)) (list_of (λ v. v) r.nodes) → b ≡ bad_graph r nodes counts edges
          counts_told e b q = q ∙ sym (causes_left ∙ rw (below, e))
