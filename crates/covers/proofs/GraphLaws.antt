-- Laws of the graph of a setting where every piece takes equally many free cells: its nodes are in the order of first finding; a child of a node has
-- a higher number; node 0 has count 1, and every other node's count is the sum of its parents' counts over the edges into it; the tilings by
-- number to a node number the child sequences to its board. So a path count is the number of child sequences that reach the board.
-- Rests on `SettingLaws` and `WalkLaws`. Assumes nothing.
use Rattle.std.specs.Prelude.{◌≡◌, Bool, ℕ, suc, ◌<◌, length, get_or}
use Rattle.std.proofs.Math.Path.{sym, ap, subst}
use Rattle.std.proofs.Common.{◌∙◌}
use mathlib.Core.List.Memᴰ.{cast}
use mathlib.Core.List.{List, ◌∷◌, ◌++◌, map, flat_map, append-nil, Memᴰ as Mem}
use native.Mathlib.Omega.{arith}
use Rattle.cells.specs.FirstsLaws.{Once, mem_get_d, Tells}
use Rattle.cells.specs.Lists.{firsts}
use Rattle.cells.specs.MemberLaws.{map_back}
use Rattle.covers.specs.Counts.{Numbering, Exactly, Chain, ChildSequence, Entry, boards, sum_of, weight, layers, number_in, parents_of, node_list_to}
use Rattle.covers.specs.Setting.{Setting, child_boards, Laws, EqualSteps, SumRule, layer_of, nodes_of, path_count_of, graph_edges}
use Rattle.covers.proofs.NumberingLaws.{carry}
use Rattle.covers.proofs.NodeLaws.{chain_good, chain_map, number_lt, get_d_number, number_get_d, count_number, mem_edges, edge_mem, once_edges, sum_edges}
use Rattle.covers.proofs.GatherLaws.{mem_boards, mem_entry, weight_entry, weight_none}
use Rattle.covers.proofs.LayerLaws.{shares_layers, mem_layer, boards_suc, layer_entry, start_layer}
use Rattle.covers.proofs.ChildLaws.{child_once}
use Rattle.covers.specs.Inner.{share}
use Rattle.covers.proofs.WalkLaws.{sum_parents_of, tiling_numbers}
use Rattle.covers.proofs.SettingLaws.{node_layer, layer_fewer, layer_empty, layer_node, node_ok, child_node, start_node, start_mem, some_node, first_count, once_layers, found_layers, number_layers}

module _ {B P : Type 0} (G : Setting B P) (L : Laws G) (a : ℕ) (E : EqualSteps G a) (s : B) (ok : G.Ok s) where
  abbrev same : B → B → Bool
  same = G.same_board

  abbrev tells : Tells G.same_board
  tells = L.board_eq

  abbrev children : B → List B
  children = child_boards G

  abbrev at : ℕ → List (Entry B)
  at = layer_of G s

  abbrev up_to : ℕ → List (Entry B)
  up_to n = layers G.same_board (child_boards G) s n

  abbrev nodes : List B
  nodes = nodes_of G s

  abbrev edges : List (ℕ × ℕ)
  edges = graph_edges G s

  abbrev count : ℕ → ℕ
  count = path_count_of G s

  abbrev top : ℕ
  top = G.free_count s

  abbrev number : B → ℕ
  number = number_in same nodes

  abbrev node : ℕ → B
  node v = get_or nodes v s

  abbrev Edge : ℕ → ℕ → Type 0
  Edge p c = Mem (p, c) edges

  abbrev Child : B → B → Type 0
  Child t u = Mem u (children t)

  pub once_nodes : Once nodes
  once_nodes = once_layers G L a E s ok top

  -- "Nodes are numbered by first finding: 0 the board, parents in number order, children in order"
  pub nodes_found : nodes ≡ firsts same (s ∷ flat_map children nodes)
  nodes_found =
      sym (append-nil nodes)
      ∙ ap (λ (es : List (Entry B)). nodes ++ boards es) (sym (layer_empty G L s ok (suc top) (omega arith)))
      ∙ sym (boards_suc same children s top) ∙ sym (found_layers G L a E s ok top)

  pub entry_count : (j : ℕ) (e : Entry B) → Mem e (at j) → count (number e.0) ≡ e.1
  entry_count j e m = count_number same tells (up_to top) e once_nodes
      (layer_entry same children s top j e (omega (arith, layer_fewer G L s ok j e.0 (mem_boards (at j) e m))) m)

  -- parents stand before children
  pub edge_rises : (p c : ℕ) → Mem (p, c) edges → (p < c) × (c < length nodes)
  edge_rises p c m =
      let r = mem_edges same children nodes p c m in
      let x = r.2 in
      let j = node_layer G L s ok r.0 r.1 in
      let u = (mem_layer same tells children s j.0 x.0).1 (r.0, j.2, x.1) in
      let h = layer_fewer G L s ok (suc j.0) x.0 u in (
        omega (arith, x.2, x.3, number_layers G L a E s ok top j.0 (suc j.0) r.0 x.0 (omega arith) (omega arith) j.2 u),
        omega (arith, x.3, number_lt same tells nodes x.0 (layer_node G L s ok (suc j.0) x.0 u)),
      )

  pub once_graph : Once edges
  once_graph = once_edges same tells children nodes once_nodes (λ t m. child_once G L t (node_ok G L s ok t m)) (child_node G L s ok)

  -- behind the last layer nothing is left
  weight_last : (t : B) → weight same t (up_to (suc top)) ≡ weight same t (up_to top)
  unfolding layers
  weight_last t =
      ap (λ (es : List (Entry B)). weight same t (up_to top ++ es)) (layer_empty G L s ok (suc top) (omega arith))
      ∙ ap (weight same t) (append-nil (up_to top))

  node_sums : (v : ℕ) → 0 < v → v < length nodes → count v ≡ sum_of count (parents_of edges v)
  unfolding share
  node_sums v h k =
      let m = mem_get_d nodes v s k in
      let e = mem_entry (up_to top) (node v) m in
      let n = number_get_d same tells nodes v s once_nodes k in
      let z = number_get_d same tells nodes 0 s once_nodes (some_node G L s ok) in
      let start : Mem (node v) (boards (at 0)) → ⊥ =
      λ i. omega (arith, ap number (start_layer same children s (node v) i ∙ sym (start_node G L s ok))) in
      subst (λ (w : ℕ). count w ≡ sum_of count (parents_of edges w)) n
      (omega (
        arith,
        ap (λ (t : B). count (number t)) e.2,
        count_number same tells (up_to top) e.0 once_nodes e.1,
        weight_entry same tells (up_to top) e.0 once_nodes e.1,
        ap (λ (t : B). weight same t (up_to top)) e.2,
        weight_last (node v),
        shares_layers same tells children s top (node v),
        weight_none same tells (node v) (at 0) start,
        sum_edges same tells children (up_to top) (node v) once_nodes m (child_node G L s ok),
        sum_parents_of count edges (number (node v)),
      ))

  pub sum_rule : SumRule (length nodes) edges count
  sum_rule = record { rises = edge_rises; first = first_count G L s ok; sums = node_sums }

  -- ---- node lists and child sequences

  -- the tilings by number to a node number the child sequences to its board
  pub tilings_numbered : (v : ℕ) → v < length nodes
      → Numbering (ChildSequence children s (node v)) (count v) (λ m. map node (node_list_to edges count v m))
  tilings_numbered v h = carry (map node) to inj onto (tiling_numbers (length nodes) edges count sum_rule once_graph v h)
    where
      below : (p c : ℕ) → p < length nodes → Edge p c → c < length nodes
      below p c i m = (edge_rises p c m).1

      step : (p c : ℕ) → p < length nodes → Edge p c → Child (node p) (node c)
      step p c i m =
          let r = mem_edges same children nodes p c m in
          let x = r.2 in
          let n = child_node G L s ok r.0 x.0 r.1 x.1 in
          subst (λ (t : B). Mem (node c) (children t)) (sym (ap node x.2 ∙ get_d_number same tells nodes r.0 s r.1))
          (cast (ap node x.3 ∙ get_d_number same tells nodes x.0 s n) x.1)

      back : (t u : B) → Mem t nodes → Child t u → Edge (number t) (number u)
      back t u m k = edge_mem same children nodes t u m k

      first : number s ≡ 0
      first = ap number (sym (start_node G L s ok)) ∙ number_get_d same tells nodes 0 s once_nodes (some_node G L s ok)

      to : (xs : List ℕ) → Chain Edge 0 v xs → ChildSequence children s (node v) (map node xs)
      to xs c = subst (λ (t : B). Chain Child t (node v) (map node xs)) (start_node G L s ok)
          (chain_map Edge (λ p. p < length nodes) below Child node step 0 v xs (some_node G L s ok) c)

      numbers : (xs : List ℕ) → Chain Edge 0 v xs → map number (map node xs) ≡ xs
      numbers xs c = map_back node number xs
          (λ p m. number_get_d same tells nodes p s once_nodes (chain_good Edge (λ p. p < length nodes) below 0 v xs (some_node G L s ok) c p m))

      inj : (xs ys : List ℕ) → Chain Edge 0 v xs → Chain Edge 0 v ys → map node xs ≡ map node ys → xs ≡ ys
      inj xs ys c d e = sym (numbers xs c) ∙ ap (map number) e ∙ numbers ys d

      onto : (ts : List B) → ChildSequence children s (node v) ts → (xs : List ℕ) × Chain Edge 0 v xs × (map node xs ≡ ts)
      onto ts c = (
        map number ts,
        subst (λ (w : ℕ). Chain Edge 0 w (map number ts)) (number_get_d same tells nodes v s once_nodes h)
            (subst (λ (w : ℕ). Chain Edge w (number (node v)) (map number ts)) first
            (chain_map Child (λ t. Mem t nodes) (child_node G L s ok) Edge number back s (node v) ts (start_mem G L s ok) c)),
        map_back number node ts
            (λ t m.
            get_d_number same tells nodes t s
            (chain_good Child (λ t. Mem t nodes) (child_node G L s ok) s (node v) ts (start_mem G L s ok) c t m)),
      )

  -- 01's path count: "the number of child sequences that reach it"
  pub path_count_lem : (j : ℕ) (e : Entry B) → Mem e (at j) → Exactly e.1 (ChildSequence children s e.0)
  path_count_lem j e m =
      let n = layer_node G L s ok j e.0 (mem_boards (at j) e m) in
      let r = tilings_numbered (number e.0) (number_lt same tells nodes e.0 n) in
      let f : ℕ → List B = λ k. map node (node_list_to edges count (number e.0) k) in
      subst (λ (k : ℕ). Exactly k (ChildSequence children s e.0)) (entry_count j e m)
      (f, subst (λ (t : B). Numbering (ChildSequence children s t) (count (number e.0)) f) (get_d_number same tells nodes e.0 s n) r)
