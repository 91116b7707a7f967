-- The theorem page: what is proved of the definitions of `Counts` and `Setting`, each statement with its words. A proof here is a citation.
-- Rests on the law files. Assumes nothing.
use Rattle.std.specs.Prelude.{◌≡◌, ◌↔◌, Bool, false, cond, ℕ, suc, ◌*◌, ◌≤◌, ◌<◌, length, get_or}
use Rattle.std.proofs.Common.{sym, subst}
use Rattle.std.proofs.Math.Bool.{So}
use mathlib.Core.List.{List, [], ◌∷◌, map, flat_map, Memᴰ as Mem}
use Rattle.cells.specs.FirstsLaws.{Once, Tells}
use Rattle.cells.specs.Lists.{holds, firsts}
use Rattle.covers.specs.Counts.{Numbering, Exactly, full_count, Chain, ChildSequence, Entry, boards, sum_of, shares, weight, gather, node_list_to, pieces_of}
use Rattle.covers.specs.Setting.{Setting, CuttingOf, PlacingSequence, child_boards, Laws, SoundPruning, EqualSteps, layer_of, SumRule, nodes_of, path_count_of, graph_edges, layer_count_of, graph_count, tiling_of, cutting_at}
use Rattle.covers.proofs.NumberingLaws.{exactly_unique, carry, exactly_pairs, product_of, OneOfEach, exactly_lists}
use Rattle.covers.proofs.SequenceLaws.{sequence_cutting, sequence_unique, sequences_at_most, one_sequence, full_cutting}
use Rattle.covers.proofs.ChildLaws.{child_once}
use Rattle.covers.proofs.LayerLaws.{recurrence}
use Rattle.covers.proofs.OrderLaws.{alike_order, alike_next, alike_next_length, alike_full_count}
use Rattle.covers.proofs.WalkLaws.{tiling_numbers, tiling_chain, chain_tiling}
use Rattle.covers.proofs.SettingLaws.{child_node, node_reached, layer_ok, layer_empty, layers_disjoint, reached_layer}
use Rattle.covers.proofs.GraphLaws.{once_nodes, nodes_found, sum_rule, once_graph, tilings_numbered, path_count_lem}
use Rattle.covers.proofs.NodeLaws.{edge_iff}
use Rattle.covers.proofs.CountLaws.{full_layer_count, full_graph_count, counts_agree, sequences_by_number, cuttings_by_number, full_sequences, none_reached}

-- ---- 1. Numberings

-- How many there are is one number.
pub number_unique : {A : Type 0} {Is : A → Type 0} {n k : ℕ} → Exactly n Is → Exactly k Is → n ≡ k
number_unique = exactly_unique

-- A map that is one-to-one onto carries a numbering along.
pub numbering_carried : {A B : Type 0} {Is : A → Type 0} {Has : B → Type 0} {n : ℕ} {f : ℕ → A} (g : A → B)
    → ((a : A) → Is a → Has (g a)) → ((a b : A) → Is a → Is b → g a ≡ g b → a ≡ b) → ((b : B) → Has b → (a : A) × Is a × (g a ≡ b))
    → Numbering Is n f → Numbering Has n (λ m. g (f m))
numbering_carried = carry

-- The pairs of n things and k others are n * k.
pub number_of_pairs : {A B : Type 0} {Is : A → Type 0} {Has : B → Type 0} (n k : ℕ) → Exactly n Is → Exactly k Has
    → Exactly (n * k) (λ (p : A × B). Is p.0 × Has p.1)
number_of_pairs = exactly_pairs

-- The lists of one thing of each of several kinds are as many as the product of the numbers of these.
pub number_of_lists : {K A : Type 0} (Is : K → A → Type 0) (n : K → ℕ) (xs : List K) → ((x : K) → Mem x xs → Exactly (n x) (Is x))
    → Exactly (product_of n xs) (OneOfEach Is xs)
number_of_lists = exactly_lists

-- ---- 2. Cuttings: `Cutting`, of the free cells, the tiles and what a piece covers, and of nothing else. What is known of a board with no free cell:

module _ {B P : Type 0} (G : Setting B P) (L : Laws G) (s : B) (ok : G.Ok s) where
  -- A full board has one cutting, the empty set, and both its counts are 0.
  pub full_has_one : So (G.full s) → Numbering (CuttingOf G s) 1 (λ m p. false)
  full_has_one = full_cutting G L s ok

  pub full_counts_none : So (G.full s) → (layer_count_of G s ≡ 0) × (graph_count G s ≡ 0)
  full_counts_none f = (full_layer_count G L s ok f, full_graph_count G L s ok f)

  -- ---- 3. Placing sequences

  -- The pieces of a placing sequence are a cutting, whatever is pruned.
  pub sequence_is_cutting : (ps : List P) → PlacingSequence G s ps → CuttingOf G s (holds G.same_piece ps)
  sequence_is_cutting ps = sequence_cutting G L s ps ok

  -- Two placing sequences with the same set of pieces are one, whatever is pruned.
  pub sequence_by_pieces : (ps qs : List P) → PlacingSequence G s ps → PlacingSequence G s qs
      → holds G.same_piece ps ≡ holds G.same_piece qs → ps ≡ qs
  sequence_by_pieces ps qs = sequence_unique G L s ps qs ok

  -- So there are no more placing sequences than cuttings, whatever is pruned.
  pub sequences_no_more : {n k : ℕ} → Exactly n (PlacingSequence G s) → Exactly k (CuttingOf G s) → n ≤ k
  sequences_no_more = sequences_at_most G L s ok

  -- Where only boards without a cutting are pruned, each cutting is the set of pieces of exactly one placing sequence.
  pub cutting_has_one_sequence : SoundPruning G → (X : P → Bool) → CuttingOf G s X
      → Exactly 1 (λ (ps : List P). PlacingSequence G s ps × (holds G.same_piece ps ≡ X))
  cutting_has_one_sequence sound X = one_sequence G L sound s X ok

  -- ---- 4. Layers

  -- A board's path count in the next layer is the sum of the path counts of its parents in this one.
  pub path_count_recurrence : (n : ℕ) (t : B) → weight G.same_board t (layer_of G s (suc n))
      ≡ sum_of (λ e. cond (holds G.same_board (child_boards G e.0) t) e.1 0) (layer_of G s n)
  path_count_recurrence n t = recurrence G.same_board L.board_eq (child_boards G) s n t (λ p m. child_once G L p (layer_ok G L s ok n p m))

  -- After as many layers as free cells nothing is left.
  pub layers_end : (n : ℕ) → G.free_count s < n → layer_of G s n ≡ []
  layers_end = layer_empty G L s ok

  -- Every board that a child sequence reaches stands in a layer.
  pub reached_in_layer : (t : B) (xs : List B) → ChildSequence (child_boards G) s t xs
      → (n : ℕ) × (n ≤ G.free_count s) × Mem t (boards (layer_of G s n))
  reached_in_layer = reached_layer G L s ok

  -- The nodes, which are the boards of the layers, are the boards that child sequences reach.
  pub nodes_are_reached : (t : B) → Mem t (nodes_of G s) ↔ ((xs : List B) × ChildSequence (child_boards G) s t xs)
  nodes_are_reached = node_reached G L s ok

  -- Where every piece takes equally many free cells, two layers have no board in common,
  module _ (a : ℕ) (E : EqualSteps G a) where
    pub layers_apart : (n m : ℕ) (t : B) → Mem t (boards (layer_of G s n)) → Mem t (boards (layer_of G s m)) → n ≡ m
    layers_apart = layers_disjoint G L a E s ok

    -- and a board's path count in its layer is the number of child sequences that reach it.
    pub path_count_is_number : (n : ℕ) (e : Entry B) → Mem e (layer_of G s n) → Exactly e.1 (ChildSequence (child_boards G) s e.0)
    path_count_is_number = path_count_lem G L a E s ok

    -- ---- 5. The graph, where every piece takes equally many free cells

    -- The nodes are in the order of first finding: the first appearances among the start and the children of the nodes, parents in number order,
    -- children in order.
    pub nodes_by_first_finding : nodes_of G s ≡ firsts G.same_board (s ∷ flat_map (child_boards G) (nodes_of G s))
    nodes_by_first_finding = nodes_found G L a E s ok

    -- Parents stand before children, node 0 has count 1, and every other node's count is the sum of its parents' over the edges into it.
    pub graph_sum_rule : SumRule (length (nodes_of G s)) (graph_edges G s) (path_count_of G s)
    graph_sum_rule = sum_rule G L a E s ok

    -- An edge leads from a node to each child of its board.
    pub graph_edges_are_children : (p c : ℕ) → Mem (p, c) (graph_edges G s)
        ↔ ((p < length (nodes_of G s)) × (c < length (nodes_of G s)) × Mem (get_or (nodes_of G s) c s) (child_boards G (get_or (nodes_of G s) p s)))
    graph_edges_are_children = edge_iff G.same_board L.board_eq (child_boards G) (nodes_of G s) s (once_nodes G L a E s ok) (child_node G L s ok)

    -- Each edge stands once.
    pub graph_edges_once : Once (graph_edges G s)
    graph_edges_once = once_graph G L a E s ok

    -- The tilings by number to a node number the child sequences to its board.
    pub graph_tilings : (v : ℕ) → v < length (nodes_of G s)
        → Numbering (ChildSequence (child_boards G) s (get_or (nodes_of G s) v s)) (path_count_of G s v)
        (λ m. map (λ u. get_or (nodes_of G s) u s) (node_list_to (graph_edges G s) (path_count_of G s) v m))
    graph_tilings = tilings_numbered G L a E s ok

-- ---- 6. The walk by turns, over any edges and counts

-- The tilings by number to a node number the chains of edges from node 0 to it, where each edge stands once.
pub walk_numbers_chains : (n : ℕ) (es : List (ℕ × ℕ)) (count : ℕ → ℕ) → SumRule n es count → Once es → (v : ℕ) → v < n
    → Numbering (Chain (λ p c. Mem (p, c) es) 0 v) (count v) (node_list_to es count v)
walk_numbers_chains = tiling_numbers

-- Where an edge may stand twice, still every number gives a chain, and every chain has a number.
pub walk_gives_chain : (n : ℕ) (es : List (ℕ × ℕ)) (count : ℕ → ℕ) → SumRule n es count → (v m : ℕ) → v < n → m < count v
    → Chain (λ p c. Mem (p, c) es) 0 v (node_list_to es count v m)
walk_gives_chain = tiling_chain

pub chain_has_number : (n : ℕ) (es : List (ℕ × ℕ)) (count : ℕ → ℕ) → SumRule n es count → (v : ℕ) → v < n → (xs : List ℕ)
    → Chain (λ p c. Mem (p, c) es) 0 v xs → (m : ℕ) × (m < count v) × (node_list_to es count v m ≡ xs)
chain_has_number = chain_tiling

-- ---- 7. Joined, where every piece takes equally many free cells

-- The layer count and the graph count are one number, whatever is pruned and also of a full start.
pub counts_are_equal : {B P : Type 0} (G : Setting B P) → Laws G → (a : ℕ) → EqualSteps G a → (s : B) → G.Ok s → layer_count_of G s ≡ graph_count G s
counts_are_equal = counts_agree

-- Where no child sequence reaches a full board, it is 0.
pub none_reached_counts_none : {B P : Type 0} (G : Setting B P) → Laws G → (a : ℕ) → EqualSteps G a → (s : B) → G.Ok s
    → ((t : B) → So (G.full t) → (xs : List B) → ChildSequence (child_boards G) s t xs → ⊥) → graph_count G s ≡ 0
none_reached_counts_none = none_reached

module _ {B P : Type 0} (G : Setting B P) (L : Laws G) (a : ℕ) (E : EqualSteps G a) (s : B) (ok : G.Ok s) (notFull : G.full s ≡ false) where
  -- Of a start that is not full it is the number of child sequences to the full board, where one is reached;
  pub count_is_child_sequences : (t : B) → So (G.full t) → (xs : List B) → ChildSequence (child_boards G) s t xs
      → Exactly (graph_count G s) (ChildSequence (child_boards G) s t)
  count_is_child_sequences = full_sequences G L a E s ok notFull

  -- and the number of placing sequences, whatever is pruned: the pieces of the tilings by number, in order.
  pub tilings_are_sequences : Numbering (PlacingSequence G s) (graph_count G s) (λ m. pieces_of G.step_piece (tiling_of G s m))
  tilings_are_sequences = sequences_by_number G L a E s ok notFull

  -- Where only boards without a cutting are pruned, the pieces of the tilings by number are the cuttings, each once and all.
  pub tilings_are_cuttings : SoundPruning G → Numbering (CuttingOf G s) (graph_count G s) (cutting_at G s)
  tilings_are_cuttings = cuttings_by_number G L a E s ok notFull

  -- So the graph count and the layer count are both the number of cuttings.
  pub graph_count_is_cuttings : SoundPruning G → Exactly (graph_count G s) (CuttingOf G s)
  graph_count_is_cuttings sound = (cutting_at G s, tilings_are_cuttings sound)

  pub layer_count_is_cuttings : SoundPruning G → Exactly (layer_count_of G s) (CuttingOf G s)
  layer_count_is_cuttings sound = subst (λ (n : ℕ). Exactly n (CuttingOf G s)) (sym (counts_are_equal G L a E s ok)) (graph_count_is_cuttings sound)

-- ---- 8. The order of a layer makes no difference

module _ {B : Type 0} (same : B → B → Bool) (tells : Tells same) (es ds : List (Entry B)) where
  -- Two lists with the same entries, each board once, have the same weights, whatever their order.
  pub same_entries_same_weights : Once (boards es) → Once (boards ds) → ((e : Entry B) → Mem e es ↔ Mem e ds)
      → (t : B) → weight same t es ≡ weight same t ds
  same_entries_same_weights = alike_order same tells es ds

  -- Where two layers have the same weights, the full board has the same path count in both;
  pub full_count_by_weights : (full : B → Bool) → ((t : B) → weight same t es ≡ weight same t ds) → full_count full es ≡ full_count full ds
  full_count_by_weights full = alike_full_count same tells full es ds

  module _ (children : B → List B) where
    -- the next layers have the same weights,
    pub next_layer_by_weights : ((t : B) → weight same t es ≡ weight same t ds)
        → (t : B) → weight same t (gather same (shares children es)) ≡ weight same t (gather same (shares children ds))
    next_layer_by_weights = alike_next same tells children es ds

    -- and equally many boards, where no path count is 0.
    pub next_layer_length : ((e : Entry B) → Mem e es → 0 < e.1) → ((e : Entry B) → Mem e ds → 0 < e.1)
        → ((t : B) → weight same t es ≡ weight same t ds) → length (gather same (shares children es)) ≡ length (gather same (shares children ds))
    next_layer_length = alike_next_length same tells children es ds
