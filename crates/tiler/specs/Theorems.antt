-- What the answers mean: the theorem page of the layer count and the graph. The graph's nodes are the boards that child sequences reach, in the order
-- of first finding; a path count is the number of child sequences that reach the board; our own graph meets every condition of refusal 11; the layer
-- count is the number of child sequences to the full board; and both counts agree. Each statement is for every board and tiles of the code (a set of
-- the code has words of 64 bits: `Sound`) and every number of lent words. Rests on `GivenLaws`, layers' `CountLaws` and covers' `Theorems`. Assumes nothing.
use Rattle.std.specs.Prelude.{◌≡◌, ◌↔◌, false, get_or, None, Some, Result, Ok}
use Rattle.std.proofs.Common.{sym, ap, ◌∙◌}
use Rattle.std.proofs.Math.Path.{subst}
use Rattle.std.proofs.Math.Bool.{So}
use mathlib.Core.List.{List, ◌∷◌, flat_map, Memᴰ as Mem}
use Prim.Native.Nat.{ℕ, ◌<◌}
use Rattle.std.proofs.Math.Dec.{eqb}
use Rattle.std.proofs.Math.ListN.{length}
use Rattle.cells.specs.FirstsLaws.{Once}
use Rattle.cells.specs.Lists.{firsts}
use Rattle.cells.specs.ListLaws.{sets_in}
use Rattle.graph.specs.declared.GraphResult.{GraphResult}
use Rattle.graph.specs.Graph.{edges_in, count_from_graph}
use Rattle.cells.specs.Set.{Sound}
use Rattle.cells.specs.WordLaws.{number_lt}
use Rattle.tiles.specs.declared.Tiles.{Tiles}
use Rattle.refusal.specs.declared.Refusal.{Refusal}
use Rattle.refusal.specs.Refusal.{given}
use Rattle.tiles.specs.Paths.{paths_in}
use Rattle.board.specs.declared.RectangularBoard.{RectangularBoard}
use Rattle.board.specs.Board.{board_of}
use Rattle.rectangle.specs.Board.{board_at, is_full}
use Rattle.children.specs.Children.{children_at}
use Rattle.covers.specs.Counts.{Exactly, ChildSequence, counts}
use Rattle.covers.specs.Setting.{child_boards, Laws, EqualSteps, graph_count, graph_edges, nodes_of, path_count_of}
use Rattle.covers.proofs.Theorems.{nodes_are_reached, nodes_by_first_finding, graph_edges_are_children, graph_edges_once, graph_tilings, full_counts_none, none_reached_counts_none, count_is_child_sequences}
use Rattle.covers.proofs.SettingLaws.{start_node}
use Rattle.expansion.specs.Boards.{setting, setting_of, start_of, Accepted}
use Rattle.path_count.specs.PathCounts.{count_in, count_limit}
use Rattle.numbered_tilings.specs.Tilings.{bad_graph}
use Rattle.numbered_tilings.proofs.TilingLaws.{sound_not_bad}
use Rattle.layers.specs.LayerCounts.{count_tilings}
use Rattle.tiler.specs.Inner.{graph_in}
use Rattle.tiler.specs.Graphs.{Graph, generate_graph, GeneratesGraph, result_of_graph, path_count_at, count_of_graph}
use Rattle.expansion.specs.Parts.{step_of}
use Rattle.expansion.proofs.SettingLaws.{same_children}
use Rattle.expansion.proofs.AcceptedLaws.{accepted_laws, accepted_steps, accepted_at, start_accepted}
use Rattle.layers.proofs.CountLaws.{layers_count}
use Rattle.tiler.specs.AnswerLaws.{node_behind, result_back, nodes_back, counts_back, edges_back, sound_words, only_start_lem}
use Rattle.tiler.specs.GivenLaws.{graph_is, graph_laws, graph_steps, graph_start, nodes_are, nodes_small, graph_sums, graph_room, graph_count_lem, graph_stored, words_count, graph_told}

module _ (b : RectangularBoard) (fixed : Sound b.fixed) (laid : Sound b.laid) (ts : Tiles) where
  -- "child sequences that reach it": from the start to a board
  abbrev pub Reaches : ℕ → List ℕ → Type 0
  Reaches t xs = ChildSequence (children_at (board_of b) (paths_in ts)) (start_of b) t xs

  -- ---- 1. The graph that is given

  module _ (node_words count_words edge_words : ℕ) (g : Graph) (made : generate_graph b ts node_words count_words edge_words ≡ given g) where
    laws : Laws (setting_of b ts)
    laws = graph_laws b fixed laid ts node_words count_words edge_words g made

    steps : EqualSteps (setting_of b ts) (step_of (paths_in ts))
    steps = graph_steps b fixed laid ts node_words count_words edge_words g made

    ok : (setting_of b ts).Ok (start_of b)
    ok = graph_start b fixed laid ts node_words count_words edge_words g made

    is : graph_in (setting_of b ts) (start_of b) ≡ g
    is = graph_is b fixed laid ts node_words count_words edge_words g made

    nodes_is : g.nodes ≡ nodes_of (setting_of b ts) (start_of b)
    nodes_is = nodes_are b fixed laid ts node_words count_words edge_words g made

    -- The nodes are the boards that child sequences reach.
    pub nodes_are_boards_reached : (t : ℕ) → Mem t g.nodes ↔ ((xs : List ℕ) × Reaches t xs)
    nodes_are_boards_reached t =
        subst (λ (ch : ℕ → List ℕ). Mem t g.nodes ↔ ((xs : List ℕ) × ChildSequence ch (start_of b) t xs)) (same_children (board_of b) (paths_in ts))
        (subst (λ (ns : List ℕ). Mem t ns ↔ ((xs : List ℕ) × ChildSequence (child_boards (setting_of b ts)) (start_of b) t xs)) (sym nodes_is)
        (nodes_are_reached (setting_of b ts) laws (start_of b) ok t))

    -- "Nodes are numbered by first finding: 0 the board, parents in number order, children in order".
    pub nodes_in_order : g.nodes ≡ firsts eqb (start_of b ∷ flat_map (children_at (board_of b) (paths_in ts)) g.nodes)
    unfolding setting
    nodes_in_order =
        subst (λ (ch : ℕ → List ℕ). g.nodes ≡ firsts eqb (start_of b ∷ flat_map ch g.nodes)) (same_children (board_of b) (paths_in ts))
        (subst (λ (ns : List ℕ). ns ≡ firsts eqb (start_of b ∷ flat_map (child_boards (setting_of b ts)) ns)) (sym nodes_is)
        (nodes_by_first_finding (setting_of b ts) laws (start_of b) ok (step_of (paths_in ts)) steps))

    -- "Edges are (parent, child)": there is one from a node to each child of its board, and no other.
    pub edges_are_children : (p c : ℕ) → Mem (p, c) g.edges
        ↔ ((p < length g.nodes) × (c < length g.nodes) × Mem (get_or g.nodes c (start_of b)) (children_at (board_of b) (paths_in ts) (get_or g.nodes p (start_of b))))
    unfolding graph_in
    edges_are_children p c =
        subst (λ (k : Graph). Mem (p, c) k.edges
        ↔ ((p < length k.nodes) × (c < length k.nodes) × Mem (get_or k.nodes c (start_of b)) (children_at (board_of b) (paths_in ts) (get_or k.nodes p (start_of b))))) is
        (subst (λ (ch : ℕ → List ℕ). Mem (p, c) (graph_edges (setting_of b ts) (start_of b))
        ↔ ((p < length (nodes_of (setting_of b ts) (start_of b))) × (c < length (nodes_of (setting_of b ts) (start_of b)))
        × Mem (get_or (nodes_of (setting_of b ts) (start_of b)) c (start_of b)) (ch (get_or (nodes_of (setting_of b ts) (start_of b)) p (start_of b))))) (same_children (board_of b) (paths_in ts))
        (graph_edges_are_children (setting_of b ts) laws (start_of b) ok (step_of (paths_in ts)) steps p c))

    -- "Beside each node stands its path count", and "A board's path count is the number of child sequences that reach it".
    pub path_count_is_number_of_sequences : (v : ℕ) → v < length g.nodes → Exactly (path_count_at g.counts v) (Reaches (get_or g.nodes v (start_of b)))
    unfolding graph_in
    path_count_is_number_of_sequences v h =
        subst (λ (k : Graph). Exactly (path_count_at k.counts v) (Reaches (get_or k.nodes v (start_of b)))) is
        (subst (λ (ch : ℕ → List ℕ). Exactly (path_count_of (setting_of b ts) (start_of b) v) (ChildSequence ch (start_of b) (get_or (nodes_of (setting_of b ts) (start_of b)) v (start_of b)))) (same_children (board_of b) (paths_in ts))
        (_, graph_tilings (setting_of b ts) laws (start_of b) ok (step_of (paths_in ts)) steps v (subst (λ (ns : List ℕ). v < length ns) nodes_is h)))

    -- Each path count is below the limit, 2^64.
    pub path_counts_fit : (v : ℕ) → path_count_at g.counts v < count_limit
    path_counts_fit = (graph_room b fixed laid ts node_words count_words edge_words g made).counts_fit

    -- The full node is a node behind node 0, and full.
    pub full_node_is_full : (v : ℕ) → g.complete ≡ Some v → (0 < v) × (v < length g.nodes) × So (is_full (board_at (board_of b) (get_or g.nodes v (start_of b))))
    unfolding graph_in setting
    full_node_is_full v e =
        subst (λ (k : Graph). (0 < v) × (v < length k.nodes) × So (is_full (board_at (board_of b) (get_or k.nodes v (start_of b))))) is
        (node_behind (λ n. is_full (board_at (board_of b) n)) (nodes_of (setting_of b ts) (start_of b)) v (start_of b) (ap (λ (k : Graph). k.complete) is ∙ e))

    -- With none, no full board is reached but the start itself.
    pub no_full_node : g.complete ≡ None → (t : ℕ) → Mem t g.nodes → So (is_full (board_at (board_of b) t)) → t ≡ start_of b
    unfolding graph_in setting
    no_full_node e t m full =
        only_start_lem (λ n. is_full (board_at (board_of b) n)) (start_of b) (nodes_of (setting_of b ts) (start_of b)) (start_node (setting_of b ts) laws (start_of b) ok)
        (ap (λ (k : Graph). k.complete) is ∙ e) t (subst (Mem t) nodes_is m) full

    -- Each edge stands once.
    pub edges_once : Once g.edges
    unfolding graph_in
    edges_once = subst (λ (k : Graph). Once k.edges) is (graph_edges_once (setting_of b ts) laws (start_of b) ok (step_of (paths_in ts)) steps)

  -- ---- 2. The words and the result that `generate_graph` leaves, where it does not refuse

  module _ (nodes counts edges nodes' counts' edges' : List ℕ) (r : Result GraphResult Refusal) (made : GeneratesGraph b ts nodes counts edges nodes' counts' edges' r) where
    -- The result of the graph comes back, and the words read back as the graph.
    pub words_are_the_graph : (g : Graph) → generate_graph b ts (length nodes) (length counts) (length edges) ≡ given g
        → (r ≡ Ok (result_of_graph g)) × (sets_in nodes' (length g.nodes) ≡ g.nodes) × ((v : ℕ) → count_in counts' v ≡ path_count_at g.counts v)
        × (edges_in edges' (length g.edges) ≡ g.edges)
    words_are_the_graph g e =
        let k = graph_stored b fixed laid ts nodes counts edges nodes' counts' edges' r made g e in
        let h = graph_room b fixed laid ts (length nodes) (length counts) (length edges) g e in (
          result_back g (length nodes) (length counts) (length edges) nodes' counts' edges' r k h,
          nodes_back g (length nodes) (length counts) (length edges) nodes' counts' edges' r k h (nodes_small b fixed laid ts (length nodes) (length counts) (length edges) g e),
          counts_back g (length nodes) (length counts) (length edges) nodes' counts' edges' r k h,
          edges_back g (length nodes) (length counts) (length edges) nodes' counts' edges' r k h,
        )

    -- Our own graph is not refused by 11.
    pub own_graph_is_sound : (graph : GraphResult) → r ≡ Ok graph → bad_graph graph (length nodes') counts' edges' ≡ false
    own_graph_is_sound graph graph_given =
        let a = graph_told b fixed laid ts nodes counts edges nodes' counts' edges' r made graph graph_given in
        subst (λ (x : GraphResult). bad_graph x (length nodes') counts' edges' ≡ false) a.2
        (sound_not_bad (result_of_graph a.0) (length nodes') counts' edges'
        (sound_words a.0 (length nodes) (length counts) (length edges) nodes' counts' edges' r
        (graph_stored b fixed laid ts nodes counts edges nodes' counts' edges' r made a.0 a.1)
        (graph_room b fixed laid ts (length nodes) (length counts) (length edges) a.0 a.1)
        (λ v e. (full_node_is_full (length nodes) (length counts) (length edges) a.0 a.1 v e).1)
        (graph_sums b fixed laid ts (length nodes) (length counts) (length edges) a.0 a.1)))

  -- ---- 3. The layer count that is given

  module _ (room n : ℕ) (told : count_tilings b ts room ≡ given n) where
    plot : Accepted b ts
    plot = (layers_count b fixed laid ts room n told).0

    count_is : n ≡ graph_count (setting_of b ts) (start_of b)
    count_is = (layers_count b fixed laid ts room n told).1

    start : (setting_of b ts).Ok (start_of b)
    start = start_accepted b fixed laid ts plot

    same_start : board_at (board_of b) (start_of b) ≡ board_of b
    same_start = accepted_at b ts plot (number_lt b.fixed fixed) (number_lt b.laid laid)

    -- It is the number of child sequences that reach the full board, where the start is not full and one is reached;
    pub layer_count_is_number_of_sequences : is_full (board_of b) ≡ false → (t : ℕ) → So (is_full (board_at (board_of b) t)) → (xs : List ℕ) → Reaches t xs
        → Exactly n (Reaches t)
    unfolding setting
    layer_count_is_number_of_sequences free t full xs r =
        subst (λ (ch : ℕ → List ℕ). Exactly n (ChildSequence ch (start_of b) t)) (same_children (board_of b) (paths_in ts))
        (subst (λ (k : ℕ). Exactly k (ChildSequence (child_boards (setting_of b ts)) (start_of b) t)) (sym count_is)
        (count_is_child_sequences (setting_of b ts) (accepted_laws b ts plot) (step_of (paths_in ts)) (accepted_steps b ts plot) (start_of b)
        start (ap is_full same_start ∙ free) t full xs
        (subst (λ (ch : ℕ → List ℕ). ChildSequence ch (start_of b) t xs) (sym (same_children (board_of b) (paths_in ts))) r)))

    -- 0 where none is reached; and 0 for a full start, which is reached by no piece.
    pub layer_count_of_none : ((t : ℕ) → So (is_full (board_at (board_of b) t)) → (xs : List ℕ) → Reaches t xs → ⊥) → n ≡ 0
    unfolding setting
    layer_count_of_none never =
        count_is
        ∙ none_reached_counts_none (setting_of b ts) (accepted_laws b ts plot) (step_of (paths_in ts)) (accepted_steps b ts plot) (start_of b)
        start
        (λ t full xs r. never t full xs (subst (λ (ch : ℕ → List ℕ). ChildSequence ch (start_of b) t xs) (same_children (board_of b) (paths_in ts)) r))

    pub layer_count_of_full_start : So (is_full (board_of b)) → n ≡ 0
    unfolding setting
    layer_count_of_full_start full =
        count_is ∙ (full_counts_none (setting_of b ts) (accepted_laws b ts plot) (start_of b) start (ap is_full same_start ∙ full)).1

    -- ---- 4. Both counts

    -- Both counts agree where neither is refused: over the definitions,
    pub counts_agree : (node_words count_words edge_words : ℕ) (g : Graph) → generate_graph b ts node_words count_words edge_words ≡ given g
        → count_of_graph g ≡ n
    counts_agree node_words count_words edge_words g made = graph_count_lem b fixed laid ts node_words count_words edge_words g made ∙ sym count_is

    -- and over the result and the count words that `generate_graph` leaves, as `count_tilings_from_graph` reads them.
    pub calls_agree : (nodes counts edges nodes' counts' edges' : List ℕ) (r : Result GraphResult Refusal) → GeneratesGraph b ts nodes counts edges nodes' counts' edges' r
        → (graph : GraphResult) → r ≡ Ok graph → count_from_graph graph.complete counts' ≡ n
    calls_agree nodes counts edges nodes' counts' edges' r made graph graph_given =
        let a = graph_told b fixed laid ts nodes counts edges nodes' counts' edges' r made graph graph_given in
        subst (λ (x : GraphResult). count_from_graph x.complete counts' ≡ n) a.2
        (words_count b fixed laid ts nodes counts edges nodes' counts' edges' r made a.0 a.1 ∙ sym count_is)
