-- The tilings by number of a graph that is given: each node list is a chain of edges from node 0 to the full node, of at most one node more than there
-- are free cells; they are those of the definition, and under demand 3's conditions they number the cuttings. The same of the words and the result that
-- `generate_graph` leaves. Rests on `GivenLaws`, expansion's `CuttingLaws`, `Theorems` and covers' `Theorems`. Assumes nothing.
use Rattle.std.specs.Prelude.{◌≡◌, Bool, true, false, Option, None, Some, Result, Ok}
use Rattle.std.proofs.Math.Path.{refl, sym, ap, ap₂, fun_ext}
use Rattle.std.proofs.Common.{◌∙◌, subst, arith}
use mathlib.Core.List.{List, map, Memᴰ as Mem}
use Prim.Native.Nat.{ℕ, ◌+◌, ◌≤◌, ◌<◌, min, ◌/◌}
use Rattle.std.proofs.Math.Dec.{lit<}
use Rattle.std.proofs.Math.ListN.{length, get_or}
use Rattle.std.proofs.lemmas.List.{length-map}
use Rattle.cells.specs.Set.{Sound}
use Rattle.cells.specs.WordLaws.{number_lt}
use Rattle.cells.specs.ArrayLaws.{get_d_any, length_list_of, get_d_list_of}
use Rattle.cells.specs.Lists.{set_at}
use Rattle.cells.specs.ListLaws.{sets_in}
use Rattle.cells.specs.MemberLaws.{map_ext}
use Rattle.tiles.specs.declared.Tiles.{Tiles}
use Rattle.refusal.specs.declared.Refusal.{Refusal}
use Rattle.refusal.specs.Refusal.{given}
use Rattle.tiles.specs.Paths.{paths_in}
use Rattle.board.specs.declared.RectangularBoard.{RectangularBoard}
use Rattle.board.specs.Board.{board_of}
use Rattle.rectangle.specs.Board.{free_count}
use Rattle.covers.specs.Counts.{Numbering, Chain, node_list_to, full_node, at_node, node_list}
use Rattle.covers.specs.Setting.{Setting, nodes_of, path_count_of, graph_edges, graph_count, tiling_of, cutting_at}
use Rattle.covers.proofs.Theorems.{full_counts_none}
use Rattle.covers.proofs.NumberingLaws.{renumber}
use Rattle.covers.proofs.CountLaws.{tiling_length}
use Rattle.covers.proofs.WalkLaws.{tiling_below, tiling_chain}
use Rattle.path_count.specs.PathCounts.{count_limit}
use Rattle.graph.specs.declared.GraphResult.{GraphResult}
use Rattle.graph.specs.Graph.{count_from_graph, marked_pieces, marked_pieces_in}
use Rattle.numbered_tilings.specs.Tilings.{node_list_in}
use Rattle.expansion.specs.Boards.{setting, setting_of, start_of}
use Rattle.tiler.specs.Inner.{graph_in, marked_pieces_of}
use Rattle.tiler.specs.Graphs.{Graph, node_list_of, generate_graph, GeneratesGraph, result_of_graph, path_count_at, count_of_graph}
use Rattle.expansion.specs.Plots.{IsCutting, HasFreeCell, AllEdgeJoined}
use Rattle.expansion.specs.Parts.{step_of}
use Rattle.expansion.proofs.AcceptedLaws.{accepted_free}
use Rattle.expansion.proofs.CuttingLaws.{cuttings_numbered}
use Rattle.tiler.specs.GivenLaws.{plot_accepted, graph_is, graph_laws, graph_steps, graph_start, nodes_are, graph_sums, graph_count_lem, graph_told, words_count}
use Rattle.tiler.specs.Theorems.{path_counts_fit, full_node_is_full, words_are_the_graph}

module _ (b : RectangularBoard) (fixed : Sound b.fixed) (laid : Sound b.laid) (ts : Tiles) where
  -- the setting of the board and the tiles, and its start
  abbrev S : Setting ℕ ℕ
  S = setting_of b ts

  abbrev start : ℕ
  start = start_of b

  -- ---- a graph that is given

  module _ (node_words count_words edge_words : ℕ) (g : Graph) (made : generate_graph b ts node_words count_words edge_words ≡ given g) where
    -- its count is below the limit of a path count
    pub graph_count_small : count_of_graph g < count_limit
    unfolding count_of_graph at_node
    graph_count_small = go g.complete
      where
        go : (o : Option ℕ) → at_node (path_count_at g.counts) o < count_limit
        go None = lit< tt
        go (Some v) = path_counts_fit b fixed laid ts node_words count_words edge_words g made v

    -- the list with a number below the count
    module _ (m : ℕ) (below : m < count_of_graph g) where
      full_node_lem : (v : ℕ) × (g.complete ≡ Some v) × (v < length g.nodes) × (m < path_count_at g.counts v)
      unfolding count_of_graph at_node
      full_node_lem = go g.complete refl below
        where
          go : (o : Option ℕ) → g.complete ≡ o → m < at_node (path_count_at g.counts) o
              → (v : ℕ) × (g.complete ≡ Some v) × (v < length g.nodes) × (m < path_count_at g.counts v)
          go None q l = absurd (omega arith)
          go (Some v) q l = (v, q, (full_node_is_full b fixed laid ts node_words count_words edge_words g made v q).1, l)

      list_to : (v : ℕ) → g.complete ≡ Some v → node_list_to g.edges (path_count_at g.counts) v m ≡ node_list_of g m
      unfolding node_list_of at_node
      list_to v q = ap (λ (o : Option ℕ). node_list g.edges (path_count_at g.counts) o m) (sym q)

      -- is a chain of edges from node 0 to the full node,
      pub list_chain : (v : ℕ) × (g.complete ≡ Some v) × Chain (λ p c. Mem (p, c) g.edges) 0 v (node_list_of g m)
      list_chain =
          let f = full_node_lem in (
            f.0,
            f.1,
            subst (Chain (λ p c. Mem (p, c) g.edges) 0 f.0) (list_to f.0 f.1)
                (tiling_chain (length g.nodes) g.edges (path_count_at g.counts) (graph_sums b fixed laid ts node_words count_words edge_words g made) f.0 m f.2 f.3),
          )

      -- each of its nodes is one of the graph,
      pub list_below : (v : ℕ) → Mem v (node_list_of g m) → v < length g.nodes
      list_below v i =
          let f = full_node_lem in
          tiling_below (length g.nodes) g.edges (path_count_at g.counts) (graph_sums b fixed laid ts node_words count_words edge_words g made) f.0 m f.2 f.3 v
          (subst (Mem v) (sym (list_to f.0 f.1)) i)

      -- and there is at most one more than there are free cells
      list_is : node_list_of g m ≡ node_list (graph_edges S start) (path_count_of S start) (full_node S.full (nodes_of S start)) m
      unfolding node_list_of graph_in
      list_is = ap (λ (k : Graph). node_list_of k m) (sym (graph_is b fixed laid ts node_words count_words edge_words g made))

      counted : m < graph_count S start
      counted = subst (λ (n : ℕ). m < n) (graph_count_lem b fixed laid ts node_words count_words edge_words g made) below

      counted_not_full : S.full start ≡ false
      counted_not_full = go (S.full start) refl
        where
          go : (t : Bool) → S.full start ≡ t → S.full start ≡ false
          go false q = q
          go true q =
              absurd
              (omega (
                arith,
                counted,
                (full_counts_none S (graph_laws b fixed laid ts node_words count_words edge_words g made) start (graph_start b fixed laid ts node_words count_words edge_words g made) q).1,
              ))

      pub list_length : length (node_list_of g m) ≤ free_count (board_of b) + 1
      list_length =
          omega (
            arith,
            tiling_length S (graph_laws b fixed laid ts node_words count_words edge_words g made) (step_of (paths_in ts)) (graph_steps b fixed laid ts node_words count_words edge_words g made) start
                (graph_start b fixed laid ts node_words count_words edge_words g made) counted_not_full m counted,
            ap length list_is,
            length-map (node_list (graph_edges S start) (path_count_of S start) (full_node S.full (nodes_of S start)) m) (λ v. get_or (nodes_of S start) v start),
            accepted_free b ts (plot_accepted b fixed laid ts node_words count_words edge_words g made) (number_lt b.fixed fixed) (number_lt b.laid laid),
          )

      -- its boards are those of the definition, and so are the pieces that its steps mark
      boards_are : map (λ v. get_or g.nodes v 0) (node_list_of g m) ≡ tiling_of S start m
      boards_are =
          map_ext (λ v. get_or g.nodes v 0) (λ v. get_or (nodes_of S start) v start) (node_list_of g m)
          (λ v i. get_d_any g.nodes v 0 start (list_below v i) ∙ ap (λ (ns : List ℕ). get_or ns v start) (nodes_are b fixed laid ts node_words count_words edge_words g made))
          ∙ ap (map (λ v. get_or (nodes_of S start) v start)) list_is

      cutting_is : marked_pieces_of g m ≡ cutting_at S start m
      unfolding marked_pieces_of setting
      cutting_is = ap marked_pieces boards_are

    -- under demand 3's conditions the numbers below the count number the cuttings
    pub lists_number_cuttings : HasFreeCell (board_of b) → AllEdgeJoined (paths_in ts)
        → Numbering (IsCutting (board_of b) (paths_in ts)) (count_of_graph g) (marked_pieces_of g)
    lists_number_cuttings free joined =
        renumber (sym (graph_count_lem b fixed laid ts node_words count_words edge_words g made)) cutting_is
        (cuttings_numbered b fixed laid ts (plot_accepted b fixed laid ts node_words count_words edge_words g made) free joined)

  -- ---- the words and the result that `generate_graph` leaves hold it

  module _ (nodes counts edges nodes' counts' edges' : List ℕ) (r : Result GraphResult Refusal) (made : GeneratesGraph b ts nodes counts edges nodes' counts' edges' r)
      (g : Graph) (e : generate_graph b ts (length nodes) (length counts) (length edges) ≡ given g) where
    -- the count,
    pub count_read : count_from_graph g.complete counts' ≡ count_of_graph g
    count_read =
        words_count b fixed laid ts nodes counts edges nodes' counts' edges' r made g e ∙ sym (graph_count_lem b fixed laid ts (length nodes) (length counts) (length edges) g e)

    small_count : count_from_graph g.complete counts' < count_limit
    small_count = subst (λ (n : ℕ). n < count_limit) (sym count_read) (graph_count_small (length nodes) (length counts) (length edges) g e)

    -- a node list,
    pub list_same : (m : ℕ) → node_list_in (result_of_graph g) counts' edges' m ≡ node_list_of g m
    unfolding node_list_in node_list_of
    list_same m =
        let w = words_are_the_graph b fixed laid ts nodes counts edges nodes' counts' edges' r made g e in
        ap₂ (λ (ds : List (ℕ × ℕ)) (count : ℕ → ℕ). node_list ds count g.complete m) w.3 (fun_ext w.2)

    -- the board of a node,
    node_at : (v : ℕ) → v < length g.nodes → set_at nodes' v ≡ get_or g.nodes v 0
    unfolding sets_in
    node_at v h =
        let q = (words_are_the_graph b fixed laid ts nodes counts edges nodes' counts' edges' r made g e).1 in
        let k = min (length g.nodes) (length nodes' / 4) in
        sym (get_d_list_of (set_at nodes') k v 0 (omega (arith, ap length q, length_list_of (set_at nodes') k))) ∙ ap (λ (ns : List ℕ). get_or ns v 0) q

    module _ (m : ℕ) (h : m < count_from_graph g.complete counts') where
      below : m < count_of_graph g
      below = subst (λ (n : ℕ). m < n) count_read h

      -- and the pieces that the steps of a list mark
      marked_same : marked_pieces_in nodes' (node_list_in (result_of_graph g) counts' edges' m) ≡ marked_pieces_of g m
      unfolding marked_pieces_in marked_pieces_of
      marked_same =
          ap (λ (vs : List ℕ). marked_pieces (map (set_at nodes') vs)) (list_same m)
          ∙ ap marked_pieces
          (map_ext (set_at nodes') (λ v. get_or g.nodes v 0) (node_list_of g m) (λ v i. node_at v (list_below (length nodes) (length counts) (length edges) g e m below v i)))

      -- a node list has at most one node more than there are free cells
      short_list : length (node_list_in (result_of_graph g) counts' edges' m) ≤ free_count (board_of b) + 1
      short_list =
          subst (λ (vs : List ℕ). length vs ≤ free_count (board_of b) + 1) (sym (list_same m)) (list_length (length nodes) (length counts) (length edges) g e m below)

    -- the numbers below the count number the cuttings
    cuttings_read : HasFreeCell (board_of b) → AllEdgeJoined (paths_in ts)
        → Numbering (IsCutting (board_of b) (paths_in ts)) (count_from_graph g.complete counts')
        (λ m. marked_pieces_in nodes' (node_list_in (result_of_graph g) counts' edges' m))
    cuttings_read free joined = renumber (sym count_read) marked_same (lists_number_cuttings (length nodes) (length counts) (length edges) g e free joined)

  -- ---- the same, by the result that comes back

  module _ (nodes counts edges nodes' counts' edges' : List ℕ) (r : Result GraphResult Refusal) (made : GeneratesGraph b ts nodes counts edges nodes' counts' edges' r)
      (graph : GraphResult) (graph_given : r ≡ Ok graph) where
    told : (g : Graph) × (generate_graph b ts (length nodes) (length counts) (length edges) ≡ given g) × (result_of_graph g ≡ graph)
    told = graph_told b fixed laid ts nodes counts edges nodes' counts' edges' r made graph graph_given

    pub words_count_small : count_from_graph graph.complete counts' < count_limit
    words_count_small = subst (λ (x : GraphResult). count_from_graph x.complete counts' < count_limit) told.2
        (small_count nodes counts edges nodes' counts' edges' r made told.0 told.1)

    -- a node list has at most one node more than there are free cells
    pub words_length : (m : ℕ) → m < count_from_graph graph.complete counts' → length (node_list_in graph counts' edges' m) ≤ free_count (board_of b) + 1
    words_length m =
        subst (λ (x : GraphResult). m < count_from_graph x.complete counts' → length (node_list_in x counts' edges' m) ≤ free_count (board_of b) + 1) told.2
        (short_list nodes counts edges nodes' counts' edges' r made told.0 told.1 m)

    -- the numbers below the count number the cuttings
    pub words_cuttings : HasFreeCell (board_of b) → AllEdgeJoined (paths_in ts)
        → Numbering (IsCutting (board_of b) (paths_in ts)) (count_from_graph graph.complete counts')
        (λ m. marked_pieces_in nodes' (node_list_in graph counts' edges' m))
    words_cuttings free joined =
        subst
        (λ (x : GraphResult).
        Numbering (IsCutting (board_of b) (paths_in ts)) (count_from_graph x.complete counts') (λ m. marked_pieces_in nodes' (node_list_in x counts' edges' m)))
        told.2 (cuttings_read nodes counts edges nodes' counts' edges' r made told.0 told.1 free joined)
