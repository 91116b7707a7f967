-- Demand 3 from the words that exported calls leave: with the count's two words and the graph's words and four answer words, the calls below are those of
-- layers' `CountLaws` and tiler's `CuttingTheorems`, and a numbered call that a host makes gives the list of 01's walk. Rests on `HandedOnLaws` and on those.
-- Assumes nothing.
use Rattle.std.specs.Prelude.{Ok, Result, ◌≡◌, refl, Bool, false, List, [], ◌∷◌, ℕ, ◌+◌, ◌≤◌, ◌<◌, get_or, take}
use Rattle.refusal.specs.declared.Refusal.{Refusal}
use Rattle.std.proofs.Math.Path.{sym, ap}
use Rattle.std.proofs.Common.{◌∙◌, subst, lt_trans}
use Rattle.std.proofs.Math.ListN.{length}
use Rattle.cells.specs.Set.{Sound, value, words_below}
use Rattle.cells.specs.WordLaws.{Small}
use Rattle.refusal.specs.Refusal.{Answer, given, map_answer, refusal_of, value_or}
use Rattle.tiles.specs.declared.Tiles.{Tiles}
use Rattle.tiles.specs.Paths.{paths_in}
use Rattle.board.specs.declared.RectangularBoard.{RectangularBoard}
use Rattle.board.specs.Board.{board_of}
use Rattle.rectangle.specs.Board.{free_count}
use Rattle.covers.specs.Counts.{Numbering, Exactly}
use Rattle.cells.specs.Lists.{padded}
use Rattle.graph.specs.Graph.{layer_room, count_from_graph, marked_pieces_in}
use Rattle.numbered_tilings.specs.Tilings.{bad_graph, node_list_in, tiling_by_number, GivesTiling}
use Rattle.numbered_tilings.proofs.TilingLaws.{tiling_given, list_read}
use Rattle.graph.specs.declared.GraphResult.{GraphResult}
use Rattle.path_count.specs.PathCounts.{count_limit}
use Rattle.layers.specs.LayerCounts.{count_tilings}
use Rattle.tiler.specs.Graphs.{GeneratesGraph}
use Rattle.expansion.specs.Plots.{IsCutting, HasFreeCell, AllEdgeJoined}
use Rattle.layers.proofs.CountLaws.{layers_small, count_cuttings_lem}
use Rattle.tiler.specs.NumberLaws.{words_length}
use Rattle.tiler.specs.Theorems.{own_graph_is_sound, calls_agree}
use Rattle.tiler.specs.CuttingTheorems as Demand
use Rattle.host_words.specs.Layout.{board_in, result_in, AnswersList}
use Rattle.host_tiles.specs.TileBytes.{tiles_in}
use Rattle.host_counts.specs.Calls.{counted, AnswersCount, generated, AnswersGraph}
use Rattle.host_tilings.specs.Calls.{tiling_shape, numbered}
use Rattle.host_words.specs.AnswerLaws.{unless_right}
use Rattle.hosts.specs.ReadBackLaws.{number_at, two_words, two_small, value_two, count_back}
use Rattle.hosts.specs.HandedOnLaws.{words_given, count_given_lem, result_read, graph_below}

-- ---- a list that is given, as the numbered call of a host and of graph's `Tilings`

module _ (node_words : ℕ) (counts edges graph m out answer out' answer' : List ℕ) (r : ℕ)
    (told : AnswersList padded (numbered node_words counts edges graph m (length out) (length answer)) out answer out' answer' r)
    (shape : tiling_shape graph (length m) (length answer) ≡ 0) (one : 1 ≤ length answer) (list : List ℕ)
    (gives : tiling_by_number (result_in graph) node_words counts edges (value m) (length out) ≡ given list) where
  list_told : numbered node_words counts edges graph m (length out) (length answer) ≡ given list
  unfolding numbered
  list_told = unless_right (tiling_shape graph (length m) (length answer)) (tiling_by_number (result_in graph) node_words counts edges (value m) (length out)) shape ∙ gives

  pub list_returned : r ≡ 0
  unfolding map_answer refusal_of
  list_returned = told.answered.number ∙ ap (λ (a : Answer (List ℕ)). refusal_of (map_answer (λ ns. length ns ∷ []) a)) list_told

  pub list_number : get_or answer' 0 0 ≡ length list
  list_number =
      ap (λ (ws : List ℕ). get_or ws 0 0)
      (words_given (λ ns. length ns ∷ []) (numbered node_words counts edges graph m (length out) (length answer)) list answer answer' r list_told told.answered)
      ∙ number_at (length list ∷ []) (length answer) 0 one

  pub list_words : out' ≡ padded (value_or [] (tiling_by_number (result_in graph) node_words counts edges (value m) (length out))) (length out)
  list_words = told.out_left ∙ ap (λ (a : Answer (List ℕ)). padded (value_or [] a) (length out)) (list_told ∙ sym gives)

-- ---- the count alone

module _ (width height : ℕ) (marks tiles : List ℕ) (small : Small marks)
    (boardsA countsA boardsB countsB answer boardsA' countsA' boardsB' countsB' answer' : List ℕ)
    (count_told : AnswersCount (counted width height marks tiles (layer_room (length boardsA) (length countsA) (length boardsB) (length countsB)) (length answer))
    boardsA countsA boardsB countsB answer boardsA' countsA' boardsB' countsB' answer' 0) where
  abbrev board_given : RectangularBoard
  board_given = board_in width height marks

  abbrev tiles_given : Tiles
  tiles_given = tiles_in tiles

  fixed_words : Sound board_given.fixed
  fixed_words = record { s0 = small 0; s1 = small 1; s2 = small 2; s3 = small 3 }

  laid_words : Sound board_given.laid
  laid_words = record { s0 = small 4; s1 = small 5; s2 = small 6; s3 = small 7 }

  first : (n : ℕ) × (count_tilings board_given tiles_given (layer_room (length boardsA) (length countsA) (length boardsB) (length countsB)) ≡ given n)
      × (2 ≤ length answer) × (answer' ≡ padded (words_below 2 n) (length answer))
  first = count_given_lem width height marks tiles boardsA countsA boardsB countsB answer boardsA' countsA' boardsB' countsB' answer' count_told

  -- the number in the count's two words
  abbrev count_given : ℕ
  count_given = value (take 2 answer')

  told_n : count_tilings board_given tiles_given (layer_room (length boardsA) (length countsA) (length boardsB) (length countsB)) ≡ given count_given
  told_n =
      first.1
      ∙ ap given
      (sym (count_back first.0 (length answer)
      (layers_small board_given fixed_words laid_words tiles_given (layer_room (length boardsA) (length countsA) (length boardsB) (length countsB)) first.0 first.1) first.2 answer' first.3))

  pub n_small : count_given < count_limit
  n_small = layers_small board_given fixed_words laid_words tiles_given (layer_room (length boardsA) (length countsA) (length boardsB) (length countsB)) count_given told_n

  pub n_cuttings : HasFreeCell (board_of board_given) → AllEdgeJoined (paths_in tiles_given) → Exactly count_given (IsCutting (board_of board_given) (paths_in tiles_given))
  n_cuttings free joined =
      count_cuttings_lem board_given fixed_words laid_words tiles_given free joined (layer_room (length boardsA) (length countsA) (length boardsB) (length countsB)) count_given told_n

-- ---- the three calls

module _ (width height : ℕ) (marks tiles : List ℕ) (small : Small marks) (free : HasFreeCell (board_of (board_in width height marks)))
    (joined : AllEdgeJoined (paths_in (tiles_in tiles)))
    (boardsA countsA boardsB countsB answer boardsA' countsA' boardsB' countsB' answer' : List ℕ)
    (count_told : AnswersCount (counted width height marks tiles (layer_room (length boardsA) (length countsA) (length boardsB) (length countsB)) (length answer))
    boardsA countsA boardsB countsB answer boardsA' countsA' boardsB' countsB' answer' 0)
    (nodes counts edges graphAnswer nodes' counts' edges' graphAnswer' : List ℕ)
    (graphTold : AnswersGraph (generated width height marks tiles (length nodes) (length counts) (length edges) (length graphAnswer))
    nodes counts edges graphAnswer nodes' counts' edges' graphAnswer' 0) where
  abbrev b : RectangularBoard
  b = board_in width height marks

  abbrev ts : Tiles
  ts = tiles_in tiles

  abbrev n : ℕ
  n = value (take 2 answer')

  fixed : Sound b.fixed
  fixed = fixed_words width height marks tiles small boardsA countsA boardsB countsB answer boardsA' countsA' boardsB' countsB' answer' count_told

  laid : Sound b.laid
  laid = laid_words width height marks tiles small boardsA countsA boardsB countsB answer boardsA' countsA' boardsB' countsB' answer' count_told

  abbrev room : ℕ
  room = layer_room (length boardsA) (length countsA) (length boardsB) (length countsB)

  count_n : count_tilings b ts room ≡ given n
  count_n = told_n width height marks tiles small boardsA countsA boardsB countsB answer boardsA' countsA' boardsB' countsB' answer' count_told

  -- the result in the four answer words
  abbrev graph : GraphResult
  graph = result_in (take 4 graphAnswer')

  generates : GeneratesGraph b ts nodes counts edges nodes' counts' edges' (Ok graph)
  generates = graph_below width height marks tiles nodes counts edges graphAnswer nodes' counts' edges' graphAnswer' graphTold

  pub n_from_graph : count_from_graph (result_in (take 4 graphAnswer')).complete counts' ≡ n
  n_from_graph = calls_agree b fixed laid ts room n count_n nodes counts edges nodes' counts' edges' (Ok graph) generates graph refl

  -- ---- the numbered call

  abbrev node_list_for : ℕ → List ℕ
  node_list_for k = node_list_in (result_in (take 4 graphAnswer')) counts' edges' k

  abbrev Call : List ℕ → List ℕ → List ℕ → List ℕ → List ℕ → ℕ → Type 0
  Call m out answerM out' answerM' r =
      AnswersList padded (numbered (length nodes') counts' edges' (take 4 graphAnswer') m (length out) (length answerM)) out answerM out' answerM' r

  -- more words than there are free cells are enough
  pub call_long : (k : ℕ) → k < n → length (node_list_for k) ≤ free_count (board_of b) + 1
  call_long k below =
      words_length b fixed laid ts nodes counts edges nodes' counts' edges' (Ok graph) generates graph refl k (subst (λ (x : ℕ). k < x) (sym n_from_graph) below)

  -- the graph is not refused by 11, and the pieces of its lists by number are the cuttings
  sound : bad_graph (result_in (take 4 graphAnswer')) (length nodes') counts' edges' ≡ false
  sound = own_graph_is_sound b fixed laid ts nodes counts edges nodes' counts' edges' (Ok graph) generates graph refl

  numbering : Numbering (IsCutting (board_of b) (paths_in ts)) n (λ k. marked_pieces_in nodes' (node_list_for k))
  numbering =
      subst (λ (x : ℕ). Numbering (IsCutting (board_of b) (paths_in ts)) x (λ k. marked_pieces_in nodes' (node_list_for k))) n_from_graph
      ((Demand.graph_numbers_cuttings b fixed laid ts nodes counts edges nodes' counts' edges' (Ok graph) generates).cuttings graph refl free joined)

  module _ (m : List ℕ) (two : length m ≡ 2) (below : value m < n) (out answerM out' answerM' : List ℕ) (r : ℕ)
      (long : length (node_list_for (value m)) ≤ length out) (one : 1 ≤ length answerM) (call : Call m out answerM out' answerM' r) where
    gives : tiling_by_number (result_in (take 4 graphAnswer')) (length nodes') counts' edges' (value m) (length out) ≡ given (node_list_for (value m))
    gives =
        tiling_given (result_in (take 4 graphAnswer')) (length nodes') counts' edges' (value m) (length out)
        sound (subst (λ (k : ℕ). value m < k) (sym n_from_graph) below) long

    shape : tiling_shape (take 4 graphAnswer') (length m) (length answerM) ≡ 0
    shape =
        ap (λ (k : ℕ). tiling_shape (take 4 graphAnswer') k (length answerM)) two
        ∙ (result_read width height marks tiles nodes counts edges graphAnswer nodes' counts' edges' graphAnswer' graphTold).5 (length answerM) one

    abbrev tiling : Result ℕ Refusal
    tiling = Ok (length (node_list_for (value m)))

    numbered_call : GivesTiling (result_in (take 4 graphAnswer')) nodes' counts' edges' (value m) out out' tiling
    unfolding map_answer
    numbered_call = record {
      answer = sym (ap (map_answer length) gives);
      words = list_words (length nodes') counts' edges' (take 4 graphAnswer') m out answerM out' answerM' r call shape one (node_list_for (value m)) gives;
    }

    -- it is not refused,
    pub call_returns : r ≡ 0
    call_returns = list_returned (length nodes') counts' edges' (take 4 graphAnswer') m out answerM out' answerM' r call shape one (node_list_for (value m)) gives

    -- gives the list of 01's walk,
    pub call_walk : take (get_or answerM' 0 0) out' ≡ node_list_for (value m)
    call_walk =
        ap (λ (k : ℕ). take k out') (list_number (length nodes') counts' edges' (take 4 graphAnswer') m out answerM out' answerM' r call shape one (node_list_for (value m)) gives)
        ∙ (list_read (result_in (take 4 graphAnswer')) nodes' counts' edges' (value m) out out' tiling numbered_call sound
        (subst (λ (k : ℕ). value m < k) (sym n_from_graph) below) long).1

    -- and gives a cutting
    pub call_cutting : IsCutting (board_of b) (paths_in ts) (marked_pieces_in nodes' (take (get_or answerM' 0 0) out'))
    call_cutting =
        subst (λ (list : List ℕ). IsCutting (board_of b) (paths_in ts) (marked_pieces_in nodes' list)) (sym call_walk) (numbering.each (value m) below)

  pub calls_differ : (m k : List ℕ) → length m ≡ 2 → length k ≡ 2 → value m < n → value k < n
      → (outM answerM outM' answerM' outK answerK outK' answerK' : List ℕ) (r s : ℕ)
      → length (node_list_for (value m)) ≤ length outM → length (node_list_for (value k)) ≤ length outK → 1 ≤ length answerM → 1 ≤ length answerK
      → Call m outM answerM outM' answerM' r → Call k outK answerK outK' answerK' s
      → marked_pieces_in nodes' (take (get_or answerM' 0 0) outM') ≡ marked_pieces_in nodes' (take (get_or answerK' 0 0) outK') → value m ≡ value k
  calls_differ m k two two' below below' outM answerM outM' answerM' outK answerK outK' answerK' r s room room' one one' call call' e =
      numbering.once (value m) (value k) below below'
      (ap (marked_pieces_in nodes') (sym (call_walk m two below outM answerM outM' answerM' r room one call))
      ∙ e
      ∙ ap (marked_pieces_in nodes') (call_walk k two' below' outK answerK outK' answerK' s room' one' call'))

  -- every cutting has its number, two words
  pub calls_all : (X : ℕ → Bool) → IsCutting (board_of b) (paths_in ts) X
      → (m : List ℕ) × (length m ≡ 2) × Small m × (value m < n) × ((out answerM out' answerM' : List ℕ) (r : ℕ)
      → length (node_list_for (value m)) ≤ length out → 1 ≤ length answerM → Call m out answerM out' answerM' r
      → marked_pieces_in nodes' (take (get_or answerM' 0 0) out') ≡ X)
  calls_all X cutting =
      let a = numbering.all X cutting in
      let m : List ℕ = words_below 2 a.0 in
      let is : value m ≡ a.0 = value_two a.0 (lt_trans a.1 (n_small width height marks tiles small boardsA countsA boardsB countsB answer boardsA' countsA' boardsB' countsB' answer' count_told)) in
      let below : value m < n = subst (λ (k : ℕ). k < n) (sym is) a.1 in (
        m,
        two_words a.0,
        two_small a.0,
        below,
        λ out answerM out' answerM' r room one call.
            ap (marked_pieces_in nodes') (call_walk m (two_words a.0) below out answerM out' answerM' r room one call)
            ∙ ap (λ (k : ℕ). marked_pieces_in nodes' (node_list_for k)) is
            ∙ a.2,
      )
