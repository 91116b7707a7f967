-- Demand 3, entire: the theorem page of cuttings and of the tiling by number. Each statement is over the inputs and the answers of calls: any board and
-- tiles of the code (a set of the code has words of 64 bits: `Sound`), any lent words, and what each call's contract says that it answers and leaves. What
-- stands in quotation marks is demand 3's, or 01's where it says so. Rests on `NumberLaws` and layers' `CountLaws`. Assumes nothing.
use Rattle.std.specs.Prelude.{◌≡◌, Bool, List, ℕ, ◌+◌, ◌≤◌, ◌<◌, length, Result, Ok}
use Rattle.std.proofs.Common.{sym, ◌∙◌, subst, arith}
use Rattle.std.proofs.Math.Path.{ap}
use Rattle.std.proofs.Math.ListN.{take}
use Rattle.cells.specs.Set.{Sound}
use Rattle.tiles.specs.declared.Tiles.{Tiles}
use Rattle.refusal.specs.declared.Refusal.{Refusal}
use Rattle.refusal.specs.Refusal.{given, value_or, answer_of}
use Rattle.tiles.specs.Paths.{EqualCounts, paths_in}
use Rattle.tiles.specs.EqualLaws.{read_equal_tiles_given}
use Rattle.board.specs.declared.RectangularBoard.{RectangularBoard}
use Rattle.board.specs.Board.{board_of}
use Rattle.rectangle.specs.Board.{free_count}
use Rattle.rectangle.proofs.FreeLaws.{free_le}
use Rattle.covers.specs.Counts.{Numbering, Exactly}
use Rattle.path_count.specs.declared.PathCount.{PathCount}
use Rattle.path_count.specs.PathCounts.{count_limit, count_value}
use Rattle.graph.specs.declared.GraphResult.{GraphResult}
use Rattle.graph.specs.Graph.{layer_room, count_from_graph, marked_pieces_in}
use Rattle.numbered_tilings.specs.Tilings.{node_list_in, GivesTiling}
use Rattle.numbered_tilings.proofs.TilingLaws.{list_read}
use Rattle.layers.specs.LayerCounts.{count_answer, CountsTilings, CountsCuttings}
use Rattle.tiler.specs.Graphs.{Graph, generate_graph, GeneratesGraph, NumbersCuttings, result_of_graph}
use Rattle.expansion.specs.Plots.{IsCutting, HasFreeCell, AllEdgeJoined}
use Rattle.tiler.specs.GivenLaws.{plot_accepted, graph_told}
use Rattle.layers.proofs.CountLaws.{counts_cuttings}
use Rattle.tiler.specs.NumberLaws.{words_count_small, words_cuttings, words_length}
use Rattle.tiler.specs.Theorems.{calls_agree, own_graph_is_sound}

-- ---- 1. Of one call

module _ (b : RectangularBoard) (fixed : Sound b.fixed) (laid : Sound b.laid) (ts : Tiles) where
  -- A layer count that is given is the number of cuttings.
  pub layer_count_is_number_of_cuttings : (boardsA countsA boardsB countsB boardsA' countsA' boardsB' countsB' : List ℕ) (count : Result PathCount Refusal)
      → CountsTilings b ts boardsA countsA boardsB countsB boardsA' countsA' boardsB' countsB' count → CountsCuttings b ts count
  layer_count_is_number_of_cuttings = counts_cuttings b fixed laid ts

  -- A graph that is given is not refused by 11, and the numbers below its count number the cuttings: each number gives one, two numbers never give the
  -- same, and every cutting has its number.
  pub graph_numbers_cuttings : (nodes counts edges nodes' counts' edges' : List ℕ) (made : Result GraphResult Refusal)
      → GeneratesGraph b ts nodes counts edges nodes' counts' edges' made → NumbersCuttings b ts nodes' counts' edges' made
  graph_numbers_cuttings nodes counts edges nodes' counts' edges' made generated = record {
    sound = own_graph_is_sound b fixed laid ts nodes counts edges nodes' counts' edges' made generated;
    cuttings = words_cuttings b fixed laid ts nodes counts edges nodes' counts' edges' made generated;
  }

-- ---- 2. Of the three calls: demand 3, sentence by sentence

-- "Take any board with a free cell, any lent words, and any tiles" (that they "all cover equally many cells" is not asked: tiles that do not are refused,
-- `tiles_cover_equally_many`) "where every cell of a tile of two or more cells shares an edge with another cell of that tile."
module _ (b : RectangularBoard) (fixed : Sound b.fixed) (laid : Sound b.laid) (ts : Tiles) (free : HasFreeCell (board_of b)) (joined : AllEdgeJoined (paths_in ts))
    -- `count_tilings` is called,
    (boardsA countsA boardsB countsB boardsA' countsA' boardsB' countsB' : List ℕ) (count : Result PathCount Refusal)
    (counted : CountsTilings b ts boardsA countsA boardsB countsB boardsA' countsA' boardsB' countsB' count)
    -- and `generate_graph`.
    (nodes counts edges nodes' counts' edges' : List ℕ) (made : Result GraphResult Refusal) (generated : GeneratesGraph b ts nodes counts edges nodes' counts' edges' made)
    -- "If neither count is refused,"
    (n : ℕ) (count_given : count_answer count ≡ given n) (graph : GraphResult) (graph_given : made ≡ Ok graph) where
  told : (g : Graph) × (generate_graph b ts (length nodes) (length counts) (length edges) ≡ given g) × (result_of_graph g ≡ graph)
  told = graph_told b fixed laid ts nodes counts edges nodes' counts' edges' made generated graph graph_given

  -- "both equal the number of cuttings": n is the layer count, and the graph count is n too,
  pub both_counts : count_from_graph graph.complete counts' ≡ n
  both_counts =
      calls_agree b fixed laid ts (layer_room (length boardsA) (length countsA) (length boardsB) (length countsB)) n (sym counted.answer ∙ count_given)
      nodes counts edges nodes' counts' edges' made generated graph graph_given

  -- and so is what `count_tilings_from_graph` answers by its contract;
  pub graph_count_told : (r : PathCount) → count_value r ≡ count_from_graph graph.complete counts' → count_value r ≡ n
  graph_count_told r counts_it = counts_it ∙ both_counts

  -- and n is "the number of cuttings, the ways to cut the free cells into pieces that tiles cover."
  pub number_of_cuttings : Exactly n (IsCutting (board_of b) (paths_in ts))
  number_of_cuttings =
      layer_count_is_number_of_cuttings b fixed laid ts boardsA countsA boardsB countsB boardsA' countsA' boardsB' countsB' count counted free joined n count_given

  -- n is below the limit of a path count, so that every number below it can be handed to the numbered call.
  pub numbers_are_path_counts : n < count_limit
  numbers_are_path_counts =
      subst (λ (k : ℕ). k < count_limit) both_counts (words_count_small b fixed laid ts nodes counts edges nodes' counts' edges' made generated graph graph_given)

  -- "The numbered call is then handed the graph and its result as they were built for that board and tiles, and an output"
  abbrev pub NumberedCall : ℕ → List ℕ → List ℕ → Result ℕ Refusal → Type 0
  NumberedCall m out out' t = GivesTiling graph nodes' counts' edges' m out out' t

  -- the list of 01's walk for the number m
  abbrev pub node_list_for : ℕ → List ℕ
  node_list_for m = node_list_in graph counts' edges' m

  -- "that is long enough": not shorter than that list,
  abbrev pub LongEnough : ℕ → List ℕ → Type 0
  LongEnough m out = length (node_list_for m) ≤ length out

  few : (m : ℕ) → m < n → length (node_list_for m) ≤ free_count (board_of b) + 1
  few m h =
      words_length b fixed laid ts nodes counts edges nodes' counts' edges' made generated graph graph_given m (subst (λ (k : ℕ). m < k) (sym both_counts) h)

  -- as is any output of 257 words, one more than a board can have free cells.
  pub long_enough : (m : ℕ) → m < n → length (node_list_for m) ≤ 257
  long_enough m h = let f = few m h in omega (arith, free_le (board_of b))

  -- the node list that the call leaves: as many words of the output as it answers
  abbrev pub node_list_left : List ℕ → Result ℕ Refusal → List ℕ
  node_list_left out' t = take (value_or 0 (answer_of t)) out'

  -- what it gives, in 01's words: "the set of pieces that its steps mark"
  abbrev pub cutting_left : List ℕ → Result ℕ Refusal → ℕ → Bool
  cutting_left out' t = marked_pieces_in nodes' (node_list_left out' t)

  -- the pieces of the lists by number are the cuttings
  numbering : Numbering (IsCutting (board_of b) (paths_in ts)) n (λ m. marked_pieces_in nodes' (node_list_for m))
  numbering =
      subst (λ (k : ℕ). Numbering (IsCutting (board_of b) (paths_in ts)) k (λ m. marked_pieces_in nodes' (node_list_for m))) both_counts
      ((graph_numbers_cuttings b fixed laid ts nodes counts edges nodes' counts' edges' made generated).cuttings graph graph_given free joined)

  module _ (m : ℕ) (below : m < n) (out out' : List ℕ) (t : Result ℕ Refusal) (long : LongEnough m out) (call : NumberedCall m out out' t) where
    read : (answer_of t ≡ given (length (node_list_for m))) × (take (length (node_list_for m)) out' ≡ node_list_for m)
    read =
        list_read graph nodes' counts' edges' m out out' t call (own_graph_is_sound b fixed laid ts nodes counts edges nodes' counts' edges' made generated graph graph_given)
        (subst (λ (k : ℕ). m < k) (sym both_counts) below) long

    -- "For every number below the count, it isn't refused" (the length of the list comes back)
    pub not_refused : answer_of t ≡ given (length (node_list_for m))
    not_refused = read.0

    -- "and gives, by document 01's walk,"
    pub by_the_walk : node_list_left out' t ≡ node_list_for m
    unfolding value_or
    by_the_walk = ap (λ (k : ℕ). take k out') (ap (value_or 0) read.0) ∙ read.1

    -- "one cutting."
    pub gives_a_cutting : IsCutting (board_of b) (paths_in ts) (cutting_left out' t)
    gives_a_cutting = subst (λ (list : List ℕ). IsCutting (board_of b) (paths_in ts) (marked_pieces_in nodes' list)) (sym by_the_walk) (numbering.each m below)

  -- "Different numbers give different cuttings,"
  pub different_cuttings : (m k : ℕ) → m < n → k < n → (outM outM' : List ℕ) (tM : Result ℕ Refusal) (outK outK' : List ℕ) (tK : Result ℕ Refusal) → LongEnough m outM → LongEnough k outK
      → NumberedCall m outM outM' tM → NumberedCall k outK outK' tK → cutting_left outM' tM ≡ cutting_left outK' tK → m ≡ k
  different_cuttings m k h i outM outM' tM outK outK' tK longM longK call_m callK e =
      numbering.once m k h i
      (ap (marked_pieces_in nodes') (sym (by_the_walk m h outM outM' tM longM call_m)) ∙ e ∙ ap (marked_pieces_in nodes') (by_the_walk k i outK outK' tK longK callK))

  -- "and every cutting has its number below the count."
  pub every_cutting_has_its_number : (X : ℕ → Bool) → IsCutting (board_of b) (paths_in ts) X
      → (m : ℕ) × (m < n) × ((out out' : List ℕ) (t : Result ℕ Refusal) → LongEnough m out → NumberedCall m out out' t → cutting_left out' t ≡ X)
  every_cutting_has_its_number X cutting =
      let r = numbering.all X cutting in
      (r.0, r.1, λ out out' t long call. ap (marked_pieces_in nodes') (by_the_walk r.0 r.1 out out' t long call) ∙ r.2)

  -- ---- 3. Of the same calls

  -- Tiles whose counts are given "all cover equally many cells": it need not be asked.
  pub tiles_cover_equally_many : EqualCounts (paths_in ts)
  tiles_cover_equally_many = (read_equal_tiles_given ts (paths_in ts) (plot_accepted b fixed laid ts (length nodes) (length counts) (length edges) told.0 told.1).tiles).3

  -- Any output of more words than there are free cells is long enough.
  pub free_and_one_enough : (m : ℕ) → m < n → length (node_list_for m) ≤ free_count (board_of b) + 1
  free_and_one_enough = few
