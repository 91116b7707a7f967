-- What the exported functions mean for a host: the theorem page. When 0 is returned; that the answer is then that of the call below; that nothing is left
-- after a refusal; what the words and bytes that one call leaves are to the next call; and demand 3, over the words that the C calls leave. What each
-- function returns and leaves, for every input, is said by `AnswersList` of host_words' `Layout` and the records of `Calls` of `host_plots`, `host_counts` and `host_tilings`, and each statement here is of calls of which they hold. What stands in
-- quotation marks is demand 3's. Rests on `ReturnLaws`, `RefusedLaws`, `HandedOnLaws` and `CuttingLaws`. Assumes nothing.
use Rattle.std.specs.Prelude.{◌≡◌, refl, ◌↔◌, Bool, List, [], ℕ, ◌+◌, ◌*◌, ◌/◌, ◌≤◌, ◌<◌, length, get_or, take, drop, replicate}
use Rattle.std.proofs.Common.{ap, ◌∙◌}
use Rattle.cells.specs.WordLaws.{Small}
use Rattle.cells.specs.Set.{value}
use Rattle.cells.specs.ArrayLaws.{padded_empty}
use Rattle.cells.specs.Lists.{words_for, padded}
use Rattle.refusal.specs.Refusal.{Answer, given, map_answer}
use Rattle.tile.specs.Path.{Path, read_tile}
use Rattle.tiles.specs.Paths.{orbit, paths_in, read_tiles}
use Rattle.rectangle.specs.Board.{Board, free_count}
use Rattle.board.specs.Board.{board_of, read_board}
use Rattle.children.specs.Children.{place_tile}
use Rattle.covers.specs.Counts.{Exactly}
use Rattle.path_count.specs.PathCounts.{counts_for}
use Rattle.graph.specs.Graph.{edges_for, layer_room, count_from_graph, marked_pieces_in}
use Rattle.numbered_tilings.specs.Tilings.{node_list_in, tiling_by_number}
use Rattle.tiler.specs.Graphs.{Graph, no_graph, generate_graph}
use Rattle.layers.specs.LayerCounts.{count_tilings}
use Rattle.expansion.specs.Plots.{IsCutting, HasFreeCell, AllEdgeJoined}
use Rattle.single_tiling.specs.SingleTiling.{read_search, boards_found}
use Rattle.plot_file.specs.PlotFile.{Plot, no_plot, plot_in}
use Rattle.host_words.specs.Layout.{board_in, board_words, result_in, plot_shape, AnswersList}
use Rattle.host_tiles.specs.TileBytes.{tile_in, tiles_in, bytes_for}
use Rattle.host_plots.specs.Calls.{orbit_shape, file_shape, placed, orbit_for, read_file, AnswersPlot}
use Rattle.host_counts.specs.Calls.{counted, AnswersCount, generated, AnswersGraph}
use Rattle.host_tilings.specs.Calls.{tiling_shape, searched, AnswersSingle, numbered}
use Rattle.hosts.specs.ReturnLaws.{zero_given, unless_same, placed_refuses, counted_refuses, generated_refuses, searched_refuses, numbered_refuses, orbit_for_refuses, read_refuses}
use Rattle.hosts.specs.RefusedLaws.{no_counts, no_sets, no_edges, no_tiles, no_board_lem, nothing_put, was_refused, words_zero, none_left}
use Rattle.hosts.specs.HandedOnLaws as HandedOn
use Rattle.hosts.specs.CuttingLaws as Cutting

-- ---- 1. 0 is returned exactly if nothing is refused: then, and only then, is there a value; and it is the value that the call below gives

module _ (width height : ℕ) (marks tiles : List ℕ) where
  -- `cuttings_place_tile`: the children are given.
  pub place_tile_returns : (out answer out' answer' : List ℕ) (r : ℕ)
      → AnswersList words_for (placed width height marks tiles (length out) (length answer)) out answer out' answer' r
      → (r ≡ 0) ↔ ((ns : List ℕ) × (placed width height marks tiles (length out) (length answer) ≡ given ns))
  place_tile_returns out answer out' answer' r told =
      zero_given _ (placed width height marks tiles (length out) (length answer)) answer answer' r
      (placed_refuses width height marks tiles (length answer) (length out)) told.answered

  pub place_tile_below : (out answer out' answer' : List ℕ)
      → AnswersList words_for (placed width height marks tiles (length out) (length answer)) out answer out' answer' 0
      → placed width height marks tiles (length out) (length answer) ≡ place_tile (board_of (board_in width height marks)) (tiles_in tiles) (length out)
  unfolding placed
  place_tile_below out answer out' answer' told =
      unless_same (plot_shape 1 (length marks) (length tiles) (length answer)) (place_tile (board_of (board_in width height marks)) (tiles_in tiles) (length out))
      ((place_tile_returns out answer out' answer' 0 told).0 refl)

  -- `cuttings_count_tilings`: the layer count is given.
  module _ (boardsA countsA boardsB countsB answer boardsA' countsA' boardsB' countsB' answer' : List ℕ) where
    abbrev room : ℕ
    room = layer_room (length boardsA) (length countsA) (length boardsB) (length countsB)

    pub count_tilings_returns : (r : ℕ)
        → AnswersCount (counted width height marks tiles room (length answer)) boardsA countsA boardsB countsB answer boardsA' countsA' boardsB' countsB' answer' r
        → (r ≡ 0) ↔ ((n : ℕ) × (counted width height marks tiles room (length answer) ≡ given n))
    count_tilings_returns r told =
        zero_given _ (counted width height marks tiles room (length answer)) answer answer' r (counted_refuses width height marks tiles (length answer) room) told.answered

    pub count_tilings_below :
        AnswersCount (counted width height marks tiles room (length answer)) boardsA countsA boardsB countsB answer boardsA' countsA' boardsB' countsB' answer' 0
        → counted width height marks tiles room (length answer) ≡ count_tilings (board_in width height marks) (tiles_in tiles) room
    unfolding counted
    count_tilings_below told =
        unless_same (plot_shape 2 (length marks) (length tiles) (length answer)) (count_tilings (board_in width height marks) (tiles_in tiles) room)
        ((count_tilings_returns 0 told).0 refl)

  -- `cuttings_generate_graph`: the graph is given.
  pub generate_graph_returns : (nodes counts edges answer nodes' counts' edges' answer' : List ℕ) (r : ℕ)
      → AnswersGraph (generated width height marks tiles (length nodes) (length counts) (length edges) (length answer)) nodes counts edges answer nodes' counts' edges' answer' r
      → (r ≡ 0) ↔ ((g : Graph) × (generated width height marks tiles (length nodes) (length counts) (length edges) (length answer) ≡ given g))
  generate_graph_returns nodes counts edges answer nodes' counts' edges' answer' r told =
      zero_given _ (generated width height marks tiles (length nodes) (length counts) (length edges) (length answer)) answer answer' r
      (generated_refuses width height marks tiles (length answer) (length nodes) (length counts) (length edges)) told.answered

  pub generate_graph_below : (nodes counts edges answer nodes' counts' edges' answer' : List ℕ)
      → AnswersGraph (generated width height marks tiles (length nodes) (length counts) (length edges) (length answer)) nodes counts edges answer nodes' counts' edges' answer' 0
      → generated width height marks tiles (length nodes) (length counts) (length edges) (length answer)
      ≡ generate_graph (board_in width height marks) (tiles_in tiles) (length nodes) (length counts) (length edges)
  unfolding generated
  generate_graph_below nodes counts edges answer nodes' counts' edges' answer' told =
      unless_same (plot_shape 4 (length marks) (length tiles) (length answer))
      (generate_graph (board_in width height marks) (tiles_in tiles) (length nodes) (length counts) (length edges))
      ((generate_graph_returns nodes counts edges answer nodes' counts' edges' answer' 0 told).0 refl)

  -- `cuttings_single_tiling`: the board and the tiles of the search are given. That no tiling is found is no refusal: 0 is returned, and 0 boards. Which tiling is
  -- found is free; what may be found of them, none or a `Tiling`, and what stands in the words, is said by the record itself (`found`, `tiling`).
  pub single_tiling_returns : (out answer out' answer' : List ℕ) (r : ℕ)
      → AnswersSingle (searched width height marks tiles (length out) (length answer)) out answer out' answer' r
      → (r ≡ 0) ↔ ((p : Board × List Path) × (searched width height marks tiles (length out) (length answer) ≡ given p))
  single_tiling_returns out answer out' answer' r told =
      zero_given _ (searched width height marks tiles (length out) (length answer)) answer answer' r
      (searched_refuses width height marks tiles (length answer) (length out)) told.answered

  pub single_tiling_below : (out answer out' answer' : List ℕ)
      → AnswersSingle (searched width height marks tiles (length out) (length answer)) out answer out' answer' 0
      → searched width height marks tiles (length out) (length answer) ≡ read_search (board_in width height marks) (tiles_in tiles) (length out / 4)
  unfolding searched
  single_tiling_below out answer out' answer' told =
      unless_same (plot_shape 1 (length marks) (length tiles) (length answer)) (read_search (board_in width height marks) (tiles_in tiles) (length out / 4))
      ((single_tiling_returns out answer out' answer' 0 told).0 refl)

-- `cuttings_tiling`: the node list is given.
pub tiling_returns : (node_words : ℕ) (counts edges graph m out answer out' answer' : List ℕ) (r : ℕ)
    → AnswersList padded (numbered node_words counts edges graph m (length out) (length answer)) out answer out' answer' r
    → (r ≡ 0) ↔ ((ns : List ℕ) × (numbered node_words counts edges graph m (length out) (length answer) ≡ given ns))
tiling_returns node_words counts edges graph m out answer out' answer' r told =
    zero_given _ (numbered node_words counts edges graph m (length out) (length answer)) answer answer' r
    (numbered_refuses node_words counts edges graph m (length out) (length answer)) told.answered

pub tiling_below : (node_words : ℕ) (counts edges graph m out answer out' answer' : List ℕ)
    → AnswersList padded (numbered node_words counts edges graph m (length out) (length answer)) out answer out' answer' 0
    → numbered node_words counts edges graph m (length out) (length answer) ≡ tiling_by_number (result_in graph) node_words counts edges (value m) (length out)
unfolding numbered
tiling_below node_words counts edges graph m out answer out' answer' told =
    unless_same (tiling_shape graph (length m) (length answer)) (tiling_by_number (result_in graph) node_words counts edges (value m) (length out))
    ((tiling_returns node_words counts edges graph m out answer out' answer' 0 told).0 refl)

-- `cuttings_orbit`: the orbit is given.
pub orbit_returns : (tile tiles answer tiles' answer' : List ℕ) (r : ℕ)
    → AnswersList bytes_for (orbit_for tile (length tiles) (length answer)) tiles answer tiles' answer' r
    → (r ≡ 0) ↔ ((paths : List Path) × (orbit_for tile (length tiles) (length answer) ≡ given paths))
orbit_returns tile tiles answer tiles' answer' r told =
    zero_given _ (orbit_for tile (length tiles) (length answer)) answer answer' r (orbit_for_refuses tile (length tiles) (length answer)) told.answered

pub orbit_below : (tile tiles answer tiles' answer' : List ℕ)
    → AnswersList bytes_for (orbit_for tile (length tiles) (length answer)) tiles answer tiles' answer' 0
    → orbit_for tile (length tiles) (length answer) ≡ map_answer orbit (read_tile (tile_in tile))
unfolding orbit_for
orbit_below tile tiles answer tiles' answer' told =
    unless_same (orbit_shape (length tile) (length tiles) (length answer)) (map_answer orbit (read_tile (tile_in tile))) ((orbit_returns tile tiles answer tiles' answer' 0 told).0 refl)

-- `cuttings_read_plot`: the plot is given.
pub read_plot_returns : (file board tiles answer board' tiles' answer' : List ℕ) (r : ℕ)
    → AnswersPlot (read_file file (length board) (length tiles) (length answer)) board tiles answer board' tiles' answer' r
    → (r ≡ 0) ↔ ((p : Plot) × (read_file file (length board) (length tiles) (length answer) ≡ given p))
read_plot_returns file board tiles answer board' tiles' answer' r told =
    zero_given _ (read_file file (length board) (length tiles) (length answer)) answer answer' r (read_refuses file (length board) (length tiles) (length answer)) told.answered

pub read_plot_below : (file board tiles answer board' tiles' answer' : List ℕ)
    → AnswersPlot (read_file file (length board) (length tiles) (length answer)) board tiles answer board' tiles' answer' 0
    → read_file file (length board) (length tiles) (length answer) ≡ plot_in file
unfolding read_file
read_plot_below file board tiles answer board' tiles' answer' told =
    unless_same (file_shape (length board) (length tiles) (length answer)) (plot_in file) ((read_plot_returns file board tiles answer board' tiles' answer' 0 told).0 refl)

-- ---- 2. Where a refusal's number is returned, every lent word and byte is zero. (The layers of `cuttings_count_tilings` are zero on every return.)

-- `cuttings_place_tile`
pub place_tile_refused : (a : Answer (List ℕ)) (out answer out' answer' : List ℕ) (r : ℕ) → AnswersList words_for a out answer out' answer' r → 0 < r
    → (out' ≡ replicate (length out) 0) × (answer' ≡ replicate (length answer) 0)
place_tile_refused a out answer out' answer' r told h = (
  none_left a (was_refused _ a answer answer' r told.answered h) [] (λ ns. words_for ns (length out)) told.out_left ∙ no_sets (length out),
  words_zero _ a answer answer' r told.answered h,
)

-- `cuttings_count_tilings`
pub count_tilings_refused : (a : Answer ℕ) (boardsA countsA boardsB countsB answer boardsA' countsA' boardsB' countsB' answer' : List ℕ) (r : ℕ)
    → AnswersCount a boardsA countsA boardsB countsB answer boardsA' countsA' boardsB' countsB' answer' r → 0 < r → answer' ≡ replicate (length answer) 0
count_tilings_refused a boardsA countsA boardsB countsB answer boardsA' countsA' boardsB' countsB' answer' r told h =
    words_zero _ a answer answer' r told.answered h

-- `cuttings_generate_graph`
pub generate_graph_refused : (a : Answer Graph) (nodes counts edges answer nodes' counts' edges' answer' : List ℕ) (r : ℕ)
    → AnswersGraph a nodes counts edges answer nodes' counts' edges' answer' r → 0 < r
    → (nodes' ≡ replicate (length nodes) 0) × (counts' ≡ replicate (length counts) 0) × (edges' ≡ replicate (length edges) 0) × (answer' ≡ replicate (length answer) 0)
generate_graph_refused a nodes counts edges answer nodes' counts' edges' answer' r told h =
    let refuses = was_refused _ a answer answer' r told.answered h in (
      none_left a refuses no_graph (λ g. words_for g.nodes (length nodes)) told.nodes_left ∙ no_sets (length nodes),
      none_left a refuses no_graph (λ g. counts_for g.counts (length counts)) told.counts_left ∙ no_counts (length counts),
      none_left a refuses no_graph (λ g. edges_for g.edges (length edges)) told.edges_left ∙ no_edges (length edges),
      words_zero _ a answer answer' r told.answered h,
    )

-- `cuttings_single_tiling`
pub single_tiling_refused : (a : Answer (Board × List Path)) (out answer out' answer' : List ℕ) (r : ℕ) → AnswersSingle a out answer out' answer' r → 0 < r
    → (out' ≡ replicate (length out) 0) × (answer' ≡ replicate (length answer) 0)
single_tiling_refused a out answer out' answer' r told h = (
  told.out_left
      ∙ ap (λ (ns : List ℕ). words_for ns (length out)) (nothing_put (λ p. boards_found told.found) a [] (was_refused _ a answer answer' r told.answered h))
      ∙ no_sets (length out),
  words_zero _ a answer answer' r told.answered h,
)

-- `cuttings_tiling`
pub tiling_refused : (a : Answer (List ℕ)) (out answer out' answer' : List ℕ) (r : ℕ) → AnswersList padded a out answer out' answer' r → 0 < r
    → (out' ≡ replicate (length out) 0) × (answer' ≡ replicate (length answer) 0)
tiling_refused a out answer out' answer' r told h = (
  none_left a (was_refused _ a answer answer' r told.answered h) [] (λ ns. padded ns (length out)) told.out_left ∙ padded_empty (length out),
  words_zero _ a answer answer' r told.answered h,
)

-- `cuttings_orbit`
pub orbit_refused : (a : Answer (List Path)) (tiles answer tiles' answer' : List ℕ) (r : ℕ) → AnswersList bytes_for a tiles answer tiles' answer' r → 0 < r
    → (tiles' ≡ replicate (length tiles) 0) × (answer' ≡ replicate (length answer) 0)
orbit_refused a tiles answer tiles' answer' r told h = (
  none_left a (was_refused _ a answer answer' r told.answered h) [] (λ paths. bytes_for paths (length tiles)) told.out_left ∙ no_tiles (length tiles),
  words_zero _ a answer answer' r told.answered h,
)

-- `cuttings_read_plot`
pub read_plot_refused : (a : Answer Plot) (board tiles answer board' tiles' answer' : List ℕ) (r : ℕ) → AnswersPlot a board tiles answer board' tiles' answer' r → 0 < r
    → (board' ≡ replicate (length board) 0) × (tiles' ≡ replicate (length tiles) 0) × (answer' ≡ replicate (length answer) 0)
read_plot_refused a board tiles answer board' tiles' answer' r told h =
    let refuses = was_refused _ a answer answer' r told.answered h in (
      none_left a refuses no_plot (λ p. padded (board_words p.board) (length board)) told.board_left ∙ no_board_lem (length board),
      none_left a refuses no_plot (λ p. bytes_for p.tiles (length tiles)) told.tiles_left ∙ no_tiles (length tiles),
      words_zero _ a answer answer' r told.answered h,
    )

-- ---- 3. What one call leaves is what the next call reads

-- What `cuttings_read_plot` leaves is the file's plot. A call that is handed width and height from the board's first two words, the eight words behind them as
-- marks, and as many tiles as the answer word tells, reads that plot's board and tiles,
pub read_plot_handed_on : (file board tiles answer board' tiles' answer' : List ℕ)
    → AnswersPlot (read_file file (length board) (length tiles) (length answer)) board tiles answer board' tiles' answer' 0
    → (p : Plot) × (plot_in file ≡ given p) × (get_or answer' 0 0 ≡ length p.tiles)
    × (read_board (board_in (get_or board' 0 0) (get_or board' 1 0) (take 8 (drop 2 board'))) ≡ given p.board)
    × (read_tiles (tiles_in (take (33 * get_or answer' 0 0) tiles')) ≡ given p.tiles)
read_plot_handed_on = HandedOn.plot_read

-- and finds the shapes right, if it is lent enough answer words.
pub read_plot_shapes : (file board tiles answer board' tiles' answer' : List ℕ)
    → AnswersPlot (read_file file (length board) (length tiles) (length answer)) board tiles answer board' tiles' answer' 0
    → (needed words : ℕ) → needed ≤ words → plot_shape needed (length (take 8 (drop 2 board'))) (length (take (33 * get_or answer' 0 0) tiles')) words ≡ 0
read_plot_shapes = HandedOn.plot_shapes

-- What `cuttings_orbit` leaves is the tile's orbit: a call that is handed as many tiles as the answer word tells reads the orbit.
pub orbit_handed_on : (tile tiles answer tiles' answer' : List ℕ) → AnswersList bytes_for (orbit_for tile (length tiles) (length answer)) tiles answer tiles' answer' 0
    → (p : Path) × (read_tile (tile_in tile) ≡ given p) × (get_or answer' 0 0 ≡ length (orbit p))
    × (read_tiles (tiles_in (take (33 * get_or answer' 0 0) tiles')) ≡ given (orbit p))
orbit_handed_on = HandedOn.orbit_read

-- The four answer words of `cuttings_generate_graph` are the graph's result: handed to `cuttings_tiling` with a number of two words and an answer word, they
-- are the numbers of nodes and edges and the full node, or none, and their shape is right.
pub result_handed_on : (width height : ℕ) (marks tiles nodes counts edges answer nodes' counts' edges' answer' : List ℕ)
    → AnswersGraph (generated width height marks tiles (length nodes) (length counts) (length edges) (length answer)) nodes counts edges answer nodes' counts' edges' answer' 0
    → (g : Graph) × (generate_graph (board_in width height marks) (tiles_in tiles) (length nodes) (length counts) (length edges) ≡ given g)
    × ((result_in (take 4 answer')).nodes ≡ length g.nodes) × ((result_in (take 4 answer')).edges ≡ length g.edges)
    × ((result_in (take 4 answer')).complete ≡ g.complete) × ((words : ℕ) → 1 ≤ words → tiling_shape (take 4 answer') 2 words ≡ 0)
result_handed_on = HandedOn.result_read

-- ---- 4. Demand 3 for a host, over the words that the calls leave

-- what `cuttings_count_tilings` tells: the number in its two answer words
abbrev pub count_told : List ℕ → ℕ
count_told answer' = value (take 2 answer')

-- what `cuttings_tiling` leaves: as many words of the output as its answer word tells are the node list, and its steps mark these pieces
abbrev pub cutting_left : List ℕ → List ℕ → List ℕ → ℕ → Bool
cutting_left nodes' out' answer' = marked_pieces_in nodes' (take (get_or answer' 0 0) out')

-- the node list of 01's walk, of a graph's words and the four words of its result
abbrev pub node_list_for : List ℕ → List ℕ → List ℕ → ℕ → List ℕ
node_list_for counts edges result m = node_list_in (result_in result) counts edges m

-- a call of `cuttings_tiling` with the words of a graph and its result, and a number of two words that is below a count; it is lent an output that is long
-- enough, and an answer word
pub record NumberedCall (count : ℕ) (nodes counts edges result m out list out' list' : List ℕ) (r : ℕ) : Type 0 where
  pub two : length m ≡ 2
  pub below : value m < count
  pub room : length (node_list_for counts edges result (value m)) ≤ length out
  pub word : 1 ≤ length list
  pub call : AnswersList padded (numbered (length nodes) counts edges result m (length out) (length list)) out list out' list' r

-- The count alone: where `cuttings_count_tilings` returns 0, the number that it tells is the number of cuttings.
pub count_is_number_of_cuttings : (width height : ℕ) (marks tiles : List ℕ) → Small marks
    → (boardsA countsA boardsB countsB answer boardsA' countsA' boardsB' countsB' answer' : List ℕ)
    → AnswersCount (counted width height marks tiles (layer_room (length boardsA) (length countsA) (length boardsB) (length countsB)) (length answer))
    boardsA countsA boardsB countsB answer boardsA' countsA' boardsB' countsB' answer' 0
    → HasFreeCell (board_of (board_in width height marks)) → AllEdgeJoined (paths_in (tiles_in tiles))
    → Exactly (count_told answer') (IsCutting (board_of (board_in width height marks)) (paths_in (tiles_in tiles)))
count_is_number_of_cuttings = Cutting.n_cuttings

-- All of it: "Take any board with a free cell, any lent words, and any tiles […] where every cell of a tile of two or more cells shares an edge with another
-- cell of that tile." The words of marks have 64 bits, as a host's words do.
module _ (width height : ℕ) (marks tiles : List ℕ) (small : Small marks) (free : HasFreeCell (board_of (board_in width height marks)))
    (joined : AllEdgeJoined (paths_in (tiles_in tiles)))
    -- `cuttings_count_tilings` is called and returns 0,
    (boardsA countsA boardsB countsB answer boardsA' countsA' boardsB' countsB' answer' : List ℕ)
    (count_told_lem : AnswersCount (counted width height marks tiles (layer_room (length boardsA) (length countsA) (length boardsB) (length countsB)) (length answer))
    boardsA countsA boardsB countsB answer boardsA' countsA' boardsB' countsB' answer' 0)
    -- and so does `cuttings_generate_graph`: "If neither count is refused,"
    (nodes counts edges result nodes' counts' edges' result' : List ℕ)
    (graph_told : AnswersGraph (generated width height marks tiles (length nodes) (length counts) (length edges) (length result))
    nodes counts edges result nodes' counts' edges' result' 0) where
  abbrev pub Cuttings : (ℕ → Bool) → Type 0
  Cuttings X = IsCutting (board_of (board_in width height marks)) (paths_in (tiles_in tiles)) X

  -- "both equal the number of cuttings": the layer count that is told is their number,
  pub number_of_cuttings : Exactly (count_told answer') Cuttings
  number_of_cuttings =
      count_is_number_of_cuttings width height marks tiles small boardsA countsA boardsB countsB answer boardsA' countsA' boardsB' countsB' answer' count_told_lem free joined

  -- and so is the count of the graph's words, the count word of its full node.
  pub both_counts : count_from_graph (result_in (take 4 result')).complete counts' ≡ count_told answer'
  both_counts =
      Cutting.n_from_graph width height marks tiles small free joined boardsA countsA boardsB countsB answer boardsA' countsA' boardsB' countsB' answer' count_told_lem
      nodes counts edges result nodes' counts' edges' result' graph_told

  -- "The numbered call is then handed the graph and its result as they were built for that board and tiles, and an output that is long enough":
  abbrev pub Call : List ℕ → List ℕ → List ℕ → List ℕ → List ℕ → ℕ → Type 0
  Call m out list out' list' r =
      NumberedCall (count_told answer') nodes' counts' edges' (take 4 result') m out list out' list' r

  -- an output of more words than there are free cells always is.
  pub free_and_one_enough : (m : ℕ) → m < count_told answer' → length (node_list_for counts' edges' (take 4 result') m) ≤ free_count (board_of (board_in width height marks)) + 1
  free_and_one_enough =
      Cutting.call_long width height marks tiles small free joined boardsA countsA boardsB countsB answer boardsA' countsA' boardsB' countsB' answer' count_told_lem
      nodes counts edges result nodes' counts' edges' result' graph_told

  module _ (m out list out' list' : List ℕ) (r : ℕ) (c : Call m out list out' list' r) where
    -- "For every number below the count, it isn't refused"
    pub not_refused : r ≡ 0
    not_refused =
        Cutting.call_returns width height marks tiles small free joined boardsA countsA boardsB countsB answer boardsA' countsA' boardsB' countsB' answer' count_told_lem
        nodes counts edges result nodes' counts' edges' result' graph_told m c.two c.below out list out' list' r c.room c.word c.call

    -- "and gives, by document 01's walk,"
    pub by_the_walk : take (get_or list' 0 0) out' ≡ node_list_for counts' edges' (take 4 result') (value m)
    by_the_walk =
        Cutting.call_walk width height marks tiles small free joined boardsA countsA boardsB countsB answer boardsA' countsA' boardsB' countsB' answer' count_told_lem
        nodes counts edges result nodes' counts' edges' result' graph_told m c.two c.below out list out' list' r c.room c.word c.call

    -- "one cutting."
    pub gives_a_cutting : Cuttings (cutting_left nodes' out' list')
    gives_a_cutting =
        Cutting.call_cutting width height marks tiles small free joined boardsA countsA boardsB countsB answer boardsA' countsA' boardsB' countsB' answer' count_told_lem
        nodes counts edges result nodes' counts' edges' result' graph_told m c.two c.below out list out' list' r c.room c.word c.call

  -- "Different numbers give different cuttings,"
  pub different_cuttings : (m outM listM outM' listM' : List ℕ) (r : ℕ) → Call m outM listM outM' listM' r
      → (k outK listK outK' listK' : List ℕ) (s : ℕ) → Call k outK listK outK' listK' s
      → cutting_left nodes' outM' listM' ≡ cutting_left nodes' outK' listK' → value m ≡ value k
  different_cuttings m outM listM outM' listM' r c k outK listK outK' listK' s d e =
      Cutting.calls_differ width height marks tiles small free joined boardsA countsA boardsB countsB answer boardsA' countsA' boardsB' countsB' answer' count_told_lem
      nodes counts edges result nodes' counts' edges' result' graph_told m k c.two d.two c.below d.below
      outM listM outM' listM' outK listK outK' listK' r s c.room d.room c.word d.word c.call d.call e

  -- "and every cutting has its number below the count": two words of 64 bits, with which every call gives that cutting.
  pub every_cutting_has_its_number : (X : ℕ → Bool) → Cuttings X
      → (m : List ℕ) × (length m ≡ 2) × Small m × (value m < count_told answer')
      × ((out list out' list' : List ℕ) (r : ℕ) → Call m out list out' list' r → cutting_left nodes' out' list' ≡ X)
  every_cutting_has_its_number X cutting =
      let a = Cutting.calls_all width height marks tiles small free joined boardsA countsA boardsB countsB answer boardsA' countsA' boardsB' countsB' answer' count_told_lem
      nodes counts edges result nodes' counts' edges' result' graph_told X cutting
      in (
        a.0,
        a.1,
        a.2,
        a.3,
        λ out list out' list' r c. a.4 out list out' list' r c.room c.word c.call,
      )
