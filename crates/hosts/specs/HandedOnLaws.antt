-- Laws of calls that returned 0: what the call below gave, that the shapes were right, and what stands in the words; and so what another call that is handed
-- those words reads from them. Rests on `ReturnLaws` and `ReadBackLaws`. Assumes nothing.
use Rattle.std.specs.Prelude.{◌≡◌, Ok, Option, refl, ℕ, ◌*◌, ◌%◌, ◌^◌, ◌≤◌, ◌<◌, take, drop}
use Rattle.std.proofs.Math.Path.{sym, ap, ap₂}
use Rattle.std.proofs.Common.{◌∙◌, subst, lit<, length-take, length-drop}
use mathlib.Core.List.{List, [], ◌∷◌}
use native.Mathlib.Omega.{arith}
use Rattle.std.proofs.Math.ListN.{length, get_or}
use Rattle.cells.specs.Set.{words_below}
use Rattle.cells.specs.Lists.{words_for, padded}
use Rattle.refusal.specs.Refusal.{Answer, given, map_answer, value_or}
use Rattle.refusal.specs.RefusalLaws.{map_given}
use Rattle.tile.specs.Path.{Path, read_tile}
use Rattle.tiles.specs.Paths.{orbit, read_tiles}
use Rattle.tile.specs.StoredLaws.{read_tile_is}
use Rattle.tiles.specs.StoredLaws.{read_tiles_orbit}
use Rattle.tiles.specs.OrbitLaws.{orbit_length_le}
use Rattle.board.specs.Board.{read_board}
use Rattle.path_count.specs.PathCounts.{counts_for}
use Rattle.graph.specs.Graph.{edges_for, layer_room}
use Rattle.cells.specs.ArrayLaws.{length_padded}
use Rattle.layers.specs.LayerCounts.{count_tilings}
use Rattle.tiler.specs.Graphs.{Graph, no_graph, generate_graph, GeneratesGraph, result_of_graph}
use Rattle.plot_file.specs.PlotFile.{Plot, no_plot, plot_in}
use Rattle.plot_file.proofs.Theorems.{accepted_plot, accepted_fixed}
use Rattle.host_words.specs.Layout.{board_in, board_words, result_in, result_words, plot_shape, AnswersWords, AnswersList}
use Rattle.host_words.specs.LayoutLaws.{plot_right}
use Rattle.host_tiles.specs.TileBytes.{tile_in, tiles_in, bytes_for}
use Rattle.host_plots.specs.Calls.{orbit_shape, file_shape, orbit_for, read_file, AnswersPlot}
use Rattle.host_counts.specs.Calls.{counted, AnswersCount, generated, AnswersGraph}
use Rattle.host_tilings.specs.Calls.{tiling_shape}
use Rattle.host_tilings.specs.CallLaws.{tiling_right}
use Rattle.hosts.specs.ReturnLaws.{zero_given, unless_given, plot_shape_lem, orbit_shape_lem, file_shape_lem, counted_refuses, generated_refuses, orbit_for_refuses, read_refuses}
use Rattle.hosts.specs.ReadBackLaws.{number_at, board_back, tiles_stored, tiles_back, bytes_length, result_left, result_nodes, result_edges_lem, result_length, result_complete, result_flag}

-- the words of a value
pub words_given : {A : Type 0} (f : A → List ℕ) (a : Answer A) (x : A) (old new : List ℕ) (r : ℕ) → a ≡ given x → AnswersWords (map_answer f a) old new r → new ≡ padded (f x) (length old)
unfolding map_answer value_or
words_given {A} f a x old new r e t = t.words ∙ ap (λ (y : Answer A). padded (value_or [] (map_answer f y)) (length old)) e

-- ---- `cuttings_orbit`

module _ (tile tiles answer tiles' answer' : List ℕ) (told : AnswersList bytes_for (orbit_for tile (length tiles) (length answer)) tiles answer tiles' answer' 0) where
  tiles_told : (ps : List Path) × (orbit_for tile (length tiles) (length answer) ≡ given ps)
  tiles_told =
      (zero_given (λ ps. length ps ∷ []) (orbit_for tile (length tiles) (length answer)) answer answer' 0 (orbit_for_refuses tile (length tiles) (length answer)) told.answered).0 refl

  orbit_parts : (orbit_shape (length tile) (length tiles) (length answer) ≡ 0) × (map_answer orbit (read_tile (tile_in tile)) ≡ given tiles_told.0)
  unfolding orbit_for
  orbit_parts = unless_given (orbit_shape (length tile) (length tiles) (length answer)) (map_answer orbit (read_tile (tile_in tile))) tiles_told.0 tiles_told.1

  -- what is left is read as the tile's orbit
  pub orbit_read : (p : Path) × (read_tile (tile_in tile) ≡ given p) × (get_or answer' 0 0 ≡ length (orbit p))
      × (read_tiles (tiles_in (take (33 * get_or answer' 0 0) tiles')) ≡ given (orbit p))
  unfolding value_or
  orbit_read =
      let m = map_given orbit (read_tile (tile_in tile)) tiles_told.0 orbit_parts.1 in
      let lent = orbit_shape_lem (length tile) (length tiles) (length answer) orbit_parts.0 in
      let e : orbit_for tile (length tiles) (length answer) ≡ given (orbit m.0) = tiles_told.1 ∙ ap given (sym m.2) in
      let number : get_or answer' 0 0 ≡ length (orbit m.0) =
      ap (λ (ws : List ℕ). get_or ws 0 0) (words_given (λ ps. length ps ∷ []) (orbit_for tile (length tiles) (length answer)) (orbit m.0) answer answer' 0 e told.answered)
      ∙ number_at (length (orbit m.0) ∷ []) (length answer) 0 lent.2 in
      let left : tiles' ≡ bytes_for (orbit m.0) (length tiles) = told.out_left ∙ ap (λ (a : Answer (List Path)). bytes_for (value_or [] a) (length tiles)) e in
      let fine = read_tile_is (tile_in tile) m.0 m.1 in (
        m.0,
        m.1,
        number,
        ap (λ (n : ℕ). read_tiles (tiles_in (take (33 * n) tiles'))) number
            ∙ ap read_tiles (tiles_stored (orbit m.0) (length tiles) (eight (length (orbit m.0)) (length tiles) (orbit_length_le m.0) lent.1) tiles' left)
            ∙ read_tiles_orbit m.0 fine.0 fine.1,
      )
    where
      eight : (n room : ℕ) → n ≤ 8 → 264 ≤ room → 33 * n ≤ room
      eight n room h l = omega arith

-- ---- `cuttings_read_plot`

module _ (file board tiles answer board' tiles' answer' : List ℕ)
    (told : AnswersPlot (read_file file (length board) (length tiles) (length answer)) board tiles answer board' tiles' answer' 0) where
  plot_told : (p : Plot) × (read_file file (length board) (length tiles) (length answer) ≡ given p)
  plot_told = (zero_given (λ p. length p.tiles ∷ []) (read_file file (length board) (length tiles) (length answer)) answer answer' 0 (read_refuses file (length board) (length tiles) (length answer)) told.answered).0 refl

  abbrev plot : Plot
  plot = plot_told.0

  plot_parts : (file_shape (length board) (length tiles) (length answer) ≡ 0) × (plot_in file ≡ given plot)
  unfolding read_file
  plot_parts = unless_given (file_shape (length board) (length tiles) (length answer)) (plot_in file) plot plot_told.1

  plot_lent : (10 ≤ length board) × (2112 ≤ length tiles) × (1 ≤ length answer)
  plot_lent = file_shape_lem (length board) (length tiles) (length answer) plot_parts.0

  plot_number : get_or answer' 0 0 ≡ length plot.tiles
  plot_number =
      ap (λ (ws : List ℕ). get_or ws 0 0)
      (words_given (λ p. length p.tiles ∷ []) (read_file file (length board) (length tiles) (length answer)) plot answer answer' 0 plot_told.1 told.answered)
      ∙ number_at (length plot.tiles ∷ []) (length answer) 0 plot_lent.2

  left_board : board' ≡ padded (board_words plot.board) (length board)
  unfolding value_or
  left_board = told.board_left ∙ ap (λ (a : Answer Plot). padded (board_words (value_or no_plot a).board) (length board)) plot_told.1

  left_tiles : tiles' ≡ bytes_for plot.tiles (length tiles)
  unfolding value_or
  left_tiles = told.tiles_left ∙ ap (λ (a : Answer Plot). bytes_for (value_or no_plot a).tiles (length tiles)) plot_told.1

  -- what is left is read as the plot
  pub plot_read : (p : Plot) × (plot_in file ≡ given p) × (get_or answer' 0 0 ≡ length p.tiles)
      × (read_board (board_in (get_or board' 0 0) (get_or board' 1 0) (take 8 (drop 2 board'))) ≡ given p.board)
      × (read_tiles (tiles_in (take (33 * get_or answer' 0 0) tiles')) ≡ given p.tiles)
  plot_read =
      let ok = accepted_plot file plot plot_parts.1 in (
        plot,
        plot_parts.1,
        plot_number,
        board_back plot.board (length board) plot_lent.0 (accepted_fixed file plot plot_parts.1) (subst (λ (n : ℕ). n < 2 ^ 256) (sym ok.1) (lit< tt)) ok.0 board' left_board,
        ap (λ (n : ℕ). read_tiles (tiles_in (take (33 * n) tiles'))) plot_number ∙ tiles_back plot.tiles (length tiles) plot_lent.1 ok.2 ok.3 tiles' left_tiles,
      )

  -- and has the shapes that other calls want
  plot_shaped : (length (take 8 (drop 2 board')) ≡ 8) × (length (take (33 * get_or answer' 0 0) tiles') ≡ 33 * get_or answer' 0 0)
  plot_shaped = (
    marks (length board) plot_lent.0 board' (ap length left_board ∙ length_padded (board_words plot.board) (length board)),
    ap (λ (n : ℕ). length (take (33 * n) tiles')) plot_number
        ∙ bytes_length plot.tiles (length tiles) plot_lent.1 (accepted_plot file plot plot_parts.1).2 tiles' left_tiles
        ∙ ap (λ (n : ℕ). 33 * n) (sym plot_number),
  )
    where
      marks : (n : ℕ) → 10 ≤ n → (ws : List ℕ) → length ws ≡ n → length (take 8 (drop 2 ws)) ≡ 8
      marks n h ws e = omega (arith, length-take 8 (drop 2 ws), length-drop 2 ws)

  pub plot_shapes : (needed words : ℕ) → needed ≤ words → plot_shape needed (length (take 8 (drop 2 board'))) (length (take (33 * get_or answer' 0 0) tiles')) words ≡ 0
  plot_shapes needed words h =
      sym (plot_right needed (length (take 8 (drop 2 board'))) (length (take (33 * get_or answer' 0 0) tiles')) words plot_shaped.0 (whole (get_or answer' 0 0) _ plot_shaped.1) h)
    where
      whole : (k n : ℕ) → n ≡ 33 * k → n % 33 ≡ 0
      whole k n e = omega arith

-- ---- `cuttings_count_tilings`

module _ (width height : ℕ) (marks tiles boardsA countsA boardsB countsB answer boardsA' countsA' boardsB' countsB' answer' : List ℕ) where
  abbrev room : ℕ
  room = layer_room (length boardsA) (length countsA) (length boardsB) (length countsB)

  module _ (told : AnswersCount (counted width height marks tiles room (length answer)) boardsA countsA boardsB countsB answer boardsA' countsA' boardsB' countsB' answer' 0) where
    count_told_lem : (n : ℕ) × (counted width height marks tiles room (length answer) ≡ given n)
    count_told_lem = (zero_given (words_below 2) (counted width height marks tiles room (length answer)) answer answer' 0 (counted_refuses width height marks tiles (length answer) room) told.answered).0 refl

    count_parts : (plot_shape 2 (length marks) (length tiles) (length answer) ≡ 0) × (count_tilings (board_in width height marks) (tiles_in tiles) room ≡ given count_told_lem.0)
    unfolding counted
    count_parts = unless_given (plot_shape 2 (length marks) (length tiles) (length answer)) (count_tilings (board_in width height marks) (tiles_in tiles) room) count_told_lem.0 count_told_lem.1

    -- the count, and its two words
    pub count_given_lem : (n : ℕ) × (count_tilings (board_in width height marks) (tiles_in tiles) room ≡ given n) × (2 ≤ length answer) × (answer' ≡ padded (words_below 2 n) (length answer))
    count_given_lem = (
      count_told_lem.0,
      count_parts.1,
      (plot_shape_lem 2 (length marks) (length tiles) (length answer) count_parts.0).2,
      words_given (words_below 2) (counted width height marks tiles room (length answer)) count_told_lem.0 answer answer' 0 count_told_lem.1 told.answered,
    )

-- ---- `cuttings_generate_graph`

abbrev result_of : Graph → List ℕ
result_of g = result_words (length g.nodes) (length g.edges) g.complete

module _ (width height : ℕ) (marks tiles nodes counts edges answer nodes' counts' edges' answer' : List ℕ)
    (told : AnswersGraph (generated width height marks tiles (length nodes) (length counts) (length edges) (length answer)) nodes counts edges answer nodes' counts' edges' answer' 0) where
  abbrev above : Answer Graph
  above = generated width height marks tiles (length nodes) (length counts) (length edges) (length answer)

  abbrev below : Answer Graph
  below = generate_graph (board_in width height marks) (tiles_in tiles) (length nodes) (length counts) (length edges)

  graph_told : (g : Graph) × (above ≡ given g)
  graph_told = (zero_given result_of above answer answer' 0 (generated_refuses width height marks tiles (length answer) (length nodes) (length counts) (length edges)) told.answered).0 refl

  abbrev graph : Graph
  graph = graph_told.0

  graph_parts : (plot_shape 4 (length marks) (length tiles) (length answer) ≡ 0) × (below ≡ given graph)
  unfolding generated
  graph_parts = unless_given (plot_shape 4 (length marks) (length tiles) (length answer)) below graph graph_told.1

  same : above ≡ below
  same = graph_told.1 ∙ sym graph_parts.1

  words_left : take 4 answer' ≡ result_of graph
  words_left =
      result_left (length graph.nodes) (length graph.edges) graph.complete (length answer)
      (plot_shape_lem 4 (length marks) (length tiles) (length answer) graph_parts.0).2 answer'
      (words_given result_of above graph answer answer' 0 graph_told.1 told.answered)

  -- the four words are read as the result, and have the shape that the tiling by number wants
  pub result_read : (g : Graph) × (below ≡ given g) × ((result_in (take 4 answer')).nodes ≡ length g.nodes) × ((result_in (take 4 answer')).edges ≡ length g.edges)
      × ((result_in (take 4 answer')).complete ≡ g.complete) × ((words : ℕ) → 1 ≤ words → tiling_shape (take 4 answer') 2 words ≡ 0)
  result_read = (
    graph,
    graph_parts.1,
    ap (λ (ws : List ℕ). (result_in ws).nodes) words_left ∙ result_nodes (length graph.nodes) (length graph.edges) graph.complete,
    ap (λ (ws : List ℕ). (result_in ws).edges) words_left ∙ result_edges_lem (length graph.nodes) (length graph.edges) graph.complete,
    ap (λ (ws : List ℕ). (result_in ws).complete) words_left ∙ result_complete (length graph.nodes) (length graph.edges) graph.complete,
    λ words h.
        ap (λ (ws : List ℕ). tiling_shape ws 2 words) words_left
        ∙ sym (tiling_right (result_of graph) 2 words (result_length (length graph.nodes) (length graph.edges) graph.complete)
        (result_flag (length graph.nodes) (length graph.edges) graph.complete) refl h),
  )

  -- the four words are the result of the graph
  result_is : result_in (take 4 answer') ≡ result_of_graph graph
  unfolding result_read graph_told
  result_is =
      ap₂ (λ (n e : ℕ). record { nodes = n; edges = e; complete = (result_in (take 4 answer')).complete }) result_read.2 result_read.3
      ∙ ap (λ (o : Option ℕ). record { nodes = length graph.nodes; edges = length graph.edges; complete = o }) result_read.4

  -- what `generate_graph` answers and leaves
  pub graph_below : GeneratesGraph (board_in width height marks) (tiles_in tiles) nodes counts edges nodes' counts' edges' (Ok (result_in (take 4 answer')))
  unfolding map_answer value_or
  graph_below =
      record {
        answer = ap given result_is ∙ sym (ap (map_answer result_of_graph) graph_parts.1);
        nodes = told.nodes_left ∙ ap (λ (a : Answer Graph). words_for (value_or no_graph a).nodes (length nodes)) same;
        counts = told.counts_left ∙ ap (λ (a : Answer Graph). counts_for (value_or no_graph a).counts (length counts)) same;
        edges = told.edges_left ∙ ap (λ (a : Answer Graph). edges_for (value_or no_graph a).edges (length edges)) same;
      }
