-- The rooms that the code lends; and what structs of the code that hold a plot say: its board, its free cells and its tiles, and that both counts of the code
-- are the plot's, also as the contract of `count_tilings` says it. Rests on graph's `RoomLaws`, tiles' `EqualLaws`, board's `Board`, layers'
-- `LayerCounts` and tiler's `Graphs`. Assumes nothing.
use Rattle.std.specs.Prelude.{Result}
use Rattle.refusal.specs.declared.Refusal.{Refusal}
use Rattle.path_count.specs.declared.PathCount.{PathCount}
use Rattle.std.specs.Prelude.{◌≡◌, Bool, true, false, cond, length}
use Rattle.std.proofs.Math.Path.{refl, ap, ap₂}
use Rattle.std.proofs.Common.{sym, ◌∙◌}
use mathlib.Core.List.{List}
use Prim.Native.Nat.{ℕ, ◌*◌}
use Rattle.cells.specs.ArrayLaws.{length_list_of}
use Rattle.tiles.specs.declared.Tiles.{Tiles}
use Rattle.refusal.specs.Refusal.{Answer, refused, given, map_answer, bind_answer, value_or}
use Rattle.tile.specs.Path.{Path}
use Rattle.tiles.specs.Paths.{equal_counts, path_at, paths_in}
use Rattle.tiles.specs.ReadLaws.{read_tiles_sound}
use Rattle.tiles.specs.EqualLaws.{read_equal_tiles_equal, read_equal_tiles_unequal}
use Rattle.board.specs.declared.RectangularBoard.{RectangularBoard}
use Rattle.rectangle.specs.Board.{Board, free_count}
use Rattle.board.specs.Board.{board_of, read_board}
use Rattle.board.specs.BoardLaws.{read_board_is}
use Rattle.path_count.specs.Inner.{count_span}
use Rattle.graph.specs.Graph.{layer_room, edge_room, plot_boards, plot_nodes, plot_edges}
use Rattle.graph.proofs.RoomLaws.{layer_room_plot, node_room_plot}
use Rattle.expansion.specs.Plots.{accept_plot}
use Rattle.layers.specs.LayerCounts.{layer_count_for, count_tilings, count_answer, CountsTilings}
use Rattle.cuttings.specs.Cuttings.{cuttings_of, count_cuttings, cuttings_from}
use Rattle.tiler.specs.Graphs.{Graph, graph_for, generate_graph}
use Rattle.plot_file.specs.PlotFile.{Plot}
use Rattle.report.specs.Report.{with_equal_tiles, plot_layers, plot_cuttings, plot_graph}
use Rattle.report.specs.Inner.{HoldsPlot}

-- ---- the rooms that the code lends

-- the arrays of counts of `put_layers` and of `put_graph` have as many words as 512 and 1,024 counts take
pub counts_lent : (512 ≡ count_span plot_boards) × (1024 ≡ count_span plot_nodes)
unfolding count_span
counts_lent = (refl, refl)

-- ---- what is held

module _ (plot : Plot) (board : RectangularBoard) (tiles : Tiles) (h : HoldsPlot plot board tiles) where
  pub held_board : board_of board ≡ plot.board
  held_board = (read_board_is board plot.board h.board_is).0

  pub held_free : value_or 0 (map_answer free_count (read_board board)) ≡ free_count plot.board
  unfolding value_or map_answer
  held_free = rw h.board_is

  pub held_tiles : paths_in tiles ≡ plot.tiles
  held_tiles = sym (read_tiles_sound tiles plot.tiles h.tiles_are).2

  pub held_count : tiles.count ≡ length plot.tiles
  held_count = sym (length_list_of (path_at tiles.lens tiles.codes) tiles.count) ∙ ap length held_tiles

  -- ---- what is counted

  -- board and tiles as the calls read them: refusal 7 where two tiles have different numbers of cells
  plot_equal : equal_counts plot.tiles ≡ true → accept_plot board tiles ≡ given (plot.board, plot.tiles)
  unfolding accept_plot bind_answer map_answer
  plot_equal e = rw (h.board_is, read_equal_tiles_equal tiles plot.tiles h.tiles_are e)

  plot_unequal : equal_counts plot.tiles ≡ false → accept_plot board tiles ≡ refused 7
  unfolding accept_plot bind_answer map_answer
  plot_unequal e = rw (h.board_is, read_equal_tiles_unequal tiles plot.tiles h.tiles_are e)

  -- the layer count of the calls is the plot's,
  pub held_layers : count_tilings board tiles plot_boards ≡ plot_layers plot
  unfolding count_tilings plot_layers with_equal_tiles bind_answer
  held_layers = go (equal_counts plot.tiles) refl
    where
      answer : Board × List Path → Answer ℕ
      answer p = layer_count_for p.0 p.1 plot_boards

      go : (t : Bool) → equal_counts plot.tiles ≡ t
          → bind_answer (accept_plot board tiles) answer ≡ cond (equal_counts plot.tiles) (answer (plot.board, plot.tiles)) (refused 7)
      go true e = ap (λ a. bind_answer a answer) (plot_equal e) ∙ sym (ap (λ t. cond t (answer (plot.board, plot.tiles)) (refused 7)) e)
      go false e = ap (λ a. bind_answer a answer) (plot_unequal e) ∙ sym (ap (λ t. cond t (answer (plot.board, plot.tiles)) (refused 7)) e)

  -- and so is the graph
  pub held_graph : generate_graph board tiles (4 * plot_nodes) (count_span plot_nodes) (2 * plot_edges) ≡ plot_graph plot
  unfolding generate_graph plot_graph with_equal_tiles bind_answer edge_room
  held_graph = ap (λ (n : ℕ). bind_answer (accept_plot board tiles) (λ p. graph_for p.0 p.1 n plot_edges)) node_room_plot ∙ go (equal_counts plot.tiles) refl
    where
      answer : Board × List Path → Answer Graph
      answer p = graph_for p.0 p.1 plot_nodes plot_edges

      go : (t : Bool) → equal_counts plot.tiles ≡ t
          → bind_answer (accept_plot board tiles) answer ≡ cond (equal_counts plot.tiles) (answer (plot.board, plot.tiles)) (refused 7)
      go true e = ap (λ a. bind_answer a answer) (plot_equal e) ∙ sym (ap (λ t. cond t (answer (plot.board, plot.tiles)) (refused 7)) e)
      go false e = ap (λ a. bind_answer a answer) (plot_unequal e) ∙ sym (ap (λ t. cond t (answer (plot.board, plot.tiles)) (refused 7)) e)

  -- the figure from the layer count is the plot's
  pub held_figure : (a : Answer ℕ) → a ≡ plot_layers plot → cuttings_from board a ≡ plot_cuttings plot
  unfolding cuttings_from plot_cuttings map_answer bind_answer
  held_figure a e = ap (λ (r : Answer Board). bind_answer a (λ n. map_answer (λ d. cuttings_of d n) r)) h.board_is ∙ go a ∙ ap (map_answer (cuttings_of plot.board)) e
    where
      go : (x : Answer ℕ) → bind_answer x (λ n. given (cuttings_of plot.board n)) ≡ map_answer (cuttings_of plot.board) x
      go (refused k) = refl
      go (given n) = refl

  -- and so is the figure of the calls
  pub held_cuttings : count_cuttings board tiles plot_boards ≡ plot_cuttings plot
  unfolding count_cuttings plot_cuttings
  held_cuttings = ap₂ (λ (d : Board) (a : Answer ℕ). map_answer (cuttings_of d) a) held_board held_layers

  -- as the contract of `count_tilings` says it, with layers of 512 boards
  pub held_counted : (boardsA countsA boardsB countsB boardsA' countsA' boardsB' countsB' : List ℕ) (r : Result PathCount Refusal)
      → CountsTilings board tiles boardsA countsA boardsB countsB boardsA' countsA' boardsB' countsB' r
      → length boardsA ≡ 4 * plot_boards → length countsA ≡ count_span plot_boards → length boardsB ≡ 4 * plot_boards → length countsB ≡ count_span plot_boards → count_answer r ≡ plot_layers plot
  held_counted boardsA countsA boardsB countsB boardsA' countsA' boardsB' countsB' r c a b d e =
      c.answer
      ∙ ap (count_tilings board tiles) (ap₂ (λ (x y : ℕ). layer_room x y (length boardsB) (length countsB)) a b ∙ ap₂ (λ (x y : ℕ). layer_room (4 * plot_boards) (count_span plot_boards) x y) d e ∙ layer_room_plot)
      ∙ held_layers
