-- Laws of the counts of a plot: there are structs of the code that hold the plot of an accepted file, so that what tiler knows of calls holds of the plot's
-- counts too (`of_graph`). Its layer count and its figure fit 64 bits; its graph has at most 1,024 nodes and 4,096 edges; both counts and the figure are the number
-- of cuttings. Rests on `HoldsLaws`, `CountLaws`, the crate cuttings' `Theorems` and tiler's `GivenLaws`, `NumberLaws` and `Theorems`. Assumes nothing.
use Rattle.std.specs.Prelude.{◌≡◌, true, List, ℕ, ◌*◌, ◌^◌, ◌≤◌, ◌<◌, length}
use Rattle.std.proofs.Common.{sym, ap, ◌∙◌, subst, lit<}
use Rattle.std.proofs.Math.Bool.{So}
use Rattle.cells.specs.Set.{Sound}
use Rattle.cells.specs.WordLaws.{sound_cells_of}
use Rattle.tiles.specs.declared.Tiles.{Tiles}
use Rattle.refusal.specs.Refusal.{given}
use Rattle.tile.specs.Path.{Path}
use Rattle.tiles.specs.Paths.{paths_in, tiles_of}
use Rattle.tiles.specs.Inner.{Storable}
use Rattle.tiles.specs.StoredLaws.{read_tiles_tiles_of}
use Rattle.board.specs.declared.RectangularBoard.{RectangularBoard}
use Rattle.rectangle.specs.Board.{Board, is_full, valid}
use Rattle.board.specs.Board.{board_of}
use Rattle.board.specs.BoardLaws.{struct_of, board_struct, read_board_given}
use Rattle.covers.specs.Counts.{Exactly, Numbering}
use Rattle.graph.specs.Graph.{edge_room, plot_boards, plot_nodes, plot_edges}
use Rattle.layers.proofs.CountLaws.{layers_small, count_cuttings_lem}
use Rattle.path_count.specs.PathCounts.{count_limit}
use Rattle.path_count.specs.Inner.{count_span}
use Rattle.layers.specs.LayerCounts.{count_tilings}
use Rattle.cuttings.specs.Cuttings.{count_cuttings}
use Rattle.cuttings.proofs.Theorems.{free_is_layer_count, differs_of_full, figure_fits, figure_is_cuttings}
use Rattle.tiler.specs.Graphs.{Graph, count_of_graph, generate_graph}
use Rattle.tiler.specs.Inner.{marked_pieces_of}
use Rattle.expansion.specs.Plots.{IsCutting, HasFreeCell, AllEdgeJoined}
use Rattle.tiler.specs.GivenLaws.{graph_room}
use Rattle.tiler.specs.NumberLaws.{lists_number_cuttings}
use Rattle.tiler.specs.Theorems.{counts_agree}
use Rattle.plot_file.specs.PlotFile.{Plot}
use Rattle.report.specs.Report.{plot_layers, plot_cuttings, plot_graph}
use Rattle.report.specs.Inner.{HoldsPlot}
use Rattle.graph.proofs.RoomLaws.{node_room_plot}
use Rattle.report.specs.HoldsLaws.{held_board, held_tiles, held_layers, held_cuttings, held_graph}

-- what is known of the plot of an accepted file: its board is accepted and has no laid marks, its fixed marks are a set of 256 cells, and its tiles, at most
-- 64, can be stored
pub record AcceptedPlot (plot : Plot) : Type 0 where
  pub board : So (valid plot.board)
  pub laid : plot.board.laid ≡ 0
  pub fixed : plot.board.fixed < 2 ^ 256
  pub few : length plot.tiles ≤ 64
  pub storable : Storable plot.tiles

-- ---- structs that hold a plot

module _ (plot : Plot) (ok : AcceptedPlot plot) where
  abbrev b : RectangularBoard
  b = struct_of plot.board

  abbrev ts : Tiles
  ts = tiles_of plot.tiles

  same_board_lem : board_of b ≡ plot.board
  same_board_lem = board_struct plot.board ok.fixed (subst (λ (n : ℕ). n < 2 ^ 256) (sym ok.laid) (lit< tt))

  pub holds_struct : HoldsPlot plot b ts
  holds_struct = record {
    board_is = read_board_given b (ap valid same_board_lem ∙ ok.board) ∙ ap given same_board_lem;
    tiles_are = read_tiles_tiles_of plot.tiles ok.few ok.storable;
  }

  -- ---- the counts of those structs are the plot's

  fixed : Sound b.fixed
  fixed = sound_cells_of plot.board.fixed

  laid : Sound b.laid
  laid = sound_cells_of plot.board.laid

  -- what is said of the structs' board and tiles holds of the plot's
  of_plot : (P : Board → List Path → Type 0) → P (board_of b) (paths_in ts) → P plot.board plot.tiles
  of_plot P x =
      subst (λ (d : Board). P d plot.tiles) (held_board plot b ts holds_struct) (subst (λ (paths : List Path). P (board_of b) paths) (held_tiles plot b ts holds_struct) x)

  free_struct : HasFreeCell plot.board → HasFreeCell (board_of b)
  free_struct = subst HasFreeCell (sym (held_board plot b ts holds_struct))

  joined_struct : AllEdgeJoined plot.tiles → AllEdgeJoined (paths_in ts)
  joined_struct = subst AllEdgeJoined (sym (held_tiles plot b ts holds_struct))

  module _ (n : ℕ) (e : plot_layers plot ≡ given n) where
    told : count_tilings b ts plot_boards ≡ given n
    told = held_layers plot b ts holds_struct ∙ e

    pub layers_fit : n < count_limit
    layers_fit = layers_small b fixed laid ts plot_boards n told

    pub layers_cuttings : HasFreeCell plot.board → AllEdgeJoined plot.tiles → Exactly n (IsCutting plot.board plot.tiles)
    layers_cuttings free joined =
        of_plot (λ d paths. Exactly n (IsCutting d paths)) (count_cuttings_lem b fixed laid ts (free_struct free) (joined_struct joined) plot_boards n told)

  module _ (n : ℕ) (e : plot_cuttings plot ≡ given n) where
    figure_told_lem : count_cuttings b ts plot_boards ≡ given n
    figure_told_lem = held_cuttings plot b ts holds_struct ∙ e

    pub cuttings_fit : n < count_limit
    cuttings_fit = figure_fits b ts fixed laid plot_boards n figure_told_lem

    pub figure_cuttings : AllEdgeJoined plot.tiles → Exactly n (IsCutting plot.board plot.tiles)
    figure_cuttings joined = of_plot (λ d paths. Exactly n (IsCutting d paths)) (figure_is_cuttings b ts fixed laid (joined_struct joined) plot_boards n figure_told_lem)

  -- where the figure is the layer count
  pub figure_free : HasFreeCell plot.board → plot_cuttings plot ≡ plot_layers plot
  figure_free free = sym (held_cuttings plot b ts holds_struct) ∙ free_is_layer_count b ts (free_struct free) plot_boards ∙ held_layers plot b ts holds_struct

  -- and where it differs
  pub figure_differs : (plot_cuttings plot ≡ plot_layers plot → ⊥) → (is_full plot.board ≡ true) × (plot_layers plot ≡ given 0) × (plot_cuttings plot ≡ given 1)
  figure_differs other =
      let r = differs_of_full b ts fixed laid plot_boards (λ e. other (sym (held_cuttings plot b ts holds_struct) ∙ e ∙ held_layers plot b ts holds_struct)) in
      (ap is_full (sym (held_board plot b ts holds_struct)) ∙ r.0, sym (held_layers plot b ts holds_struct) ∙ r.1, sym (held_cuttings plot b ts holds_struct) ∙ r.2)

  module _ (g : Graph) (e : plot_graph plot ≡ given g) where
    made : generate_graph b ts (4 * plot_nodes) (count_span plot_nodes) (2 * plot_edges) ≡ given g
    made = held_graph plot b ts holds_struct ∙ e

    -- what tiler knows of every graph that is given is known of the plot's
    pub of_graph : {A : Type 0} → ((d : RectangularBoard) → Sound d.fixed → Sound d.laid → (us : Tiles) (x y z : ℕ) → generate_graph d us x y z ≡ given g → A) → A
    of_graph law = law b fixed laid ts (4 * plot_nodes) (count_span plot_nodes) (2 * plot_edges) made

    pub nodes_few : length g.nodes ≤ plot_nodes
    nodes_few = subst (λ (n : ℕ). length g.nodes ≤ n) node_room_plot (graph_room b fixed laid ts (4 * plot_nodes) (count_span plot_nodes) (2 * plot_edges) g made).nodes_fit

    pub edges_few : length g.edges ≤ plot_edges
    unfolding edge_room
    edges_few = (graph_room b fixed laid ts (4 * plot_nodes) (count_span plot_nodes) (2 * plot_edges) g made).edges_fit

    pub counts_same : (n : ℕ) → plot_layers plot ≡ given n → count_of_graph g ≡ n
    counts_same n q = counts_agree b fixed laid ts plot_boards n (told n q) (4 * plot_nodes) (count_span plot_nodes) (2 * plot_edges) g made

    pub lists_cuttings : HasFreeCell plot.board → AllEdgeJoined plot.tiles
        → Numbering (IsCutting plot.board plot.tiles) (count_of_graph g) (marked_pieces_of g)
    lists_cuttings free joined =
        of_plot (λ d paths. Numbering (IsCutting d paths) (count_of_graph g) (marked_pieces_of g))
        (lists_number_cuttings b fixed laid ts (4 * plot_nodes) (count_span plot_nodes) (2 * plot_edges) g made (free_struct free) (joined_struct joined))
