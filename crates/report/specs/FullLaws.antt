-- Laws of the texts in which no tiling is listed, whatever the board: of a plot with no free cell the layer count is 0, the figure 1, and the graph has one node and no
-- tiling; of tiles with different numbers of cells all three are refused. Rests on `PlotLaws` and the `FullLaws` of `cuttings` and `tiler`. Assumes nothing.
use Rattle.std.specs.Prelude.{◌≡◌, refl, true, false, ℕ, ◌^◌, ◌<◌}
use Rattle.std.proofs.Common.{sym, ◌∙◌, subst, lit<}
use Rattle.std.proofs.Math.Path.{ap, ap₂}
use mathlib.Core.List.{List, ◌++◌, flat_map, append_assoc}
use Rattle.cells.specs.Lists.{list_from, list_of, ascii}
use Rattle.refusal.specs.Refusal.{Answer, refused, given, map_answer}
use Rattle.tiles.specs.Paths.{equal_counts}
use Rattle.rectangle.specs.Board.{Board, is_full}
use Rattle.graph.specs.Graph.{plot_boards, plot_nodes, plot_edges}
use Rattle.tiler.specs.Graphs.{Graph, count_of_graph}
use Rattle.tiler.specs.FullLaws.{only_start, full_graph_given}
use Rattle.cuttings.specs.Cuttings.{cuttings_of}
use Rattle.cuttings.specs.FullLaws.{full_layer_count_lem}
use Rattle.cuttings.proofs.CuttingLaws.{full_of}
use Rattle.covers.specs.Counts.{at_node}
use Rattle.plot_file.specs.PlotFile.{Plot}
use Rattle.report.specs.Report.{with_equal_tiles, plot_layers, plot_cuttings, plot_graph, listed, decimal, digits, field, feed, board_line, tiles_line, layers_line, cuttings_line, graph_line, graph_lines, plot_lines}
use Rattle.report.specs.PlotLaws.{AcceptedPlot}

-- ---- the lines of the counts

counts_none : (b : Board) → layers_line (given 0) ++ cuttings_line (given 1) ++ graph_lines (given (only_start b)) ≡ ascii "layers 0\ncuttings 1\ngraph 0 nodes 1 edges 0\n"
unfolding layers_line cuttings_line graph_lines graph_line listed count_of_graph at_node list_of list_from flat_map field decimal digits feed ascii
counts_none b = refl

counts_refused : layers_line (refused 7) ++ cuttings_line (refused 7) ++ graph_lines (refused 7) ≡ ascii "layers refused 7\ncuttings refused 7\ngraph refused 7\n"
unfolding layers_line cuttings_line graph_lines field decimal digits feed ascii
counts_refused = refl

-- the lines of the counts behind those of board and tiles
counts_behind : (ls xs ys zs : List ℕ) → ls ++ xs ++ ys ++ zs ≡ ls ++ (xs ++ ys ++ zs)
counts_behind ls xs ys zs = ap (λ (l : List ℕ). l ++ zs) (append_assoc ls xs ys) ∙ append_assoc ls (xs ++ ys) zs

-- ---- no free cell

module _ (plot : Plot) (ok : AcceptedPlot plot) (full : is_full plot.board ≡ true) (equal : equal_counts plot.tiles ≡ true) where
  none_laid : plot.board.laid < 2 ^ 256
  none_laid = subst (λ (n : ℕ). n < 2 ^ 256) (sym ok.laid) (lit< tt)

  full_layers_none : plot_layers plot ≡ given 0
  unfolding plot_layers with_equal_tiles
  full_layers_none = rw equal (full_layer_count_lem plot.board plot.tiles ok.board ok.fixed none_laid full plot_boards (lit< tt))

  full_figure_one : plot_cuttings plot ≡ given 1
  unfolding plot_cuttings map_answer
  full_figure_one = ap (map_answer (cuttings_of plot.board)) full_layers_none ∙ ap given (full_of plot.board 0 full)

  full_graph_one : plot_graph plot ≡ given (only_start plot.board)
  unfolding plot_graph with_equal_tiles
  full_graph_one = rw equal (full_graph_given plot.board plot.tiles ok.board ok.fixed none_laid full plot_nodes plot_edges (lit< tt))

  pub full_lines : plot_lines plot ≡ board_line plot ++ tiles_line plot ++ ascii "layers 0\ncuttings 1\ngraph 0 nodes 1 edges 0\n"
  unfolding plot_lines
  full_lines =
      ap₂ (λ (l c : Answer ℕ). board_line plot ++ tiles_line plot ++ layers_line l ++ cuttings_line c ++ graph_lines (plot_graph plot)) full_layers_none full_figure_one
      ∙ ap (λ (g : Answer Graph). board_line plot ++ tiles_line plot ++ layers_line (given 0) ++ cuttings_line (given 1) ++ graph_lines g) full_graph_one
      ∙ counts_behind (board_line plot ++ tiles_line plot) (layers_line (given 0)) (cuttings_line (given 1)) (graph_lines (given (only_start plot.board)))
      ∙ ap (λ (l : List ℕ). board_line plot ++ tiles_line plot ++ l) (counts_none plot.board)

-- ---- tiles with different numbers of cells

module _ (plot : Plot) (unequal : equal_counts plot.tiles ≡ false) where
  refused_layers : plot_layers plot ≡ refused 7
  unfolding plot_layers with_equal_tiles
  refused_layers = rw unequal

  refused_figure : plot_cuttings plot ≡ refused 7
  unfolding plot_cuttings map_answer
  refused_figure = ap (map_answer (cuttings_of plot.board)) refused_layers

  refused_graph : plot_graph plot ≡ refused 7
  unfolding plot_graph with_equal_tiles
  refused_graph = rw unequal

  pub unequal_lines : plot_lines plot ≡ board_line plot ++ tiles_line plot ++ ascii "layers refused 7\ncuttings refused 7\ngraph refused 7\n"
  unfolding plot_lines
  unequal_lines =
      ap₂ (λ (l c : Answer ℕ). board_line plot ++ tiles_line plot ++ layers_line l ++ cuttings_line c ++ graph_lines (plot_graph plot)) refused_layers refused_figure
      ∙ ap (λ (g : Answer Graph). board_line plot ++ tiles_line plot ++ layers_line (refused 7) ++ cuttings_line (refused 7) ++ graph_lines g) refused_graph
      ∙ counts_behind (board_line plot ++ tiles_line plot) (layers_line (refused 7)) (cuttings_line (refused 7)) (graph_lines (refused 7))
      ∙ ap (λ (l : List ℕ). board_line plot ++ tiles_line plot ++ l) counts_refused
