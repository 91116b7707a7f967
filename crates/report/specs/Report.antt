-- Definitions: the text that the program `plot` prints for a file. What stands in quotation marks is 01's, from its sections Known plots, The layer count and The
-- graph, or where it is said so 02's. Counts, graph and tilings are those of `tiler` and `graph`; what a file holds is `plot_in` of `plot_file`. Assumes nothing.
use Rattle.std.specs.Prelude.{◌≡◌, cond, ℕ, zero, suc, ◌+◌, ◌/◌, ◌%◌, min, ltb, length}
use mathlib.Core.List.{List, [], ◌∷◌, ◌++◌, flat_map}
use Prim.Native.String.{String}
use Rattle.cells.specs.Lists.{list_of, padded, ascii}
use Rattle.refusal.specs.Refusal.{Answer, refused, given, map_answer}
use Rattle.tiles.specs.Paths.{equal_counts}
use Rattle.rectangle.specs.Board.{free_count}
use Rattle.graph.specs.Graph.{plot_boards, plot_nodes, plot_edges}
use Rattle.layers.specs.LayerCounts.{layer_count_for}
use Rattle.cuttings.specs.Cuttings.{cuttings_of}
use Rattle.tiler.specs.Graphs.{Graph, count_of_graph, graph_for, node_list_of}
use Rattle.plot_file.specs.PlotFile.{Plot, plot_in}

-- ---- what is counted

-- "7, two tiles with different numbers of cells", else the answer
unfoldable pub with_equal_tiles : {A : Type 0} → Plot → Answer A → Answer A
unfolding equal_counts
with_equal_tiles plot answer = cond (equal_counts plot.tiles) answer (refused 7)

-- the program "lends 512 boards a layer,"
unfoldable pub plot_layers : Plot → Answer ℕ
unfolding with_equal_tiles layer_count_for
plot_layers plot = with_equal_tiles plot (layer_count_for plot.board plot.tiles plot_boards)

-- the figure called cuttings of 02, request 3, from the layer count: where this is refused, so is the figure, by the same number
unfoldable pub plot_cuttings : Plot → Answer ℕ
unfolding plot_layers cuttings_of map_answer
plot_cuttings plot = map_answer (cuttings_of plot.board) (plot_layers plot)

-- "1,024 nodes, 4,096 edges,"
unfoldable pub plot_graph : Plot → Answer Graph
unfolding with_equal_tiles graph_for
plot_graph plot = with_equal_tiles plot (graph_for plot.board plot.tiles plot_nodes plot_edges)

-- "and lists the first 16 tilings, or all if there are fewer": how many are listed
unfoldable pub listed : Graph → ℕ
unfolding count_of_graph
listed g = min 16 (count_of_graph g)

-- ---- the parts of a line

-- the decimal digits of a number, the highest first, k + 1 at most; n itself is more than enough (`decimal_value`, `decimal_digits` and `decimal_front` say
-- that they are its digits, with no 0 in front)
unfoldable pub digits : ℕ → ℕ → List ℕ
digits zero n = (48 + n % 10) ∷ []
digits (suc k) n = cond (ltb n 10) ((48 + n) ∷ []) (digits k (n / 10) ++ (48 + n % 10) ∷ [])

-- the decimal digits of a number
unfoldable pub decimal : ℕ → List ℕ
unfolding digits
decimal n = digits n n

-- a field: some words, and a number behind them
unfoldable pub field : String → ℕ → List ℕ
unfolding ascii decimal
field words n = ascii words ++ decimal n

-- "a line feed ends each line"
unfoldable pub feed : List ℕ
unfolding ascii
feed = ascii "\n"

-- ---- the lines

-- "A refused file prints `refused` and its number"
unfoldable pub refused_line : ℕ → List ℕ
unfolding field feed
refused_line n = field "refused " n ++ feed

-- "The fields are width, height, free cells;"
unfoldable pub board_line : Plot → List ℕ
unfolding field feed free_count
board_line plot =
    field "board " plot.board.width ++ field " " plot.board.height ++ field " free " (free_count plot.board) ++ feed

-- "tiles;"
unfoldable pub tiles_line : Plot → List ℕ
unfolding field feed
tiles_line plot = field "tiles " (length plot.tiles) ++ feed

-- the line of a count: words and the number, or those of a refusal and its number
unfoldable pub count_line : List ℕ → List ℕ → Answer ℕ → List ℕ
unfolding decimal feed
count_line words refusal (refused n) = refusal ++ decimal n ++ feed
count_line words refusal (given n) = words ++ decimal n ++ feed

-- "layer count;" "A refused count prints `layers refused 8` or `graph refused 8` in its line's place"
unfoldable pub layers_line : Answer ℕ → List ℕ
unfolding count_line ascii
layers_line = count_line (ascii "layers ") (ascii "layers refused ")

-- 02, request 3: "The program prints it as a line `cuttings N` after the layers line, or `cuttings refused N`"
unfoldable pub cuttings_line : Answer ℕ → List ℕ
unfolding count_line ascii
cuttings_line = count_line (ascii "cuttings ") (ascii "cuttings refused ")

-- "graph count, nodes, edges;"
unfoldable pub graph_line : Graph → List ℕ
unfolding field feed count_of_graph
graph_line g =
    field "graph " (count_of_graph g) ++ field " nodes " (length g.nodes) ++ field " edges " (length g.edges) ++ feed

-- "number and node list"
unfoldable pub tiling_line : Graph → ℕ → List ℕ
unfolding field feed ascii node_list_of flat_map
tiling_line g m = field "tiling " m ++ ascii ":" ++ flat_map (field " ") (node_list_of g m) ++ feed

-- "the graph line follows refused layers too, and no tiling lines follow a refused graph"
unfoldable pub graph_lines : Answer Graph → List ℕ
unfolding field feed graph_line tiling_line listed list_of flat_map
graph_lines (refused n) = field "graph refused " n ++ feed
graph_lines (given g) = graph_line g ++ flat_map (tiling_line g) (list_of (λ m. m) (listed g))

-- ---- the text

-- the lines of a plot
unfoldable pub plot_lines : Plot → List ℕ
unfolding board_line tiles_line layers_line plot_layers cuttings_line plot_cuttings graph_lines plot_graph
plot_lines plot =
    board_line plot ++ tiles_line plot ++ layers_line (plot_layers plot) ++ cuttings_line (plot_cuttings plot) ++ graph_lines (plot_graph plot)

-- "A refused file prints […] its only line"
unfoldable pub lines_for : Answer Plot → List ℕ
unfolding refused_line plot_lines
lines_for (refused n) = refused_line n
lines_for (given plot) = plot_lines plot

-- the text for a file
unfoldable pub report : List ℕ → List ℕ
unfolding lines_for plot_in
report file = lines_for (plot_in file)

-- ---- the answer of the code

-- `write_report`: as much of the text as there is room for stands in front of the lent bytes, zeros behind; the number of bytes put comes back.
-- The program's bytes hold every text (`report_fits`)
pub record WritesReport (file out out' : List ℕ) (r : ℕ) : Type 0 where
  pub bytes : out' ≡ padded (report file) (length out)
  pub number : r ≡ min (length out) (length (report file))
