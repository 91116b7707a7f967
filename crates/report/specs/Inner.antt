-- Inner definitions: what the contracts of private functions say. No contract of a public function cites them. Assumes nothing.
use Rattle.std.specs.Prelude.{◌≡◌, false, List, ◌++◌, ℕ, ◌+◌, ◌-◌, ◌≤◌, ◌<◌, min, length, take, drop}
use Rattle.tiles.specs.declared.Tiles.{Tiles}
use Rattle.refusal.specs.Refusal.{given}
use Rattle.tiles.specs.Paths.{read_tiles}
use Rattle.board.specs.declared.RectangularBoard.{RectangularBoard}
use Rattle.board.specs.Board.{read_board}
use Rattle.graph.specs.declared.GraphResult.{GraphResult}
use Rattle.graph.specs.Graph.{count_from_graph}
use Rattle.numbered_tilings.specs.Tilings.{bad_graph, node_list_in}
use Rattle.tiler.specs.Graphs.{Graph, count_of_graph, node_list_of}
use Rattle.report.specs.declared.text.Text.{Text}
use Rattle.plot_file.specs.PlotFile.{Plot}

-- ---- text in lent bytes

-- the bytes with a text from a place on, as much of it as there is room for
unfoldable pub written : List ℕ → ℕ → List ℕ → List ℕ
written out at text = take at out ++ take (length out - at) text ++ drop (at + length text) out

-- a text is put behind the text so far, in the same bytes
pub record Puts (t : Text) (text : List ℕ) (t' : Text) : Type 0 where
  pub same : t'.bytes.ghost_name ≡ t.bytes.ghost_name
  pub bytes : t'.bytes.now ≡ written t.bytes.now t.at text
  pub next : t'.at ≡ min (length t.bytes.now) (t.at + length text)

-- the bytes are the same ones
abbrev pub Stays : Text → Text → Type 0
Stays t t' = t'.bytes.ghost_name ≡ t.bytes.ghost_name

-- ---- a plot and a graph

-- a board and tiles of the code that hold a plot
pub record HoldsPlot (plot : Plot) (board : RectangularBoard) (tiles : Tiles) : Type 0 where
  pub board_is : read_board board ≡ given plot.board
  pub tiles_are : read_tiles tiles ≡ given plot.tiles

-- a result and graph words that hold a graph: its sizes and its count; refusal 11 is not told of it, and its lists have at most 257 nodes
pub record Built (g : Graph) (r : GraphResult) (nodes counts edges : List ℕ) : Type 0 where
  pub node_number : r.nodes ≡ length g.nodes
  pub edge_number : r.edges ≡ length g.edges
  pub count : count_from_graph r.complete counts ≡ count_of_graph g
  pub sound : bad_graph r (length nodes) counts edges ≡ false
  pub list : (m : ℕ) → m < count_of_graph g → node_list_in r counts edges m ≡ node_list_of g m
  pub short : (m : ℕ) → m < count_of_graph g → length (node_list_of g m) ≤ 257
