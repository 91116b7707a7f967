-- Laws of the lines of a plot that is held: what `generate_graph` leaves for it is its graph, given or refused, and the lines of the code's numbers are
-- those of the plot and of the graph. Rests on `HoldsLaws` and `BuiltLaws`. Assumes nothing.
use Rattle.std.specs.Result.{result_unwrap_or}
use Rattle.std.specs.Prelude.{Result, Err, Ok, ◌≡◌, List, ◌++◌, ℕ, ◌*◌, length}
use Rattle.std.proofs.Common.{sym, ap₂, ◌∙◌, subst}
use Rattle.std.proofs.Math.Path.{ap}
use Rattle.cells.specs.Set.{Sound}
use Rattle.tiles.specs.declared.Tiles.{Tiles}
use Rattle.refusal.specs.declared.Refusal.{Refusal}
use Rattle.refusal.specs.Refusal.{Answer, refused, given, answer_of, refusal_number, map_answer, value_or}
use Rattle.refusal.specs.RefusalLaws.{map_refused}
use Rattle.board.specs.declared.RectangularBoard.{RectangularBoard}
use Rattle.rectangle.specs.Board.{Board, free_count}
use Rattle.board.specs.Board.{read_board}
use Rattle.path_count.specs.Inner.{count_span}
use Rattle.graph.specs.declared.GraphResult.{GraphResult}
use Rattle.graph.specs.Graph.{plot_nodes, plot_edges, count_from_graph}
use Rattle.tiler.specs.Graphs.{Graph, generate_graph, GeneratesGraph, result_of_graph}
use Rattle.tiler.specs.GivenLaws.{graph_told}
use Rattle.plot_file.specs.PlotFile.{Plot}
use Rattle.report.specs.Report.{plot_graph, field, feed, board_line, tiles_line, graph_line}
use Rattle.report.specs.Inner.{HoldsPlot, Built}
use Rattle.report.specs.HoldsLaws.{held_board, held_free, held_count, held_graph}
use Rattle.report.specs.BuiltLaws.{built_graph}

-- ---- the lines

-- what a call answers, or 0 for its refusal
pub value_is : (r : Result ℕ Refusal) (a : Answer ℕ) → answer_of r ≡ a → result_unwrap_or r 0 ≡ value_or 0 a
unfolding value_or
value_is (Ok n) a e = ap (value_or 0) e
value_is (Err q) a e = ap (value_or 0) e

module _ {plot : Plot} {board : RectangularBoard} {tiles : Tiles} (h : HoldsPlot plot board tiles) where
  pub board_line_lem : (free : ℕ) → free ≡ value_or 0 (map_answer free_count (read_board board))
      → field "board " board.width ++ field " " board.height ++ field " free " free ++ feed ≡ board_line plot
  unfolding board_line
  board_line_lem free e =
      let w : board.width ≡ plot.board.width = ap (λ (b : Board). b.width) (held_board plot board tiles h) in
      let t : board.height ≡ plot.board.height = ap (λ (b : Board). b.height) (held_board plot board tiles h) in
      let f : free ≡ free_count plot.board = e ∙ held_free plot board tiles h in
      cc

  pub tiles_line_lem : field "tiles " tiles.count ++ feed ≡ tiles_line plot
  unfolding tiles_line
  tiles_line_lem = ap (λ (n : ℕ). field "tiles " n ++ feed) (held_count plot board tiles h)

pub graph_line_lem : {g : Graph} {r : GraphResult} {nodes counts edges : List ℕ} → Built g r nodes counts edges → (count : ℕ)
    → count ≡ count_from_graph r.complete counts
    → field "graph " count ++ field " nodes " r.nodes ++ field " edges " r.edges ++ feed ≡ graph_line g
unfolding graph_line
graph_line_lem built count e = let c = e ∙ built.count in cc

-- ---- the graph

module _ (plot : Plot) (board : RectangularBoard) (tiles : Tiles) (h : HoldsPlot plot board tiles) (nodes counts edges : List ℕ)
    (n : length nodes ≡ 4 * plot_nodes) (c : length counts ≡ count_span plot_nodes) (d : length edges ≡ 2 * plot_edges) {nodes' counts' edges' : List ℕ} {made : Result GraphResult Refusal}
    (generated : GeneratesGraph board tiles nodes counts edges nodes' counts' edges' made) where
  answer_is : generate_graph board tiles (length nodes) (length counts) (length edges) ≡ plot_graph plot
  answer_is =
      ap₂ (λ (x y : ℕ). generate_graph board tiles x y (length edges)) n c ∙ ap (generate_graph board tiles (4 * plot_nodes) (count_span plot_nodes)) d ∙ held_graph plot board tiles h

  pub made_refused : (x : Refusal) → made ≡ Err x → plot_graph plot ≡ refused (refusal_number x)
  made_refused x e =
      sym answer_is
      ∙ (map_refused result_of_graph (generate_graph board tiles (length nodes) (length counts) (length edges)) (refusal_number x)).0
      (sym generated.answer ∙ ap answer_of e)

  pub made_given : Sound board.fixed → Sound board.laid → (graph : GraphResult) → made ≡ Ok graph
      → (g : Graph) × (plot_graph plot ≡ given g) × Built g graph nodes' counts' edges'
  made_given fixed laid graph e =
      let g = graph_told board fixed laid tiles nodes counts edges nodes' counts' edges' made generated graph e in (
        g.0,
        sym answer_is ∙ g.1,
        subst (λ (x : GraphResult). Built g.0 x nodes' counts' edges') g.2
            (built_graph board fixed laid tiles nodes counts edges nodes' counts' edges' made generated g.0 g.1),
      )
