-- What is known of the words and the result that `generate_graph` leaves: they hold the graph that is given (`Built`), and its node lists have at most 257
-- nodes. Rests on tiler's `GivenLaws`, `NumberLaws` and `Theorems`. Assumes nothing.
use Rattle.std.specs.Prelude.{◌≡◌, refl, List, ℕ, ◌≤◌, ◌<◌, length, Result}
use Rattle.std.proofs.Common.{arith}
use Rattle.cells.specs.Set.{Sound}
use Rattle.tiles.specs.declared.Tiles.{Tiles}
use Rattle.refusal.specs.declared.Refusal.{Refusal}
use Rattle.refusal.specs.Refusal.{given}
use Rattle.board.specs.declared.RectangularBoard.{RectangularBoard}
use Rattle.board.specs.Board.{board_of}
use Rattle.rectangle.proofs.FreeLaws.{free_le}
use Rattle.graph.specs.declared.GraphResult.{GraphResult}
use Rattle.tiler.specs.Graphs.{Graph, count_of_graph, node_list_of, generate_graph, GeneratesGraph, result_of_graph}
use Rattle.tiler.specs.NumberLaws.{list_length, count_read, list_same}
use Rattle.tiler.specs.Theorems.{words_are_the_graph, own_graph_is_sound}
use Rattle.report.specs.Inner.{Built}

module _ (b : RectangularBoard) (fixed : Sound b.fixed) (laid : Sound b.laid) (ts : Tiles) where
  pub list_short : (node_words count_words edge_words : ℕ) (g : Graph) → generate_graph b ts node_words count_words edge_words ≡ given g
      → (m : ℕ) → m < count_of_graph g → length (node_list_of g m) ≤ 257
  list_short node_words count_words edge_words g made m below =
      omega (arith, list_length b fixed laid ts node_words count_words edge_words g made m below, free_le (board_of b))

  pub built_graph : (nodes counts edges nodes' counts' edges' : List ℕ) (r : Result GraphResult Refusal) → GeneratesGraph b ts nodes counts edges nodes' counts' edges' r
      → (g : Graph) → generate_graph b ts (length nodes) (length counts) (length edges) ≡ given g → Built g (result_of_graph g) nodes' counts' edges'
  built_graph nodes counts edges nodes' counts' edges' r made g e = record {
    node_number = refl;
    edge_number = refl;
    count = count_read b fixed laid ts nodes counts edges nodes' counts' edges' r made g e;
    sound = own_graph_is_sound b fixed laid ts nodes counts edges nodes' counts' edges' r made (result_of_graph g)
        (words_are_the_graph b fixed laid ts nodes counts edges nodes' counts' edges' r made g e).0;
    list = λ m h. list_same b fixed laid ts nodes counts edges nodes' counts' edges' r made g e m;
    short = λ m h. list_short (length nodes) (length counts) (length edges) g e m h;
  }
