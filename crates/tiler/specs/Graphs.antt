-- Definitions: the graph of a board and tiles, its node lists and cuttings; what `generate_graph` answers and leaves in the lent words, for every input;
-- and what demand 3 says of it. Nodes, path counts and edges are those of `covers`, by the children of a board. What stands in quotation
-- marks is 01's, from its section on the graph. Assumes nothing.
use Rattle.std.specs.Prelude.{◌≡◌, false, cond, List, [], ℕ, eqb, leb, length, get_or, Option, None, Result, Ok}
use Rattle.cells.specs.Lists.{words_for}
use Rattle.tiles.specs.declared.Tiles.{Tiles}
use Rattle.refusal.specs.declared.Refusal.{Refusal}
use Rattle.refusal.specs.Refusal.{Answer, refused, given, answer_of, map_answer, bind_answer, value_or}
use Rattle.tile.specs.Path.{Path}
use Rattle.tiles.specs.Paths.{paths_in}
use Rattle.board.specs.declared.RectangularBoard.{RectangularBoard}
use Rattle.rectangle.specs.Board.{Board, marks, is_full, free_count}
use Rattle.board.specs.Board.{board_of}
use Rattle.children.specs.Children.{children, children_at, full_at, free_count_at}
use Rattle.covers.specs.Counts.{Numbering, Entry, boards, counts, layers, edges_of, node_list_to, full_node, at_node, node_list}
use Rattle.graph.specs.declared.GraphResult.{GraphResult}
use Rattle.graph.specs.Graph.{node_room, edge_room, edges_for, count_from_graph, marked_pieces_in}
use Rattle.path_count.specs.PathCounts.{counts_for}
use Rattle.numbered_tilings.specs.Tilings.{bad_graph, node_list_in}
use Rattle.expansion.specs.Plots.{accept_plot, IsCutting, HasFreeCell, AllEdgeJoined}
use Rattle.layers.specs.LayerCounts.{too_large}

-- ---- the graph

-- "Nodes are numbered by first finding"; "Edges are (parent, child), in the order found. Beside each node stands its path count"; "the full board's
-- node, or none"
pub record Graph : Type 0 where
  pub nodes : List ℕ
  pub counts : List ℕ
  pub edges : List (ℕ × ℕ)
  pub complete : Option ℕ

-- the graph of no nodes, which stands for a refused one
abbrev pub no_graph : Graph
no_graph = record { nodes = []; counts = []; edges = []; complete = None }

-- the nodes with their path counts: the boards of the layers up to that of as many pieces as cells are free
abbrev pub entries_for : Board → List Path → List (Entry ℕ)
entries_for b paths = layers eqb (children_at b paths) (marks b) (free_count_at b (marks b))

-- the graph of a board and tiles
unfoldable pub graph_of : Board → List Path → Graph
unfolding layers edges_of full_node children is_full free_count marks
graph_of b paths = record {
  nodes = boards (entries_for b paths);
  counts = counts (entries_for b paths);
  edges = edges_of eqb (children_at b paths) (boards (entries_for b paths));
  complete = full_node (full_at b) (boards (entries_for b paths));
}

-- the path count of a node of the list, 0 of none
abbrev pub path_count_at : List ℕ → ℕ → ℕ
path_count_at ns v = get_or ns v 0

-- "The graph count is that node's path count, 0 with none"
unfoldable pub count_of_graph : Graph → ℕ
unfolding at_node
count_of_graph g = at_node (path_count_at g.counts) g.complete

-- its node list with the number m
unfoldable pub node_list_of : Graph → ℕ → List ℕ
unfolding node_list_to at_node
node_list_of g m = node_list g.edges (path_count_at g.counts) g.complete m

-- "8, nodes exceed node words ÷ 4 or the count words; 10, edges exceed half the edge words; 9, a path count is 2^64 or more. The last three are judged
-- over the whole graph in that order"
unfoldable pub judge_graph : ℕ → ℕ → Graph → Answer Graph
unfolding too_large
judge_graph nodes edges g =
    cond (leb (length g.nodes) nodes) (cond (leb (length g.edges) edges) (cond (too_large g.counts) (refused 9) (given g)) (refused 10)) (refused 8)

-- the graph of a board and tiles that are not refused, for a room of so many nodes and of so many edges,
unfoldable pub graph_for : Board → List Path → ℕ → ℕ → Answer Graph
unfolding judge_graph graph_of
graph_for b paths nodes edges = judge_graph nodes edges (graph_of b paths)

-- and of any, for so many lent words of nodes, of counts and of edges
unfoldable pub generate_graph : RectangularBoard → Tiles → ℕ → ℕ → ℕ → Answer Graph
unfolding accept_plot bind_answer graph_for node_room edge_room
generate_graph b ts node_words count_words edge_words =
    bind_answer (accept_plot b ts) (λ p. graph_for p.0 p.1 (node_room node_words count_words) (edge_room edge_words))

-- "The result carries the numbers of nodes and edges and the full board's node, or none"
abbrev pub result_of_graph : Graph → GraphResult
result_of_graph g = record { nodes = length g.nodes; edges = length g.edges; complete = g.complete }

-- the result and the words for an answer and so many lent words: the refusal, or the result of the graph. A graph is stored with zeros behind the last
-- node, count and edge; "After any refusal all lent words are zero"
pub record Makes (a : Answer Graph) (node_words count_words edge_words : ℕ) (nodes' counts' edges' : List ℕ) (r : Result GraphResult Refusal) : Type 0 where
  pub answer : answer_of r ≡ map_answer result_of_graph a
  pub nodes : nodes' ≡ words_for (value_or no_graph a).nodes node_words
  pub counts : counts' ≡ counts_for (value_or no_graph a).counts count_words
  pub edges : edges' ≡ edges_for (value_or no_graph a).edges edge_words

-- what `generate_graph` answers and leaves
abbrev pub GeneratesGraph : RectangularBoard → Tiles → List ℕ → List ℕ → List ℕ → List ℕ → List ℕ → List ℕ → Result GraphResult Refusal → Type 0
GeneratesGraph b ts nodes counts edges nodes' counts' edges' r =
    Makes (generate_graph b ts (length nodes) (length counts) (length edges)) (length nodes) (length counts) (length edges) nodes' counts' edges' r

-- demand 3 of `generate_graph`: a graph that is given is not refused by 11, and the numbers below its count number the cuttings
pub record NumbersCuttings (b : RectangularBoard) (ts : Tiles) (nodes' counts' edges' : List ℕ) (r : Result GraphResult Refusal) : Type 0 where
  pub sound : (g : GraphResult) → r ≡ Ok g → bad_graph g (length nodes') counts' edges' ≡ false
  pub cuttings : (g : GraphResult) → r ≡ Ok g → HasFreeCell (board_of b) → AllEdgeJoined (paths_in ts)
      → Numbering (IsCutting (board_of b) (paths_in ts)) (count_from_graph g.complete counts')
      (λ m. marked_pieces_in nodes' (node_list_in g counts' edges' m))
