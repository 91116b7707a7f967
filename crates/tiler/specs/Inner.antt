-- Definitions for the contracts of private functions: what the lent words hold while a graph grows, its path counts by a pass over its edges, and its
-- result; `Growths` says the first of the struct of the code. No contract of a function that can be called from outside cites one; `marked_pieces_of` serves theorems. Assumes nothing.
use Rattle.std.specs.Prelude.{None, Option, Some, Result, Ok}
use Rattle.std.specs.Prelude.{◌≡◌, Bool, true, false, cond, List, map, ℕ, zero, suc, ◌+◌, ◌-◌, ◌*◌, ◌≤◌, ◌<◌, min, eqb, leb, length, get_or}
use Rattle.cells.specs.Lists.{list_of, set_at, holds}
use Rattle.cells.specs.Parts.{cleared_from, first_from}
use Rattle.refusal.specs.declared.Refusal.{Refusal}
use Rattle.refusal.specs.Refusal.{answer_of, map_answer}
use Rattle.tiles.specs.declared.Tiles.{Tiles}
use Rattle.rectangle.specs.Board.{Board, board_at, is_full}
use Rattle.board.specs.declared.RectangularBoard.{RectangularBoard}
use Rattle.covers.specs.Setting.{Setting, entries_of, nodes_of, graph_edges}
use Rattle.covers.specs.Counts.{counts, layers, edges_of, full_node}
use Rattle.graph.specs.declared.GraphResult.{GraphResult}
use Rattle.graph.specs.Graph.{edge_at, step_piece, marked_pieces}
use Rattle.path_count.specs.PathCounts.{count_limit}
use Rattle.path_count.specs.Inner.{count_words}
use Rattle.tiler.specs.Graphs.{Graph, result_of_graph, node_list_of, generate_graph, Makes}

-- the cutting that the node list with the number m of a graph gives: "the set of pieces that its steps mark"
unfoldable pub marked_pieces_of : Graph → ℕ → ℕ → Bool
unfolding holds step_piece node_list_of
marked_pieces_of g m = marked_pieces (map (λ v. get_or g.nodes v 0) (node_list_of g m))

-- ---- a graph in lent words: its nodes and its edges

-- how many nodes there are, and how many edges, those past the room counting as one; no room where the nodes pass it
unfoldable pub growth_of : ℕ → ℕ → List ℕ × List (ℕ × ℕ) → Option (ℕ × ℕ)
growth_of room edgeLimit g = cond (leb (length g.0) room) (Some (length g.0, min (length g.1) (suc edgeLimit))) None

-- the words and the number of some edges: the edges while they have room
pub record HoldsEdges (room : ℕ) (ws : List ℕ) (n : ℕ) (es : List (ℕ × ℕ)) : Type 0 where
  pub number : n ≡ min (length es) (suc room)
  pub edges : length es ≤ room → list_of (edge_at ws) (length es) ≡ es

-- the words and the state of a graph that has become g
pub record HoldsGraph (room edgeLimit : ℕ) (ns es : List ℕ) (growth : Option (ℕ × ℕ)) (g : List ℕ × List (ℕ × ℕ)) : Type 0 where
  pub state : growth ≡ growth_of room edgeLimit g
  pub nodes : length g.0 ≤ room → list_of (set_at ns) (length g.0) ≡ g.0
  pub edges : length g.0 ≤ room → length g.1 ≤ edgeLimit → list_of (edge_at es) (length g.1) ≡ g.1

-- ---- path counts by a pass over the edges

-- the parents and the children of the first n edges in the words are below a bound
abbrev pub EndsBelow : List ℕ → ℕ → ℕ → Type 0
EndsBelow ws n bound = (i : ℕ) → i < n → ((edge_at ws i).0 < bound) × ((edge_at ws i).1 < bound)

-- the counts when the first j of some edges have been passed: an edge adds its parent's count to its child's
unfoldable pub pass_to : (ℕ → ℕ) → List (ℕ × ℕ) → ℕ → ℕ → ℕ
pass_to f es zero v = f v
pass_to f es (suc j) v =
    cond (eqb v (get_or es j (0, 0)).1) (pass_to f es j v + pass_to f es j (get_or es j (0, 0)).0) (pass_to f es j v)

-- the counts with which a pass begins: node 0 has 1
unfoldable pub first_count : ℕ → ℕ
first_count v = cond (eqb v 0) 1 0

-- what a pass leaves in so many count words: the counts, each of which fits, or one of its sums was too large
pub record PassesEdges (words : ℕ) (es : List (ℕ × ℕ)) (cs' : List ℕ) (r : Bool) : Type 0 where
  pub done : r ≡ true → cs' ≡ count_words (pass_to first_count es (length es)) words
  pub fits : r ≡ true → (v : ℕ) → pass_to first_count es (length es) v < count_limit
  pub large : r ≡ false → (j : ℕ) × (v : ℕ) × (j ≤ length es) × (count_limit ≤ pass_to first_count es j v)

-- ---- the result of a graph whose n nodes and e edges stand in the words

pub record Finishes (b : Board) (nodes edges : List ℕ) (n e : ℕ) (nodes' edges' : List ℕ) (r : GraphResult) : Type 0 where
  pub result : r ≡ record { nodes = n; edges = e; complete = first_from (λ i. is_full (board_at b (set_at nodes i))) 1 (n - 1) }
  pub node_words : nodes' ≡ cleared_from (4 * n) nodes
  pub edge_words : edges' ≡ cleared_from (2 * e) edges

-- ---- the graph of a board and tiles, in the words that are lent

-- the graph of a start, by its setting
unfoldable pub graph_in : {P : Type 0} → Setting ℕ P → ℕ → Graph
unfolding layers edges_of full_node
graph_in S s = record { nodes = nodes_of S s; counts = counts (entries_of S s); edges = graph_edges S s; complete = full_node S.full (nodes_of S s) }

-- what is answered, and the words where a graph is given; nothing is said of the words where it is refused
abbrev pub MakesGraph : RectangularBoard → Tiles → List ℕ → List ℕ → List ℕ → List ℕ → List ℕ → List ℕ → Result GraphResult Refusal → Type 0
MakesGraph b ts nodes counts edges nodes' counts' edges' r =
    (answer_of r ≡ map_answer result_of_graph (generate_graph b ts (length nodes) (length counts) (length edges)))
    × ((g : GraphResult) → r ≡ Ok g
    → Makes (generate_graph b ts (length nodes) (length counts) (length edges)) (length nodes) (length counts) (length edges) nodes' counts' edges' r)
