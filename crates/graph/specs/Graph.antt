-- Definitions: how many boards, nodes or edges lent words hold; a graph in lent words, nodes as boards of four words and edges as pairs of words; the result
-- of a graph, its count, and the cutting that a list of its nodes gives. What stands in quotation marks is 01's, from its sections on the layer count, the
-- graph and the tiling by number; "quotients drop their remainder". Assumes nothing.
use Rattle.std.specs.Prelude.{ℕ, ◌/◌, min, ◌+◌, ◌*◌, cond, Bool, not, ◌&&◌, eqb, ltb, leb, length, get_or, take, drop, Option, Result}
use Rattle.refusal.specs.declared.Refusal.{Refusal}
use Rattle.path_count.specs.PathCounts.{count_room, count_in}
use mathlib.Core.List.{List, [], ◌∷◌, flat_map, map}
use Rattle.cells.specs.Lists.{list_of, padded, holds, set_at}
use Rattle.refusal.specs.Refusal.{Answer, refused, given, Leaves, answer_of}
use Rattle.cells.specs.Set.{has_cell, set_of}
use Rattle.covers.specs.Counts.{at_node, pieces_of}

-- "a room for boards, nodes or edges above 16,777,216 counts as that"
abbrev pub room_limit : ℕ
room_limit = 16777216

-- a room with this limit
unfoldable pub room_of : ℕ → ℕ
room_of n = min n room_limit

-- "Room is the boards that each of two lent layers holds (the least of both layers' words ÷ 4 and of both layers' count words […])"
unfoldable pub layer_room : ℕ → ℕ → ℕ → ℕ → ℕ
unfolding room_of count_room
layer_room boardsA countsA boardsB countsB = room_of (min (min (boardsA / 4) (count_room countsA)) (min (boardsB / 4) (count_room countsB)))

-- how many nodes the node words and the count words hold: "node words ÷ 4 or the count words"
unfoldable pub node_room : ℕ → ℕ → ℕ
unfolding room_of count_room
node_room node_words count_words = room_of (min (node_words / 4) (count_room count_words))

-- how many edges the edge words hold: "half the edge words"
unfoldable pub edge_room : ℕ → ℕ
unfolding room_of
edge_room edge_words = room_of (edge_words / 2)

-- ---- the rooms that the program `plot` lends: "512 boards a layer, 1,024 nodes, 4,096 edges"

abbrev pub plot_boards : ℕ
plot_boards = 512

abbrev pub plot_nodes : ℕ
plot_nodes = 1024

abbrev pub plot_edges : ℕ
plot_edges = 4096

-- ---- nodes

-- "A node's four words are handed back as that part of the lent words; where they aren't all lent the part is empty"
unfoldable pub node_part : List ℕ → ℕ → List ℕ
node_part ws n = cond (ltb n (length ws / 4)) (take 4 (drop (4 * n) ws)) []

-- ---- edges

-- edge i, "(parent, child)", of the edge words
unfoldable pub edge_at : List ℕ → ℕ → ℕ × ℕ
edge_at ws i = (get_or ws (2 * i) 0, get_or ws (2 * i + 1) 0)

-- the first n edges, or as many as are lent
unfoldable pub edges_in : List ℕ → ℕ → List (ℕ × ℕ)
unfolding edge_at list_of
edges_in ws n = list_of (edge_at ws) (min n (length ws / 2))

-- the children of a node, in stored order: what the Rust's `get_edges` gives
unfoldable pub edges_from : List (ℕ × ℕ) → ℕ → List ℕ
edges_from [] v = []
edges_from (e ∷ es) v = cond (eqb e.0 v) (e.1 ∷ edges_from es v) (edges_from es v)

-- what `get_edges` answers for an output of room words: 8 where it is too short
unfoldable pub get_edges : List ℕ → ℕ → ℕ → ℕ → Answer (List ℕ)
unfolding edges_in edges_from
get_edges ws n v room = cond (leb (length (edges_from (edges_in ws n) v)) room) (given (edges_from (edges_in ws n) v)) (refused 8)

-- so many words that hold a list of edges, the parent before the child, zeros behind
unfoldable pub edges_for : List (ℕ × ℕ) → ℕ → List ℕ
unfolding flat_map padded
edges_for es count = padded (flat_map (λ e. e.0 ∷ e.1 ∷ []) es) count

-- `get_edges`: the number of children; and the words hold the children, zeros behind, or zeros after a refusal
abbrev pub GetsEdges : List ℕ → ℕ → ℕ → List ℕ → List ℕ → Result ℕ Refusal → Type 0
GetsEdges ws n v old new r = Leaves padded (get_edges ws n v (length old)) (answer_of r) old new

-- ---- the result: "the numbers of nodes and edges and the full board's node, or none"

-- "The graph count is that node's path count, 0 with none": of any node or none and any count words
unfoldable pub count_from_graph : Option ℕ → List ℕ → ℕ
unfolding at_node count_in
count_from_graph complete counts = at_node (count_in counts) complete

-- ---- the cutting that a node list gives

-- the piece of a step: "the cells marked in the later node and free in the earlier"; "A cell with no mark is free"
unfoldable pub step_piece : ℕ → ℕ → ℕ
unfolding set_of has_cell
step_piece earlier later = set_of (λ c. has_cell later c && not (has_cell earlier c))

-- "the set of pieces that its steps mark", of the boards of a list
abbrev pub marked_pieces : List ℕ → ℕ → Bool
marked_pieces boards = holds eqb (pieces_of step_piece boards)

-- the same of a node list, the boards read from the node words
unfoldable pub marked_pieces_in : List ℕ → List ℕ → ℕ → Bool
unfolding holds set_at step_piece
marked_pieces_in nodes list = marked_pieces (map (set_at nodes) list)
