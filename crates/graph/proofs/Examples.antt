-- Examples of the definitions, by computation.
use Rattle.std.specs.Prelude.{◌≡◌, refl, [], ◌∷◌, eqb, None, Some, Err, Ok}
use Rattle.cells.specs.Lists.{holds, padded}
use Rattle.refusal.specs.Refusal.{refused, given, map_answer, value_or}
use Rattle.refusal.specs.declared.Refusal.TheVariants as R
use Rattle.graph.specs.Graph.{layer_room, node_room, edge_room, plot_boards, plot_nodes, plot_edges, node_part, edge_at, edges_in, edges_from, get_edges, GetsEdges, edges_for, count_from_graph, step_piece, marked_pieces_in}

-- the least of words and count words decides; quotients drop their remainder
rooms_held : (layer_room 9 3 16 3 ≡ 2) × (layer_room 16 3 16 1 ≡ 1) × (node_room 16 3 ≡ 3) × (edge_room 5 ≡ 2) × (edge_room 40000000 ≡ 16777216)
unfolding layer_room node_room edge_room
rooms_held = (refl, refl, refl, refl, refl)

-- each of the four parts of a layer's room can be the least, and each of the two of a node's
least_parts : layer_room 15 9 40 9 ∷ layer_room 40 3 40 9 ∷ layer_room 40 9 15 9 ∷ layer_room 40 9 40 3 ∷ node_room 15 9 ∷ node_room 40 3 ∷ edge_room 6 ∷ [] ≡ 3 ∷ 3 ∷ 3 ∷ 3 ∷ 3 ∷ 3 ∷ 3 ∷ []
unfolding layer_room node_room edge_room
least_parts = refl

-- the limit of each kind of room is 16,777,216
room_limits : layer_room 67108863 16777216 67108868 16777217 ∷ layer_room 67108868 16777217 67108868 16777217 ∷ node_room 67108868 16777217 ∷ edge_room 33554431 ∷ edge_room 33554434 ∷ [] ≡ 16777215 ∷ 16777216 ∷ 16777216 ∷ 16777215 ∷ 16777216 ∷ []
unfolding layer_room node_room edge_room
room_limits = refl

-- the program's rooms: "512 boards a layer, 1,024 nodes, 4,096 edges"
program_rooms : plot_boards ∷ plot_nodes ∷ plot_edges ∷ [] ≡ 512 ∷ 1024 ∷ 4096 ∷ []
program_rooms = refl

-- seven words hold node 0 and no other
part : (node_part (5 ∷ 0 ∷ 0 ∷ 1 ∷ 7 ∷ 7 ∷ 7 ∷ []) 0 ≡ 5 ∷ 0 ∷ 0 ∷ 1 ∷ []) × (node_part (5 ∷ 0 ∷ 0 ∷ 1 ∷ 7 ∷ 7 ∷ 7 ∷ []) 1 ≡ [])
unfolding node_part
part = (refl, refl)

-- nine words hold node 1 too: its four words
part_of_node_1 : node_part (5 ∷ 0 ∷ 0 ∷ 1 ∷ 6 ∷ 2 ∷ 3 ∷ 4 ∷ 7 ∷ []) 1 ≡ 6 ∷ 2 ∷ 3 ∷ 4 ∷ []
unfolding node_part
part_of_node_1 = refl

-- words that are not lent are 0
edge_not_lent : (edge_at (7 ∷ []) 0 ≡ (7, 0)) × (edge_at [] 0 ≡ (0, 0))
unfolding edge_at
edge_not_lent = (refl, refl)

-- the edges (0, 1), (0, 2), (1, 3), and a word left over
edges : edges_in (0 ∷ 1 ∷ 0 ∷ 2 ∷ 1 ∷ 3 ∷ 4 ∷ []) 9 ≡ (0, 1) ∷ (0, 2) ∷ (1, 3) ∷ []
unfolding edges_in
edges = refl

children : (edges_from ((0, 1) ∷ (0, 2) ∷ (1, 3) ∷ []) 0 ≡ 1 ∷ 2 ∷ []) × (edges_from ((0, 1) ∷ (0, 2) ∷ (1, 3) ∷ []) 3 ≡ [])
unfolding edges_from
children = (refl, refl)

-- of the first edge only; of all; and with an output of one word
given_children : (get_edges (0 ∷ 1 ∷ 0 ∷ 2 ∷ 1 ∷ 3 ∷ 4 ∷ []) 1 0 2 ≡ given (1 ∷ []))
    × (get_edges (0 ∷ 1 ∷ 0 ∷ 2 ∷ 1 ∷ 3 ∷ 4 ∷ []) 3 0 2 ≡ given (1 ∷ 2 ∷ []))
    × (get_edges (0 ∷ 1 ∷ 0 ∷ 2 ∷ 1 ∷ 3 ∷ 4 ∷ []) 3 0 1 ≡ refused 8)
unfolding get_edges
given_children = (refl, refl, refl)

-- what `get_edges` leaves in words that held 7: node 0's two children, zeros behind
left : GetsEdges (0 ∷ 1 ∷ 0 ∷ 2 ∷ 1 ∷ 3 ∷ []) 3 0 (7 ∷ 7 ∷ 7 ∷ []) (1 ∷ 2 ∷ 0 ∷ []) (Ok 2)
unfolding get_edges map_answer value_or padded
left = record { answer = refl; words = refl }

-- after refusal 8 zeros
left_refused : GetsEdges (0 ∷ 1 ∷ 0 ∷ 2 ∷ 1 ∷ 3 ∷ []) 3 0 (7 ∷ []) (0 ∷ []) (Err R.NoRoom)
unfolding get_edges map_answer value_or padded
left_refused = record { answer = refl; words = refl }

written : (padded (1 ∷ 2 ∷ []) 4 ≡ 1 ∷ 2 ∷ 0 ∷ 0 ∷ []) × (edges_for ((0, 1) ∷ (0, 2) ∷ []) 5 ≡ 0 ∷ 1 ∷ 0 ∷ 2 ∷ 0 ∷ [])
unfolding padded edges_for
written = (refl, refl)

-- ---- the graph count: the full node's, 0 with none

graph_counts : (count_from_graph (Some 3) (1 ∷ 1 ∷ 1 ∷ 2 ∷ []) ≡ 2) × (count_from_graph None (1 ∷ 1 ∷ 1 ∷ 2 ∷ []) ≡ 0)
unfolding count_from_graph
graph_counts = (refl, refl)

-- ---- the pieces of the steps of 01's "tiling 0: 0 1 3": cells (0, 0) and (0, 1), then (1, 0) and (1, 1)

step_pieces : (step_piece 0 3 ≡ 3) × (step_piece 3 196611 ≡ 196608)
unfolding step_piece
step_pieces = (refl, refl)

marked_pieces_lem : marked_pieces_in (0 ∷ 0 ∷ 0 ∷ 0 ∷ 3 ∷ 0 ∷ 0 ∷ 0 ∷ 65537 ∷ 0 ∷ 0 ∷ 0 ∷ 196611 ∷ 0 ∷ 0 ∷ 0 ∷ []) (0 ∷ 1 ∷ 3 ∷ []) ≡ holds eqb (3 ∷ 196608 ∷ [])
unfolding marked_pieces_in
marked_pieces_lem = refl
