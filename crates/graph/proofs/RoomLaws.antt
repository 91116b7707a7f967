-- A room is no more than the lent words hold, and words for the program's boards and nodes hold just these. Rests on `Graph` and path_count's laws. Assumes nothing.
use Rattle.std.specs.Prelude.{◌≡◌, ℕ, ◌*◌, ◌/◌, ◌≤◌, min}
use Rattle.std.proofs.Common.{ap, arith}
use Rattle.path_count.specs.PathCounts.{count_room}
use Rattle.path_count.specs.Inner.{count_span}
use Rattle.path_count.specs.PathCountLaws.{room_span}
use Rattle.graph.specs.Graph.{room_of, layer_room, node_room, edge_room, plot_boards, plot_nodes}

pub layer_room_lem : (n boardsA countsA boardsB countsB : ℕ) → n ≡ layer_room boardsA countsA boardsB countsB
    → (4 * n ≤ boardsA) × (n ≤ count_room countsA) × (4 * n ≤ boardsB) × (n ≤ count_room countsB)
unfolding layer_room room_of
layer_room_lem n boardsA countsA boardsB countsB e = (omega arith, omega arith, omega arith, omega arith)

pub node_room_lem : (n nodes counts : ℕ) → n ≤ node_room nodes counts → (4 * n ≤ nodes) × (n ≤ count_room counts)
unfolding node_room room_of
node_room_lem n nodes counts h = (omega arith, omega arith)

pub edge_room_lem : (n edges : ℕ) → n ≤ edge_room edges → 2 * n ≤ edges
unfolding edge_room room_of
edge_room_lem n edges h = omega arith

-- ---- the program's rooms, where its words are lent

pub layer_room_plot : layer_room (4 * plot_boards) (count_span plot_boards) (4 * plot_boards) (count_span plot_boards) ≡ plot_boards
unfolding layer_room
layer_room_plot = ap (λ (n : ℕ). room_of (min (min (4 * plot_boards / 4) n) (min (4 * plot_boards / 4) n))) (room_span plot_boards)

pub node_room_plot : node_room (4 * plot_nodes) (count_span plot_nodes) ≡ plot_nodes
unfolding node_room
node_room_plot = ap (λ (n : ℕ). room_of (min (4 * plot_nodes / 4) n)) (room_span plot_nodes)
