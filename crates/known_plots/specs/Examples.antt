-- Examples: small plots by the definitions, and one at which theorems are applied. Rests on tiler's `Theorems`. Assumes nothing.
use Rattle.std.specs.Prelude.{◌≡◌, refl, true, false, List, [], ◌∷◌, ℕ, zero, suc, ◌-◌, ◌^◌, ◌≤◌, length, None, Some}
use Rattle.std.proofs.Common.{sym, ap, ◌∙◌, subst, ⊎_elim, lit≤, lit<}
use Rattle.std.proofs.Math.Bool.{So}
use mathlib.Core.List.Memᴰ.{cases_cons}
use mathlib.Core.List.Memᴰ.{not-nil}
use Rattle.cells.specs.declared.Cells.{Cells}
use Rattle.cells.specs.Set.{number, Sound}
use Rattle.refusal.specs.Refusal.{Answer, refused, given, map_answer, bind_answer}
use Rattle.direction.specs.Direction.{step}
use Rattle.tile.specs.Path.{Path, codes_ok}
use Rattle.tiles.specs.Paths.{equal_counts, tiles_of, read_equal_tiles}
use Rattle.tiles.specs.Inner.{Storable}
use Rattle.tiles.specs.StoredLaws.{read_tiles_tiles_of, read_tiles_orbit}
use Rattle.tiles.specs.EqualLaws.{read_equal_tiles_equal, read_equal_tiles_unequal}
use Rattle.board.specs.declared.RectangularBoard.{RectangularBoard}
use Rattle.rectangle.specs.Board.{Board}
use Rattle.board.specs.Board.{board_of, of_marks, read_board}
use Rattle.covers.specs.Counts.{Exactly, Entry}
use Rattle.graph.specs.Graph.{layer_room, node_room, edge_room}
use Rattle.expansion.specs.Plots.{accept_plot}
use Rattle.expansion.specs.Parts.{step_of, child_words}
use Rattle.layers.specs.LayerCounts.{judge_layer, judge_layers, layer_count_for, count_tilings}
use Rattle.tiler.specs.Graphs.{Graph, count_of_graph, judge_graph, graph_for, generate_graph}
use Rattle.known_plots.specs.KnownPlots.{D as dominoes}
use Rattle.tiler.specs.Theorems.{Reaches, path_count_is_number_of_sequences, counts_agree}

-- a board by its size, its fixed and its laid marks
abbrev pub board : ℕ → ℕ → ℕ → ℕ → Board
board w h fixed laid = record { width = w; height = h; fixed = fixed; laid = laid }

-- ---- 01's worked example, 2 by 2 dominoes: `layers 2` and `graph 2 nodes 4 edges 4`

two_by_two_lem : layer_count_for (board 2 2 0 0) dominoes 2 ≡ given 2
unfolding layer_count_for dominoes step
two_by_two_lem = refl

abbrev pub two_by_two : Graph
two_by_two = record {
  nodes = 0 ∷ 3 ∷ 65537 ∷ 196611 ∷ [];
  counts = 1 ∷ 1 ∷ 1 ∷ 2 ∷ [];
  edges = (0, 1) ∷ (0, 2) ∷ (1, 3) ∷ (2, 3) ∷ [];
  complete = Some 3;
}

pub two_by_two_graph : graph_for (board 2 2 0 0) dominoes (node_room 16 4) (edge_room 8) ≡ given two_by_two
unfolding graph_for node_room edge_room dominoes step
two_by_two_graph = refl

-- layer 1 has two boards; four nodes need 16 node words and 4 count words, four edges 8 words; 8 comes before 10
one_board : layer_count_for (board 2 2 0 0) dominoes 1 ≡ refused 8
unfolding layer_count_for dominoes step
one_board = refl

few_node_words : graph_for (board 2 2 0 0) dominoes (node_room 15 4) (edge_room 7) ≡ refused 8
unfolding graph_for node_room edge_room dominoes step
few_node_words = refl

few_count_words : graph_for (board 2 2 0 0) dominoes (node_room 16 3) (edge_room 8) ≡ refused 8
unfolding graph_for node_room edge_room dominoes step
few_count_words = refl

few_edge_words : graph_for (board 2 2 0 0) dominoes (node_room 16 4) (edge_room 7) ≡ refused 10
unfolding graph_for node_room edge_room dominoes step
few_edge_words = refl

-- each piece covers two cells; with no tiles the number is 1
piece_cells : (step_of dominoes ≡ 2) × (step_of [] ≡ 1)
unfolding step_of dominoes step
piece_cells = (refl, refl)

-- two children at most for each of four dominoes, four words each; none for no tiles and where a code is refused
child_words_lem : (child_words (tiles_of dominoes) ≡ 32) × (child_words (tiles_of []) ≡ 0) × (child_words (tiles_of ((8 ∷ []) ∷ [])) ≡ 0)
unfolding child_words tiles_of dominoes step
child_words_lem = (refl, refl, refl)

-- ---- the least plots

-- room 0 is 8, also for 0 by 0, where room 1 counts 0
no_room : layer_count_for (board 0 0 0 0) dominoes 0 ≡ refused 8
unfolding layer_count_for dominoes step
no_room = refl

no_cells : layer_count_for (board 0 0 0 0) dominoes 1 ≡ given 0
unfolding layer_count_for dominoes step
no_cells = refl

-- a full start counts 0, and its one node is not its full node
pub full_start : layer_count_for (board 2 1 1 2) dominoes 1 ≡ given 0
unfolding layer_count_for dominoes step
full_start = refl

pub full_start_graph : graph_for (board 2 1 1 2) dominoes (node_room 4 1) (edge_room 0) ≡ given record { nodes = 3 ∷ []; counts = 1 ∷ []; edges = []; complete = None }
unfolding graph_for node_room edge_room dominoes step
full_start_graph = refl

-- a node's marks are of both kinds
fixed_mark : graph_for (board 3 1 1 0) dominoes (node_room 8 2) (edge_room 2) ≡ given record { nodes = 1 ∷ 7 ∷ []; counts = 1 ∷ 1 ∷ []; edges = (0, 1) ∷ []; complete = Some 1 }
unfolding graph_for node_room edge_room dominoes step
fixed_mark = refl

-- no tiles: no child
no_tiles : layer_count_for (board 2 2 0 0) [] 1 ≡ given 0
unfolding layer_count_for
no_tiles = refl

-- ---- limits: 8 before 9 in a layer, the earliest layer decides, 10 before 9 over the graph

largest_count : judge_layer 1 ((0, 2 ^ 64 - 1) ∷ []) ≡ given ((0, 2 ^ 64 - 1) ∷ [])
unfolding judge_layer
largest_count = refl

count_too_large : judge_layer 1 ((0, 2 ^ 64) ∷ []) ≡ refused 9
unfolding judge_layer
count_too_large = refl

no_room_first : judge_layer 0 ((0, 2 ^ 64) ∷ []) ≡ refused 8
unfolding judge_layer
no_room_first = refl

-- layer 0 has a count too large, layer 1 no room
unfoldable two_layers : ℕ → List (Entry ℕ)
two_layers zero = (0, 2 ^ 64) ∷ []
two_layers (suc n) = (1, 1) ∷ (2, 1) ∷ []

earliest_layer : judge_layers two_layers 1 1 ≡ refused 9
unfolding judge_layers two_layers
earliest_layer = refl

-- each layer is judged, the last too: layer 0 has one board, layer 1 two
unfoldable one_then_two : ℕ → List (Entry ℕ)
one_then_two zero = (0, 1) ∷ []
one_then_two (suc n) = (1, 1) ∷ (2, 1) ∷ []

last_layer : judge_layers one_then_two 1 0 ∷ judge_layers one_then_two 1 1 ∷ judge_layers one_then_two 2 1 ∷ [] ≡ given ((0, 1) ∷ []) ∷ refused 8 ∷ given ((1, 1) ∷ (2, 1) ∷ []) ∷ []
unfolding judge_layers one_then_two
last_layer = refl

edges_before_counts : judge_graph 2 0 (record { nodes = 0 ∷ 1 ∷ []; counts = 1 ∷ 2 ^ 64 ∷ []; edges = (0, 1) ∷ []; complete = None }) ≡ refused 10
unfolding judge_graph
edges_before_counts = refl

graph_count_too_large : judge_graph 2 1 (record { nodes = 0 ∷ 1 ∷ []; counts = 1 ∷ 2 ^ 64 ∷ []; edges = (0, 1) ∷ []; complete = None }) ≡ refused 9
unfolding judge_graph
graph_count_too_large = refl

-- ---- refusals of the input come first, in the order 4, 6, 5, 7: here with no room at all

abbrev pub set : ℕ → Cells
set n = record { w0 = n; w1 = 0; w2 = 0; w3 = 0 }

abbrev pub rectangle : ℕ → ℕ → RectangularBoard
rectangle w h = of_marks w h (set 0) (set 0)

-- Right, and Right Right
abbrev pub unequal : List Path
unequal = (3 ∷ []) ∷ (3 ∷ 3 ∷ []) ∷ []

wrong_board : count_tilings (rectangle 0 5) (tiles_of unequal) 0 ≡ refused 4
unfolding count_tilings
wrong_board = refl

stored : Storable unequal
unfolding codes_ok
stored p m =
    ⊎_elim (λ e. subst (λ (q : Path). (length q ≤ 32) × So (codes_ok q)) (sym e) (lit≤ tt, refl))
    (λ k. ⊎_elim (λ e. subst (λ (q : Path). (length q ≤ 32) × So (codes_ok q)) (sym e) (lit≤ tt, refl)) (λ n. absurd (not-nil n)) (cases_cons k)) (cases_cons m)

unequal_counts : equal_counts unequal ≡ false
unfolding equal_counts step
unequal_counts = refl

pub unequal_tiles_read : read_equal_tiles (tiles_of unequal) ≡ refused 7
unequal_tiles_read = read_equal_tiles_unequal (tiles_of unequal) unequal (read_tiles_tiles_of unequal (lit≤ tt) stored) unequal_counts

two_by_two_read : read_board (rectangle 2 2) ≡ given (board_of (rectangle 2 2))
unfolding read_board number
two_by_two_read = refl

unequal_tiles : count_tilings (rectangle 2 2) (tiles_of unequal) 0 ≡ refused 7
unfolding count_tilings accept_plot bind_answer map_answer
unequal_tiles = rw (two_by_two_read, unequal_tiles_read)

unequal_tiles_graph : generate_graph (rectangle 2 2) (tiles_of unequal) 0 0 0 ≡ refused 7
unfolding generate_graph accept_plot bind_answer map_answer
unequal_tiles_graph = rw (two_by_two_read, unequal_tiles_read)

-- ---- rooms: "the least of both layers' words ÷ 4 and of both layers' count words", and at most 16,777,216

room_of_boards : layer_room 9 3 12 5 ≡ 2
unfolding layer_room
room_of_boards = refl

room_of_counts : layer_room 40 10 40 3 ≡ 3
unfolding layer_room
room_of_counts = refl

room_at_most : layer_room (2 ^ 40) (2 ^ 40) (2 ^ 40) (2 ^ 40) ≡ 16777216
unfolding layer_room
room_at_most = refl

-- ---- the conditions of the theorems can be met: 2 by 2 dominoes are read, counted and given as a graph

equal_dominoes : equal_counts dominoes ≡ true
unfolding equal_counts dominoes step
equal_dominoes = refl

pub dominoes_read : read_equal_tiles (tiles_of dominoes) ≡ given dominoes
unfolding dominoes codes_ok
dominoes_read = read_equal_tiles_equal (tiles_of dominoes) dominoes (read_tiles_orbit (3 ∷ []) (lit≤ tt) refl) equal_dominoes

pub two_by_two_plot : accept_plot (rectangle 2 2) (tiles_of dominoes) ≡ given (board 2 2 0 0, dominoes)
unfolding accept_plot bind_answer map_answer number
two_by_two_plot = rw dominoes_read

pub two_by_two_counted : count_tilings (rectangle 2 2) (tiles_of dominoes) 2 ≡ given 2
unfolding count_tilings layer_count_for bind_answer
two_by_two_counted = ap (λ (a : Answer (Board × List Path)). bind_answer a (λ p. layer_count_for p.0 p.1 2)) two_by_two_plot ∙ two_by_two_lem

pub two_by_two_given : generate_graph (rectangle 2 2) (tiles_of dominoes) 16 4 8 ≡ given two_by_two
unfolding generate_graph graph_for bind_answer
two_by_two_given = ap (λ (a : Answer (Board × List Path)). bind_answer a (λ p. graph_for p.0 p.1 (node_room 16 4) (edge_room 8))) two_by_two_plot ∙ two_by_two_graph

-- the set of no cells has words of 64 bits
pub no_marks_lem : Sound (set 0)
no_marks_lem = record { s0 = lit< tt; s1 = lit< tt; s2 = lit< tt; s3 = lit< tt }

-- the last node's path count: two child sequences reach the full board
two_sequences : Exactly 2 (Reaches (rectangle 2 2) no_marks_lem no_marks_lem (tiles_of dominoes) 196611)
two_sequences = path_count_is_number_of_sequences (rectangle 2 2) no_marks_lem no_marks_lem (tiles_of dominoes) 16 4 8 two_by_two two_by_two_given 3 (lit< tt)

-- both counts are 2
both_counts : count_of_graph two_by_two ≡ 2
both_counts = counts_agree (rectangle 2 2) no_marks_lem no_marks_lem (tiles_of dominoes) 2 2 two_by_two_counted 16 4 8 two_by_two two_by_two_given
