-- Examples: what the words and bytes of a host stand for, each at its place, and what is left in lent ones that held 7. Assumes nothing.
use Rattle.std.specs.Prelude.{◌≡◌, refl, List, [], ◌∷◌, ◌++◌, map, ℕ, ◌+◌, ◌*◌, ◌^◌, length, get_or, replicate, take, None, Some}
use Rattle.std.proofs.Common.{subst, lit<}
use mathlib.Core.List.Memᴰ.{head as here}
use Rattle.cells.specs.declared.Cells.{Cells}
use Rattle.cells.specs.Set.{words_below, number}
use Rattle.cells.specs.Lists.{list_of, padded, words_for}
use Rattle.refusal.specs.Refusal.{Answer, refused, given, map_answer, refusal_of, value_or}
use Rattle.refusal.specs.RefusalLaws.{given_inj, refused_given}
use Rattle.tile.specs.Path.{Path}
use Rattle.board.specs.Board.{of_marks}
use Rattle.rectangle.specs.Board.{Board, marks, is_full}
use Rattle.direction.specs.Direction.{step}
use Rattle.children.specs.Children.{children}
use Rattle.covers.specs.Counts.{at_node}
use Rattle.single_tiling.specs.SingleTiling.{IsTiling, number_found, boards_found}
use Rattle.graph.specs.Graph.{edges_for}
use Rattle.path_count.specs.PathCounts.{counts_for}
use Rattle.host_words.specs.Layout.{board_in, board_words, result_in, result_words, plot_shape, unless, AnswersList}
use Rattle.host_tiles.specs.TileBytes.{tile_in, tiles_in, bytes_for, stored_byte, struct_bytes}
use Rattle.host_plots.specs.Calls.{orbit_shape, file_shape, placed, AnswersPlot}
use Rattle.host_counts.specs.Calls.{counted, generated, AnswersCount, AnswersGraph}
use Rattle.host_tilings.specs.Calls.{tiling_shape, searched, AnswersSingle}

abbrev lent : ℕ → List ℕ
lent n = replicate n 7

-- ---- boards and results

-- a set by its four words
abbrev four : ℕ → ℕ → ℕ → ℕ → Cells
four a b c d = record { w0 = a; w1 = b; w2 = c; w3 = d }

-- width, height, and 8 words of marks, fixed then laid; words that are not there are 0
board_in_lem : (board_in 3 2 (1 ∷ 2 ∷ 3 ∷ 4 ∷ 5 ∷ 6 ∷ 7 ∷ 8 ∷ []) ≡ of_marks 3 2 (four 1 2 3 4) (four 5 6 7 8)) × (board_in 3 2 [] ≡ of_marks 3 2 (four 0 0 0 0) (four 0 0 0 0))
board_in_lem = (refl, refl)

-- the ten words of a board
board_out : board_words (record { width = 3; height = 2; fixed = 1 + 2 ^ 65; laid = 3 * 2 ^ 128 + 4 * 2 ^ 192 }) ≡ 3 ∷ 2 ∷ 1 ∷ 2 ∷ 0 ∷ 0 ∷ 0 ∷ 0 ∷ 3 ∷ 4 ∷ []
unfolding board_words
board_out = refl

-- nodes, edges, 1 if there is a full node, full node; words that are not there are 0
result_in_lem : result_in (5 ∷ 6 ∷ 1 ∷ 3 ∷ []) ∷ result_in (5 ∷ 6 ∷ 0 ∷ 3 ∷ []) ∷ result_in (5 ∷ 6 ∷ 1 ∷ []) ∷ result_in [] ∷ []
    ≡ record { nodes = 5; edges = 6; complete = Some 3 } ∷ record { nodes = 5; edges = 6; complete = None } ∷ record { nodes = 5; edges = 6; complete = Some 0 }
    ∷ record { nodes = 0; edges = 0; complete = None } ∷ []
unfolding result_in
result_in_lem = refl

-- the same words, with zeros for no full node
result_out : (result_words 5 6 (Some 3) ≡ 5 ∷ 6 ∷ 1 ∷ 3 ∷ []) × (result_words 5 6 None ≡ 5 ∷ 6 ∷ 0 ∷ 0 ∷ [])
unfolding result_words
result_out = (refl, refl)

-- ---- tiles: 33 bytes a tile, its length and 32 codes

-- a length byte, then 32 codes; bytes that are not there are 0
tile_in_lem : (tile_in (2 ∷ 3 ∷ 1 ∷ []) ≡ record { len = 2; codes = 3 ∷ 1 ∷ replicate 30 0 }) × (tile_in [] ≡ record { len = 0; codes = replicate 32 0 })
unfolding list_of
tile_in_lem = (refl, refl)

-- two tiles and a byte: the number of tiles, the lengths, the codes from 0 and from 32 on; 64 lengths and 2,048 codes in all
abbrev bytes : List ℕ
bytes = 2 ∷ 3 ∷ 1 ∷ replicate 29 9 ++ 6 ∷ 1 ∷ 5 ∷ replicate 31 0 ++ 4 ∷ []

tiles_in_lem : ((tiles_in bytes).count ≡ 2) × (take 4 (tiles_in bytes).lens ≡ 2 ∷ 1 ∷ 4 ∷ 0 ∷ []) × (take 35 (tiles_in bytes).codes ≡ 3 ∷ 1 ∷ replicate 29 9 ++ 6 ∷ 5 ∷ 0 ∷ 0 ∷ [])
    × (get_or (tiles_in bytes).codes 64 7 ≡ 0) × (length (tiles_in bytes).lens ≡ 64) × (length (tiles_in bytes).codes ≡ 2048)
unfolding list_of
tiles_in_lem = (refl, refl, refl, refl, refl, refl)

-- 65 bytes are one tile and no second
one_tile_in : (tiles_in (replicate 65 0)).count ≡ 1
one_tile_in = refl

-- zeros behind a path and behind the last tile
tiles_out : bytes_for ((3 ∷ 1 ∷ []) ∷ (5 ∷ []) ∷ []) 68 ≡ 2 ∷ 3 ∷ 1 ∷ replicate 30 0 ++ 1 ∷ 5 ∷ replicate 31 0 ++ 0 ∷ 0 ∷ []
unfolding bytes_for
tiles_out = refl

-- the bytes of lengths and codes: of a length the low byte; 0 behind them
stored_bytes : map (stored_byte (258 ∷ 1 ∷ []) (3 ∷ 1 ∷ replicate 29 0 ++ 6 ∷ 5 ∷ replicate 31 0 ++ 4 ∷ [])) (0 ∷ 1 ∷ 2 ∷ 32 ∷ 33 ∷ 34 ∷ 35 ∷ 66 ∷ 67 ∷ 68 ∷ []) ≡ 2 ∷ 3 ∷ 1 ∷ 6 ∷ 1 ∷ 5 ∷ 0 ∷ 0 ∷ 4 ∷ 0 ∷ []
unfolding stored_byte
stored_bytes = refl

-- the length of tile 32 stands at 32 × 33
later_byte : stored_byte (replicate 32 1 ++ 2 ∷ []) [] 1056 ≡ 2
unfolding stored_byte
later_byte = refl

-- lengths and codes of a struct, whatever its number of tiles
struct_bytes_lem : struct_bytes (record { count = 9; lens = 1 ∷ []; codes = 5 ∷ [] }) 3 ≡ 1 ∷ 5 ∷ 0 ∷ []
unfolding struct_bytes
struct_bytes_lem = refl

-- ---- slices of a wrong shape: the number of the refusal, 0 for none

-- marks of 8 words, a multiple of 33 bytes, and as many answer words as are needed
plot_shapes : plot_shape 2 8 0 2 ∷ plot_shape 2 8 66 3 ∷ plot_shape 2 7 66 2 ∷ plot_shape 2 9 66 2 ∷ plot_shape 2 8 65 2 ∷ plot_shape 2 8 67 2 ∷ plot_shape 2 8 66 1 ∷ plot_shape 2 7 65 1 ∷ plot_shape 2 8 65 1 ∷ []
    ≡ 0 ∷ 0 ∷ 4 ∷ 4 ∷ 5 ∷ 5 ∷ 8 ∷ 4 ∷ 5 ∷ []
unfolding plot_shape
plot_shapes = refl

-- a tile of 33 bytes, bytes for 8 tiles, an answer word
orbit_shapes : orbit_shape 33 264 1 ∷ orbit_shape 33 265 2 ∷ orbit_shape 32 264 1 ∷ orbit_shape 34 264 1 ∷ orbit_shape 33 263 1 ∷ orbit_shape 33 264 0 ∷ orbit_shape 32 263 0 ∷ [] ≡ 0 ∷ 0 ∷ 5 ∷ 5 ∷ 8 ∷ 8 ∷ 5 ∷ []
unfolding orbit_shape
orbit_shapes = refl

-- ten words of the board, bytes for 64 tiles, an answer word
file_shapes : file_shape 10 2112 1 ∷ file_shape 11 2113 2 ∷ file_shape 9 2112 1 ∷ file_shape 10 2111 1 ∷ file_shape 10 2112 0 ∷ [] ≡ 0 ∷ 0 ∷ 8 ∷ 8 ∷ 8 ∷ []
unfolding file_shape
file_shapes = refl

-- a result of four words with 0 or 1 for the third, a number of two words, an answer word
tiling_shapes : tiling_shape (4 ∷ 4 ∷ 1 ∷ 3 ∷ []) 2 1 ∷ tiling_shape (4 ∷ 4 ∷ 0 ∷ 3 ∷ []) 2 2 ∷ tiling_shape (4 ∷ 4 ∷ 2 ∷ 3 ∷ []) 2 1 ∷ tiling_shape (4 ∷ 4 ∷ 1 ∷ []) 2 1 ∷ tiling_shape (4 ∷ 4 ∷ 1 ∷ 3 ∷ 0 ∷ []) 2 1
    ∷ tiling_shape (4 ∷ 4 ∷ 1 ∷ 3 ∷ []) 1 1 ∷ tiling_shape (4 ∷ 4 ∷ 1 ∷ 3 ∷ []) 3 1 ∷ tiling_shape (4 ∷ 4 ∷ 1 ∷ 3 ∷ []) 2 0 ∷ tiling_shape [] 1 0 ∷ tiling_shape (4 ∷ 4 ∷ 1 ∷ 3 ∷ []) 1 0 ∷ []
    ≡ 0 ∷ 0 ∷ 11 ∷ 11 ∷ 11 ∷ 12 ∷ 12 ∷ 8 ∷ 11 ∷ 12 ∷ []
unfolding tiling_shape
tiling_shapes = refl

-- a refusal of a shape is told first
shapes_first : map (λ (p : ℕ × Answer ℕ). unless p.0 p.1) ((0, given 3) ∷ (5, given 3) ∷ (0, refused 6) ∷ (5, refused 6) ∷ []) ≡ given 3 ∷ refused 5 ∷ refused 6 ∷ refused 5 ∷ []
unfolding unless
shapes_first = refl

-- ---- width before height: Right covers 2 by 1, and not 1 by 2

abbrev two_by_one : Board
two_by_one = record { width = 2; height = 1; fixed = 0; laid = 0 }

abbrev right : List Path
right = (3 ∷ []) ∷ []

-- the bytes of Right
abbrev right_bytes : List ℕ
right_bytes = 1 ∷ 3 ∷ replicate 31 0

-- 4 words hold its child, one board a layer is enough to count it, 12 words hold the boards of one tiling and 11 do not
wide_board : (placed 2 1 (replicate 8 0) right_bytes 4 1 ≡ given (3 ∷ [])) × (counted 2 1 (replicate 8 0) right_bytes 1 2 ≡ given 1)
    × (generated 2 1 (replicate 8 0) right_bytes 8 2 2 4 ≡ given (record { nodes = 0 ∷ 3 ∷ []; counts = 1 ∷ 1 ∷ []; edges = (0, 1) ∷ []; complete = Some 1 }))
    × (searched 2 1 (replicate 8 0) right_bytes 12 1 ≡ given (two_by_one, right)) × (searched 2 1 (replicate 8 0) right_bytes 11 1 ≡ refused 8)
unfolding placed counted generated searched step list_of number
wide_board = (refl, refl, refl, refl, refl)

-- ---- what is left

-- two sets in nine words, their number in two
list_left : AnswersList words_for (given (3 ∷ 5 ∷ [])) (lent 9) (lent 2) (3 ∷ 0 ∷ 0 ∷ 0 ∷ 5 ∷ 0 ∷ 0 ∷ 0 ∷ 0 ∷ []) (2 ∷ 0 ∷ []) 0
unfolding map_answer refusal_of value_or words_for padded
list_left = record { answered = record { number = refl; words = refl }; out_left = refl }

-- zeros after a refusal
list_refused : AnswersList words_for (refused 8) (lent 3) (lent 2) (0 ∷ 0 ∷ 0 ∷ []) (0 ∷ 0 ∷ []) 8
unfolding map_answer refusal_of value_or words_for padded
list_refused = record { answered = record { number = refl; words = refl }; out_left = refl }

-- two words of a number, low and high, and no more; the lent layers are zero
count_left : AnswersCount (given (2 ^ 128 + 3 * 2 ^ 64 + 5)) (lent 1) (lent 2) (lent 3) (lent 4) (lent 3) (0 ∷ []) (0 ∷ 0 ∷ []) (0 ∷ 0 ∷ 0 ∷ []) (0 ∷ 0 ∷ 0 ∷ 0 ∷ []) (5 ∷ 3 ∷ 0 ∷ []) 0
unfolding map_answer refusal_of value_or words_below padded
count_left = record { answered = record { number = refl; words = refl }; zero_boards_a = refl; zero_counts_a = refl; zero_boards_b = refl; zero_counts_b = refl }

-- a graph of three nodes, two counts and one edge: each in its own words, and the words of the result
graph_left : AnswersGraph (given (record { nodes = 0 ∷ 1 ∷ 3 ∷ []; counts = 1 ∷ 7 ∷ []; edges = (0, 1) ∷ []; complete = Some 1 })) (lent 13) (lent 4) (lent 3) (lent 5)
    (0 ∷ 0 ∷ 0 ∷ 0 ∷ 1 ∷ 0 ∷ 0 ∷ 0 ∷ 3 ∷ 0 ∷ 0 ∷ 0 ∷ 0 ∷ []) (1 ∷ 7 ∷ 0 ∷ 0 ∷ []) (0 ∷ 1 ∷ 0 ∷ []) (3 ∷ 1 ∷ 1 ∷ 1 ∷ 0 ∷ []) 0
unfolding map_answer refusal_of value_or words_for counts_for edges_for result_words padded
graph_left = record { answered = record { number = refl; words = refl }; nodes_left = refl; counts_left = refl; edges_left = refl }

-- zeros after a refusal
graph_refused : AnswersGraph (refused 10) (lent 2) (lent 1) (lent 3) (lent 4) (0 ∷ 0 ∷ []) (0 ∷ []) (0 ∷ 0 ∷ 0 ∷ []) (0 ∷ 0 ∷ 0 ∷ 0 ∷ []) 10
unfolding map_answer refusal_of value_or words_for counts_for edges_for result_words padded
graph_refused = record { answered = record { number = refl; words = refl }; nodes_left = refl; counts_left = refl; edges_left = refl }

-- a board and one tile in 11 words and 34 bytes, and the number of tiles
plot_left : AnswersPlot (given (record { board = record { width = 3; height = 2; fixed = 4; laid = 0 }; tiles = (5 ∷ []) ∷ [] })) (lent 11) (lent 34) (lent 2)
    (3 ∷ 2 ∷ 4 ∷ replicate 8 0) (1 ∷ 5 ∷ replicate 32 0) (1 ∷ 0 ∷ []) 0
unfolding map_answer refusal_of value_or board_words bytes_for padded
plot_left = record { answered = record { number = refl; words = refl }; board_left = refl; tiles_left = refl }

-- "A refusal hands back a 0 by 0 board and no tiles"
plot_refused : AnswersPlot (refused 3) (lent 10) (lent 3) (lent 1) (replicate 10 0) (0 ∷ 0 ∷ 0 ∷ []) (0 ∷ []) 3
unfolding map_answer refusal_of value_or board_words bytes_for padded
plot_refused = record { answered = record { number = refl; words = refl }; board_left = refl; tiles_left = refl }

-- 2 by 1 has the tiling of one piece
two_tiling : IsTiling two_by_one right (0 ∷ 3 ∷ [])
unfolding children is_full marks step
two_tiling = record { last = 3; sequence = (refl, (here refl, refl)); full = refl; pieces = lit< tt }

-- its boards in nine words, their number in two
single_left : AnswersSingle (given (two_by_one, right)) (lent 9) (lent 2) (0 ∷ 0 ∷ 0 ∷ 0 ∷ 3 ∷ 0 ∷ 0 ∷ 0 ∷ 0 ∷ []) (2 ∷ 0 ∷ []) 0
unfolding map_answer refusal_of value_or number_found boards_found at_node words_for padded
single_left = record {
  found = Some (0 ∷ 3 ∷ []);
  tiling = λ p e. subst (λ (q : Board × List Path). IsTiling q.0 q.1 (0 ∷ 3 ∷ [])) (given_inj (two_by_one, right) p e) two_tiling;
  answered = record { number = refl; words = refl };
  out_left = refl;
}

-- zeros after a refusal
single_refused : AnswersSingle (refused 8) (lent 3) (lent 2) (0 ∷ 0 ∷ 0 ∷ []) (0 ∷ 0 ∷ []) 8
unfolding map_answer refusal_of value_or words_for padded
single_refused = record { found = None; tiling = λ p e. absurd (refused_given 8 p e); answered = record { number = refl; words = refl }; out_left = refl }
