-- The definitions compute: slices of a wrong shape, cause by cause and in their order; small plots, an orbit and 01's example file, by their words and
-- bytes. Demand 3's conditions can be met by a host's three calls. What stands in quotation marks is 01's. Rests on `Theorems`. Assumes nothing.
use Rattle.std.specs.Prelude.{◌≡◌, refl, Bool, true, List, [], ◌∷◌, ◌++◌, map, ℕ, ◌+◌, ◌^◌, ◌<◌, length, replicate, take, None, Some}
use Rattle.std.proofs.Common.{sym, ap, ◌∙◌, subst, lit≤, lit<}
use Rattle.refusal.specs.Refusal.{Answer, refused, given, map_answer, refusal_of, value_or}
use Rattle.direction.specs.Direction.{step, rotate, reflect}
use Rattle.tile.specs.Path.{cell_count}
use Rattle.tiles.specs.Paths.{paths_in}
use Rattle.tile.specs.EdgeTest.{edge_joined, edge_joined_iff}
use Rattle.board.specs.Board.{board_of}
use Rattle.rectangle.specs.Board.{is_free}
use Rattle.covers.specs.Counts.{Exactly}
use Rattle.graph.specs.Graph.{layer_room, edges_for}
use Rattle.path_count.specs.PathCounts.{counts_for}
use Rattle.cells.specs.Lists.{padded, list_of, words_for}
use Rattle.cells.specs.Set.{number, value, words_below}
use Rattle.cells.specs.WordLaws.{Small}
use Rattle.tiler.specs.Graphs.{Graph}
use Rattle.expansion.specs.Plots.{IsCutting, HasFreeCell, AllEdgeJoined}
use Rattle.known_plots.specs.KnownPlots.{map_at}
use Rattle.plot_file.specs.PlotFile.{Plot, no_plot}
use Rattle.host_words.specs.Layout.{board_in, board_words, result_words}
use Rattle.host_tiles.specs.TileBytes.{tiles_in, bytes_for}
use Rattle.host_plots.specs.Calls.{placed, orbit_for, read_file, AnswersPlot}
use Rattle.host_counts.specs.Calls.{counted, AnswersCount, generated, AnswersGraph}
use Rattle.host_tilings.specs.Calls.{searched, numbered}
use Rattle.hosts.specs.RefusedLaws.{zero_at}
use Rattle.hosts.specs.HandedOnLaws.{words_given}
use Rattle.hosts.specs.Theorems.{read_plot_returns, count_told, cutting_left, NumberedCall, number_of_cuttings, gives_a_cutting}

-- ---- boards and tiles of a wrong shape

-- no marks: eight words
abbrev pub no_marks : List ℕ
no_marks = replicate 8 0

-- the bytes of a path of one code
abbrev pub one : ℕ → List ℕ
one code = 1 ∷ code ∷ replicate 31 0

-- marks of 7 words, and of 9
marks_of_seven : placed 2 2 (replicate 7 0) (one 3) 64 1 ≡ refused 4
unfolding placed
marks_of_seven = refl

marks_of_nine : counted 2 2 (replicate 9 0) (one 3) 64 2 ≡ refused 4
unfolding counted
marks_of_nine = refl

-- 34 tile bytes, and 32
bytes_of_no_tiles : placed 2 2 no_marks (one 3 ++ 0 ∷ []) 64 1 ≡ refused 5
unfolding placed
bytes_of_no_tiles = refl

byte_too_few : searched 2 2 no_marks (replicate 32 0) 64 1 ≡ refused 5
unfolding searched
byte_too_few = refl

-- an answer word too few: no word of 1, 1 of 2, 3 of 4
no_answer_word : placed 2 2 no_marks (one 3) 64 0 ≡ refused 8
unfolding placed
no_answer_word = refl

no_answer_word_single : searched 2 2 no_marks (one 3) 64 0 ≡ refused 8
unfolding searched
no_answer_word_single = refl

one_count_word : counted 2 2 no_marks (one 3) 64 1 ≡ refused 8
unfolding counted
one_count_word = refl

three_result_words : generated 2 2 no_marks (one 3) 16 4 8 3 ≡ refused 8
unfolding generated
three_result_words = refl

-- 4 before 5 before 8, and all of them before the call's own causes: 17 by 17 is no board
marks_first : placed 17 17 (replicate 7 0) (replicate 34 0) 64 0 ≡ refused 4
unfolding placed
marks_first = refl

tiles_next : placed 17 17 no_marks (replicate 34 0) 64 0 ≡ refused 5
unfolding placed
tiles_next = refl

answer_last : placed 17 17 no_marks (one 3) 64 0 ≡ refused 8
unfolding placed
answer_last = refl

then_the_board : placed 17 17 no_marks (one 3) 64 1 ≡ refused 4
unfolding placed
then_the_board = refl

-- ---- 01's worked example, 2 by 2 dominoes

-- two of the four tiles are enough: Right and Down
abbrev pub dominoes : List ℕ
dominoes = one 3 ++ one 1

-- the children of the empty board: the upper row, and the left column
first_children : placed 2 2 no_marks dominoes 8 1 ≡ given (3 ∷ 65537 ∷ [])
unfolding placed step list_of number
first_children = refl

two_tilings : counted 2 2 no_marks dominoes 2 2 ≡ given 2
unfolding counted step list_of number
two_tilings = refl

-- what `cuttings_count_tilings` then leaves in two answer words, and in five
two_words : (padded (words_below 2 2) 2 ≡ 2 ∷ 0 ∷ []) × (padded (words_below 2 2) 5 ≡ 2 ∷ 0 ∷ 0 ∷ 0 ∷ 0 ∷ [])
unfolding padded words_below
two_words = (refl, refl)

-- "graph 2 nodes 4 edges 4": nodes, counts, edges and full node
abbrev two_by_two : Graph
two_by_two = record {
  nodes = 0 ∷ 3 ∷ 65537 ∷ 196611 ∷ [];
  counts = 1 ∷ 1 ∷ 1 ∷ 2 ∷ [];
  edges = (0, 1) ∷ (0, 2) ∷ (1, 3) ∷ (2, 3) ∷ [];
  complete = Some 3;
}

its_graph : generated 2 2 no_marks dominoes 16 4 8 4 ≡ given two_by_two
unfolding generated step list_of number
its_graph = refl

-- its words: four a node, one a count, two an edge, and the result's four
abbrev node_words : List ℕ
node_words = 0 ∷ 0 ∷ 0 ∷ 0 ∷ 3 ∷ 0 ∷ 0 ∷ 0 ∷ 65537 ∷ 0 ∷ 0 ∷ 0 ∷ 196611 ∷ 0 ∷ 0 ∷ 0 ∷ []

abbrev count_words : List ℕ
count_words = 1 ∷ 1 ∷ 1 ∷ 2 ∷ []

abbrev edge_words : List ℕ
edge_words = 0 ∷ 1 ∷ 0 ∷ 2 ∷ 1 ∷ 3 ∷ 2 ∷ 3 ∷ []

abbrev result : List ℕ
result = 4 ∷ 4 ∷ 1 ∷ 3 ∷ []

graph_words : (words_for two_by_two.nodes 16 ≡ node_words) × (counts_for two_by_two.counts 4 ≡ count_words) × (edges_for two_by_two.edges 8 ≡ edge_words)
unfolding words_for counts_for edges_for
graph_words = (refl, refl, refl)

result_four_words : padded (result_words 4 4 (Some 3)) 4 ≡ result
unfolding result_words padded
result_four_words = refl

-- a 1 by 1 board, which no domino covers: one node, and no full node
one_cell : generated 1 1 no_marks dominoes 4 1 0 4 ≡ given (record { nodes = 0 ∷ []; counts = 1 ∷ []; edges = []; complete = None })
unfolding generated step list_of number
one_cell = refl

no_full_node : padded (result_words 1 0 None) 4 ≡ 1 ∷ 0 ∷ 0 ∷ 0 ∷ []
unfolding result_words padded
no_full_node = refl

-- ---- the tiling by number, of that graph

abbrev tiling : List ℕ → List ℕ → Answer (List ℕ)
tiling graph m = numbered 16 count_words edge_words graph m 3 1

-- its two tilings
both_lists : map (tiling result) ((0 ∷ 0 ∷ []) ∷ (1 ∷ 0 ∷ []) ∷ []) ≡ given (0 ∷ 1 ∷ 3 ∷ []) ∷ given (0 ∷ 2 ∷ 3 ∷ []) ∷ []
unfolding numbered
both_lists = refl

-- a result of three words, of five, and with 2 for a full node
bad_results : map (λ graph. tiling graph (0 ∷ 0 ∷ [])) ((4 ∷ 4 ∷ 1 ∷ []) ∷ (result ++ 0 ∷ []) ∷ (4 ∷ 4 ∷ 2 ∷ 3 ∷ []) ∷ []) ≡ refused 11 ∷ refused 11 ∷ refused 11 ∷ []
unfolding numbered
bad_results = refl

-- a number of one word and of three; one that is not below the count; and one with a high word
bad_numbers : map (tiling result) ((0 ∷ []) ∷ (0 ∷ 0 ∷ 0 ∷ []) ∷ (2 ∷ 0 ∷ []) ∷ (0 ∷ 1 ∷ []) ∷ []) ≡ refused 12 ∷ refused 12 ∷ refused 12 ∷ refused 12 ∷ []
unfolding numbered
bad_numbers = refl

-- no answer word, and an output shorter than the list
no_list_word : numbered 16 count_words edge_words result (0 ∷ 0 ∷ []) 3 0 ≡ refused 8
unfolding numbered
no_list_word = refl

short_output : numbered 16 count_words edge_words result (0 ∷ 0 ∷ []) 2 1 ≡ refused 8
unfolding numbered
short_output = refl

-- 11 before 12 before 8
causes_in_order : (numbered 16 count_words edge_words [] [] 3 0 ≡ refused 11) × (numbered 16 count_words edge_words result [] 3 0 ≡ refused 12)
unfolding numbered
causes_in_order = (refl, refl)

-- ---- demand 3's conditions can be met by a host's calls: the three calls of 2 by 2 dominoes, in words that held 7

abbrev pub lent : ℕ → List ℕ
lent n = replicate n 7

pub no_marks_small : Small no_marks
no_marks_small i = subst (λ (n : ℕ). n < 2 ^ 64) (sym (zero_at 8 i)) (lit< tt)

-- cell 0 is free
has_free_cell : HasFreeCell (board_of (board_in 2 2 no_marks))
unfolding number is_free
has_free_cell = (0, refl)

two_paths : paths_in (tiles_in dominoes) ≡ (3 ∷ []) ∷ (1 ∷ []) ∷ []
unfolding list_of
two_paths = refl

dominoes_joined : AllEdgeJoined ((3 ∷ []) ∷ (1 ∷ []) ∷ [])
unfolding edge_joined cell_count step
dominoes_joined path m = (edge_joined_iff path).0 (map_at edge_joined (λ q. true) ((3 ∷ []) ∷ (1 ∷ []) ∷ []) refl path m)

pub joined : AllEdgeJoined (paths_in (tiles_in dominoes))
joined = subst AllEdgeJoined (sym two_paths) dominoes_joined

count_call : AnswersCount (counted 2 2 no_marks dominoes (layer_room 8 2 8 2) 2) (lent 8) (lent 2) (lent 8) (lent 2) (lent 2)
    (replicate 8 0) (replicate 2 0) (replicate 8 0) (replicate 2 0) (2 ∷ 0 ∷ []) 0
unfolding layer_room refusal_of map_answer value_or words_below padded
count_call =
    subst (λ (a : Answer ℕ). AnswersCount a (lent 8) (lent 2) (lent 8) (lent 2) (lent 2) (replicate 8 0) (replicate 2 0) (replicate 8 0) (replicate 2 0) (2 ∷ 0 ∷ []) 0)
    (sym two_tilings)
    record { answered = record { number = refl; words = refl }; zero_boards_a = refl; zero_counts_a = refl; zero_boards_b = refl; zero_counts_b = refl }

graph_call : AnswersGraph (generated 2 2 no_marks dominoes 16 4 8 4) (lent 16) (lent 4) (lent 8) (lent 4) node_words count_words edge_words result 0
unfolding refusal_of map_answer value_or words_for padded counts_for edges_for result_words
graph_call =
    subst (λ (a : Answer Graph). AnswersGraph a (lent 16) (lent 4) (lent 8) (lent 4) node_words count_words edge_words result 0) (sym its_graph)
    record { answered = record { number = refl; words = refl }; nodes_left = refl; counts_left = refl; edges_left = refl }

-- a numbered call with an output of five words for a list of three
abbrev Numbered : List ℕ → List ℕ → Type 0
Numbered m out' = NumberedCall (count_told (2 ∷ 0 ∷ [])) node_words count_words edge_words (take 4 result) m (lent 5) (lent 1) out' (3 ∷ []) 0

call_0 : Numbered (0 ∷ 0 ∷ []) (0 ∷ 1 ∷ 3 ∷ 0 ∷ 0 ∷ [])
unfolding numbered value refusal_of map_answer value_or padded
call_0 = record { two = refl; below = lit< tt; room = lit≤ tt; word = lit≤ tt; call = record { answered = record { number = refl; words = refl }; out_left = refl } }

call_1 : Numbered (1 ∷ 0 ∷ []) (0 ∷ 2 ∷ 3 ∷ 0 ∷ 0 ∷ [])
unfolding numbered value refusal_of map_answer value_or padded
call_1 = record { two = refl; below = lit< tt; room = lit≤ tt; word = lit≤ tt; call = record { answered = record { number = refl; words = refl }; out_left = refl } }

-- two cuttings, and each call gives one
abbrev Cuts : (ℕ → Bool) → Type 0
Cuts X = IsCutting (board_of (board_in 2 2 no_marks)) (paths_in (tiles_in dominoes)) X

two_cuttings : Exactly 2 Cuts
unfolding value layer_room
two_cuttings =
    number_of_cuttings 2 2 no_marks dominoes no_marks_small has_free_cell joined
    (lent 8) (lent 2) (lent 8) (lent 2) (lent 2) (replicate 8 0) (replicate 2 0) (replicate 8 0) (replicate 2 0) (2 ∷ 0 ∷ []) count_call
    (lent 16) (lent 4) (lent 8) (lent 4) node_words count_words edge_words result graph_call

each_a_cutting : Cuts (cutting_left node_words (0 ∷ 1 ∷ 3 ∷ 0 ∷ 0 ∷ []) (3 ∷ [])) × Cuts (cutting_left node_words (0 ∷ 2 ∷ 3 ∷ 0 ∷ 0 ∷ []) (3 ∷ []))
each_a_cutting = (given_by (0 ∷ 0 ∷ []) (0 ∷ 1 ∷ 3 ∷ 0 ∷ 0 ∷ []) call_0, given_by (1 ∷ 0 ∷ []) (0 ∷ 2 ∷ 3 ∷ 0 ∷ 0 ∷ []) call_1)
  where
    given_by : (m out' : List ℕ) → Numbered m out' → Cuts (cutting_left node_words out' (3 ∷ []))
    given_by m out' c =
        gives_a_cutting 2 2 no_marks dominoes no_marks_small has_free_cell joined
        (lent 8) (lent 2) (lent 8) (lent 2) (lent 2) (replicate 8 0) (replicate 2 0) (replicate 8 0) (replicate 2 0) (2 ∷ 0 ∷ []) count_call
        (lent 16) (lent 4) (lent 8) (lent 4) node_words count_words edge_words result graph_call m (lent 5) (lent 1) out' (3 ∷ []) 0 c

-- ---- an orbit

-- a tile of 32 bytes; 263 bytes for the orbit; no answer word; and a tile that is refused
orbit_shapes : (orbit_for (replicate 32 0) 264 1 ≡ refused 5) × (orbit_for (one 3) 263 1 ≡ refused 8) × (orbit_for (one 3) 264 0 ≡ refused 8) × (orbit_for (one 8) 264 1 ≡ refused 5)
unfolding orbit_for list_of
orbit_shapes = (refl, refl, refl, refl)

-- Right, Down, Left and Up, and their bytes, zeros behind
orbit_of_right : orbit_for (one 3) 264 1 ≡ given ((3 ∷ []) ∷ (1 ∷ []) ∷ (2 ∷ []) ∷ (0 ∷ []) ∷ [])
unfolding orbit_for list_of rotate reflect
orbit_of_right = refl

orbit_bytes : bytes_for ((3 ∷ []) ∷ (1 ∷ []) ∷ (2 ∷ []) ∷ (0 ∷ []) ∷ []) 264 ≡ one 3 ++ one 1 ++ one 2 ++ one 0 ++ replicate 132 0
unfolding bytes_for
orbit_bytes = refl

-- ---- a plot file

-- a board of nine words, 2,111 bytes for tiles, no answer word: also where the file is cut
file_shapes : (read_file [] 9 2112 1 ≡ refused 8) × (read_file [] 10 2111 1 ≡ refused 8) × (read_file [] 10 2112 0 ≡ refused 8) × (read_file [] 10 2112 1 ≡ refused 1)
unfolding read_file
file_shapes = (refl, refl, refl, refl)

-- 01's example, "hexadecimal 52 42 02 02 4F 52 01 03 45 4E"
abbrev worked : List ℕ
worked = 0x52 ∷ 0x42 ∷ 0x02 ∷ 0x02 ∷ 0x4F ∷ 0x52 ∷ 0x01 ∷ 0x03 ∷ 0x45 ∷ 0x4E ∷ []

abbrev plot : Plot
plot = record { board = record { width = 2; height = 2; fixed = 0; laid = 0 }; tiles = (3 ∷ []) ∷ (1 ∷ []) ∷ (2 ∷ []) ∷ (0 ∷ []) ∷ [] }

worked_plot : read_file worked 10 2112 1 ≡ given plot
unfolding read_file rotate reflect
worked_plot = refl

-- the ten words of the board, and the number of tiles
worked_board : padded (board_words plot.board) 10 ≡ 2 ∷ 2 ∷ replicate 8 0
unfolding padded board_words
worked_board = refl

worked_number : padded (length plot.tiles ∷ []) 1 ≡ 4 ∷ []
unfolding padded
worked_number = refl

-- so is left, whatever stood in the lent words
worked_left : (board tiles answer board' tiles' answer' : List ℕ) (r : ℕ) → length board ≡ 10 → length tiles ≡ 2112 → length answer ≡ 1
    → AnswersPlot (read_file worked (length board) (length tiles) (length answer)) board tiles answer board' tiles' answer' r
    → (r ≡ 0) × (board' ≡ 2 ∷ 2 ∷ replicate 8 0) × (answer' ≡ 4 ∷ [])
unfolding value_or
worked_left board tiles answer board' tiles' answer' r b t a told =
    let e : read_file worked (length board) (length tiles) (length answer) ≡ given plot = rw (b, t, a) worked_plot in (
      (read_plot_returns worked board tiles answer board' tiles' answer' r told).1 (plot, e),
      told.board_left ∙ left (length board) (read_file worked (length board) (length tiles) (length answer)) b e,
      words_given (λ p. length p.tiles ∷ []) (read_file worked (length board) (length tiles) (length answer)) plot answer answer' r e told.answered
          ∙ ap (padded (4 ∷ [])) a
          ∙ worked_number,
    )
  where
    left : (n : ℕ) (x : Answer Plot) → n ≡ 10 → x ≡ given plot → padded (board_words (value_or no_plot x).board) n ≡ 2 ∷ 2 ∷ replicate 8 0
    left n x p q = rw (p, q) worked_board

-- a board with marks: fixed 1 and 2^64, laid 2^255
marked_board_lem : padded (board_words (record { width = 16; height = 16; fixed = 1 + 2 ^ 64; laid = 2 ^ 255 })) 11
    ≡ 16 ∷ 16 ∷ 1 ∷ 1 ∷ 0 ∷ 0 ∷ 0 ∷ 0 ∷ 0 ∷ 9223372036854775808 ∷ 0 ∷ []
unfolding padded board_words
marked_board_lem = refl

-- 02, request 2: RB 3,2 with HO 1,2. The hole is bit 18 of the fixed marks, which stand behind width and height; a hole outside the board is 15
hole_plot : read_file (0x52 ∷ 0x42 ∷ 3 ∷ 2 ∷ 0x48 ∷ 0x4F ∷ 1 ∷ 2 ∷ 0x45 ∷ 0x4E ∷ []) 10 2112 1 ≡ given (record { board = record { width = 3; height = 2; fixed = 2 ^ 18; laid = 0 }; tiles = [] })
unfolding read_file
hole_plot = refl

hole_board : padded (board_words (record { width = 3; height = 2; fixed = 2 ^ 18; laid = 0 })) 10 ≡ 3 ∷ 2 ∷ 262144 ∷ replicate 7 0
unfolding padded board_words
hole_board = refl

hole_refused : read_file (0x52 ∷ 0x42 ∷ 3 ∷ 2 ∷ 0x48 ∷ 0x4F ∷ 2 ∷ 1 ∷ 0x45 ∷ 0x4E ∷ []) 10 2112 1 ≡ refused 15
unfolding read_file
hole_refused = refl
