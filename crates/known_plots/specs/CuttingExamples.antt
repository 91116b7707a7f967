-- Examples: demand 3's conditions can be met, by 2 by 2 with dominoes, where its theorems are applied to what the three calls answer; and neither the
-- condition on the board nor that on the tiles can be dropped. What stands in quotation marks is 01's or demand 3's. Rests on `Examples`, `KnownPlots`
-- and tiler's `CuttingTheorems`. Assumes nothing.
use Rattle.std.specs.Prelude.{Ok, Result, Some, ◌≡◌, refl, ◌⊎◌, Bool, true, false, ℕ, zero, suc, ◌+◌, ◌*◌, ◌^◌, ◌≤◌, ◌<◌, eqb, length, replicate, take}
use Rattle.refusal.specs.declared.Refusal.{Refusal}
use Rattle.std.proofs.Common.{sym, ap, ◌∙◌, subst, inl, inr, arith, lit≤, lit<}
use Rattle.std.proofs.Math.Bool.{So}
use mathlib.Core.List.{List, [], ◌∷◌, map, Memᴰ as Mem}
use Rattle.cells.specs.Set.{number, Sound}
use Rattle.cells.specs.Lists.{holds, words_for, padded}
use Rattle.cells.specs.FirstsLaws.{mem_get_d}
use Rattle.tiles.specs.declared.Tiles.{Tiles}
use Rattle.refusal.specs.Refusal.{Answer, given, map_answer, bind_answer, value_or, answer_of}
use Rattle.direction.specs.Direction.{step}
use Rattle.tile.specs.Path.{Path, cell_count}
use Rattle.tile.specs.EdgeTest.{edge_joined, edge_joined_iff}
use Rattle.tiles.specs.Paths.{paths_in, tiles_of}
use Rattle.tiles.specs.EqualLaws.{read_equal_tiles_given}
use Rattle.board.specs.declared.RectangularBoard.{RectangularBoard}
use Rattle.rectangle.specs.Board.{Board, is_free, is_full, valid}
use Rattle.board.specs.Board.{board_of, of_marks, new_board}
use Rattle.covers.specs.Counts.{Exactly}
use Rattle.covers.proofs.Theorems.{number_unique}
use Rattle.graph.specs.Graph.{layer_room, node_room, edge_room, plot_boards, plot_nodes, plot_edges, edges_for, marked_pieces_in}
use Rattle.path_count.specs.declared.PathCount.{PathCount}
use Rattle.path_count.specs.PathCounts.{count_value, count_room, counts_for}
use Rattle.path_count.specs.Inner.{count_span}
use Rattle.numbered_tilings.specs.Tilings.{node_list_in, tiling_by_number, GivesTiling}
use Rattle.graph.specs.declared.GraphResult.{GraphResult}
use Rattle.expansion.specs.Plots.{accept_plot, IsCutting, HasFreeCell, AllEdgeJoined}
use Rattle.layers.specs.LayerCounts.{layer_count_for, count_tilings, count_answer, CountsTilings}
use Rattle.tiler.specs.Graphs.{Graph, graph_for, generate_graph, Makes, GeneratesGraph, count_of_graph}
use Rattle.layers.proofs.CountLaws.{count_cuttings_lem}
use Rattle.cuttings.specs.FullLaws.{full_one_cutting}
use Rattle.tiler.specs.CuttingTheorems.{number_of_cuttings, gives_a_cutting, different_cuttings, every_cutting_has_its_number}
use Rattle.known_plots.specs.KnownPlots.{Row, D as dominoes, slanted, rows, map_at, known_tiles_read, known_plots_counted, four_by_two, one_slanted_cutting}
use Rattle.known_plots.specs.Examples.{board, full_start, full_start_graph, set, rectangle, dominoes_read, two_by_two_counted, two_by_two_given, no_marks_lem}

-- ---- 2 by 2 with dominoes meets the conditions

-- cell 0 is free
pub has_free_cell : HasFreeCell (board_of (rectangle 2 2))
unfolding number is_free
has_free_cell = (0, refl)

-- tiles that each pass the test of `EdgeTest` meet the condition
all_joined : (paths : List Path) → map edge_joined paths ≡ map (λ path. true) paths → AllEdgeJoined paths
all_joined paths e path m = (edge_joined_iff path).0 (map_at edge_joined (λ q. true) paths e path m)

-- dominoes do, and so do they as they are stored
dominoes_joined : AllEdgeJoined dominoes
unfolding edge_joined cell_count dominoes step
dominoes_joined = all_joined dominoes refl

stored_dominoes : dominoes ≡ paths_in (tiles_of dominoes)
stored_dominoes = (read_equal_tiles_given (tiles_of dominoes) dominoes dominoes_read).1

pub stored_joined : AllEdgeJoined (paths_in (tiles_of dominoes))
stored_joined = subst AllEdgeJoined stored_dominoes dominoes_joined

-- ---- `count_tilings` and `generate_graph` are called: what they answer and leave

-- lent words
abbrev lent : ℕ → List ℕ
lent n = replicate n 0

-- the path count 2
abbrev two : PathCount
two = record { word = 2 }

-- with layers of two boards the count is 2
counted : CountsTilings (rectangle 2 2) (tiles_of dominoes) (lent 8) (lent 2) (lent 8) (lent 2) (lent 8) (lent 2) (lent 8) (lent 2) (Ok two)
unfolding layer_room count_room count_value
counted = record { answer = sym two_by_two_counted; zero_boards_a = refl; zero_counts_a = refl; zero_boards_b = refl; zero_counts_b = refl }

told : count_answer (Ok two) ≡ given 2
unfolding count_value
told = refl

-- with words for four nodes and four edges there is the graph `two_by_two`
abbrev graph : GraphResult
graph = record { nodes = 4; edges = 4; complete = Some 3 }

abbrev node_words : List ℕ
node_words = 0 ∷ 0 ∷ 0 ∷ 0 ∷ 3 ∷ 0 ∷ 0 ∷ 0 ∷ 65537 ∷ 0 ∷ 0 ∷ 0 ∷ 196611 ∷ 0 ∷ 0 ∷ 0 ∷ []

abbrev count_words : List ℕ
count_words = 1 ∷ 1 ∷ 1 ∷ 2 ∷ []

abbrev edge_words : List ℕ
edge_words = 0 ∷ 1 ∷ 0 ∷ 2 ∷ 1 ∷ 3 ∷ 2 ∷ 3 ∷ []

generated : GeneratesGraph (rectangle 2 2) (tiles_of dominoes) (lent 16) (lent 4) (lent 8) node_words count_words edge_words (Ok graph)
unfolding map_answer value_or words_for counts_for edges_for
generated =
    subst (λ (a : Answer Graph). Makes a 16 4 8 node_words count_words edge_words (Ok graph)) (sym two_by_two_given)
    record { answer = refl; nodes = refl; counts = refl; edges = refl }

-- ---- the numbered call

-- it leaves a list in an output of three words
abbrev Numbered : ℕ → List ℕ → Type 0
Numbered m list = GivesTiling graph node_words count_words edge_words m (lent 3) list (Ok 3)

-- "tiling 0: 0 1 3"
call_0 : Numbered 0 (0 ∷ 1 ∷ 3 ∷ [])
unfolding tiling_by_number map_answer value_or padded
call_0 = record { answer = refl; words = refl }

-- "tiling 1: 0 2 3"
call_1 : Numbered 1 (0 ∷ 2 ∷ 3 ∷ [])
unfolding tiling_by_number map_answer value_or padded
call_1 = record { answer = refl; words = refl }

-- three words are enough
abbrev Long : ℕ → Type 0
Long m = length (node_list_in graph count_words edge_words m) ≤ 3

long_0 : Long 0
unfolding node_list_in
long_0 = lit≤ tt

long_1 : Long 1
unfolding node_list_in
long_1 = lit≤ tt

-- "the set of pieces that its steps mark"
abbrev marked : List ℕ → ℕ → Bool
marked list = marked_pieces_in node_words list

-- two lying dominoes, and two standing
abbrev lying : ℕ → Bool
lying = holds eqb (3 ∷ 3 * 2 ^ 16 ∷ [])

abbrev standing : ℕ → Bool
standing = holds eqb ((2 ^ 16 + 1) ∷ (2 ^ 17 + 2) ∷ [])

marked_0 : marked (0 ∷ 1 ∷ 3 ∷ []) ≡ lying
unfolding marked_pieces_in number
marked_0 = refl

marked_1 : marked (0 ∷ 2 ∷ 3 ∷ []) ≡ standing
unfolding marked_pieces_in number
marked_1 = refl

-- ---- what `CuttingTheorems` says of these calls

-- the cuttings of the board and the tiles
abbrev Cuts : (ℕ → Bool) → Type 0
Cuts = IsCutting (board_of (rectangle 2 2)) (paths_in (tiles_of dominoes))

-- there are exactly two cuttings,
two_cuttings : Exactly 2 Cuts
two_cuttings =
    number_of_cuttings (rectangle 2 2) no_marks_lem no_marks_lem (tiles_of dominoes) has_free_cell stored_joined
    (lent 8) (lent 2) (lent 8) (lent 2) (lent 8) (lent 2) (lent 8) (lent 2) (Ok two) counted
    (lent 16) (lent 4) (lent 8) node_words count_words edge_words (Ok graph) generated 2 told graph refl

-- each number's call gives one,
call_gives_cutting : (m : ℕ) → m < 2 → (list : List ℕ) → Long m → Numbered m list → Cuts (marked (take 3 list))
unfolding value_or
call_gives_cutting m below list long call =
    gives_a_cutting (rectangle 2 2) no_marks_lem no_marks_lem (tiles_of dominoes) has_free_cell stored_joined
    (lent 8) (lent 2) (lent 8) (lent 2) (lent 8) (lent 2) (lent 8) (lent 2) (Ok two) counted
    (lent 16) (lent 4) (lent 8) node_words count_words edge_words (Ok graph) generated 2 told graph refl
    m below (lent 3) list (Ok 3) long call

lying_cuts : Cuts lying
lying_cuts = subst Cuts marked_0 (call_gives_cutting 0 (lit< tt) (0 ∷ 1 ∷ 3 ∷ []) long_0 call_0)

standing_cuts : Cuts standing
standing_cuts = subst Cuts marked_1 (call_gives_cutting 1 (lit< tt) (0 ∷ 2 ∷ 3 ∷ []) long_1 call_1)

-- which differ,
lying_not_standing : lying ≡ standing → ⊥
unfolding value_or
lying_not_standing e =
    let z =
    different_cuttings (rectangle 2 2) no_marks_lem no_marks_lem (tiles_of dominoes) has_free_cell stored_joined
    (lent 8) (lent 2) (lent 8) (lent 2) (lent 8) (lent 2) (lent 8) (lent 2) (Ok two) counted
    (lent 16) (lent 4) (lent 8) node_words count_words edge_words (Ok graph) generated 2 told graph refl
    0 1 (lit< tt) (lit< tt) (lent 3) (0 ∷ 1 ∷ 3 ∷ []) (Ok 3) (lent 3) (0 ∷ 2 ∷ 3 ∷ []) (Ok 3) long_0 long_1 call_0 call_1
    (marked_0 ∙ e ∙ sym marked_1) in
    absurd (omega arith)

-- and there is no other: each has a number, and that number's call gives it
abbrev GivenBy : (ℕ → Bool) → ℕ → Type 0
GivenBy X m =
    (out out' : List ℕ) (t : Result ℕ Refusal) → length (node_list_in graph count_words edge_words m) ≤ length out
    → GivesTiling graph node_words count_words edge_words m out out' t → marked (take (value_or 0 (answer_of t)) out') ≡ X

lying_or_standing : (X : ℕ → Bool) → Cuts X → (X ≡ lying) ⊎ (X ≡ standing)
unfolding value_or
lying_or_standing X cuts = go r.0 r.1 r.2
  where
    r : (m : ℕ) × (m < 2) × GivenBy X m
    r =
        every_cutting_has_its_number (rectangle 2 2) no_marks_lem no_marks_lem (tiles_of dominoes) has_free_cell stored_joined
        (lent 8) (lent 2) (lent 8) (lent 2) (lent 8) (lent 2) (lent 8) (lent 2) (Ok two) counted
        (lent 16) (lent 4) (lent 8) node_words count_words edge_words (Ok graph) generated 2 told graph refl X cuts

    go : (m : ℕ) → m < 2 → GivenBy X m → (X ≡ lying) ⊎ (X ≡ standing)
    go zero h k = inl (sym (k (lent 3) (0 ∷ 1 ∷ 3 ∷ []) (Ok 3) long_0 call_0) ∙ marked_0)
    go (suc zero) h k = inr (sym (k (lent 3) (0 ∷ 2 ∷ 3 ∷ []) (Ok 3) long_1 call_1) ∙ marked_1)
    go (suc (suc m)) h k = absurd (omega arith)

-- ---- "any board with a free cell" can't be dropped: a full board counts 0, but has one cutting, the empty set

-- 2 by 1, one cell fixed and one laid
abbrev pub full_board : RectangularBoard
full_board = of_marks 2 1 (set 1) (set 2)

-- a set in its lowest word has words of 64 bits
pub small_set : (n : ℕ) → n < 2 ^ 64 → Sound (set n)
small_set n h = record { s0 = h; s1 = lit< tt; s2 = lit< tt; s3 = lit< tt }

-- board and tiles are read, and neither count is refused: both are 0
pub full_board_read : accept_plot full_board (tiles_of dominoes) ≡ given (board 2 1 1 2, dominoes)
unfolding accept_plot bind_answer map_answer number
full_board_read = rw dominoes_read

pub full_board_counted : count_tilings full_board (tiles_of dominoes) 1 ≡ given 0
unfolding count_tilings layer_count_for bind_answer
full_board_counted = ap (λ (a : Answer (Board × List Path)). bind_answer a (λ p. layer_count_for p.0 p.1 1)) full_board_read ∙ full_start

full_board_graph : map_answer count_of_graph (generate_graph full_board (tiles_of dominoes) 4 1 0) ≡ given 0
unfolding generate_graph graph_for bind_answer map_answer count_of_graph
full_board_graph =
    ap (λ (a : Answer (Board × List Path)). map_answer count_of_graph (bind_answer a (λ p. graph_for p.0 p.1 (node_room 4 1) (edge_room 0)))) full_board_read
    ∙ ap (map_answer count_of_graph) full_start_graph

full_board_valid : So (valid (board 2 1 1 2))
unfolding valid
full_board_valid = refl

full_board_full : is_full (board 2 1 1 2) ≡ true
unfolding is_full
full_board_full = refl

-- but there is one cutting
full_board_one : Exactly 1 (IsCutting (board 2 1 1 2) dominoes)
full_board_one = (λ m p. false, full_one_cutting (board 2 1 1 2) dominoes full_board_valid (lit< tt) (lit< tt) full_board_full)

-- so their number is not 0,
full_board_not_none : Exactly 0 (IsCutting (board_of full_board) (paths_in (tiles_of dominoes))) → ⊥
unfolding number
full_board_not_none none =
    let z = number_unique (subst (λ (paths : List Path). Exactly 0 (IsCutting (board 2 1 1 2) paths)) (sym stored_dominoes) none) full_board_one in absurd (omega arith)

-- and where a free cell is not asked, a count that is given need not be the number of cuttings
free_cell_needed : ((b : RectangularBoard) → Sound b.fixed → Sound b.laid → (ts : Tiles) → AllEdgeJoined (paths_in ts)
    → (room n : ℕ) → count_tilings b ts room ≡ given n → Exactly n (IsCutting (board_of b) (paths_in ts))) → ⊥
free_cell_needed without =
    full_board_not_none (without full_board (small_set 1 (lit< tt)) (small_set 2 (lit< tt)) (tiles_of dominoes) stored_joined 1 0 full_board_counted)

-- ---- tiles "where every cell of a tile of two or more cells shares an edge with another cell of that tile" can't be dropped: "4 by 2 with tiles UpLeft
-- and UpRight 0, though one cutting exists"

-- the row of `KnownPlots`
abbrev slanted_row : Row
slanted_row = record { board = new_board 4 2; tiles = slanted; count = 0 }

slanted_row_lem : Mem slanted_row rows
unfolding rows
slanted_row_lem = mem_get_d rows 11 slanted_row (lit< tt)

-- neither count is refused: both are 0
pub slanted_counted : (count_tilings (rectangle 4 2) (tiles_of slanted) plot_boards ≡ given 0)
    × (map_answer count_of_graph (generate_graph (rectangle 4 2) (tiles_of slanted) (4 * plot_nodes) (count_span plot_nodes) (2 * plot_edges)) ≡ given 0)
unfolding number new_board
slanted_counted = known_plots_counted slanted_row slanted_row_lem (rectangle 4 2) (tiles_of slanted) refl (known_tiles_read slanted_row slanted_row_lem)

pub slanted_free_cell : HasFreeCell (board_of (rectangle 4 2))
unfolding number is_free
slanted_free_cell = (0, refl)

-- but there is one cutting, so their number is not 0,
pub slanted_not_none : Exactly 0 (IsCutting (board_of (rectangle 4 2)) (paths_in (tiles_of slanted))) → ⊥
unfolding number
slanted_not_none none =
    let same = (read_equal_tiles_given (tiles_of slanted) slanted (known_tiles_read slanted_row slanted_row_lem)).1 in
    let z = number_unique (subst (λ (paths : List Path). Exactly 0 (IsCutting four_by_two paths)) (sym same) none) one_slanted_cutting in
    absurd (omega arith)

-- and where this is not asked of the tiles, a count that is given need not be the number of cuttings
joined_needed : ((b : RectangularBoard) → Sound b.fixed → Sound b.laid → (ts : Tiles) → HasFreeCell (board_of b)
    → (room n : ℕ) → count_tilings b ts room ≡ given n → Exactly n (IsCutting (board_of b) (paths_in ts))) → ⊥
joined_needed without = slanted_not_none (without (rectangle 4 2) no_marks_lem no_marks_lem (tiles_of slanted) slanted_free_cell plot_boards 0 slanted_counted.0)

-- it does not hold of these
slanted_not_joined : AllEdgeJoined (paths_in (tiles_of slanted)) → ⊥
slanted_not_joined joined =
    slanted_not_none (count_cuttings_lem (rectangle 4 2) no_marks_lem no_marks_lem (tiles_of slanted) slanted_free_cell joined plot_boards 0 slanted_counted.0)

-- ---- that tiles "all cover equally many cells" is not asked: the counts refuse others by 7 (`unequal_tiles` and `unequal_tiles_graph` of `Examples`)
