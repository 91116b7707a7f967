-- Examples of the figure called cuttings: what `count_cuttings` answers and leaves for a full board and for 2 by 2 dominoes, and what is refused; the conditions of its
-- theorems can be met, and the tiles' can't be dropped. What stands in quotation marks is 02's, from its request 3. Rests on `CuttingExamples` and the crate
-- cuttings' `Theorems`. Assumes nothing.
use Rattle.std.specs.Prelude.{Err, Ok, ◌≡◌, refl, List, [], ◌∷◌, ℕ, replicate}
use Rattle.std.proofs.Common.{sym, ap, ◌∙◌, arith, lit<}
use Rattle.cells.specs.Set.{number, Sound}
use Rattle.tiles.specs.declared.Tiles.{Tiles}
use Rattle.refusal.specs.declared.Refusal.TheVariants as R
use Rattle.refusal.specs.Refusal.{refused, given, map_answer, bind_answer}
use Rattle.refusal.specs.RefusalLaws.{given_inj}
use Rattle.tiles.specs.Paths.{paths_in, tiles_of}
use Rattle.board.specs.declared.RectangularBoard.{RectangularBoard}
use Rattle.board.specs.Board.{board_of}
use Rattle.covers.specs.Counts.{Exactly}
use Rattle.covers.proofs.NumberingLaws.{OneOfEach}
use Rattle.graph.specs.Graph.{layer_room, plot_boards}
use Rattle.path_count.specs.declared.PathCount.{PathCount}
use Rattle.path_count.specs.PathCounts.{count_value}
use Rattle.layers.specs.LayerCounts.{count_tilings}
use Rattle.expansion.specs.Plots.{accept_plot, IsCutting}
use Rattle.cuttings.specs.Cuttings.{cuttings_of, count_cuttings, AnswersCuttings}
use Rattle.cuttings.proofs.Theorems.{no_room_is_8, board_and_tiles_first, free_is_layer_count, call_counts_cuttings, CutsBoth, product_is_number_of_pairs, PlotWithFigure, product_is_number_of_lists}
use Rattle.known_plots.specs.KnownPlots.{D as dominoes, slanted}
use Rattle.known_plots.specs.Examples.{rectangle, unequal, unequal_tiles_read, two_by_two_counted, no_marks_lem}
use Rattle.known_plots.specs.CuttingExamples.{has_free_cell, stored_joined, full_board, small_set, full_board_read, full_board_counted, slanted_counted, slanted_free_cell, slanted_not_none}

-- ---- a board with no free cell, 2 by 1 with one cell fixed and one laid

-- the layer count is 0, and the figure 1
figure_of_full : count_cuttings full_board (tiles_of dominoes) 1 ≡ given 1
unfolding count_cuttings cuttings_of map_answer number
figure_of_full = ap (map_answer (cuttings_of (board_of full_board))) full_board_counted

-- so it differs from the layer count
differs : count_cuttings full_board (tiles_of dominoes) 1 ≡ count_tilings full_board (tiles_of dominoes) 1 → ⊥
differs e = absurd (omega (arith, given_inj 1 0 (sym figure_of_full ∙ e ∙ full_board_counted)))

-- "that call's refusals come first in either case": no room, and tiles with different numbers of cells
full_without_room : count_cuttings full_board (tiles_of dominoes) 0 ≡ refused 8
full_without_room = no_room_is_8 full_board (tiles_of dominoes) _ full_board_read

full_unequal_read : accept_plot full_board (tiles_of unequal) ≡ refused 7
unfolding accept_plot bind_answer map_answer number
full_unequal_read = rw unequal_tiles_read

full_unequal : count_cuttings full_board (tiles_of unequal) 1 ≡ refused 7
full_unequal = board_and_tiles_first full_board (tiles_of unequal) 7 full_unequal_read 1

-- ---- what the call leaves in lent words that held 7

abbrev lent : ℕ → List ℕ
lent n = replicate n 7

abbrev one : PathCount
one = record { word = 1 }

abbrev two : PathCount
two = record { word = 2 }

-- 4, 1, 5 and 2 words have room for one board; all of them are zero afterwards
full_called : AnswersCuttings full_board (tiles_of dominoes) (lent 4) (lent 1) (lent 5) (lent 2) (replicate 4 0) (replicate 1 0) (replicate 5 0) (replicate 2 0) (Ok one)
unfolding layer_room count_value
full_called = record { answer = sym figure_of_full; zero_boards_a = refl; zero_counts_a = refl; zero_boards_b = refl; zero_counts_b = refl }

-- 3 words have room for none: the least room counts
no_room_called : AnswersCuttings full_board (tiles_of dominoes) (lent 4) (lent 1) (lent 3) (lent 1) (replicate 4 0) (replicate 1 0) (replicate 3 0) (replicate 1 0) (Err R.NoRoom)
unfolding layer_room
no_room_called = record { answer = sym full_without_room; zero_boards_a = refl; zero_counts_a = refl; zero_boards_b = refl; zero_counts_b = refl }

-- 2 by 2 dominoes: the layer count
two_by_two_figure : count_cuttings (rectangle 2 2) (tiles_of dominoes) 2 ≡ given 2
two_by_two_figure = free_is_layer_count (rectangle 2 2) (tiles_of dominoes) has_free_cell 2 ∙ two_by_two_counted

two_by_two_called : AnswersCuttings (rectangle 2 2) (tiles_of dominoes) (lent 8) (lent 2) (lent 8) (lent 2) (replicate 8 0) (replicate 2 0) (replicate 8 0) (replicate 2 0) (Ok two)
unfolding layer_room count_value
two_by_two_called = record { answer = sym two_by_two_figure; zero_boards_a = refl; zero_counts_a = refl; zero_boards_b = refl; zero_counts_b = refl }

-- ---- the conditions can be met

one_cutting : Exactly 1 (IsCutting (board_of full_board) (paths_in (tiles_of dominoes)))
unfolding count_value
one_cutting =
    call_counts_cuttings full_board (tiles_of dominoes) (small_set 1 (lit< tt)) (small_set 2 (lit< tt)) (lent 4) (lent 1) (lent 5) (lent 2) (replicate 4 0) (replicate 1 0) (replicate 5 0)
    (replicate 2 0) (Ok one) full_called stored_joined 1 refl

-- "A plot with no free cell ruins the product with its 0": 2 by 2 dominoes beside the full board have 2 pairs of cuttings
two_pairs : Exactly 2 (CutsBoth (board_of (rectangle 2 2)) (paths_in (tiles_of dominoes)) (board_of full_board) (paths_in (tiles_of dominoes)))
two_pairs =
    product_is_number_of_pairs (rectangle 2 2) no_marks_lem no_marks_lem (tiles_of dominoes) stored_joined full_board (small_set 1 (lit< tt)) (small_set 2 (lit< tt)) (tiles_of dominoes) stored_joined
    2 2 two_by_two_figure 1 1 figure_of_full

-- and so have three plots of which two are full, as lists
abbrev free_plot : PlotWithFigure
free_plot = record { board = rectangle 2 2; fixed = no_marks_lem; laid = no_marks_lem; tiles = tiles_of dominoes; joined = stored_joined; room = 2; figure = 2; is = two_by_two_figure }

abbrev full_plot : PlotWithFigure
full_plot = record {
  board = full_board;
  fixed = small_set 1 (lit< tt);
  laid = small_set 2 (lit< tt);
  tiles = tiles_of dominoes;
  joined = stored_joined;
  room = 1;
  figure = 1;
  is = figure_of_full;
}

two_lists : Exactly 2 (OneOfEach (λ (p : PlotWithFigure). IsCutting (board_of p.board) (paths_in p.tiles)) (full_plot ∷ free_plot ∷ full_plot ∷ []))
two_lists = product_is_number_of_lists (full_plot ∷ free_plot ∷ full_plot ∷ [])

-- ---- the condition on the tiles can't be dropped: of 4 by 2 with UpLeft and UpRight the figure is the layer count, 0, though one cutting exists

joined_needed : ((b : RectangularBoard) → Sound b.fixed → Sound b.laid → (ts : Tiles) → (room n : ℕ) → count_cuttings b ts room ≡ given n
    → Exactly n (IsCutting (board_of b) (paths_in ts))) → ⊥
joined_needed without =
    slanted_not_none (without (rectangle 4 2) no_marks_lem no_marks_lem (tiles_of slanted) plot_boards 0 (free_is_layer_count (rectangle 4 2) (tiles_of slanted) slanted_free_cell plot_boards ∙ slanted_counted.0))
