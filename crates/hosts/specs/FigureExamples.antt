-- Examples of `cuttings_count_cuttings`: full boards, the order of what is refused, the answer words, and that the conditions of its theorems can be met. What stands in
-- quotation marks is 02's, from its request 3. Rests on `FigureTheorems`. Assumes nothing.
use Rattle.std.specs.Prelude.{◌≡◌, refl, List, [], ◌∷◌, ◌++◌, ℕ, zero, suc, replicate}
use Rattle.std.proofs.Common.{sym, subst, lit<}
use Rattle.cells.specs.Set.{number, value, words_below}
use Rattle.cells.specs.Lists.{padded, list_of}
use Rattle.cells.specs.WordLaws.{Small}
use Rattle.refusal.specs.Refusal.{Answer, refused, given, map_answer, refusal_of, value_or}
use Rattle.direction.specs.Direction.{step}
use Rattle.tiles.specs.Paths.{paths_in}
use Rattle.board.specs.Board.{board_of}
use Rattle.covers.specs.Counts.{Exactly}
use Rattle.graph.specs.Graph.{layer_room}
use Rattle.expansion.specs.Plots.{IsCutting}
use Rattle.cuttings.proofs.Theorems.{CutsBoth}
use Rattle.host_words.specs.Layout.{board_in}
use Rattle.host_tiles.specs.TileBytes.{tiles_in}
use Rattle.host_counts.specs.Calls.{cuttings_counted, AnswersCount}
use Rattle.hosts.specs.Examples.{no_marks, one, dominoes, joined, lent, no_marks_small}
use Rattle.hosts.specs.FigureTheorems.{Called, figure_is_number_of_cuttings, product_of_figures}

-- 2 by 1 with cell 0 fixed and cell 1 laid
abbrev full_marks : List ℕ
full_marks = 1 ∷ 0 ∷ 0 ∷ 0 ∷ 2 ∷ 0 ∷ 0 ∷ 0 ∷ []

-- "1 for a board with no free cell", and of 0 by 0 with no tiles; "otherwise the layer count"
full_figure : cuttings_counted 2 1 full_marks dominoes 1 3 ≡ given 1
unfolding cuttings_counted step list_of number
full_figure = refl

no_cells : cuttings_counted 0 0 no_marks [] 1 2 ≡ given 1
unfolding cuttings_counted list_of number
no_cells = refl

free_figure : cuttings_counted 2 2 no_marks dominoes 2 2 ≡ given 2
unfolding cuttings_counted step list_of number
free_figure = refl

-- "that call's refusals come first in either case": 7 and 8 of a full board
full_unequal : cuttings_counted 2 1 full_marks (one 3 ++ replicate 33 0) 1 2 ≡ refused 7
unfolding cuttings_counted step list_of number
full_unequal = refl

full_without_room : cuttings_counted 2 1 full_marks dominoes 0 2 ≡ refused 8
unfolding cuttings_counted step list_of number
full_without_room = refl

-- shapes before all: marks of 7 words, 34 tile bytes, one answer word
marks_first : cuttings_counted 2 1 (replicate 7 0) (replicate 34 0) 1 1 ≡ refused 4
unfolding cuttings_counted
marks_first = refl

tiles_next : cuttings_counted 2 1 full_marks (replicate 34 0) 1 1 ≡ refused 5
unfolding cuttings_counted
tiles_next = refl

answer_last : cuttings_counted 17 17 full_marks dominoes 1 1 ≡ refused 8
unfolding cuttings_counted
answer_last = refl

-- ---- calls, and the conditions of the theorems

full_small : Small full_marks
full_small zero = lit< tt
full_small (suc zero) = lit< tt
full_small (suc (suc zero)) = lit< tt
full_small (suc (suc (suc zero))) = lit< tt
full_small (suc (suc (suc (suc zero)))) = lit< tt
full_small (suc (suc (suc (suc (suc zero))))) = lit< tt
full_small (suc (suc (suc (suc (suc (suc zero)))))) = lit< tt
full_small (suc (suc (suc (suc (suc (suc (suc zero))))))) = lit< tt
full_small (suc (suc (suc (suc (suc (suc (suc (suc i)))))))) = lit< tt

-- low word, high word, and a word behind them
full_call : Called 2 1 full_marks dominoes (lent 4) (lent 1) (lent 4) (lent 1) (lent 3) (replicate 4 0) (replicate 1 0) (replicate 4 0) (replicate 1 0) (1 ∷ 0 ∷ 0 ∷ []) 0
unfolding layer_room refusal_of map_answer value_or words_below padded
full_call =
    subst (λ (a : Answer ℕ). AnswersCount a (lent 4) (lent 1) (lent 4) (lent 1) (lent 3) (replicate 4 0) (replicate 1 0) (replicate 4 0) (replicate 1 0) (1 ∷ 0 ∷ 0 ∷ []) 0) (sym full_figure)
    record { answered = record { number = refl; words = refl }; zero_boards_a = refl; zero_counts_a = refl; zero_boards_b = refl; zero_counts_b = refl }

-- layer B has words for no board: the least room counts
no_room_call : Called 2 1 full_marks dominoes (lent 4) (lent 1) (lent 3) (lent 1) (lent 2) (replicate 4 0) (replicate 1 0) (replicate 3 0) (replicate 1 0) (0 ∷ 0 ∷ []) 8
unfolding layer_room refusal_of map_answer value_or padded
no_room_call =
    subst (λ (a : Answer ℕ). AnswersCount a (lent 4) (lent 1) (lent 3) (lent 1) (lent 2) (replicate 4 0) (replicate 1 0) (replicate 3 0) (replicate 1 0) (0 ∷ 0 ∷ []) 8) (sym full_without_room)
    record { answered = record { number = refl; words = refl }; zero_boards_a = refl; zero_counts_a = refl; zero_boards_b = refl; zero_counts_b = refl }

free_call : Called 2 2 no_marks dominoes (lent 8) (lent 2) (lent 8) (lent 2) (lent 2) (replicate 8 0) (replicate 2 0) (replicate 8 0) (replicate 2 0) (2 ∷ 0 ∷ []) 0
unfolding layer_room refusal_of map_answer value_or words_below padded
free_call =
    subst (λ (a : Answer ℕ). AnswersCount a (lent 8) (lent 2) (lent 8) (lent 2) (lent 2) (replicate 8 0) (replicate 2 0) (replicate 8 0) (replicate 2 0) (2 ∷ 0 ∷ []) 0) (sym free_figure)
    record { answered = record { number = refl; words = refl }; zero_boards_a = refl; zero_counts_a = refl; zero_boards_b = refl; zero_counts_b = refl }

-- the full board has one cutting,
one_cutting : Exactly 1 (IsCutting (board_of (board_in 2 1 full_marks)) (paths_in (tiles_in dominoes)))
unfolding value
one_cutting =
    figure_is_number_of_cuttings 2 1 full_marks dominoes (lent 4) (lent 1) (lent 4) (lent 1) (lent 3) (replicate 4 0) (replicate 1 0) (replicate 4 0) (replicate 1 0) (1 ∷ 0 ∷ 0 ∷ [])
    full_small full_call joined

-- and leaves the product with 2 by 2 as it is
two_pairs : Exactly 2 (CutsBoth (board_of (board_in 2 2 no_marks)) (paths_in (tiles_in dominoes)) (board_of (board_in 2 1 full_marks)) (paths_in (tiles_in dominoes)))
unfolding value
two_pairs =
    product_of_figures 2 2 no_marks dominoes (lent 8) (lent 2) (lent 8) (lent 2) (lent 2) (replicate 8 0) (replicate 2 0) (replicate 8 0) (replicate 2 0) (2 ∷ 0 ∷ []) no_marks_small free_call joined
    2 1 full_marks dominoes (lent 4) (lent 1) (lent 4) (lent 1) (lent 3) (replicate 4 0) (replicate 1 0) (replicate 4 0) (replicate 1 0) (1 ∷ 0 ∷ 0 ∷ []) full_small full_call joined
