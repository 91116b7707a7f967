-- The definitions compute: counts and chosen cells of small boards. Assumes nothing.
use Rattle.std.specs.Prelude.{◌≡◌, refl, true, false, Option, None, Some, Ok, Err, [], ◌∷◌, map, ℕ, ◌+◌, ◌*◌, ◌^◌}
use Rattle.refusal.specs.Refusal.{refused, given, answer_of}
use Rattle.rectangle.specs.Board.{Board}
use Rattle.refusal.specs.declared.Refusal.TheVariants as R
use Rattle.choice.specs.Parts.{chosen_for}
use Rattle.choice.specs.Choice.{neighbour_count, count_of, chosen, has_four, chosen_count}

-- boards of a width and a height with fixed and laid marks
abbrev board : ℕ → ℕ → ℕ → ℕ → Board
board w h fixed laid = record { width = w; height = h; fixed = fixed; laid = laid }

-- all cells of 3 by 3 but the middle one
abbrev ring : ℕ
ring = 7 + 5 * 2 ^ 16 + 7 * 2 ^ 32

-- ---- counts and the chosen cell

-- with (0, 2) fixed and (3, 1) laid: a corner counts 1, an edge cell 1, inside 0; beside the laid mark 1, beside the fixed one 0; outside 0
counts : map (count_of (board 4 4 (2 ^ 2) (2 ^ 49))) (0 ∷ 16 ∷ 17 ∷ 33 ∷ 18 ∷ 65 ∷ []) ≡ 1 ∷ 1 ∷ 0 ∷ 1 ∷ 0 ∷ 0 ∷ []
unfolding neighbour_count
counts = refl

-- the outer rows and columns of 5 by 4: corners; the last row and the last column, the first ones; inside; outside
outer_cells : map (count_of (board 5 4 0 0)) (0 ∷ 4 ∷ 48 ∷ 52 ∷ 50 ∷ 36 ∷ 2 ∷ 32 ∷ 17 ∷ 19 ∷ 35 ∷ 5 ∷ 64 ∷ []) ≡ 1 ∷ 1 ∷ 1 ∷ 1 ∷ 1 ∷ 1 ∷ 1 ∷ 1 ∷ 0 ∷ 0 ∷ 0 ∷ 0 ∷ 0 ∷ []
unfolding neighbour_count
outer_cells = refl

-- 16 cells a row: (2, 13), (1, 14) and (1, 1) of 16 by 4 are inside, (2, 15) is in the last column
outer_wide : map (count_of (board 16 4 0 0)) (45 ∷ 30 ∷ 17 ∷ 47 ∷ []) ≡ 0 ∷ 0 ∷ 0 ∷ 1 ∷ []
unfolding neighbour_count
outer_wide = refl

-- beside the laid mark (1, 2): above it, below, left and right of it; diagonally 0; the cell itself 0
edge_neighbours : map (count_of (board 5 4 0 (2 ^ 18))) (2 ∷ 34 ∷ 17 ∷ 19 ∷ 33 ∷ 35 ∷ 18 ∷ []) ≡ 2 ∷ 1 ∷ 1 ∷ 1 ∷ 0 ∷ 0 ∷ 0 ∷ []
unfolding neighbour_count
edge_neighbours = refl

-- a laid mark in the last column of 5 by 4, and one in the last row of 4 by 5
last_marks : (map (count_of (board 5 4 0 (2 ^ 20))) (4 ∷ 36 ∷ 19 ∷ []) ≡ 2 ∷ 2 ∷ 1 ∷ []) × (map (count_of (board 4 5 0 (2 ^ 65))) (66 ∷ 64 ∷ 49 ∷ []) ≡ 2 ∷ 2 ∷ 1 ∷ [])
unfolding neighbour_count
last_marks = (refl, refl)

-- no neighbour is off the board: (1, 1) is laid, and neither left of (1, 0) nor above (0, 1) is a mark
no_marks_outside : map (count_of (board 5 4 0 (2 ^ 17))) (16 ∷ 1 ∷ []) ≡ 2 ∷ 2 ∷ []
unfolding neighbour_count
no_marks_outside = refl

-- "ties go to the lowest column, then the lowest row": (1, 0) comes before (0, 1), and (0, 1) before (1, 1)
ties : (chosen (board 3 2 1 0) ≡ Some 16) × (chosen (board 3 2 (1 + 2 ^ 16) 0) ≡ Some 1)
unfolding chosen
ties = (refl, refl)

-- the last column and the last row are looked at
last_cells : (chosen (board 3 1 3 0) ≡ Some 2) × (chosen (board 1 3 (1 + 2 ^ 16) 0) ≡ Some 32)
unfolding chosen
last_cells = (refl, refl)

full : chosen (board 1 1 0 1) ≡ None
unfolding chosen
full = refl

-- "any free cell has count 4": (0, 3) of 5 by 2 and (3, 0) of 2 by 5, each between three laid marks; the middle of a ring, but not if it is marked; not a count of 3
fours : map has_four (board 5 2 0 (2 ^ 2 + 2 ^ 4 + 2 ^ 19) ∷ board 2 5 0 (2 ^ 32 + 2 ^ 49 + 2 ^ 64) ∷ board 3 3 0 ring ∷ board 3 3 0 (ring + 2 ^ 17) ∷ board 2 2 0 6 ∷ board 5 2 0 (2 ^ 2 + 2 ^ 4) ∷ [])
    ≡ true ∷ true ∷ true ∷ false ∷ false ∷ false ∷ []
unfolding has_four
fours = refl

-- ---- `chosen_cell`

-- a full board has no chosen cell; otherwise the cell and its count: an edge cell, and the middle of the ring
chosen_counts : (chosen_count (board 1 1 0 1) ≡ None) × (chosen_count (board 3 2 1 0) ≡ Some (16, 1)) × (chosen_count (board 3 3 0 ring) ≡ Some (17, 4))
unfolding chosen_count
chosen_counts = (refl, refl, refl)

-- the same over numbers: fixed marks are among the marks and not among the laid ones; a size that no board has is refused
over_numbers : chosen_for 3 2 1 0 ∷ chosen_for 3 3 ring ring ∷ chosen_for 3 3 ring 0 ∷ chosen_for 1 1 1 1 ∷ chosen_for 17 1 0 0 ∷ chosen_for 0 5 0 0 ∷ [] ≡ given (Some (16, 1)) ∷ given (Some (17, 4)) ∷ given (Some (17, 0)) ∷ given None ∷ refused 4 ∷ refused 4 ∷ []
unfolding chosen_for
over_numbers = refl

-- what the answers of the code stand for
answers : map (answer_of {A = Option (ℕ × ℕ)}) (Ok (Some (17, 4)) ∷ Ok None ∷ Err R.BadBoard ∷ []) ≡ given (Some (17, 4)) ∷ given None ∷ refused 4 ∷ []
answers = refl
