-- The definitions compute: sizes, marks, free cells, accepted boards and steps, of small boards. Assumes nothing.
use Rattle.std.specs.Prelude.{◌≡◌, refl, None, Some, true, false, [], ◌∷◌, map, ℕ, ◌+◌, ◌*◌, ◌^◌, pos}
use Rattle.direction.specs.Direction.{at}
use Rattle.refusal.specs.Refusal.{refused, given}
use Rattle.rectangle.specs.Board.{Board, cell_of, position_of, marks, free_set, no_board, size_ok, valid, accept_board, free_count, is_full, lay, board_at}
use Rattle.rectangle.specs.Parts.{place_after}

-- boards of a width and a height with fixed and laid marks
abbrev board : ℕ → ℕ → ℕ → ℕ → Board
board w h fixed laid = record { width = w; height = h; fixed = fixed; laid = laid }

-- "Width and height are each 1 to 16, or both 0"
sizes : map (λ (p : ℕ × ℕ). size_ok p.0 p.1) ((16, 16) ∷ (1, 1) ∷ (17, 16) ∷ (1, 17) ∷ (0, 0) ∷ (0, 5) ∷ (5, 0) ∷ []) ≡ true ∷ true ∷ false ∷ false ∷ true ∷ false ∷ false ∷ []
unfolding size_ok
sizes = refl

-- "bit 16 × row + column": (3, 5) is 53, (1, 1) is 17, (1, 14) is 30
numbered : (cell_of (at (pos 3) (pos 5)) ≡ 53) × (map position_of (53 ∷ 17 ∷ 30 ∷ []) ≡ at (pos 3) (pos 5) ∷ at (pos 1) (pos 1) ∷ at (pos 1) (pos 14) ∷ [])
unfolding cell_of
numbered = (refl, refl)

-- fixed and laid marks of different cells of 3 by 2, in the last column and in the last row
marked : map valid (board 3 2 1 2 ∷ board 3 2 4 0 ∷ board 3 2 0 (2 ^ 16) ∷ []) ≡ true ∷ true ∷ true ∷ []
unfolding valid
marked = refl

-- a mark below the last row, one right of the last column, one of the last cell, 255 (256 is no cell); a size that is wrong in one direction
not_marked : map valid (board 3 2 (2 ^ 32) 0 ∷ board 2 3 0 4 ∷ board 2 2 0 (2 ^ 255) ∷ board 2 2 0 (2 ^ 256) ∷ board 17 2 0 0 ∷ board 2 17 0 0 ∷ []) ≡ false ∷ false ∷ false ∷ true ∷ false ∷ false ∷ []
unfolding valid
not_marked = refl

-- a mark outside, a cell both fixed and laid
outside : valid (board 2 2 0 4) ≡ false
unfolding valid
outside = refl

both : valid (board 2 2 1 1) ≡ false
unfolding valid
both = refl

free : (free_count (board 2 2 1 2) ≡ 2) × (is_full (board 1 1 1 0) ≡ true)
unfolding is_full free_count
free = (refl, refl)

-- the marks of both kinds together; the free cells of 3 by 2
both_kinds : (marks (board 2 2 1 2) ≡ 3) × (free_set (board 3 2 0 0) ≡ 7 + 7 * 2 ^ 16) × (free_set (board 3 2 4 1) ≡ 2 + 7 * 2 ^ 16)
unfolding marks free_set
both_kinds = (refl, refl, refl)

-- the 0 by 0 board
no_cells : no_board ≡ board 0 0 0 0
no_cells = refl

-- an accepted board, and refusal 4 for "a mark outside the rectangle"
accepted : (accept_board (board 2 2 0 0) ≡ given (board 2 2 0 0)) × (accept_board (board 2 2 0 4) ≡ refused 4)
unfolding accept_board
accepted = (refl, refl)

-- Down and Right from (0, 0) of 2 by 2; Up leaves the board; so does Right from (0, 1); row 16, column 16 and code 8 lead nowhere
steps : place_after 2 2 0 0 1 ∷ place_after 2 2 0 0 3 ∷ place_after 2 2 0 0 0 ∷ place_after 2 2 0 1 3 ∷ place_after 2 2 16 0 0 ∷ place_after 2 2 0 16 2 ∷ place_after 2 2 0 0 8 ∷ [] ≡ Some (1, 0) ∷ Some (0, 1) ∷ None ∷ None ∷ None ∷ None ∷ None ∷ []
unfolding place_after
steps = refl

-- a piece is laid beside what is laid; the board of some marks has the start's fixed ones, and the rest laid
laid : (lay (board 3 2 1 2) (2 ^ 16) ≡ board 3 2 1 (2 + 2 ^ 16)) × (board_at (board 3 2 1 0) 3 ≡ board 3 2 1 2)
unfolding lay
laid = (refl, refl)
