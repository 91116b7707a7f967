-- The definitions compute: fits and pieces on small boards. Assumes nothing.
use Rattle.std.specs.Prelude.{[], ◌∷◌, ◌≡◌, refl, ℕ, ◌*◌, replicate}
use Rattle.direction.specs.Direction.{step}
use Rattle.rectangle.specs.Board.{Board}
use Rattle.fit.specs.Parts.{fit_in, most_children}
use Rattle.fit.specs.Fit.{fits_of, pieces}
use Rattle.fit.specs.Inner.{fit_for}

-- boards of a width and a height with fixed and laid marks
abbrev board : ℕ → ℕ → ℕ → ℕ → Board
board w h fixed laid = record { width = w; height = h; fixed = fixed; laid = laid }

-- Right with point 1 on (0, 1) covers both cells of 2 by 1; with point 0 there it leaves the board
one_fit : (fit_for (board 2 1 0 0) (3 ∷ []) 1 1 ≡ 3 ∷ []) × (fit_for (board 2 1 0 0) (3 ∷ []) 0 1 ≡ [])
unfolding fit_for step
one_fit = (refl, refl)

-- nothing fits a board 17 wide, with a code 9, with point 2 of a path of one step, or on a cell outside
no_fits : fit_for (board 17 1 0 0) (3 ∷ []) 1 1 ∷ fit_for (board 2 1 0 0) (9 ∷ []) 1 1 ∷ fit_for (board 2 1 0 0) (3 ∷ []) 2 0 ∷ fit_for (board 2 1 0 0) (3 ∷ []) 1 2 ∷ [] ≡ [] ∷ [] ∷ [] ∷ [] ∷ []
unfolding fit_for step
no_fits = refl

-- the same over numbers, and a mark in the way
over_numbers : fit_in 2 1 0 (3 ∷ []) 1 1 ∷ fit_in 2 1 1 (3 ∷ []) 1 1 ∷ fit_in 2 1 0 (3 ∷ []) 0 1 ∷ fit_in 17 1 0 (3 ∷ []) 1 1 ∷ fit_in 2 1 0 (9 ∷ []) 1 1 ∷ fit_in 2 1 0 (3 ∷ []) 2 0 ∷ fit_in 2 1 0 (3 ∷ []) 1 2 ∷ [] ≡ (3 ∷ []) ∷ [] ∷ [] ∷ [] ∷ [] ∷ [] ∷ [] ∷ []
unfolding fit_in step
over_numbers = refl

-- "for path points 0 to k", and no point more: Right with points 0 and 1 on (0, 1) of 3 by 1
points_0_to_k : fits_of (board 3 1 0 0) 1 (3 ∷ []) ≡ 6 ∷ 3 ∷ []
unfolding fits_of step
points_0_to_k = refl

-- "for path points 0 to k": Right Right with points 0, 1 and 2 on (0, 2) of 5 by 1; "the first of equal pieces is kept": Left and Right make the same
-- pieces on (0, 1) of 3 by 1, in another order
in_order : (pieces (board 5 1 0 0) ((3 ∷ 3 ∷ []) ∷ []) 2 ≡ 28 ∷ 14 ∷ 7 ∷ []) × (pieces (board 3 1 0 0) ((2 ∷ []) ∷ (3 ∷ []) ∷ []) 1 ≡ 3 ∷ 6 ∷ [])
unfolding pieces step
in_order = (refl, refl)

-- "Children never exceed the sum of k + 1 over the tiles": 33 for a path of 32, so 8,448 words for 64 tiles
most : (most_children ((3 ∷ []) ∷ [] ∷ []) ≡ 3) × (4 * most_children (replicate 64 (replicate 32 0)) ≡ 8448)
unfolding most_children
most = (refl, refl)
