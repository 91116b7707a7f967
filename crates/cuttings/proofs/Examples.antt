-- The definitions compute: the figure of small boards, from each kind of answer. What stands in quotation marks is 02's, from its request 3. (Plots with their tiles are in
-- `known_plots`.) Rests on `Cuttings`. Assumes nothing.
use Rattle.std.specs.Prelude.{◌≡◌, refl, [], ◌∷◌, ℕ}
use Rattle.cells.specs.declared.Cells.{Cells}
use Rattle.cells.specs.Set.{number}
use Rattle.refusal.specs.Refusal.{refused, given}
use Rattle.board.specs.declared.RectangularBoard.{RectangularBoard}
use Rattle.rectangle.specs.Board.{Board}
use Rattle.board.specs.Board.{of_marks}
use Rattle.cuttings.specs.Cuttings.{cuttings_of, cuttings_from}

abbrev board : ℕ → ℕ → ℕ → ℕ → Board
board w h fixed laid = record { width = w; height = h; fixed = fixed; laid = laid }

-- "1 for a board with no free cell", whatever the count: 2 by 1 with both cells fixed, with both laid and with one of each; and 0 by 0,
no_free_cell : cuttings_of (board 2 1 3 0) 0 ∷ cuttings_of (board 2 1 0 3) 0 ∷ cuttings_of (board 2 1 1 2) 5 ∷ cuttings_of (board 0 0 0 0) 0 ∷ [] ≡ 1 ∷ 1 ∷ 1 ∷ 1 ∷ []
unfolding cuttings_of
no_free_cell = refl

-- "otherwise the layer count": with a cell free, by rows and by columns, and with none marked
a_free_cell : cuttings_of (board 2 1 1 0) 7 ∷ cuttings_of (board 1 2 0 1) 0 ∷ cuttings_of (board 2 1 0 0) 1 ∷ cuttings_of (board 16 16 0 0) 12 ∷ [] ≡ 7 ∷ 0 ∷ 1 ∷ 12 ∷ []
unfolding cuttings_of
a_free_cell = refl

-- ---- from the answer of the layer count

abbrev set : ℕ → Cells
set n = record { w0 = n; w1 = 0; w2 = 0; w3 = 0 }

abbrev struct : ℕ → ℕ → ℕ → ℕ → RectangularBoard
struct w h fixed laid = of_marks w h (set fixed) (set laid)

-- of a full board and of one that is not
from_counts : cuttings_from (struct 2 1 1 2) (given 0) ∷ cuttings_from (struct 2 1 1 0) (given 3) ∷ cuttings_from (struct 2 1 1 0) (given 0) ∷ [] ≡ given 1 ∷ given 3 ∷ given 0 ∷ []
unfolding cuttings_from number
from_counts = refl

-- "that call's refusals come first in either case"
from_refusals : cuttings_from (struct 2 1 1 2) (refused 7) ∷ cuttings_from (struct 2 1 1 2) (refused 8) ∷ cuttings_from (struct 2 1 1 0) (refused 9) ∷ [] ≡ refused 7 ∷ refused 8 ∷ refused 9 ∷ []
unfolding cuttings_from
from_refusals = refl

-- a board that is not accepted: 0 by 5, and one with a mark outside; and that comes behind the refusals of the count
from_no_board : cuttings_from (struct 0 5 0 0) (given 0) ∷ cuttings_from (struct 2 1 4 0) (given 2) ∷ cuttings_from (struct 0 5 0 0) (refused 8) ∷ [] ≡ refused 4 ∷ refused 4 ∷ refused 8 ∷ []
unfolding cuttings_from number
from_no_board = refl
