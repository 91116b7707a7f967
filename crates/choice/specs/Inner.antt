-- Definitions that only contracts of private functions cite. Assumes nothing.
use Rattle.std.specs.Prelude.{◌≡◌, Bool, not, Option, List, ℕ, get_or}
use Rattle.cells.specs.Set.{has_cell}
use Rattle.choice.specs.Choice.{best_of, cell_with_count_by}

-- the count of a cell in an array of counts
abbrev pub array_count : List ℕ → ℕ → ℕ
array_count counts cell = get_or counts cell 0

-- the cells that are none of some marks
abbrev pub open_in : ℕ → ℕ → Bool
open_in m cell = not (has_cell m cell)

-- the best of a list by an array of counts and some marks, if the best before it is told by first
abbrev pub Looked : ℕ → List ℕ → Option (ℕ × ℕ) → List ℕ → Option (ℕ × ℕ) → Type 0
Looked m counts first cells best = (o : Option ℕ) → first ≡ cell_with_count_by (array_count counts) o → best ≡ cell_with_count_by (array_count counts) (best_of (open_in m) (array_count counts) o cells)
