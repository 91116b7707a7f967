-- Definitions that only contracts of private functions cite. Assumes nothing.
use Rattle.std.specs.Prelude.{◌≡◌, cond, Option, None, Some, Result, Ok, ℕ, ◌/◌, ◌≤◌, leb, length}
use mathlib.Core.List.{List, [], flat_map}
use Rattle.cells.specs.Lists.{list_of, set_at}
use Rattle.refusal.specs.declared.Refusal.{Refusal}
use Rattle.refusal.specs.Refusal.{map_answer, value_or, answer_of}
use Rattle.tile.specs.Path.{Path}
use Rattle.tiles.specs.declared.Tiles.{Tiles}
use Rattle.rectangle.specs.Board.{Board, marks, lay}
use Rattle.fit.specs.Fit.{fits_of}
use Rattle.children.specs.Children.{place_tile}

-- ---- children in lent words

-- the child that a piece makes
abbrev pub child_of : Board → ℕ → ℕ
child_of b piece = marks (lay b piece)

-- the pieces of all tiles on a cell, equal ones as often as they appear
unfoldable pub fits_of_all : Board → ℕ → List Path → List ℕ
unfolding flat_map fits_of
fits_of_all b cell paths = flat_map (fits_of b cell) paths

-- how many are stored of n children in a room
unfoldable pub stored_of : ℕ → ℕ → Option ℕ
stored_of room n = cond (leb n room) (Some n) None

-- the words and the state of children that have become ns: all of them while they have room
pub record Keeps (ns ws : List ℕ) (st : Option ℕ) : Type 0 where
  pub state : st ≡ stored_of (length ws / 4) (length ns)
  pub sets : length ns ≤ length ws / 4 → list_of (set_at ws) (length ns) ≡ ns

-- what is answered to board and tiles, and the words that hold as many children as are told
pub record Stores (b : Board) (ts : Tiles) (ws : List ℕ) (r : Result ℕ Refusal) : Type 0 where
  pub answer : answer_of r ≡ map_answer length (place_tile b ts (length ws))
  pub sets : (n : ℕ) → r ≡ Ok n → (n ≤ length ws / 4) × (list_of (set_at ws) n ≡ value_or [] (place_tile b ts (length ws)))
