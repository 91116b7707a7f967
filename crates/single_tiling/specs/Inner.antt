-- Definitions for the contracts of private functions: the first tiling in child order, the pieces of a board by an index, sums of tile sizes, and
-- what the lent words hold on the way down. No contract of a function that can be called from outside cites one. Assumes nothing.
use Rattle.std.specs.Prelude.{◌≡◌, ◌⊎◌, Bool, leb, length, get_or}
use Rattle.std.proofs.Math.Bool.{So, cond}
use mathlib.Core.List.{List, [], ◌∷◌, ◌++◌, Memᴰ as Mem}
use Rattle.std.specs.Prelude.{Option, None, Some}
use Prim.Native.Nat.{ℕ, zero, suc, ◌+◌, ◌/◌, ◌%◌, ◌≤◌, ◌<◌}
use Rattle.cells.specs.Lists.{list_of, set_at}
use Rattle.refusal.specs.Refusal.{Answer, refused, given, bind_answer}
use Rattle.tiles.specs.declared.Tiles.{Tiles}
use Rattle.tile.specs.Path.{Path}
use Rattle.tiles.specs.Paths.{contains_single, paths_in, read_tiles}
use Rattle.board.specs.declared.RectangularBoard.{RectangularBoard}
use Rattle.rectangle.specs.Board.{Board, board_at, marks, free_count, is_full, valid}
use Rattle.board.specs.Board.{board_of}
use Rattle.choice.specs.Choice.{chosen}
use Rattle.children.specs.Children.{pruned, children, children_at}
use Rattle.fit.specs.Inner.{fit_for}
use Rattle.covers.specs.Counts.{sum_of}

-- ---- the first tiling, in child order, of a test for full boards and of the children of a board

-- the first of two lists that has an element
unfoldable pub or_else : {B : Type 0} → List B → List B → List B
or_else [] ys = ys
or_else (x ∷ xs) ys = x ∷ xs

-- the first of the lists f x that has an element, x from a list
unfoldable pub first_of : {A B : Type 0} → (A → List B) → List A → List B
unfolding or_else
first_of f [] = []
first_of f (x ∷ xs) = or_else (f x) (first_of f xs)

-- s in front of a list that has an element
unfoldable pub in_front : {B : Type 0} → B → List B → List B
in_front s [] = []
in_front s (x ∷ xs) = s ∷ x ∷ xs

-- the boards from s on, in at most n steps, to the full board that is met first; none where none is met
module _ {B : Type 0} (full : B → Bool) (children : B → List B) where
  unfoldable pub first_tiling : ℕ → B → List B
  unfolding first_of in_front
  first_tiling zero s = cond (full s) (s ∷ []) []
  first_tiling (suc n) s = cond (full s) (s ∷ []) (in_front s (first_of (first_tiling n) (children s)))

-- from a board: as many steps as cells are free are enough
unfoldable pub first_tiling_from : Board → List Path → List ℕ
unfolding first_tiling is_full children free_count marks
first_tiling_from b paths = first_tiling (λ n. is_full (board_at b n)) (children_at b paths) (free_count b) (marks b)

-- the same, of one piece or more
unfoldable pub single_of : Board → List Path → List ℕ
unfolding is_full first_tiling_from
single_of b paths = cond (is_full b) [] (first_tiling_from b paths)

-- ---- the pieces of a board by an index: tile i / 33 and its point i % 33 (a path has at most 33 points)

unfoldable pub fit_index : Board → List Path → ℕ → ℕ → List ℕ
unfolding fit_for
fit_index b paths cell i = fit_for b (get_or paths (i / 33) []) (i % 33) cell

-- the cell on which pieces are put: none where the board is pruned or full
unfoldable pub place_for : Board → List Path → Option ℕ
unfolding pruned chosen
place_for b paths = cond (pruned b paths) None (chosen b)

-- ---- sums

-- a sum of numbers of a list, each as often as wanted
pub record IsSum (sizes : List ℕ) (n : ℕ) : Type 0 where
  pub terms : List ℕ
  pub from : (a : ℕ) → Mem a terms → Mem a sizes
  pub total : sum_of (λ a. a) terms ≡ n

-- ---- tiles and boards that are not refused

-- tiles that are not refused
abbrev pub Read : Tiles → Type 0
Read ts = (ts.count ≤ 64) × (length ts.codes ≡ 2048) × (read_tiles ts ≡ given (paths_in ts))

-- a board and tiles that are not refused, and whether a tile is single
pub record Held (b : Board) (ts : Tiles) (single : Bool) : Type 0 where
  pub board : So (valid b)
  pub tiles : Read ts
  pub singles : single ≡ contains_single (paths_in ts)

-- board, tiles and room that are not refused, and the number of free cells
pub record Searches (b : RectangularBoard) (ts : Tiles) (free room : ℕ) : Type 0 where
  pub board : So (valid (board_of b))
  pub tiles : Read ts
  pub cells : free ≡ free_count (board_of b)
  pub fits : free < room

-- refusals 6 and 5 of the tiles, then 8; the number of free cells otherwise
unfoldable pub judge_tiles : Tiles → ℕ → ℕ → Answer ℕ
unfolding read_tiles bind_answer
judge_tiles ts room free = bind_answer (read_tiles ts) (λ paths. cond (leb (free + 1) room) (given free) (refused 8))

-- ---- the walk

-- what f has at i, or nothing where it has the same at a lower number
abbrev pub New : (ℕ → List ℕ) → ℕ → List ℕ → Type 0
New f i xs = (xs ≡ f i) ⊎ ((xs ≡ []) × ((k : ℕ) × (k < i) × (f k ≡ f i)))

-- boards that were found behind as many as the depth says
abbrev pub found_as : ℕ → List ℕ → Option ℕ
found_as depth [] = None
found_as depth (x ∷ xs) = Some (depth + length (x ∷ xs))

-- the lent words hold boards behind the first boards of what they held before, and the answer says so
pub record Walked (ns : List ℕ) (depth : ℕ) (old new : List ℕ) (r : Option ℕ) : Type 0 where
  pub answer : r ≡ found_as depth ns
  pub boards : list_of (set_at new) (depth + length ns) ≡ list_of (set_at old) depth ++ ns
