-- Definitions: what `get_single_tiling` answers, and what it leaves in the lent words, for every input. What stands in quotation marks is 01's, from
-- its section on orbits and one tiling. Children are those of `place_tile`. Assumes nothing.
use Rattle.std.specs.Prelude.{Result}
use Rattle.refusal.specs.declared.Refusal.{Refusal}
use Rattle.std.specs.Prelude.{◌≡◌, cond, List, [], ℕ, ◌+◌, ◌/◌, ◌<◌, leb, length}
use Rattle.std.proofs.Math.Bool.{So}
use Rattle.std.specs.Prelude.{Option, None, Some}
use Rattle.cells.specs.Lists.{words_for}
use Rattle.refusal.specs.Refusal.{Answer, refused, given, map_answer, bind_answer, value_or, answer_of}
use Rattle.tiles.specs.declared.Tiles.{Tiles}
use Rattle.tile.specs.Path.{Path}
use Rattle.tiles.specs.Paths.{read_tiles}
use Rattle.board.specs.declared.RectangularBoard.{RectangularBoard}
use Rattle.rectangle.specs.Board.{Board, board_at, marks, free_count, is_full}
use Rattle.board.specs.Board.{read_board}
use Rattle.children.specs.Children.{children_at}
use Rattle.covers.specs.Counts.{ChildSequence}

-- ---- one tiling

-- "boards from the start to a full one": "each board after the first is a child of the one before, and the last is full"; "of one piece or more"
pub record IsTiling (b : Board) (paths : List Path) (xs : List ℕ) : Type 0 where
  pub last : ℕ
  pub sequence : ChildSequence (children_at b paths) (marks b) last xs
  pub full : So (is_full (board_at b last))
  pub pieces : 1 < length xs

-- what may be found: "Which sequence is free"; "or none exactly if no child sequence reaches one"
abbrev pub Finds : Board → List Path → Option (List ℕ) → Type 0
Finds b paths None = (xs : List ℕ) → IsTiling b paths xs → ⊥
Finds b paths (Some xs) = IsTiling b paths xs

-- ---- what is refused

-- "Refusals: 4, 6, 5; 8, output holds fewer than free cells + 1 boards". There are at most 257 of them, so that 01's limit of a room (16,777,216 boards)
-- makes no difference
unfoldable pub read_search : RectangularBoard → Tiles → ℕ → Answer (Board × List Path)
unfolding read_board read_tiles bind_answer free_count
read_search b ts room =
    bind_answer (read_board b) (λ board. bind_answer (read_tiles ts) (λ paths. cond (leb (free_count board + 1) room) (given (board, paths)) (refused 8)))

-- ---- `get_single_tiling`

-- the boards that were found
unfoldable pub boards_found : Option (List ℕ) → List ℕ
boards_found None = []
boards_found (Some xs) = xs

-- how many boards were found
unfoldable pub number_found : Option (List ℕ) → Option ℕ
number_found None = None
number_found (Some xs) = Some (length xs)

-- "the number of boards comes back"; the words hold the boards, four words each, zeros behind; "the output is then zero, as with none"
pub record GetsSingleTiling (b : RectangularBoard) (ts : Tiles) (old new : List ℕ) (r : Result (Option ℕ) Refusal) : Type 0 where
  pub found : Option (List ℕ)
  pub tiling : (p : Board × List Path) → read_search b ts (length old / 4) ≡ given p → Finds p.0 p.1 found
  pub answer : answer_of r ≡ map_answer (λ p. number_found found) (read_search b ts (length old / 4))
  pub words : new ≡ words_for (value_or [] (map_answer (λ p. boards_found found) (read_search b ts (length old / 4)))) (length old)
