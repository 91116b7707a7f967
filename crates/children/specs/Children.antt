-- Definitions: the children of a board. Pruning, children in order, and what `place_tile` answers and leaves in the lent words.
-- What stands in quotation marks is 01's, from its section Children. Assumes nothing.
use Rattle.std.specs.Prelude.{Bool, not, cond, ◌&&◌, Option, None, Some, Result, List, [], map, ℕ, ◌/◌, leb, length}
use Rattle.cells.specs.Lists.{words_for}
use Rattle.refusal.specs.declared.Refusal.{Refusal}
use Rattle.refusal.specs.Refusal.{Answer, refused, given, map_answer, bind_answer, Leaves, answer_of}
use Rattle.tiles.specs.declared.Tiles.{Tiles}
use Rattle.tile.specs.Path.{Path}
use Rattle.tiles.specs.Paths.{contains_single, read_tiles}
use Rattle.rectangle.specs.Board.{Board, board_at, marks, lay, is_full, free_count, accept_board}
use Rattle.fit.specs.Fit.{pieces}
use Rattle.choice.specs.Choice.{chosen, has_four}
use Rattle.board.specs.declared.RectangularBoard.{RectangularBoard}
use Rattle.board.specs.Board.{board_of}

-- ---- children

-- "If any free cell has count 4 and no tile is single, there are no children"
unfoldable pub pruned : Board → List Path → Bool
unfolding has_four contains_single
pruned b paths = has_four b && not (contains_single paths)

-- the boards, both kinds of marks together, that the pieces on a cell make; "A full board has none"
unfoldable pub children_on : Board → List Path → Option ℕ → List ℕ
unfolding pieces lay marks
children_on b paths None = []
children_on b paths (Some cell) = map (λ piece. marks (lay b piece)) (pieces b paths cell)

-- the children of a board, in order
unfoldable pub children : Board → List Path → List ℕ
unfolding pruned children_on chosen
children b paths = cond (pruned b paths) [] (children_on b paths (chosen b))

-- of the board with some marks, of a start: its children with some tiles
abbrev pub children_at : Board → List Path → ℕ → List ℕ
children_at b paths n = children (board_at b n) paths

-- whether it is full
abbrev pub full_at : Board → ℕ → Bool
full_at b n = is_full (board_at b n)

-- how many of its cells are free
abbrev pub free_count_at : Board → ℕ → ℕ
free_count_at b n = free_count (board_at b n)

-- ---- `place_tile`

-- refusal 4 of the board, then 6 and 5 of the tiles
unfoldable pub children_of : Board → Tiles → Answer (List ℕ)
unfolding accept_board read_tiles bind_answer map_answer children
children_of b ts = bind_answer (accept_board b) (λ board. map_answer (children board) (read_tiles ts))

-- what is answered for an output of n words: refusal 8 for "more children than the output holds"
unfoldable pub place_tile : Board → Tiles → ℕ → Answer (List ℕ)
unfolding children_of bind_answer
place_tile b ts n = bind_answer (children_of b ts) (λ ns. cond (leb (length ns) (n / 4)) (given ns) (refused 8))

-- `place_tile`: the number of children; and the words hold the children, zeros behind, or zeros after a refusal
abbrev pub PlacesTiles : RectangularBoard → Tiles → List ℕ → List ℕ → Result ℕ Refusal → Type 0
PlacesTiles b ts old new r = Leaves words_for (place_tile (board_of b) ts (length old)) (answer_of r) old new
