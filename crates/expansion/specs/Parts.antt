-- Definitions: what `judge`, `expand` and `child_words` answer for every input, which serve the crates above. No contract of a call outside this crate cites
-- them. What stands in quotation marks is 01's. Assumes nothing.
use Rattle.std.specs.Prelude.{◌≡◌, cond, List, [], ℕ, ◌*◌, eqb, length}
use Rattle.cells.specs.Set.{union_of, number}
use Rattle.cells.specs.Lists.{words_for}
use Rattle.tiles.specs.declared.Tiles.{Tiles}
use Rattle.refusal.specs.Refusal.{map_answer, value_or}
use Rattle.tile.specs.Path.{Path}
use Rattle.tiles.specs.Paths.{shared_count, read_tiles}
use Rattle.board.specs.declared.RectangularBoard.{RectangularBoard}
use Rattle.rectangle.specs.Board.{Board, board_at}
use Rattle.board.specs.Board.{board_of}
use Rattle.children.specs.Children.{place_tile}
use Rattle.fit.specs.Parts.{most_children}

-- the cells that each piece covers; 1 where there are no tiles, and so no pieces
unfoldable pub step_of : List Path → ℕ
unfolding shared_count
step_of paths = cond (eqb (shared_count paths) 0) 1 (shared_count paths)

-- "A board in an output, layer or node is four words, both kinds together; its fixed marks are the starting board's": the board with these marks and its
-- fixed ones
abbrev pub marked_board : RectangularBoard → ℕ → Board
marked_board b n = board_at (board_of b) (union_of (number b.fixed) n)

-- the number of its children, 0 where board or tiles are refused or the buffer does not hold them; the words hold the children, zeros behind, or zeros
pub record Expands (b : RectangularBoard) (ts : Tiles) (marks : ℕ) (old new : List ℕ) (r : ℕ) : Type 0 where
  pub number : r ≡ length (value_or [] (place_tile (marked_board b marks) ts (length old)))
  pub words : new ≡ words_for (value_or [] (place_tile (marked_board b marks) ts (length old))) (length old)

-- the words of as many boards as there can be children, 0 where the tiles are refused
unfoldable pub child_words : Tiles → ℕ
unfolding read_tiles map_answer value_or most_children
child_words ts = value_or 0 (map_answer (λ paths. 4 * most_children paths) (read_tiles ts))
