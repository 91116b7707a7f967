-- Definitions: the boards of a start and some tiles as a setting of `covers`, so that its layers, path counts, graph and cuttings are those of real
-- boards. A board is the number of its marks, a piece the number of its cells. What stands in quotation marks is 01's. Assumes nothing.
use Rattle.std.specs.Prelude.{◌≡◌, cond, List, [], ℕ, ◌^◌, ◌<◌, eqb, Option, None, Some}
use Rattle.std.proofs.Math.Bool.{So}
use Rattle.cells.specs.Set.{has_cell}
use Rattle.cells.specs.BitLaws.{Within}
use Rattle.tiles.specs.declared.Tiles.{Tiles}
use Rattle.tile.specs.Path.{Path}
use Rattle.refusal.specs.Refusal.{given}
use Rattle.tiles.specs.Paths.{paths_in, read_equal_tiles}
use Rattle.board.specs.declared.RectangularBoard.{RectangularBoard}
use Rattle.rectangle.specs.Board.{Board, board_at, marks, is_free, is_full, valid, free_count, lay}
use Rattle.fit.specs.Inner.{bare}
use Rattle.board.specs.Board.{board_of}
use Rattle.fit.specs.Fit.{IsPiece, pieces}
use Rattle.choice.specs.Choice.{chosen}
use Rattle.children.specs.Children.{pruned}
use Rattle.covers.specs.Setting.{Setting}
use Rattle.graph.specs.Graph.{step_piece}

-- a board and tiles that are not refused
pub record Accepted (b : RectangularBoard) (ts : Tiles) : Type 0 where
  pub board : So (valid (board_of b))
  pub tiles : read_equal_tiles ts ≡ given (paths_in ts)

-- the numbers of the accepted boards with the start's size and fixed marks
pub record From (b : Board) (n : ℕ) : Type 0 where
  pub accepted : So (valid (board_at b n))
  pub above : Within b.fixed n
  pub small : n < 2 ^ 256

-- a chosen cell, 0 with none, and the pieces on it
unfoldable pub cell_or : Option ℕ → ℕ
cell_or None = 0
cell_or (Some cell) = cell

unfoldable pub pieces_on : Board → List Path → Option ℕ → List ℕ
unfolding pieces
pieces_on b paths None = []
pieces_on b paths (Some cell) = pieces b paths cell

-- the setting of a start and some tiles. A piece, whatever its place, is one of the board without marks. `children_are` says that its children are
-- those of `place_tile`
unfoldable pub setting : Board → List Path → Setting ℕ ℕ
unfolding has_cell marks is_free free_count is_full lay step_piece chosen pruned cell_or pieces_on
setting b paths = record {
  Ok = From b;
  IsTile = IsPiece (bare b) paths;
  free = λ n. is_free (board_at b n);
  covers = has_cell;
  full = λ n. is_full (board_at b n);
  free_count = λ n. free_count (board_at b n);
  lay = λ n p. marks (lay (board_at b n) p);
  step_piece = step_piece;
  chosen = λ n. cell_or (chosen (board_at b n));
  pieces = λ n. cond (pruned (board_at b n) paths) [] (pieces_on (board_at b n) paths (chosen (board_at b n)));
  same_board = eqb;
  same_piece = eqb;
}

-- ---- of the structs of the code

-- the setting of a board and tiles, and its start: "both kinds together"
abbrev pub setting_of : RectangularBoard → Tiles → Setting ℕ ℕ
setting_of b ts = setting (board_of b) (paths_in ts)

abbrev pub start_of : RectangularBoard → ℕ
start_of b = marks (board_of b)
