-- `board::fix_cell` meets its contract: a cell of the rectangle that has no mark, or refusal 15.
-- Assumes nothing.
use Rattle.std.proofs.Common.{sym, arith}
use Rattle.rectangle.proofs.BoardLaws.{valid_width, valid_height}
use Rattle.board.specs.Board.{board_of}
use Rattle.board.specs.HoleLaws.{with_hole_bad}
use Rattle.board.proofs.MadeLaws.{makes_refused, hole_outside, hole_marked, hole_free, makes_hole}
use Rattle.board.proofs.fix_cell.Goals as goal

pub returns-then-board-row : goal.returns-then-board-row
returns-then-board-row c = makes_refused _ _ (with_hole_bad _ _ _ c.requires (hole_outside _ _ _ c.then-board-row.either))

-- a cell of the rectangle
pub overflow_mul-cell : goal.overflow_mul-cell
overflow_mul-cell c = omega (arith, valid_height (board_of c.args.board) c.requires)

pub overflow_add-cell : goal.overflow_add-cell
overflow_add-cell c =
    omega (arith, valid_width (board_of c.args.board) c.requires, valid_height (board_of c.args.board) c.requires)

pub returns-then-has_cell : goal.returns-then-has_cell
returns-then-has_cell c =
    makes_refused _ _ (with_hole_bad _ _ _ c.requires (hole_marked _ _ _ c.requires c.if-board-row.false c.if-board-column.false _ c.marks-marks.ensures c.if-has_cell.ensures))

pub returns : goal.returns
returns c =
    makes_hole _ _ _ c.requires (hole_free _ _ _ c.requires c.if-board-row.false c.if-board-column.false _ c.marks-marks.ensures c.if-has_cell.ensures)
    _ c.with_cell-board.ensures
