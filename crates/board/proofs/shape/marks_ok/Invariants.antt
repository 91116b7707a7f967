use Rattle.std.proofs.Common.{◌≡◌, true}
use Rattle.cells.specs.Lists.{all_below}
use Rattle.rectangle.specs.Board.{mark_ok}
use Rattle.board.specs.Board.{board_of}
use Rattle.board.proofs.shape.marks_ok.Given as goal

abbrev pub invariant-loop-cell : goal.invariant-loop-cell
invariant-loop-cell l = all_below (mark_ok (board_of l.board)) l.cell ≡ true
