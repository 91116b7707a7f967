-- `board::RectangularBoard::check` meets its contract: by the test of the board.
-- Assumes nothing.
use Rattle.std.proofs.Common.{sym, ap}
use Rattle.refusal.specs.Refusal.{refusal_of}
use Rattle.board.specs.BoardLaws.{read_board_given, read_board_refused}
use Rattle.board.proofs.RectangularBoard.check.Goals as goal

pub returns-then-is_ok : goal.returns-then-is_ok
unfolding refusal_of
returns-then-is_ok c = sym (ap refusal_of (read_board_given _ (sym c.if-is_ok.ensures)))

pub returns-else-is_ok : goal.returns-else-is_ok
unfolding refusal_of
returns-else-is_ok c = sym (ap refusal_of (read_board_refused _ (sym c.if-is_ok.ensures)))
