-- `board::RectangularBoard::with_hole` meets its contract: an accepted board gets its hole, and a refusal is handed on.
-- Assumes nothing.
use Rattle.std.proofs.lemmas.Result.{err_from_is_err_and}
use Rattle.board.specs.Board.{read_board}
use Rattle.board.specs.BoardLaws.{check_accepted, check_refused}
use Rattle.board.specs.HoleLaws.{with_hole_handed}
use Rattle.board.proofs.MadeLaws.{makes_refused}
use Rattle.board.proofs.RectangularBoard.with_hole.Goals as goal

pub returns-in_err-check : goal.returns-in_err-check
unfolding read_board
returns-in_err-check c =
    let p = err_from_is_err_and c.from_residual.result c.from_residual.ensures.1 in
    rw (p.1, p.2) (makes_refused _ _ (with_hole_handed _ _ _ _ (check_refused c.args.self _ c.check.ensures _ c.in_err-check.was)))

pub fix_cell-requires : goal.fix_cell-requires
fix_cell-requires c = check_accepted _ _ c.check.ensures c.in_ok-check.was
