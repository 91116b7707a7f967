-- `board::RectangularBoard::free_cells` meets its contract: an accepted board is counted, and a refusal is handed on.
-- Assumes nothing.
use Rattle.std.proofs.Common.{ℕ, sym, ap, ◌∙◌}
use Rattle.std.proofs.lemmas.Result.{err_from_is_err_and}
use Rattle.refusal.specs.Refusal.{given, map_answer}
use Rattle.rectangle.specs.Board.{free_count}
use Rattle.board.specs.BoardLaws.{read_board_given, check_accepted, check_refused}
use Rattle.board.proofs.RectangularBoard.free_cells.Goals as goal

pub returns-in_err-check : goal.returns-in_err-check
unfolding map_answer
returns-in_err-check c =
    let p = err_from_is_err_and c.from_residual.result c.from_residual.ensures.1 in
    rw (p.1, p.2) (sym (ap (map_answer free_count) (check_refused _ _ c.check.ensures _ c.in_err-check.was)))

pub returns : goal.returns
unfolding map_answer
returns c =
    ap given c.free_count.ensures
    ∙ sym (ap (map_answer free_count) (read_board_given _ (check_accepted _ _ c.check.ensures c.in_ok-check.was)))
