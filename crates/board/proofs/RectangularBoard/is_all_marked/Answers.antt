-- `board::RectangularBoard::is_all_marked` meets its contract: an accepted board is counted, and a refusal is handed on.
-- Assumes nothing.
use Rattle.std.proofs.Common.{ℕ, sym, ap, ◌∙◌}
use Rattle.std.proofs.lemmas.Result.{err_from_is_err_and}
use Rattle.refusal.specs.Refusal.{given, map_answer}
use lib.Dec.{eqb}
use Rattle.rectangle.specs.Board.{is_full}
use Rattle.board.specs.BoardLaws.{read_board_given, check_accepted, check_refused}
use Rattle.board.proofs.RectangularBoard.is_all_marked.Goals as goal

pub returns-in_err-check : goal.returns-in_err-check
unfolding map_answer
returns-in_err-check c =
    let p = err_from_is_err_and c.from_residual.result c.from_residual.ensures.1 in
    rw (p.1, p.2) (sym (ap (map_answer is_full) (check_refused _ _ c.check.ensures _ c.in_err-check.was)))

pub returns : goal.returns
unfolding map_answer is_full
returns c =
    ap given (ap (λ (n : ℕ). eqb n 0) c.free_count.ensures)
    ∙ sym (ap (map_answer is_full) (read_board_given _ (check_accepted _ _ c.check.ensures c.in_ok-check.was)))
