-- `board::RectangularBoard::chosen_cell` meets its contract: of an accepted board by its numbers, and a refusal is handed on.
-- Assumes nothing.
use Rattle.std.proofs.Common.{ℕ, sym, ap, ◌∙◌}
use Rattle.std.proofs.lemmas.Result.{err_from_is_err_and}
use Rattle.cells.specs.Set.{number}
use Rattle.refusal.specs.Refusal.{map_answer}
use Rattle.choice.specs.Choice.{chosen_count}
use Rattle.choice.specs.Parts.{chosen_for}
use Rattle.choice.specs.ChosenLaws.{chosen_for_is}
use Rattle.board.specs.Board.{board_of}
use Rattle.board.specs.BoardLaws.{read_board_given, check_accepted, check_refused}
use Rattle.board.proofs.RectangularBoard.chosen_cell.Goals as goal

pub returns-in_err-check : goal.returns-in_err-check
unfolding map_answer
returns-in_err-check c =
    let p = err_from_is_err_and c.from_residual.result c.from_residual.ensures.1 in
    rw (p.1, p.2) (sym (ap (map_answer chosen_count) (check_refused _ _ c.check.ensures _ c.in_err-check.was)))

pub returns : goal.returns
unfolding map_answer
returns c =
    let s = c.args.self in
    let ok = check_accepted _ _ c.check.ensures c.in_ok-check.was in
    c.chosen_cell.ensures
    ∙ ap (λ (m : ℕ). chosen_for s.width s.height m (number s.laid)) c.marks.ensures
    ∙ chosen_for_is (board_of s) ok
    ∙ sym (ap (map_answer chosen_count) (read_board_given _ ok))
