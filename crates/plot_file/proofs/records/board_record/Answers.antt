-- `plot_file::records::board_record` meets its contract: the mark is tested first, then that the two bytes are there, and then they make a board (`board_body_at`).
-- Assumes nothing.
use Rattle.std.proofs.Common.{◌≡◌, true, sym, ap, ◌∙◌}
use Rattle.refusal.specs.Refusal.{map_answer}
use Rattle.plot_file.specs.Inner.{is_board, start_at}
use Rattle.plot_file.proofs.ReadLaws.{board_body_other, board_body_cut, board_body_at}
use Rattle.plot_file.proofs.StepLaws.{pair_refused, pair_read}
use Rattle.plot_file.proofs.records.board_record.Goals as goal

pub returns-then-not-is_board : goal.returns-then-not-is_board
unfolding map_answer
returns-then-not-is_board c =
    sym (ap (map_answer start_at) (board_body_other _ _ (sym c.is_board.ensures ∙ c.if-not-is_board.true)))

pub returns-in_default : goal.returns-in_default
unfolding map_answer
returns-in_default c =
    let board : is_board c.args.mark ≡ true = sym c.is_board.ensures ∙ c.if-not-is_board.false in
    sym (ap (map_answer start_at) (board_body_cut _ c.args.bytes.now board c.in_default.len_below))

pub returns-in_err-board : goal.returns-in_err-board
returns-in_err-board c =
    let board : is_board c.args.mark ≡ true = sym c.is_board.ensures ∙ c.if-not-is_board.false in
    let is = board_body_at c.args.mark c.args.bytes.now board c.in-len2-up.len_at_least in
    pair_refused _ _ _ (ap (map_answer start_at) is) _ (rw (c.from.ensures, c.from-2.ensures) at c.board_for.ensures) _ c.in_err-board.was _ c.from_residual.ensures.1

pub returns : goal.returns
returns c =
    let board : is_board c.args.mark ≡ true = sym c.is_board.ensures ∙ c.if-not-is_board.false in
    let is = board_body_at c.args.mark c.args.bytes.now board c.in-len2-up.len_at_least in
    pair_read _ _ _ (ap (map_answer start_at) is) _ (rw (c.from.ensures, c.from-2.ensures) at c.board_for.ensures) _ c.in_ok-board.was _ c.started.ensures
