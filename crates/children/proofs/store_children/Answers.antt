-- `children::store_children` meets its contract: the board is judged first, then the tiles, and the children are stored.
-- Assumes nothing.
use Rattle.std.proofs.Common.{sym, ap, ◌∙◌}
use Rattle.std.proofs.lemmas.Result.{err_from_is_err_and}
use Rattle.refusal.specs.Refusal.{verdict_number}
use Rattle.tiles.specs.ReadLaws.{read_tiles_accepted}
use Rattle.board.specs.BoardLaws.{check_accepted, check_refused}
use Rattle.children.proofs.AnswerLaws.{stores_no_board, stores_no_tiles, stores_ok_or}
use Rattle.children.proofs.store_children.Goals as goal

pub returns-in_err-check : goal.returns-in_err-check
returns-in_err-check c =
    let p = err_from_is_err_and c.from_residual.result c.from_residual.ensures.1 in
    rw (p.1, p.2) (stores_no_board c.args.board _ _ _ (check_refused _ _ c.check.ensures _ c.in_err-check.was))

pub returns-in_err-check-2 : goal.returns-in_err-check-2
returns-in_err-check-2 c =
    let p = err_from_is_err_and c.from_residual-in_err-check-2.result c.from_residual-in_err-check-2.ensures.1 in
    rw (p.1, p.2)
    (stores_no_tiles c.args.board _ _ (check_accepted _ _ c.check.ensures c.in_ok-check.was) _ c.in_err-check-2.ensures)

pub invariant_of-parent : goal.invariant_of-parent
invariant_of-parent c = record { sound = check_accepted _ _ c.check.ensures c.in_ok-check.was; both = c.marks.ensures }

pub invariant_of-tested : goal.invariant_of-tested
invariant_of-tested c =
    let a = read_tiles_accepted c.args.tiles (sym (ap verdict_number c.in_ok-check-2.was) ∙ c.check-2.ensures) in
    record { sound = a.1; few = a.0 }

pub returns : goal.returns
returns c =
    let a = read_tiles_accepted c.args.tiles (sym (ap verdict_number c.in_ok-check-2.was) ∙ c.check-2.ensures) in
    stores_ok_or _ _ _ (check_accepted _ _ c.check.ensures c.in_ok-check.was) a.1 _ c.add_children.ensures _ c.ok_or.ensures.value
