-- `cuttings::count_cuttings_from_layers` meets its contract: a refusal is handed on; then the board is judged, and the figure is that of a full board or of one that
-- is not. Assumes nothing.
use Rattle.std.proofs.lemmas.Result.{err_from_is_err_and}
use Rattle.cuttings.proofs.FromLaws.{count_stays, figure_told_lem, board_refused}
use Rattle.cuttings.proofs.count_cuttings_from_layers.Goals as goal

pub returns-in_err-n : goal.returns-in_err-n
returns-in_err-n c =
    let p = err_from_is_err_and c.from_residual.result c.from_residual.ensures.1 in
    rw (p.1, p.2) (count_stays _ _ _ c.in_err-n.was)

pub returns-in_err-full : goal.returns-in_err-full
returns-in_err-full c =
    let p = err_from_is_err_and c.from_residual-in_err-full.result c.from_residual-in_err-full.ensures.1 in
    rw (p.1, p.2) (board_refused _ _ _ c.in_ok-n.was _ c.in_err-full.ensures)

pub returns-then-full : goal.returns-then-full
returns-then-full c = figure_told_lem _ _ _ c.in_ok-n.was _ c.in_ok-full.ensures _ (rw c.if-full.true c.of_words.ensures)

pub returns-else-full : goal.returns-else-full
returns-else-full c = figure_told_lem _ _ _ c.in_ok-n.was _ c.in_ok-full.ensures _ (rw c.if-full.false)
