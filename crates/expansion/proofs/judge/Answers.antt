-- `expansion::judge` meets its contract: the board first, then the tiles.
-- Assumes nothing.
use Rattle.std.proofs.lemmas.Result.{err_from_is_err_and}
use Rattle.expansion.proofs.PlotLaws.{judge_refused, tiles_refused, judge_given}
use Rattle.expansion.proofs.judge.Goals as goal

pub returns-in_err-check : goal.returns-in_err-check
returns-in_err-check c =
    let p = err_from_is_err_and c.from_residual.result c.from_residual.ensures.1 in
    rw (p.1, p.2) (judge_refused _ _ _ c.in_err-check.ensures)

pub returns-in_err-cells : goal.returns-in_err-cells
returns-in_err-cells c =
    let p = err_from_is_err_and c.from_residual-in_err-cells.result c.from_residual-in_err-cells.ensures.1 in
    rw (p.1, p.2) (tiles_refused _ _ c.in_ok-check.ensures _ c.in_err-cells.ensures)

pub returns : goal.returns
returns c = rw c.max.ensures (judge_given _ _ c.in_ok-check.ensures _ c.in_ok-cells.ensures)
