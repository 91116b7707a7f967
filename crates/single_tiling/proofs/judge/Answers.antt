-- `single_tiling::judge` meets its contract: the board first, then tiles and room.
-- Assumes nothing.
use Rattle.std.proofs.Common.{Ok, Err}
use Rattle.refusal.specs.declared.Refusal.TheVariants as R
use Rattle.std.proofs.lemmas.Result.{err_from_is_err_and}
use Rattle.single_tiling.proofs.JudgeLaws.{judge_free, judge_refused, tiles_free, tiles_no_room, tiles_refused}
use Rattle.single_tiling.proofs.judge.Goals as goal

pub returns-in_err-free : goal.returns-in_err-free
returns-in_err-free c =
    let p = err_from_is_err_and c.from_residual.result c.from_residual.ensures.1 in
    rw (p.1, p.2) (judge_refused _ _ _ _ c.free_cells.ensures _ c.in_err-free.was)

pub returns-in_err-check : goal.returns-in_err-check
returns-in_err-check c =
    let p = err_from_is_err_and c.from_residual-in_err-check.result c.from_residual-in_err-check.ensures.1 in
    judge_free _ _ _ _ c.free_cells.ensures _ c.in_ok-free.was _ (rw (p.1, p.2) (tiles_refused _ _ _ _ c.check.ensures _ c.in_err-check.was))

pub returns-then-free-room : goal.returns-then-free-room
returns-then-free-room c = judge_free _ _ _ _ c.free_cells.ensures _ c.in_ok-free.was (Ok _) (tiles_free _ _ _ _ c.check.ensures c.in_ok-check.was c.if-free-room.true)

pub returns-else-free-room : goal.returns-else-free-room
returns-else-free-room c = judge_free _ _ _ _ c.free_cells.ensures _ c.in_ok-free.was (Err R.NoRoom) (tiles_no_room _ _ _ _ c.check.ensures c.in_ok-check.was c.if-free-room.false)
