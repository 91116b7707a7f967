-- `host_plots::calls::place_tile` meets its contract: what `place_tile` answers is told.
-- Assumes nothing.
use Rattle.host_plots.proofs.ToldLaws.{children_told, children_refused}
use Rattle.host_plots.proofs.calls.place_tile.Goals as goal

pub returns-in-Ok : goal.returns-in-Ok
returns-in-Ok c =
    children_told _ _ c.args.out.now _ _ _ _ c.place_tile.ensures _ _ c.in-Ok.is c.accept.ensures

pub returns-in-Err : goal.returns-in-Err
returns-in-Err c =
    children_refused _ _ c.args.out.now _ _ _ _ c.place_tile.ensures _ _ c.in-Err.is c.refuse.ensures
