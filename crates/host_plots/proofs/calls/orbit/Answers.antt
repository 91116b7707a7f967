-- `host_plots::calls::orbit` meets its contract: what `orbit` answers is told.
-- Assumes nothing.
use Rattle.host_plots.proofs.ToldLaws.{orbit_told, orbit_refused}
use Rattle.host_plots.proofs.calls.orbit.Goals as goal

pub returns-in-Ok : goal.returns-in-Ok
returns-in-Ok c = orbit_told _ _ c.orbit.ensures c.args.tiles.now _ _ _ _ _ c.in-Ok.is c.put_tiles.ensures c.accept.ensures

pub returns-in-Err : goal.returns-in-Err
returns-in-Err c = orbit_refused _ _ c.orbit.ensures c.args.tiles.now _ _ _ _ _ c.in-Err.is _ c.new.ensures c.put_tiles-in-Err.ensures c.refuse.ensures
