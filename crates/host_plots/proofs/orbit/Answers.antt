-- `host_plots::orbit` meets its contract: the call where the shapes are right, and zeros where they are not.
-- Assumes nothing.
use Rattle.host_plots.proofs.HostLaws.{orbit_accepted, orbit_unshaped}
use Rattle.host_plots.proofs.orbit.Goals as goal

pub returns-in-Ok : goal.returns-in-Ok
returns-in-Ok c =
    orbit_accepted c.args.tile.now c.args.tiles.now c.args.answer.now _ c.of_orbit.ensures
    c.in-Ok.is _ c.tile_from.ensures c.orbit.ensures

pub returns-in-Err : goal.returns-in-Err
returns-in-Err c =
    orbit_unshaped c.args.tile.now c.args.tiles.now c.args.answer.now _ c.of_orbit.ensures _
    c.in-Err.is _ c.new.ensures c.put_tiles.ensures c.refuse.ensures
