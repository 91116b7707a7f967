-- `host_plots::place_tile` meets its contract: the call where the shapes are right, and zeros where they are not.
-- Assumes nothing.
use Rattle.host_plots.proofs.HostLaws.{place_accepted, place_unshaped}
use Rattle.host_plots.proofs.place_tile.Goals as goal

pub returns-in-Ok : goal.returns-in-Ok
returns-in-Ok c =
    place_accepted _ _ c.args.marks.now c.args.tiles.now c.args.answer.now _ c.of_plot.ensures c.args.out.now _ _
    c.in-Ok.is c.board_from.ensures c.tiles_from.ensures c.place_tile.ensures

pub returns-in-Err : goal.returns-in-Err
returns-in-Err c =
    place_unshaped _ _ c.args.marks.now c.args.tiles.now c.args.answer.now _ c.of_plot.ensures c.args.out.now _
    c.in-Err.is c.clear_from.ensures c.refuse.ensures
