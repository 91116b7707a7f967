-- `host_tilings::single_tiling` meets its contract: the call where the shapes are right, and zeros where they are not.
-- Assumes nothing.
use Rattle.host_tilings.proofs.HostLaws.{single_accepted, single_unshaped}
use Rattle.host_tilings.proofs.single_tiling.Goals as goal

pub returns-in-Ok : goal.returns-in-Ok
returns-in-Ok c =
    single_accepted _ _ c.args.marks.now c.args.tiles.now c.args.answer.now _ c.of_plot.ensures c.args.out.now _ _
    c.in-Ok.is c.board_from.ensures c.tiles_from.ensures c.single_tiling.ensures

pub returns-in-Err : goal.returns-in-Err
returns-in-Err c =
    single_unshaped _ _ c.args.marks.now c.args.tiles.now c.args.answer.now _ c.of_plot.ensures c.args.out.now _
    c.in-Err.is c.clear_from.ensures c.refuse.ensures
