-- `host_plots::read_plot` meets its contract: the call where the shapes are right, and zeros where they are not.
-- Assumes nothing.
use Rattle.host_plots.proofs.HostLaws.{plot_accepted, plot_unshaped}
use Rattle.host_plots.proofs.read_plot.Goals as goal

pub returns-in-Ok : goal.returns-in-Ok
returns-in-Ok c =
    plot_accepted c.args.file.now c.args.board.now c.args.tiles.now c.args.answer.now _ c.of_file.ensures
    c.in-Ok.is c.read_plot.ensures

pub returns-in-Err : goal.returns-in-Err
returns-in-Err c =
    plot_unshaped c.args.file.now c.args.board.now c.args.tiles.now c.args.answer.now _ c.of_file.ensures _
    c.in-Err.is _ c.new.ensures c.clear_from.ensures c.put_tiles.ensures c.refuse.ensures
