-- `host_plots::calls::read_plot` meets its contract: what `read_plot` answers is told.
-- Assumes nothing.
use Rattle.host_plots.proofs.ToldLaws.{plot_told, plot_refused}
use Rattle.host_plots.proofs.calls.read_plot.Goals as goal

pub returns-in-Ok : goal.returns-in-Ok
returns-in-Ok c =
    plot_told c.args.file.now _ c.read_plot-plot.ensures c.args.board.now _ c.args.tiles.now _ _ _ c.put_board.ensures c.put_tiles.ensures _ c.in-Ok.is c.accept.ensures

pub returns-in-Err : goal.returns-in-Err
returns-in-Err c =
    plot_refused c.args.file.now _ c.read_plot-plot.ensures c.args.board.now _ c.args.tiles.now _ _ _ c.put_board.ensures c.put_tiles.ensures _ _ c.in-Err.is c.refuse.ensures
