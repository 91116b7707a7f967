-- `plot_file::read_plot` meets its contract: the plot of the records, or their refusal with the 0 by 0 board and no tiles.
-- Assumes nothing.
use Rattle.std.proofs.Common.{refl, ap}
use Rattle.refusal.specs.Refusal.{map_answer, refusal_of, value_or}
use Rattle.plot_file.specs.PlotFile.{Plot}
use Rattle.plot_file.proofs.read_plot.Goals as goal

pub returns-in-Ok : goal.returns-in-Ok
unfolding map_answer refusal_of value_or
returns-in-Ok c = rw (← c.in-Ok.ensures) (record { verdict = refl; board = refl; tiles = c.in-Ok.field-0.kept.is })

pub returns-in-Err : goal.returns-in-Err
unfolding map_answer refusal_of value_or
returns-in-Err c =
    rw (← c.in-Err.ensures) (record { verdict = refl; board = ap (λ (p : Plot). p.board) c.no_plot.ensures.0; tiles = c.no_plot.ensures.1 })
