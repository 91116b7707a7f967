-- `exports::cuttings_read_plot` meets its contract: it is that of `host_plots::read_plot`.
-- Assumes nothing.
use Rattle.exports.proofs.cuttings_read_plot.Goals as goal

pub returns : goal.returns
returns c = c.read_plot.ensures
