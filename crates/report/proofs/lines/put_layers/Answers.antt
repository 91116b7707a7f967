-- `report::lines::put_layers` meets its contract: the line of a count with these words. Assumes nothing.
use Rattle.cells.specs.Lists.{ascii}
use Rattle.report.specs.Report.{layers_line}
use Rattle.report.proofs.lines.put_layers.Goals as goal

pub returns : goal.returns
unfolding layers_line ascii
returns c = c.put_count.ensures
