-- `report::lines::put_cuttings` meets its contract: the line of a count with these words. Assumes nothing.
use Rattle.cells.specs.Lists.{ascii}
use Rattle.report.specs.Report.{cuttings_line}
use Rattle.report.proofs.lines.put_cuttings.Goals as goal

pub returns : goal.returns
unfolding cuttings_line ascii
returns c = c.put_count.ensures
