-- `report::lines::put_tiles` meets its contract: one field, which ends the line. Assumes nothing.
use Rattle.cells.specs.Lists.{ascii}
use Rattle.report.specs.Report.{field}
use Rattle.report.proofs.lines.put_tiles.Goals as goal

pub returns : goal.returns
unfolding field ascii
returns c = c.put_last.ensures
