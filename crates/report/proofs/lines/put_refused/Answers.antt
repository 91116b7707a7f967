-- `report::lines::put_refused` meets its contract: the words, and the refusal's number. Assumes nothing.
use Rattle.cells.specs.Lists.{ascii}
use Rattle.report.specs.Report.{field, refused_line}
use Rattle.report.proofs.lines.put_refused.Goals as goal

pub returns : goal.returns
unfolding field ascii refused_line
returns c = c.put_refusal.ensures
