-- `report::lines::put_no_graph` meets its contract: the words, and the refusal's number. Assumes nothing.
use Rattle.cells.specs.Lists.{ascii}
use Rattle.report.specs.Report.{field}
use Rattle.report.proofs.lines.put_no_graph.Goals as goal

pub returns : goal.returns
unfolding field ascii
returns c = c.put_refusal.ensures
