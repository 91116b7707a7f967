-- `report::lines::put_board` meets its contract: two fields, and a third that ends the line. Assumes nothing.
use Rattle.cells.specs.Lists.{ascii}
use Rattle.report.specs.Report.{field}
use Rattle.report.specs.TextLaws.{puts_append, puts_join}
use Rattle.report.proofs.lines.put_board.Goals as goal

pub returns : goal.returns
unfolding field ascii
returns c =
    puts_join _ _ (puts_append c.put_field.ensures c.put_field-2.ensures) c.put_last.ensures
