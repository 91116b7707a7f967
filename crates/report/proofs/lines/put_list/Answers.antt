-- `report::lines::put_list` meets its contract: the field, the colon, the nodes, and the line's end. Assumes nothing.
use Rattle.cells.specs.Lists.{ascii}
use Rattle.report.specs.Report.{field, feed}
use Rattle.report.specs.TextLaws.{puts_append}
use Rattle.report.proofs.lines.put_list.Goals as goal

pub returns : goal.returns
unfolding field ascii feed
returns c =
    puts_append (puts_append (puts_append c.put_field.ensures c.put_bytes.ensures) c.put_nodes.ensures)
    c.put_bytes-2.ensures
