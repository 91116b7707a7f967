-- `report::text::Text::put_last` meets its contract: the field, then a line feed. Assumes nothing.
use Rattle.cells.specs.Lists.{ascii}
use Rattle.report.specs.Report.{feed}
use Rattle.report.specs.TextLaws.{puts_append}
use Rattle.report.proofs.text.Text.put_last.Goals as goal

pub returns : goal.returns
unfolding feed ascii
returns c = puts_append c.put_field.ensures c.put_bytes.ensures
