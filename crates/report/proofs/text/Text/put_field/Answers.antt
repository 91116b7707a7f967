-- `report::text::Text::put_field` meets its contract: the words, then the digits. Assumes nothing.
use Rattle.report.specs.TextLaws.{puts_append}
use Rattle.report.proofs.text.Text.put_field.Goals as goal

pub returns : goal.returns
returns c = puts_append c.put_bytes.ensures c.put_decimal.ensures
