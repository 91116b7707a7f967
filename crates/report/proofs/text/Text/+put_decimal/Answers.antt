-- `report::text::Text::put_decimal` meets its contract, by the number: below 10 it is one digit, else the digits of its tenth and its last. Assumes nothing.
use Rattle.std.proofs.Common.{sym}
use Rattle.report.specs.TextLaws.{puts_append, puts_as}
use Rattle.report.specs.DecimalLaws.{decimal_small, decimal_more}
use Rattle.report.proofs.text.Text.+put_decimal.Goals as goal

pub returns-then-n-lt10 : goal.returns-then-n-lt10
returns-then-n-lt10 t c = puts_as (sym (decimal_small _ c.if-n-lt10.true)) c.put_bytes.ensures

pub returns-else-n-lt10 : goal.returns-else-n-lt10
returns-else-n-lt10 t c =
    puts_as (sym (decimal_more _ c.if-n-lt10.false))
    (puts_append c.put_decimal.ensures c.put_bytes-else-n-lt10.ensures)
