-- `report::lines::put_count` meets its contract: the line of the answer that the count is. Assumes nothing.
use Rattle.std.specs.Prelude.{Result}
use Rattle.refusal.specs.declared.Refusal.{Refusal}
use Rattle.path_count.specs.declared.PathCount.{PathCount}
use mathlib.Core.Path.{sym, ap}
use Rattle.cells.specs.Lists.{ascii}
use Rattle.layers.specs.LayerCounts.{count_answer}
use Rattle.report.specs.Report.{feed, count_line}
use Rattle.report.specs.TextLaws.{puts_as, puts_append}
use Rattle.report.proofs.lines.put_count.Goals as goal

pub returns-in-Ok : goal.returns-in-Ok
unfolding feed ascii count_line
returns-in-Ok c =
    puts_as (ap (λ (a : Result PathCount Refusal). count_line c.args.words.now c.args.refused.now (count_answer a)) (sym c.in-Ok.is))
    (puts_append c.put_paths.ensures c.put_bytes.ensures)

pub returns-in-Err : goal.returns-in-Err
unfolding count_line
returns-in-Err c =
    puts_as (ap (λ (a : Result PathCount Refusal). count_line c.args.words.now c.args.refused.now (count_answer a)) (sym c.in-Err.is))
    c.put_refusal.ensures
