-- `report::put_report` meets its contract: what the file's reader answers tells which lines the text has, and these are put in front.
-- Assumes nothing.
use mathlib.Core.Path.{sym}
use Rattle.report.specs.TextLaws.{puts_as}
use Rattle.report.specs.ReportLaws.{accepted_text, refused_text}
use Rattle.report.proofs.put_report.Goals as goal

pub returns-in-Ok : goal.returns-in-Ok
returns-in-Ok c =
    let text = accepted_text _ _ c.read_plot-plot.ensures c.in-Ok.is in
    puts_as (sym text.2) (c.put_plot.ensures.puts text.0 text.1)

pub returns-in-Err : goal.returns-in-Err
returns-in-Err c =
    puts_as (sym (refused_text _ _ c.read_plot-plot.ensures _ c.in-Err.is)) c.put_refused.ensures
