-- `plot_file::records::later_record` meets its contract: the mark decides.
-- Assumes nothing.
use Rattle.std.proofs.Common.{sym, ◌∙◌}
use Rattle.plot_file.proofs.ReadLaws.{later_record_marked, later_record_refused}
use Rattle.plot_file.proofs.StepLaws.{marked_is, marked_refused, reads_refused}
use Rattle.plot_file.proofs.records.later_record.Goals as goal

pub returns-in_err-mark : goal.returns-in_err-mark
returns-in_err-mark c = reads_refused _ _ _ c.from_residual.ensures.1 (later_record_refused _ _ _ (marked_refused _ _ c.read_mark.ensures _ c.in_err-mark.was))

pub returns : goal.returns
returns c = c.later_body.ensures ∙ sym (later_record_marked _ _ _ _ (marked_is _ _ c.read_mark.ensures _ _ c.in_ok-mark.was))
