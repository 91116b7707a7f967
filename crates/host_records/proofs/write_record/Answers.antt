-- `host_records::write_record` meets its contract: the number of the verdict.
-- Assumes nothing.
use Rattle.std.proofs.Common.{◌∙◌}
use Rattle.host_records.proofs.AnswerLaws.{written_accepted, written_refused}
use Rattle.host_records.proofs.write_record.Goals as goal

pub returns-in-Ok : goal.returns-in-Ok
returns-in-Ok c = written_accepted _ _ _ _ c.write_record.ensures c.in-Ok.is

pub returns-in-Err : goal.returns-in-Err
returns-in-Err c = written_refused _ _ _ _ c.write_record.ensures _ _ c.in-Err.is c.into.ensures
