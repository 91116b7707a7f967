-- `host_records::current_record` meets its contract: the answer words, then the call below.
-- Assumes nothing.
use Rattle.host_records.proofs.AnswerLaws.{current_found_lem, current_short}
use Rattle.host_records.proofs.current_record.Goals as goal

pub returns-then-answer-lt5 : goal.returns-then-answer-lt5
returns-then-answer-lt5 c = current_short c.args.file.now _ _ _ c.args.id c.if-answer-lt5.true c.refuse.ensures

pub returns : goal.returns
returns c = current_found_lem c.args.file.now _ _ _ c.current_record.result c.args.id c.if-answer-lt5.false c.current_record.ensures c.found.ensures
