-- `host_records::record_at` meets its contract: the answer words, then the call below.
-- Assumes nothing.
use Rattle.host_records.proofs.AnswerLaws.{at_found, at_short}
use Rattle.host_records.proofs.record_at.Goals as goal

pub returns-then-answer-lt5 : goal.returns-then-answer-lt5
returns-then-answer-lt5 c = at_short c.args.file.now _ _ _ c.args.place c.if-answer-lt5.true c.refuse.ensures

pub returns : goal.returns
returns c = at_found c.args.file.now _ _ _ c.record_at.result c.args.place c.if-answer-lt5.false c.record_at.ensures c.found.ensures
