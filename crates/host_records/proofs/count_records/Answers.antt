-- `host_records::count_records` meets its contract: the answer words, then the call below.
-- Assumes nothing.
use Rattle.archive.specs.Archive.{answered, refused_at, map_outcome}
use Rattle.host_records.proofs.AnswerLaws.{counted, counted_short}
use Rattle.host_records.proofs.count_records.Goals as goal

pub returns-then-answer-lt1 : goal.returns-then-answer-lt1
returns-then-answer-lt1 c = counted_short c.args.file.now _ _ _ c.if-answer-lt1.true c.refuse.ensures

pub returns-in-Ok : goal.returns-in-Ok
unfolding map_outcome
returns-in-Ok c = counted c.args.file.now _ _ _ (answered c.in-Ok.count) c.if-answer-lt1.false c.in-Ok.ensures c.give.ensures

pub returns-in-Err : goal.returns-in-Err
unfolding map_outcome
returns-in-Err c = counted c.args.file.now _ _ _ (refused_at 13 c.in-Err.broken.place) c.if-answer-lt1.false c.in-Err.ensures c.broken.ensures
