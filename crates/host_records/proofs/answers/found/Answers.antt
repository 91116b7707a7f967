-- `host_records::answers::found` meets its contract: a record's words, the place of a broken one, or 14.
-- Assumes nothing.
use Rattle.std.proofs.Common.{Result, Err, sym, ap, ◌∙◌}
use Rattle.archive.specs.Archive.{answered, map_outcome, record_answer}
use Rattle.archive.specs.declared.Record.{Record}
use Rattle.archive.specs.declared.RecordError.{RecordError}
use Rattle.host_records.specs.Calls.{record_words}
use Rattle.host_records.specs.CallLaws.{leaves_as}
use Rattle.host_records.proofs.AnswerLaws.{found_broken, found_absent}
use Rattle.host_records.proofs.answers.found.Goals as goal

pub returns-in-Ok : goal.returns-in-Ok
unfolding map_outcome
returns-in-Ok c =
    leaves_as _ _ _ _ _
    (ap answered c.words_of.ensures ∙ ap (λ (f : Result Record RecordError). map_outcome record_words (record_answer f)) (sym c.in-Ok.is))
    c.give.ensures

pub returns-in-Err-Broken : goal.returns-in-Err-Broken
returns-in-Err-Broken c = found_broken _ _ _ _ _ (let e = rw c.in-Err-Broken.is at c.in-Err-Broken.field-0-is in c.in-Err-Broken.is ∙ ap Err e) c.broken.ensures

pub returns-in-Err-Absent : goal.returns-in-Err-Absent
returns-in-Err-Absent c = found_absent _ _ _ _ (let e = rw c.in-Err-Absent.is at c.in-Err-Absent.field-0-is in c.in-Err-Absent.is ∙ ap Err e) c.refuse.ensures
