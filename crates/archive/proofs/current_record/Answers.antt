-- `archive::current_record` meets its contract: the record that counts so far, and what is still to be read.
-- Assumes nothing.
use Rattle.std.proofs.Common.{sym, ap, ◌∙◌}
use Rattle.std.specs.Slice.Iter.{chunks_rest, chunks_size}
use Rattle.std.specs.Iterator.Adapters.{enumerate_source, enumerate_count}
use Rattle.archive.specs.Archive.{current_of, refused_at, record_answer}
use Rattle.archive.proofs.InputLaws.{front_step, front_whole, front_long, front_behind, front_record}
use Rattle.archive.proofs.ReadingLaws.{ahead_broken, current_start, current_step, current_end}
use Rattle.archive.proofs.current_record.Goals as goal

pub loop-place-init : goal.loop-place-init
loop-place-init c =
    let same = c.into_iter-place-iterator.ensures.into_iter_gives in
    let source = ap enumerate_source same ∙ c.enumerate-place-items.ensures.source in
    record {
      size = ap chunks_size source ∙ c.chunks.ensures.size;
      ahead = rw (ap enumerate_count same ∙ c.enumerate-place-items.ensures.count, ap chunks_rest source ∙ c.chunks.ensures.rest) (current_start c.args.file.now c.args.id);
    }

pub returns-then-not-is_whole : goal.returns-then-not-is_whole
returns-then-not-is_whole c =
    let inv = c.loop-place.invariant in
    let step = c.in-Some.ensures.steps in
    let f = front_step (enumerate_source c.loop-place.place-iterator) (enumerate_source c.next.new.self) c.in-Some.bytes step.0 inv.size in
    ap (refused_at 13) step.1 ∙ ahead_broken _ _ _ _ inv.ahead f.some (sym (front_whole _ _ _ f) ∙ sym c.is_whole.ensures ∙ c.if-not-is_whole.true)

pub record_from-requires : goal.record_from-requires
record_from-requires c =
    let f = front_step (enumerate_source c.loop-place.place-iterator) (enumerate_source c.next.new.self) c.in-Some.bytes c.in-Some.ensures.steps.0 c.loop-place.invariant.size in
    front_long _ _ _ f (sym c.is_whole.ensures ∙ c.if-not-is_whole.false)

pub loop-place-preserved : goal.loop-place-preserved
loop-place-preserved c =
    let inv = c.loop-place.invariant in
    let step = c.in-Some.ensures.steps in
    let f = front_step (enumerate_source c.loop-place.place-iterator) (enumerate_source c.next.new.self) c.in-Some.bytes step.0 inv.size in
    let w = sym c.is_whole.ensures ∙ c.if-not-is_whole.false in
    let next = c.current_of-current.ensures ∙ ap (current_of c.args.id c.loop-place.current) (c.record_from.ensures ∙ front_record _ _ _ f w) in
    record {
      size = step.0.0 ∙ inv.size;
      ahead =
          rw (sym (front_behind _ _ _ f w), step.2)
          (current_step _ _ _ _ _ inv.ahead _ next (sym (front_whole _ _ _ f) ∙ w));
    }

pub returns : goal.returns
returns c = ap record_answer c.ok_or.ensures.value ∙ current_end _ _ _ _ _ c.loop-place.invariant.ahead c.in-None.ensures.steps.0.1.0
