-- `archive::count_records` meets its contract: what is counted, and what is still to be read.
-- Assumes nothing.
use Rattle.std.proofs.Common.{sym, ap, ◌∙◌, arith, rules, length-drop}
use Rattle.std.proofs.lemmas.List.{take_rest}
use Rattle.archive.specs.Archive.{refused_at}
use Rattle.archive.proofs.StepLaws.{whole_long}
use Rattle.archive.proofs.ReadingLaws.{ahead_broken, count_start, count_step, count_end}
use Rattle.archive.proofs.count_records.Goals as goal

pub loop-rest-init : goal.loop-rest-init
loop-rest-init c = record { read = omega arith; ahead = count_start c.args.file.now }

pub returns-then-not-is_whole : goal.returns-then-not-is_whole
returns-then-not-is_whole c =
    ap (refused_at 13) (omega arith) ∙ ahead_broken _ _ _ _ c.loop-rest.invariant.ahead (search rules) (sym c.is_whole.ensures ∙ c.if-not-is_whole.true)

pub slice_bounds-rest-count : goal.slice_bounds-rest-count
slice_bounds-rest-count c = whole_long _ (sym c.is_whole.ensures ∙ c.if-not-is_whole.false)

pub slice_bounds-rest-start : goal.slice_bounds-rest-start
slice_bounds-rest-start c = let long = whole_long _ (sym c.is_whole.ensures ∙ c.if-not-is_whole.false) in search rules

pub overflow_add-count : goal.overflow_add-count
overflow_add-count c = let long = whole_long _ (sym c.is_whole.ensures ∙ c.if-not-is_whole.false) in search rules

pub loop-rest-smaller : goal.loop-rest-smaller
loop-rest-smaller c =
    let long = whole_long _ (sym c.is_whole.ensures ∙ c.if-not-is_whole.false) in
    rw (take_rest c.loop-rest.rest.now 24) (omega (arith, length-drop 24 c.loop-rest.rest.now))

pub loop-rest-preserved : goal.loop-rest-preserved
loop-rest-preserved c =
    let whole = sym c.is_whole.ensures ∙ c.if-not-is_whole.false in
    let long = whole_long _ whole in
    rw (take_rest c.loop-rest.rest.now 24) record {
      read = omega (arith, c.loop-rest.invariant.read, length-drop 24 c.loop-rest.rest.now);
      ahead = count_step _ _ _ c.loop-rest.invariant.ahead whole;
    }

pub returns : goal.returns
returns c = count_end _ _ _ c.loop-rest.invariant.ahead (search rules)
