-- `archive::record_at` meets its contract: the records are counted, and the one at the place is read.
-- Assumes nothing.
use Rattle.std.proofs.Common.{ap, ◌∙◌, ◌*◌, rules, arith, length-drop}
use Rattle.std.proofs.lemmas.List.{take_rest}
use Rattle.archive.specs.Archive.{record_in}
use Rattle.archive.proofs.ReadingLaws.{found_long, found_here, found_none, found_broken}
use Rattle.archive.proofs.record_at.Goals as goal

pub returns-in_err-count : goal.returns-in_err-count
returns-in_err-count c = found_broken c.args.file.now c.args.place c.in_err-count.field-0.0 c.from_residual.result c.in_err-count.ensures c.from_residual.ensures.1

pub overflow_mul-place : goal.overflow_mul-place
overflow_mul-place c = let long = found_long c.args.file.now c.args.place c.in_ok-count.count c.in_ok-count.ensures c.if-place-count.true in search rules

pub slice_bounds-record_from-count : goal.slice_bounds-record_from-count
slice_bounds-record_from-count c = let long = found_long c.args.file.now c.args.place c.in_ok-count.count c.in_ok-count.ensures c.if-place-count.true in omega arith

pub slice_bounds-record_from-start : goal.slice_bounds-record_from-start
slice_bounds-record_from-start c = let long = found_long c.args.file.now c.args.place c.in_ok-count.count c.in_ok-count.ensures c.if-place-count.true in search rules

pub record_from-requires : goal.record_from-requires
record_from-requires c =
    let long = found_long c.args.file.now c.args.place c.in_ok-count.count c.in_ok-count.ensures c.if-place-count.true in
    rw (take_rest c.args.file.now (24 * c.args.place)) (omega (arith, length-drop (24 * c.args.place) c.args.file.now))

pub returns-then-place-count : goal.returns-then-place-count
returns-then-place-count c =
    found_here c.args.file.now c.args.place c.in_ok-count.count c.in_ok-count.ensures c.record_from.result c.if-place-count.true
    (c.record_from.ensures ∙ ap record_in (take_rest c.args.file.now (24 * c.args.place)))

pub returns-else-place-count : goal.returns-else-place-count
returns-else-place-count c = found_none c.args.file.now c.args.place c.in_ok-count.count c.in_ok-count.ensures c.if-place-count.false
