-- `plot_file::read_records` meets its contract. A turn of the loop reads the record at the reader's position. It ends with the position and the plot so far in
-- the place of those before (`Going`), and the position behind where it was; or it returns.
-- Assumes nothing.
use Rattle.std.proofs.Common.{refl, ap, ◌∙◌, arith}
use Rattle.plot_file.proofs.StepLaws.{going_first, going_on, going_end, going_refused}
use Rattle.plot_file.proofs.read_records.Goals as goal

pub loop-step-init : goal.loop-step-init
loop-step-init c = (ap (λ s. s.now) c.new-reader.ensures.0, rw c.new-reader.ensures.1 (going_first _ c.no_plot-plot.result))

pub returns-in_err-step : goal.returns-in_err-step
returns-in_err-step c =
    let read = rw c.loop-step.invariant.0 at c.next_record.ensures in
    going_refused _ _ c.loop-step.plot _ c.loop-step.invariant.1 read _ c.in_err-step.was _ c.from_residual.ensures.1

pub returns-in_default : goal.returns-in_default
returns-in_default c =
    let read = rw c.loop-step.invariant.0 at c.next_record.ensures in
    going_end _ _ c.loop-step.plot _ c.loop-step.invariant.1 read _ c.in_ok-step.was c.in_default.is

pub up_to-reader-requires : goal.up_to-reader-requires
up_to-reader-requires c =
    let read = rw c.loop-step.invariant.0 at c.next_record.ensures in
    let inside = rw c.loop-step.invariant.0 at c.loop-step.reader.inside in
    let on = going_on _ _ c.loop-step.plot _ c.loop-step.invariant.1 read _ c.in_ok-step.was inside c.in-Some.rest c.in-Some.is _ refl in
    rw c.loop-step.invariant.0 (omega (arith, on.1))

pub loop-step-smaller : goal.loop-step-smaller
loop-step-smaller c =
    let read = rw c.loop-step.invariant.0 at c.next_record.ensures in
    let inside = rw c.loop-step.invariant.0 at c.loop-step.reader.inside in
    let place = rw c.loop-step.invariant.0 at c.up_to-reader.ensures.1 in
    let on = going_on _ _ c.loop-step.plot _ c.loop-step.invariant.1 read _ c.in_ok-step.was inside c.in-Some.rest c.in-Some.is _ place in
    omega (arith, on.1, place)

pub loop-step-preserved : goal.loop-step-preserved
loop-step-preserved c =
    let read = rw c.loop-step.invariant.0 at c.next_record.ensures in
    let inside = rw c.loop-step.invariant.0 at c.loop-step.reader.inside in
    let place = rw c.loop-step.invariant.0 at c.up_to-reader.ensures.1 in
    let on = going_on _ _ c.loop-step.plot _ c.loop-step.invariant.1 read _ c.in_ok-step.was inside c.in-Some.rest c.in-Some.is _ place in
    (ap (λ s. s.now) c.up_to-reader.ensures.0 ∙ c.loop-step.invariant.0, on.0)
