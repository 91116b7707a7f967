-- `layers::from_layer::run` meets its contract: while two pieces can be laid, the layer grows twice and stands where it stood, so that what is right from
-- it on is right from the first layer on; then at most one layer is left. Assumes nothing.
use native.Mathlib.Omega.{arith}
use Rattle.std.proofs.lemmas.Result.{err_from_is_err_and}
use Rattle.layers.proofs.RunSteps.{run_less, grown_refused, grown_rest, grown_ready, grown_on, grows_in, right_in}
use borrow.Author.Rules.{rules}
use Rattle.layers.proofs.from_layer.run.Goals as goal

pub loop-free-init : goal.loop-free-init
loop-free-init c = (search rules, search rules, c.requires.0, λ x h. h)

pub grow_twice-requires : goal.grow_twice-requires
grow_twice-requires c = (c.loop-free.invariant.2, omega (arith, c.loop-free-test.true), search (rules, c.loop-free.invariant.0, c.loop-free.invariant.1, c.requires.1))

pub returns-in_err-free-clause-answer : goal.returns-in_err-free-clause-answer
returns-in_err-free-clause-answer c =
    let r = err_from_is_err_and c.from_residual.result c.from_residual.ensures.1 in
    rw (r.1, r.2)
    (c.loop-free.invariant.3 _ (grown_refused _ _ _ _ _ _ _ _ (grows_in _ _ _ _ _ _ _ c.loop-free.invariant.1.2 c.in_err-free.ensures.grows)))

pub loop-free-smaller : goal.loop-free-smaller
loop-free-smaller c =
    run_less _ _ _ _ _ _ c.loop-free.invariant.2 c.args.plot.accepted c.args.next.now.room _ c.args.plot.step _ (omega (arith, c.loop-free-test.true))
    (grown_rest _ _ _ _ _ _ _ _ _ c.in_ok-free.ensures.grows)

pub loop-free-preserved : goal.loop-free-preserved
loop-free-preserved c =
    let g = grows_in _ _ _ _ _ _ _ c.loop-free.invariant.1.2 c.in_ok-free.ensures.grows in (
      search rules,
      search rules,
      grown_ready _ _ _ _ _ _ _ _ _ c.in_ok-free.ensures.grows,
      λ x h. c.loop-free.invariant.3 x (grown_on _ _ _ _ _ _ _ _ _ g x h),
    )

pub finish-requires : goal.finish-requires
finish-requires c = (c.loop-free.invariant.2, omega (arith, c.loop-free-test.false))

pub returns-clause-answer : goal.returns-clause-answer
returns-clause-answer c = c.loop-free.invariant.3 _ (right_in _ _ _ _ c.loop-free.invariant.1.2 c.finish.ensures.answer)
