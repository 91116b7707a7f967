-- `layers::from_layer::finish` meets its contract: the layer is the last, or the one behind it is, or that one is refused.
-- Assumes nothing.
use native.Mathlib.Omega.{arith}
use Rattle.std.proofs.lemmas.Result.{err_from_is_err_and}
use Rattle.layers.proofs.RunSteps.{run_last, grown_refused, grown_rest, grown_ready, grown_on}
use Rattle.layers.proofs.from_layer.finish.Goals as goal

pub returns-then-left-plot-clause-answer : goal.returns-then-left-plot-clause-answer
returns-then-left-plot-clause-answer c =
    run_last _ _ _ _ _ _ c.requires.0 c.args.plot.accepted _ _ c.args.plot.step _ c.if-left-plot.true c.last_count.ensures

pub returns-in_err-rest-clause-answer : goal.returns-in_err-rest-clause-answer
returns-in_err-rest-clause-answer c =
    let r = err_from_is_err_and c.from_residual.result c.from_residual.ensures.1 in
    rw (r.1, r.2) (grown_refused _ _ _ _ _ _ _ _ c.in_err-rest.ensures.grows)

pub returns-clause-answer : goal.returns-clause-answer
returns-clause-answer c =
    let g = c.in_ok-rest.ensures.grows in
    grown_on _ _ _ _ _ _ _ _ _ g _
    (run_last _ _ _ _ _ _ (grown_ready _ _ _ _ _ _ _ _ _ g) c.args.plot.accepted _ _ c.args.plot.step _
    (omega (arith, c.requires.1, grown_rest _ _ _ _ _ _ _ _ _ g)) c.last_count-2.ensures)
