-- `layers::counting::counted` meets its contract: what is refused is refused, and the rest is counted. Assumes nothing.
use Rattle.std.proofs.lemmas.Result.{err_from_is_err_and}
use Rattle.expansion.proofs.ExpansionLaws.{judged_size, judged_refused}
use Rattle.layers.proofs.StartLaws.{count_given_lem, count_refused}
use Rattle.layers.proofs.counting.counted.Goals as goal

pub returns-in_err-size : goal.returns-in_err-size
returns-in_err-size c =
    let r = err_from_is_err_and c.from_residual.result c.from_residual.ensures.1 in
    rw (r.1, r.2) (count_refused _ _ _ _ (judged_refused _ _ _ _ c.judge.ensures c.in_err-size.was))

pub invariant_of-plot : goal.invariant_of-plot
invariant_of-plot c =
    let r = judged_size _ _ _ _ c.judge.ensures c.in_ok-size.was in
    record { accepted = r.0; step = r.1 }

pub returns : goal.returns
returns c = count_given_lem _ _ _ _ (judged_size _ _ _ _ c.judge.ensures c.in_ok-size.was).2 c.count_accepted.ensures
