-- `layers::from_layer::grow_twice` meets its contract: the layer grows into the next words, and from there back into its own, or the first growth is refused.
-- Assumes nothing.
use native.Mathlib.Omega.{arith}
use Rattle.std.proofs.lemmas.Result.{err_from_is_err_and}
use Rattle.layers.proofs.RunSteps.{once_refused, grown_rest, grown_ready, grown_twice, grows_in}
use Rattle.layers.proofs.from_layer.grow_twice.Goals as goal

pub returns-in_err-rest-clause-grows : goal.returns-in_err-rest-clause-grows
returns-in_err-rest-clause-grows c =
    let r = err_from_is_err_and c.from_residual.result c.from_residual.ensures.1 in
    rw (r.1, r.2) (once_refused _ _ _ _ _ _ _ _ c.in_err-rest.ensures.grows _ _ _)

pub grow_once-requires-2 : goal.grow_once-requires-2
grow_once-requires-2 c = (
  grown_ready _ _ _ _ _ _ _ _ _ c.in_ok-rest.ensures.grows,
  omega (arith, c.requires.1, grown_rest _ _ _ _ _ _ _ _ _ c.in_ok-rest.ensures.grows),
)

pub returns-clause-grows : goal.returns-clause-grows
returns-clause-grows c =
    grown_twice _ _ _ _ _ _ _ _ _ c.in_ok-rest.ensures.grows _ _ _ (grows_in _ _ _ _ _ _ _ c.requires.2 c.grow_once-2.ensures.grows)
