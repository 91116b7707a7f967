-- `children::placing::add_fits` meets its contract: the points are put down in order.
-- Assumes nothing.
use Rattle.std.proofs.Common.{◌+◌, refl, rules, arith}
use Rattle.children.proofs.PlacingLaws.{points_none, points_more, points_all}
use Rattle.children.proofs.placing.add_fits.Goals as goal

pub loop-point-init : goal.loop-point-init
loop-point-init c = (refl, λ ns k. points_none _ _ _ _ _ _ k)

pub loop-point-preserved : goal.loop-point-preserved
loop-point-preserved c = (search rules, λ ns k. points_more _ _ _ _ _ _ _ (c.add_fit-state.ensures _ (c.loop-point.invariant.1 ns k)))

pub returns-2 : goal.returns-2
returns-2 c = λ ns k. points_all _ _ _ _ _ _ (c.loop-point.point + 1) (omega arith) (omega arith) (points_more _ _ _ _ _ _ _ (c.add_fit-state.ensures _ (c.loop-point.invariant.1 ns k)))
