-- `layers::layer::Layer::grow_all` meets its contract: the boards give their paths in order, and none behind one that has no room.
-- Assumes nothing.
use Rattle.layers.proofs.LayerLaws.{to_own_room, to_first_room, grown_none, grown_more, next_on, next_same}
use native.Mathlib.Omega.{arith}
use borrow.Author.Rules.{rules}
use Rattle.layers.proofs.layer.Layer.grow_all.Goals as goal

pub loop-i-init : goal.loop-i-init
loop-i-init c = (search rules, rw (c.requires.2, c.requires.3) (grown_none _ _ _ _ _ _ _))

pub returns-in_err-grow_by-clause-holds : goal.returns-in_err-grow_by-clause-holds
returns-in_err-grow_by-clause-holds c =
    rw c.from_residual.ensures
    (to_first_room c.loop-i.invariant.0.2 (next_on _ _ _ _ _ _ _ _ _ c.loop-i-test.true (c.in_err-grow_by.ensures.adds _ c.loop-i.invariant.1)))

pub loop-i-preserved : goal.loop-i-preserved
loop-i-preserved c =
    (search rules, to_own_room c.in_ok-grow_by.ensures.same.2 (grown_more _ _ _ _ _ _ _ _ _ (c.in_ok-grow_by.ensures.adds _ c.loop-i.invariant.1)))

pub returns-clause-holds : goal.returns-clause-holds
returns-clause-holds c = to_first_room c.loop-i.invariant.0.2 (next_same _ _ _ (omega arith) c.loop-i.invariant.1)
