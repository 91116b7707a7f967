-- `layers::layer::Layer::add_all` meets its contract: the boards are added in order, and none behind one that has no room.
-- Assumes nothing.
use Rattle.layers.proofs.LayerLaws.{to_own_room, to_first_room, each_none, each_more, each_on}
use borrow.Author.Rules.{rules}
use Rattle.layers.proofs.layer.Layer.add_all.Goals as goal

pub loop-i-init : goal.loop-i-init
loop-i-init c = (search rules, λ es h. each_none _ _ _ _ _ _ _ h)

pub returns-in_err-add_paths-clause-adds : goal.returns-in_err-add_paths-clause-adds
returns-in_err-add_paths-clause-adds c =
    rw c.from_residual.ensures (λ es h.
    each_on _ _ _ _ _ _ _ _ _ c.loop-i-test.true c.get.ensures
    (to_first_room c.loop-i.invariant.0.2 (c.in_err-add_paths.ensures.adds _ (to_own_room c.loop-i.invariant.0.2 (c.loop-i.invariant.1 es h)))))

pub loop-i-preserved : goal.loop-i-preserved
loop-i-preserved c = (
  search rules,
  λ es h.
      each_more _ _ _ _ _ _ _ _ _ c.get.ensures
      (to_first_room c.loop-i.invariant.0.2 (c.in_ok-add_paths.ensures.adds _ (to_own_room c.loop-i.invariant.0.2 (c.loop-i.invariant.1 es h)))),
)
