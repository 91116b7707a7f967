-- `tiler::growing::Growing::add_children` meets its contract: the children are added in order.
-- Assumes nothing.
use Prim.Native.Nat.{◌+◌}
use Rattle.std.specs.Prelude.{None}
use Rattle.tiler.proofs.BuildLaws.{children_none, children_more, children_past, children_all}
use Rattle.tiler.proofs.GrowingLaws.{to_own_rooms, to_first_rooms}
use native.Mathlib.Omega.{arith}
use borrow.Author.Rules.{rules}
use Rattle.tiler.proofs.growing.Growing.add_children.Goals as goal

pub loop-i-init : goal.loop-i-init
loop-i-init c = (search rules, λ d k. children_none _ _ _ _ _ _ _ _ k)

pub returns-in_err-add_child-clause-adds : goal.returns-in_err-add_child-clause-adds
returns-in_err-add_child-clause-adds c =
    rw c.from_residual.ensures (λ d k.
    children_past _ _ _ _ None _ _ _ (c.loop-i.i + 1) _ (omega arith)
    (children_more _ _ _ _ _ _ _ _ _ _ c.get-child.ensures
    (to_first_rooms c.loop-i.invariant.0.2 c.loop-i.invariant.0.3 (c.in_err-add_child.ensures.adds _ (to_own_rooms c.loop-i.invariant.0.2 c.loop-i.invariant.0.3 (c.loop-i.invariant.1 d k))))))

pub loop-i-preserved : goal.loop-i-preserved
loop-i-preserved c = (
  search rules,
  λ d k.
      children_more _ _ _ _ _ _ _ _ _ _ c.get-child.ensures
      (to_first_rooms c.loop-i.invariant.0.2 c.loop-i.invariant.0.3 (c.in_ok-add_child.ensures.adds _ (to_own_rooms c.loop-i.invariant.0.2 c.loop-i.invariant.0.3 (c.loop-i.invariant.1 d k)))),
)

pub returns-clause-adds : goal.returns-clause-adds
returns-clause-adds c = λ d k. children_all _ _ _ _ _ _ _ _ _ _ (omega arith) (omega arith) (c.loop-i.invariant.1 d k)
