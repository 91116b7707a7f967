-- `tiler::growing::Growing::add_child` meets its contract: the child is sought among the nodes, stored behind them if it is new and there is room, and
-- an edge is added.
-- Assumes nothing.
use Prim.Native.Nat.{◌^◌, ◌<◌}
use Rattle.cells.specs.Set.{number}
use Rattle.cells.specs.WordLaws.{number_lt}
use Rattle.tiler.proofs.BuildLaws.{child_old, child_over, child_put}
use borrow.Author.Rules.{rules}
use Rattle.tiler.proofs.growing.Growing.add_child.Goals as goal

pub returns-in-Some-clause-adds : goal.returns-in-Some-clause-adds
returns-in-Some-clause-adds c = λ d k.
    rw (c.add_edge.ensures.nodes.0, c.add_edge.ensures.nodes.1)
    (child_old _ _ _ _ _ _ _ k _ _ c.args.self.now.nodes_lent _ c.find.ensures _ c.in-Some.is _ _ c.add_edge.ensures.edges)

pub returns-then-self-n-clause-adds : goal.returns-then-self-n-clause-adds
returns-then-self-n-clause-adds c = λ d k.
    child_over _ _ _ _ _ _ _ k _ _ c.args.self.now.nodes_lent _ c.find.ensures c.in_default.is c.if-self-n.true

pub returns-clause-adds : goal.returns-clause-adds
returns-clause-adds c =
    let small : number c.args.child < 2 ^ 256 = number_lt _ (search rules) in
    λ d k.
    rw (c.add_edge-2.ensures.nodes.0, c.add_edge-2.ensures.nodes.1)
    (child_put _ _ _ _ _ _ _ k _ _ c.args.self.now.nodes_lent _ c.find.ensures c.in_default.is c.if-self-n.false small _ c.put.ensures _ _ c.add_edge-2.ensures.edges)
