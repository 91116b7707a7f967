-- `tiler::building::pass_edges` meets its contract: the edges are passed in order.
-- Assumes nothing.
use mathlib.Core.Path.{refl}
use Rattle.tiler.proofs.PassingLaws.{pass_none, pass_more, pass_large, pass_done}
use borrow.Author.Rules.{rules}
use native.Mathlib.Omega.{arith}
use Rattle.tiler.proofs.building.pass_edges.Goals as goal

pub loop-i-init : goal.loop-i-init
loop-i-init c = (refl, pass_none _ _ _ _ c.requires.2)

pub returns-then-pass_edge : goal.returns-then-pass_edge
returns-then-pass_edge c =
    pass_large _ _ _ _ _ _ _ (omega arith) c.loop-i.invariant.1 (c.requires.1 _ (omega arith)) c.pass_edge.ensures c.if-pass_edge.true

pub loop-i-preserved : goal.loop-i-preserved
loop-i-preserved c = (
  search rules,
  pass_more _ _ _ _ _ _ _ (omega arith) c.loop-i.invariant.1 (c.requires.1 _ (omega arith)) c.pass_edge.ensures c.if-pass_edge.false,
)

pub shape_of-counts : goal.shape_of-counts
shape_of-counts c = c.loop-i.invariant.0

pub returns : goal.returns
returns c = pass_done _ _ _ _ _ (omega arith) (omega arith) c.loop-i.invariant.1
