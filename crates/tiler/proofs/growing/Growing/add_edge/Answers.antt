-- `tiler::growing::Growing::add_edge` meets its contract: the edge is stored behind the others if there is room.
-- Assumes nothing.
use mathlib.Core.Path.{refl}
use Rattle.tiler.proofs.BuildLaws.{edge_past, edge_put}
use Rattle.tiler.proofs.growing.Growing.add_edge.Goals as goal

pub returns-then-self-n-clause-edges : goal.returns-then-self-n-clause-edges
returns-then-self-n-clause-edges c = λ es k. edge_past _ _ _ _ k _ _ c.if-self-n.true

pub returns-clause-edges : goal.returns-clause-edges
returns-clause-edges c = λ es k. edge_put _ _ _ _ k _ _ c.if-self-n.false c.args.self.now.edges_lent _ refl
