-- `tiler::building::pass_edge` meets its contract: the parent's count is read and added to the child's.
-- Assumes nothing.
use Rattle.tiler.proofs.PassingLaws.{edge_adds}
use Rattle.tiler.proofs.building.pass_edge.Goals as goal

pub returns : goal.returns
returns c =
    edge_adds _ _ _ _ _ _ c.get-paths.ensures c.add.ensures
