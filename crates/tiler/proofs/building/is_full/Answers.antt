-- `tiler::building::is_full` meets its contract: a board of the start is not refused.
-- Assumes nothing.
use Rattle.tiler.proofs.FinishLaws.{full_told, full_is}
use Rattle.tiler.proofs.building.is_full.Goals as goal

pub unwrap-requires : goal.unwrap-requires
unwrap-requires c = full_told _ _ _ c.with_marks.ensures c.requires _ c.is_all_marked.ensures

pub returns : goal.returns
returns c = full_is _ _ _ c.with_marks.ensures c.requires _ c.is_all_marked.ensures _ c.unwrap.ensures
