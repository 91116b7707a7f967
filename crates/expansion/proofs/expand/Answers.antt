-- `expansion::expand` meets its contract: the children of the board with the marks are written.
-- Assumes nothing.
use Rattle.expansion.proofs.PlotLaws.{expands_number}
use Rattle.expansion.proofs.expand.Goals as goal

pub returns : goal.returns
returns c = expands_number c.args.board _ _ _ c.with_marks.ensures _ _ _ c.place_tile.ensures _ c.unwrap_or.ensures
