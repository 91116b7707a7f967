-- `choice::counts::outer_mark` meets its contract: by the row and by the column; a corner counts once.
-- Assumes nothing.
use Rattle.std.proofs.Common.{◌∙◌, arith}
use Rattle.choice.proofs.ChoiceLaws.{outer_is}
use Rattle.choice.proofs.counts.outer_mark.Goals as goal

pub returns : goal.returns
returns c = (c.min.ensures ∙ outer_is _ _ _ _ _ _ c.edge_mark.ensures.0 c.edge_mark-2.ensures.0, omega arith)
