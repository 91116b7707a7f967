-- `tile::codes::reflected` meets its contract: the answered code, or the code itself where it is no direction.
-- Assumes nothing.
use Rattle.std.proofs.Common.{◌∙◌}
use Rattle.direction.specs.DirectionLaws.{reflect_past}
use Rattle.tile.proofs.CodeLaws.{unwrap_or_on_code}
use Rattle.tile.proofs.codes.reflected.Goals as goal

pub returns : goal.returns
returns c = c.unwrap_or.ensures ∙ unwrap_or_on_code _ _ _ c.reflect.ensures (reflect_past _ _)
