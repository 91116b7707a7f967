-- `fit::walk::direction_of` meets its contract: a code 0 to 7 has a direction, and is not refused.
-- Assumes nothing.
use Rattle.fit.proofs.WalkLaws.{decoded_ok, decoded_is}
use Rattle.fit.proofs.walk.direction_of.Goals as goal

pub unwrap-requires : goal.unwrap-requires
unwrap-requires c = decoded_ok _ _ c.try_from.ensures c.requires

pub returns : goal.returns
returns c = decoded_is c.args.code _ _ c.try_from.ensures c.requires c.unwrap.ensures
