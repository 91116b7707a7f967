-- `host_tiles::codes_from` meets its contract: each of the codes is the byte that it is made of.
-- Assumes nothing.
use Rattle.std.proofs.Common.{rules}
use Rattle.tile.proofs.CodeLaws.{made_of}
use Rattle.host_tiles.proofs.codes_from.Goals as goal

pub returns : goal.returns
returns c = made_of _ _ _ _ 0 (λ x y q called. search rules) 2048 c.from_fn.ensures.items
