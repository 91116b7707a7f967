-- `host_tiles::lens_from` meets its contract: each of the lengths is the byte that it is made of.
-- Assumes nothing.
use Rattle.std.proofs.Common.{rules}
use Rattle.tile.proofs.CodeLaws.{made_of}
use Rattle.host_tiles.proofs.lens_from.Goals as goal

pub returns : goal.returns
returns c = made_of _ _ _ _ 0 (λ x y q called. search rules) 64 c.from_fn.ensures.items
