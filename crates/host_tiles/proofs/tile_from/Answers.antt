-- `host_tiles::tile_from` meets its contract: each of the codes is the byte that it is made of.
-- Assumes nothing.
use Rattle.std.proofs.Common.{◌∙◌, rules}
use Rattle.tile.proofs.CodeLaws.{made_of}
use Rattle.host_tiles.proofs.TileReadLaws.{tile_made}
use Rattle.host_tiles.proofs.tile_from.Goals as goal

pub returns : goal.returns
returns c =
    tile_made c.args.bytes.now _ (c.from.ensures ∙ c.byte_at.ensures)
    (made_of _ _ _ _ 0 (λ x y q called. search rules) 32 c.from_fn.ensures.items)
