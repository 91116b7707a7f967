-- `host_tiles::tiles_from` meets its contract: lengths and codes are read, and the bytes are counted.
-- Assumes nothing.
use Rattle.host_tiles.proofs.TileReadLaws.{tiles_made}
use Rattle.host_tiles.proofs.tiles_from.Goals as goal

pub returns : goal.returns
returns c = tiles_made c.args.bytes.now _ _ c.lens_from.ensures c.codes_from.ensures
