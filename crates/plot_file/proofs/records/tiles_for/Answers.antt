-- `plot_file::records::tiles_for` meets its contract: the orbit (`tile_orbit`), or the tile alone (`tile_alone`).
-- Assumes nothing.
use Rattle.plot_file.proofs.TilesLaws.{orbit_ok, tile_orbit, alone_ok, tile_alone}
use Rattle.plot_file.proofs.records.tiles_for.Goals as goal

pub unwrap-requires : goal.unwrap-requires
unwrap-requires c = orbit_ok _ _ c.requires.0 c.requires.1 c.orbit.ensures

pub unwrap-requires-else-whole : goal.unwrap-requires-else-whole
unwrap-requires-else-whole c = alone_ok _ _ _ c.requires.0 c.new.ensures c.with_tile.ensures

pub returns-then-whole : goal.returns-then-whole
returns-then-whole c =
    rw c.if-whole.true (tile_orbit _ _ c.requires.0 c.requires.1 c.orbit.ensures _ c.unwrap.ensures)

pub returns-else-whole : goal.returns-else-whole
returns-else-whole c =
    rw c.if-whole.false (tile_alone _ _ _ c.requires.0 c.new.ensures c.with_tile.ensures _ c.unwrap-else-whole.ensures)
