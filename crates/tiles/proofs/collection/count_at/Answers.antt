-- `tiles::collection::count_at` meets its contract: a tile of accepted tiles is not refused, and is counted.
-- Assumes nothing.
use Rattle.std.proofs.Common.{◌≡◌, length, rules}
use Rattle.tiles.specs.ReadLaws.{tile_count_is, tile_count_ok}
use Rattle.tiles.proofs.collection.count_at.Goals as goal

pub unwrap-requires : goal.unwrap-requires
unwrap-requires c =
    let long : length c.args.tiles.codes ≡ 2048 = search rules in
    tile_count_ok _ long c.requires.0 _ c.requires.1 _ c.get.ensures _ c.count_cells.ensures

pub returns : goal.returns
returns c =
    let long : length c.args.tiles.codes ≡ 2048 = search rules in
    tile_count_is _ long c.requires.0 _ c.requires.1 _ c.get.ensures _ c.count_cells.ensures _ c.unwrap.ensures
