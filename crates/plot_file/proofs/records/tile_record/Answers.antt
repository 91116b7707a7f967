-- `plot_file::records::tile_record` meets its contract: the body decides, and then the room (`tile_added`).
-- Assumes nothing.
use Rattle.plot_file.proofs.StepLaws.{body_clean, body_path, tile_refused, tile_added}
use Rattle.plot_file.proofs.TilesLaws.{for_clean}
use Rattle.plot_file.proofs.records.tile_record.Goals as goal

pub returns-in_err-tile : goal.returns-in_err-tile
returns-in_err-tile c = tile_refused _ _ _ _ c.read_body.ensures _ _ c.in_err-tile.was c.from_residual.ensures.1

pub tiles_for-requires : goal.tiles_for-requires
tiles_for-requires c =
    let read = c.read_body.ensures in
    (body_clean _ _ read _ _ c.in_ok-tile.was, (body_path _ _ read _ _ c.in_ok-tile.was).1)

pub added-requires : goal.added-requires
added-requires c = for_clean c.args.whole _ (body_path _ _ c.read_body.ensures _ _ c.in_ok-tile.was).0 _ c.tiles_for.ensures

pub returns : goal.returns
returns c = tile_added _ c.args.whole _ _ c.read_body.ensures _ _ _ c.in_ok-tile.was _ c.tiles_for.ensures c.added.ensures
