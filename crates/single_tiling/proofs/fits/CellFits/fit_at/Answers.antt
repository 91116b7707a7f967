-- `single_tiling::fits::CellFits::fit_at` meets its contract: the part of the codes is the path of the index's tile.
-- Assumes nothing.
use native.Mathlib.Omega.{arith}
use Rattle.single_tiling.proofs.PlaceLaws.{index_short, index_fit}
use Rattle.single_tiling.proofs.fits.CellFits.fit_at.Goals as goal

pub overflow_add-end : goal.overflow_add-end
overflow_add-end c = let short = index_short _ _ c.requires c.args.self.read in omega (arith, short.0, short.1)

pub slice_bounds-tile_fits_at_position-end : goal.slice_bounds-tile_fits_at_position-end
slice_bounds-tile_fits_at_position-end c =
    let short = index_short _ _ c.requires c.args.self.read in
    let long = c.args.self.read.1 in
    omega (arith, short.0, short.1)

pub returns : goal.returns
returns c =
    let a = c.args in
    index_fit a.self.tiles.now a.i c.requires _ _ c.marks.ensures _ _ c.tile_fits_at_position.ensures
