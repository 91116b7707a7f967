-- `exports::cuttings_place_tile` meets its contract: it is that of `host_plots::place_tile`.
-- Assumes nothing.
use Rattle.exports.proofs.cuttings_place_tile.Goals as goal

pub returns : goal.returns
returns c = c.place_tile.ensures
