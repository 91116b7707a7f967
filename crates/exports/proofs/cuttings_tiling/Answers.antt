-- `exports::cuttings_tiling` meets its contract: it is that of `host_tilings::tiling`.
-- Assumes nothing.
use Rattle.exports.proofs.cuttings_tiling.Goals as goal

pub returns : goal.returns
returns c = c.tiling.ensures
