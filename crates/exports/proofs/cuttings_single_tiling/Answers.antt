-- `exports::cuttings_single_tiling` meets its contract: it is that of `host_tilings::single_tiling`.
-- Assumes nothing.
use Rattle.exports.proofs.cuttings_single_tiling.Goals as goal

pub returns : goal.returns
returns c = c.single_tiling.ensures
