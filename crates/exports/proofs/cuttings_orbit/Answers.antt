-- `exports::cuttings_orbit` meets its contract: it is that of `host_plots::orbit`.
-- Assumes nothing.
use Rattle.exports.proofs.cuttings_orbit.Goals as goal

pub returns : goal.returns
returns c = c.orbit.ensures
