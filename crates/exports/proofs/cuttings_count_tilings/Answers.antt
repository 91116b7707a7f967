-- `exports::cuttings_count_tilings` meets its contract: it is that of `host_counts::count_tilings`.
-- Assumes nothing.
use Rattle.exports.proofs.cuttings_count_tilings.Goals as goal

pub returns : goal.returns
returns c = c.count_tilings.ensures
