-- `exports::cuttings_count_cuttings` meets its contract: it is that of `host_counts::count_cuttings`.
-- Assumes nothing.
use Rattle.exports.proofs.cuttings_count_cuttings.Goals as goal

pub returns : goal.returns
returns c = c.count_cuttings.ensures
