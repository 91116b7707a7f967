-- `exports::cuttings_generate_graph` meets its contract: it is that of `host_counts::generate_graph`.
-- Assumes nothing.
use Rattle.exports.proofs.cuttings_generate_graph.Goals as goal

pub returns : goal.returns
returns c = c.generate_graph.ensures
