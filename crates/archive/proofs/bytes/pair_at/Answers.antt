-- `archive::bytes::pair_at` meets its contract: two bytes from a place on.
-- Assumes nothing.
use Rattle.std.proofs.Common.{◌∙◌}
use Rattle.archive.proofs.InputLaws.{pair_value, number_first}
use Rattle.archive.proofs.bytes.pair_at.Goals as goal

pub returns : goal.returns
returns c = c.from_be_bytes.ensures ∙ pair_value c.unwrap.result.now ∙ number_first c.args.bytes.now c.args.at 2 _ c.unwrap.result c.unwrap.ensures c.first_chunk.ensures.cases
