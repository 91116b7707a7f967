-- `archive::bytes::word_at` meets its contract: eight bytes from a place on.
-- Assumes nothing.
use Rattle.std.proofs.Common.{◌∙◌}
use Rattle.archive.proofs.InputLaws.{word_value, number_first}
use Rattle.archive.proofs.bytes.word_at.Goals as goal

pub returns : goal.returns
returns c = c.from_be_bytes.ensures ∙ word_value c.unwrap.result.now ∙ number_first c.args.bytes.now c.args.at 8 _ c.unwrap.result c.unwrap.ensures c.first_chunk.ensures.cases
