-- `archive::bytes::record_from` meets its contract: field by field.
-- Assumes nothing.
use Rattle.archive.specs.Archive.{record_in}
use Rattle.archive.proofs.bytes.record_from.Goals as goal

pub returns : goal.returns
unfolding record_in
returns c = rw (c.pair_at.ensures, c.pair_at-2.ensures, c.pair_at-3.ensures, c.word_at.ensures, c.word_at-2.ensures)
