-- `host_words::accept` meets its contract: the words, zeros behind.
-- Assumes nothing.
use Rattle.cells.specs.Lists.{padded}
use Rattle.host_words.specs.AnswerLaws.{tells_given}
use Rattle.host_words.proofs.accept.Goals as goal

pub returns : goal.returns
unfolding padded
returns c = tells_given _ _ _ c.put_padded.ensures
