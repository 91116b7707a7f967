-- `host_records::answers::give` meets its contract: the words, zeros behind.
-- Assumes nothing.
use Rattle.cells.specs.Lists.{padded}
use Rattle.host_records.proofs.AnswerLaws.{leaves_value}
use Rattle.host_records.proofs.answers.give.Goals as goal

pub returns : goal.returns
unfolding padded
returns c = leaves_value c.args.answer.now c.put_padded.new.out c.args.words.now c.put_padded.ensures
