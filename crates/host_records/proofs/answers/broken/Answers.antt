-- `host_records::answers::broken` meets its contract: the place, and 13.
-- Assumes nothing.
use Rattle.std.proofs.Common.{◌∙◌}
use Rattle.cells.specs.Lists.{padded}
use Rattle.host_records.proofs.AnswerLaws.{leaves_place}
use Rattle.host_records.proofs.answers.broken.Goals as goal

pub returns : goal.returns
unfolding padded
returns c = leaves_place c.args.answer.now c.put_padded.new.out c.args.place _ c.into.ensures c.put_padded.ensures
