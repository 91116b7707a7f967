-- `host_records::answers::refuse` meets its contract: zeros, and the number of the refusal.
-- Assumes nothing.
use Rattle.std.proofs.Common.{◌∙◌}
use Rattle.host_records.proofs.AnswerLaws.{leaves_refusal}
use Rattle.host_records.proofs.answers.refuse.Goals as goal

pub returns : goal.returns
returns c = leaves_refusal c.args.answer.now c.fill.new.self c.args.refusal _ c.into.ensures (c.fill.ensures.after (λ y e. e))
