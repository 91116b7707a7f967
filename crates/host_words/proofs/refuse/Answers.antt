-- `host_words::refuse` meets its contract: zeros, and the number of the refusal.
-- Assumes nothing.
use Rattle.std.proofs.Common.{◌∙◌}
use Rattle.host_words.specs.AnswerLaws.{tells_refused}
use Rattle.host_words.proofs.refuse.Goals as goal

pub returns : goal.returns
returns c = tells_refused c.args.refusal _ _ _ (c.fill.ensures.after (λ y e. e)) c.into.ensures
