-- `host_words::word_at` meets its contract: the word, or 0.
-- Assumes nothing.
use Rattle.std.proofs.Common.{ap, ◌∙◌, unwrap_or, arith}
use Rattle.host_words.proofs.word_at.Goals as goal

pub returns : goal.returns
returns c = c.unwrap_or.ensures ∙ ap (λ o. unwrap_or o 0) c.copied.ensures ∙ c.get.ensures.lookup.4 (omega arith) 0
