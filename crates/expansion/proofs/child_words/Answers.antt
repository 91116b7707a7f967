-- `expansion::child_words` meets its contract: four words for each child of accepted tiles, none where they are refused.
-- Assumes nothing.
use Rattle.expansion.proofs.PlotLaws.{words_read, words_accepted, words_refused}
use Rattle.expansion.proofs.child_words.Goals as goal

pub returns-then-is_err : goal.returns-then-is_err
returns-then-is_err c = words_refused _ _ c.check.ensures c.if-is_err.ensures.value

pub most_children-requires : goal.most_children-requires
most_children-requires c = words_read _ _ c.check.ensures c.if-is_err.ensures.value

pub returns : goal.returns
returns c = words_accepted _ (words_read _ _ c.check.ensures c.if-is_err.ensures.value) _ c.most_children.ensures.0
