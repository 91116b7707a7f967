-- `plot_file::records::end_record` meets its contract: the bytes end here, or one is behind.
-- Assumes nothing.
use Rattle.std.proofs.Common.{sym, ◌∙◌}
use borrow.Author.Tests.{eqb-true, eqb-false}
use Rattle.refusal.specs.Refusal.{map_answer}
use Rattle.plot_file.proofs.ReadLaws.{end_body_end, end_body_more}
use Rattle.plot_file.proofs.records.end_record.Goals as goal

pub returns-then-is_empty : goal.returns-then-is_empty
unfolding map_answer
returns-then-is_empty c = sym (end_body_end _ _ (eqb-true _ _ (sym c.is_empty.ensures ∙ c.if-is_empty.true)))

pub returns-else-is_empty : goal.returns-else-is_empty
unfolding map_answer
returns-else-is_empty c = sym (end_body_more _ _ (eqb-false _ _ (sym c.is_empty.ensures ∙ c.if-is_empty.false)))
