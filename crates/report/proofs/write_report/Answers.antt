-- `report::write_report` meets its contract: the text is put in front, and the bytes behind it are cleared.
-- Assumes nothing.
use Rattle.std.proofs.Common.{refl, sym, ◌∙◌}
use borrow.Author.Rules.{rules}
use Rattle.report.specs.TextLaws.{puts_ends}
use Rattle.report.proofs.write_report.Goals as goal

pub returns : goal.returns
returns c =
    let same = sym (c.put_report.ensures.same ∙ c.new-text.ensures.same_reference) in
    puts_ends c.new-text.ensures.bytes c.new-text.ensures.at c.put_report.ensures refl (c.fill.ensures.after (λ y e. e)) (search (rules, same))
