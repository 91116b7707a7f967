-- `host_counts::calls::tell_count` meets its contract: a count is told by its two words, and a refusal by its number.
-- Assumes nothing.
use Rattle.host_counts.proofs.ToldLaws.{number_told, refusal_told}
use borrow.Author.Rules.{rules}
use Rattle.host_counts.proofs.calls.tell_count.Goals as goal

pub returns-in-Ok : goal.returns-in-Ok
returns-in-Ok c =
    number_told _ _ _ _ c.low.ensures c.high.ensures (search rules) c.in-Ok.is c.accept.ensures

pub returns-in-Err : goal.returns-in-Err
returns-in-Err c = refusal_told _ _ c.in-Err.is c.refuse.ensures
