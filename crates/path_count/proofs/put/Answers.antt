-- `path_count::put` meets its contract: a list with another word behind its end is the same list.
-- Assumes nothing.
use Rattle.std.proofs.Common.{sym}
use lib.Seq.{set_out}
use Rattle.path_count.specs.Parts.{with_count}
use Rattle.path_count.proofs.put.Goals as goal

pub returns-else-i-words : goal.returns-else-i-words
unfolding with_count
returns-else-i-words c = sym (set_out _ _ _ c.if-i-words.false)
