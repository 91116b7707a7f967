-- `numbered_tilings::check::is_bad_count` meets its contract: node 0's count is compared with 1, another's with the sum.
-- Assumes nothing.
use Rattle.path_count.specs.PathCounts.{count_in}
use Rattle.numbered_tilings.proofs.CheckLaws.{first_told}
use Rattle.numbered_tilings.proofs.check.is_bad_count.Goals as goal

pub returns-then-v-eq0 : goal.returns-then-v-eq0
returns-then-v-eq0 c =
    first_told _ (count_in c.args.words.counts.now) _ _ _ c.if-v-eq0.true c.get.ensures c.of_words.ensures _ c.equal.ensures
