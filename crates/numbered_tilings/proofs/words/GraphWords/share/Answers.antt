-- `numbered_tilings::words::GraphWords::share` meets its contract: the child is compared with the node, and the parent's count read.
-- Assumes nothing.
use Rattle.std.proofs.Common.{refl, ◌∙◌}
use Rattle.path_count.specs.PathCounts.{count_in}
use Rattle.numbered_tilings.proofs.CheckLaws.{share_here, share_elsewhere}
use Rattle.numbered_tilings.proofs.words.GraphWords.share.Goals as goal

pub returns-then-child-v : goal.returns-then-child-v
returns-then-child-v c = share_here _ _ _ c.parent.ensures c.child.ensures (count_in c.args.self.counts.now) _ _ c.if-child-v.true c.get.ensures

pub returns-else-child-v : goal.returns-else-child-v
returns-else-child-v c = c.of_words.ensures ∙ share_elsewhere _ _ _ refl c.child.ensures (count_in c.args.self.counts.now) _ c.if-child-v.false
