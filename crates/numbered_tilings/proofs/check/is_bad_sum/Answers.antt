-- `numbered_tilings::check::is_bad_sum` meets its contract: what the edges add is summed one by one, and a sum that is too large is no count's.
-- Assumes nothing.
use Rattle.std.proofs.Common.{◌∙◌, rules}
use Rattle.path_count.specs.PathCountLaws.{count_small, sum_is, sum_large}
use Rattle.numbered_tilings.proofs.CheckLaws.{sum_none, sum_added, sum_passes, sum_told}
use Rattle.numbered_tilings.proofs.check.is_bad_sum.Goals as goal

pub loop-i-init : goal.loop-i-init
loop-i-init c = let words = c.args.words in c.of_words-sum.ensures ∙ sum_none words.counts.now words.edges.now c.args.v

pub returns-in_default : goal.returns-in_default
returns-in_default c =
    let words = c.args.words in
    sum_passes words.counts.now words.edges.now _ _ _ _ c.loop-i.invariant c.share.ensures _ c.get-count.ensures
    (count_small _ (search rules)) _ c.requires c.loop-i-test.true (sum_large _ _ c.plus.ensures c.in_default.is)

pub loop-i-preserved : goal.loop-i-preserved
loop-i-preserved c =
    let words = c.args.words in
    sum_added words.counts.now words.edges.now _ _ _ _ c.loop-i.invariant c.share.ensures _ (sum_is _ _ c.plus.ensures _ c.in-Some.is).0

pub returns : goal.returns
returns c =
    let words = c.args.words in
    sum_told words.counts.now words.edges.now _ _ _ _ _ c.requires c.loop-i.invariant c.loop-i.auto.i-end c.loop-i-test.false c.get-count.ensures _ c.equal.ensures
