use Rattle.std.proofs.Common.{◌≡◌}
use Rattle.path_count.specs.PathCounts.{count_value}
use Rattle.numbered_tilings.proofs.CheckLaws.{sum_to}
use Rattle.numbered_tilings.proofs.check.is_bad_sum.Given as goal

abbrev pub invariant-loop-i : goal.invariant-loop-i
invariant-loop-i l = count_value l.sum ≡ sum_to l.words.counts.now l.words.edges.now l.v l.i
