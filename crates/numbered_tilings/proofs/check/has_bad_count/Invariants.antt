use Rattle.std.proofs.Common.{◌≡◌, ℕ, ◌<◌, false}
use Rattle.cells.specs.Lists.{list_of}
use Rattle.graph.specs.Graph.{edge_at}
use Rattle.path_count.specs.PathCounts.{count_in}
use Rattle.numbered_tilings.specs.Tilings.{bad_count}
use Rattle.numbered_tilings.proofs.check.has_bad_count.Given as goal

abbrev pub invariant-loop-v : goal.invariant-loop-v
invariant-loop-v l = (u : ℕ) → u < l.v → bad_count (list_of (edge_at l.words.edges.now) l.words.graph.edges) (count_in l.words.counts.now) u ≡ false
