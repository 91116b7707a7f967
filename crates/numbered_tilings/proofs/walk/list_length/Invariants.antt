use Rattle.cells.specs.Lists.{list_of}
use Rattle.graph.specs.Graph.{edge_at}
use Rattle.path_count.specs.PathCounts.{count_value, count_in}
use Rattle.numbered_tilings.proofs.WalkLoops.{Measured}
use Rattle.numbered_tilings.proofs.walk.list_length.Given as goal

abbrev pub invariant-loop-v : goal.invariant-loop-v
invariant-loop-v l =
    let words = l.words in
    Measured (list_of (edge_at words.edges.now) words.graph.edges) (count_in words.counts.now) words.graph.nodes l.last (count_value l.initial.left) l.v (count_value l.left) l.size

abbrev pub decreases-loop-v : goal.decreases-loop-v
decreases-loop-v l = l.v
