use Rattle.std.proofs.Common.{◌≡◌}
use Rattle.cells.specs.Lists.{list_of}
use Rattle.covers.specs.Counts.{parents_of, turn}
use Rattle.graph.specs.Graph.{edge_at}
use Rattle.path_count.specs.PathCounts.{count_value, count_in}
use Rattle.numbered_tilings.proofs.WalkLoops.{turn_from}
use Rattle.numbered_tilings.proofs.walk.find_turn.Given as goal

abbrev pub invariant-loop-i : goal.invariant-loop-i
invariant-loop-i l =
    turn (count_in l.words.counts.now) (parents_of (list_of (edge_at l.words.edges.now) l.words.graph.edges) l.v) (count_value l.initial.left)
    ≡ turn_from (count_in l.words.counts.now) (edge_at l.words.edges.now) l.words.graph.edges l.v l.i (count_value l.left)
