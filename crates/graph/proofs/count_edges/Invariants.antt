use Rattle.graph.proofs.GraphLoops.{CountedTo}
use Rattle.graph.proofs.count_edges.Given as goal

abbrev pub invariant-loop-i : goal.invariant-loop-i
invariant-loop-i l = CountedTo l.edges l.node l.i l.count
