use Rattle.graph.proofs.GraphLoops.{WrittenTo}
use Rattle.graph.proofs.write_edges.Given as goal

abbrev pub invariant-loop-i : goal.invariant-loop-i
invariant-loop-i l = WrittenTo l.edges l.node l.i l.count l.out
