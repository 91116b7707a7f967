use Rattle.std.proofs.Common.{◌≡◌, ℕ, ◌<◌, false}
use Rattle.graph.specs.Graph.{edge_at}
use Rattle.numbered_tilings.specs.Tilings.{bad_edge}
use Rattle.numbered_tilings.proofs.check.has_bad_edge.Given as goal

abbrev pub invariant-loop-i : goal.invariant-loop-i
invariant-loop-i l = (j : ℕ) → j < l.i → bad_edge l.words.graph.nodes (edge_at l.words.edges.now j) ≡ false
