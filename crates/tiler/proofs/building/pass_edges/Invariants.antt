use mathlib.Core.Path.{◌≡◌}
use lib.ListN.{length}
use Rattle.cells.specs.Lists.{list_of}
use Rattle.graph.specs.Graph.{edge_at}
use Rattle.tiler.proofs.PassingLaws.{Passing}
use Rattle.tiler.proofs.building.pass_edges.Given as goal

abbrev pub invariant-loop-i : goal.invariant-loop-i
invariant-loop-i l = (length l.counts ≡ length l.initial.counts) × Passing (length l.initial.counts) (list_of (edge_at l.edges) l.n) l.i l.counts
