use Rattle.cells.specs.Set.{number}
use Rattle.cells.specs.ArrayLaws.{Filled}
use Rattle.choice.specs.Choice.{neighbour_count}
use Rattle.choice.proofs.counts.neighbour_counts.Given as goal

abbrev pub invariant-loop-cell : goal.invariant-loop-cell
invariant-loop-cell l = Filled 0 (neighbour_count l.rectangle.width l.rectangle.height (number l.laid)) (λ k. 0) 256 l.cell l.counts
