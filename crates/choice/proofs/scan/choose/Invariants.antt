use Rattle.std.proofs.Common.{◌≡◌, None}
use Rattle.cells.specs.Set.{number}
use Rattle.choice.specs.Choice.{columns, best_of, cell_with_count_by}
use Rattle.choice.specs.Inner.{array_count, open_in}
use Rattle.choice.proofs.scan.choose.Given as goal

abbrev pub invariant-loop-col : goal.invariant-loop-col
invariant-loop-col l = (l.scan.cell ≡ l.col)
    × (l.scan.best ≡ cell_with_count_by (array_count l.counts) (best_of (open_in (number l.marks)) (array_count l.counts) None (columns l.rectangle.height l.col)))
