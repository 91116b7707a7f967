use Rattle.std.proofs.Common.{◌≡◌, ◌+◌, ◌*◌}
use Rattle.cells.specs.Set.{number}
use Rattle.cells.specs.Lists.{list_of}
use Rattle.choice.proofs.ChoiceLaws.{Scanned}
use Rattle.choice.specs.Inner.{array_count, open_in}
use Rattle.choice.proofs.scan.scan_column.Given as goal

abbrev pub invariant-loop-row : goal.invariant-loop-row
invariant-loop-row l = (l.cell ≡ 16 * l._row + l.col)
    × Scanned (open_in (number l.marks)) (array_count l.counts) l.initial.best l.best (list_of (λ i. 16 * i + l.col) l._row)
