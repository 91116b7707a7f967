use lib.Dec.{eqb}
use Rattle.std.specs.Prelude.{Some}
use Rattle.cells.specs.Lists.{list_of, set_at}
use Rattle.covers.specs.Inner.{add_children}
use Rattle.tiler.specs.Growths.{SameWords, AddsTo}
use Rattle.tiler.proofs.growing.Growing.add_children.Given as goal

abbrev pub invariant-loop-i : goal.invariant-loop-i
invariant-loop-i l = SameWords l.initial.self l.self × AddsTo l.initial.self l.self (Some tt) (add_children eqb l.parent (list_of (set_at l.children) l.i))
