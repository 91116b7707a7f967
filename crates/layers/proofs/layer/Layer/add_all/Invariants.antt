use Rattle.std.specs.Prelude.{Some}
use Rattle.cells.specs.Lists.{list_of, set_at}
use Rattle.layers.specs.Inner.{add_each}
use Rattle.layers.specs.Layers.{SameWords, AddsTo}
use Rattle.path_count.specs.PathCounts.{count_value}
use Rattle.layers.proofs.layer.Layer.add_all.Given as goal

abbrev pub invariant-loop-i : goal.invariant-loop-i
invariant-loop-i l = SameWords l.initial.self l.self
    × AddsTo l.initial.self l.self (Some tt) (add_each (list_of (set_at l.children) l.i) (count_value l.paths))
