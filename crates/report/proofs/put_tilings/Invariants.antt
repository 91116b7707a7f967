use mathlib.Core.Path.{◌≡◌}
use mathlib.Core.List.{flat_map}
use Prim.Native.Nat.{◌≤◌}
use Rattle.cells.specs.Lists.{list_of}
use Rattle.path_count.specs.PathCounts.{count_value}
use Rattle.tiler.specs.Graphs.{Graph, count_of_graph}
use Rattle.report.specs.Report.{tiling_line}
use Rattle.report.specs.Inner.{Puts, Stays, Built}
use Rattle.report.proofs.put_tilings.Given as goal

abbrev pub invariant-loop-m : goal.invariant-loop-m
invariant-loop-m l = (l.m ≤ count_value l.count) × Stays l.initial.text l.text
    × ((g : Graph) → Built g l.graph l.nodes l.counts l.edges → count_value l.count ≡ count_of_graph g
    → Puts l.initial.text (flat_map (tiling_line g) (list_of (λ n. n) l.m)) l.text)
