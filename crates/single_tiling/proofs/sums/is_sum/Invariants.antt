use Rattle.std.proofs.Common.{◌≡◌, length, get_or}
use Rattle.cells.specs.Lists.{list_of}
use Rattle.single_tiling.specs.SumLaws.{Marked}
use Rattle.single_tiling.proofs.sums.is_sum.Given as goal

abbrev pub invariant-loop-m : goal.invariant-loop-m
invariant-loop-m l = (length l.table ≡ 257) × Marked (list_of (λ i. get_or l.sizes i 0) l.tiles.count) l.m l.table
