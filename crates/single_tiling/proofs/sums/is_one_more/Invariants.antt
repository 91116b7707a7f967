use Rattle.std.proofs.Common.{◌≡◌, ℕ, false, ◌&&◌, ◌-◌, leb, get_or, drop}
use Rattle.cells.specs.Lists.{any}
use Rattle.single_tiling.proofs.sums.is_one_more.Given as goal

abbrev pub invariant-loop-size : goal.invariant-loop-size
invariant-loop-size l =
    any (λ (a : ℕ). leb a l.n && get_or l.table (l.n - a) false) l.sizes
    ≡ any (λ (a : ℕ). leb a l.n && get_or l.table (l.n - a) false) (drop l.size-index l.sizes)
