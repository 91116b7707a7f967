use mathlib.Core.Path.{◌≡◌}
use mathlib.Core.Bool.{false}
use Prim.Native.Nat.{ℕ, ◌≤◌, ◌<◌}
use lib.Dec.{eqb}
use Rattle.cells.specs.Set.{number}
use Rattle.cells.specs.Lists.{set_at}
use Rattle.cells.proofs.list.find.Given as goal

-- no set so far is the set
abbrev pub invariant-loop-i : goal.invariant-loop-i
invariant-loop-i l = (k : ℕ) → l.from ≤ k → k < l.i → eqb (set_at l.words k) (number l.set) ≡ false
