use mathlib.Core.Path.{◌≡◌}
use Prim.Native.Nat.{◌*◌, ◌≤◌}
use Rattle.expansion.proofs.PlotLaws.{points_to}
use Rattle.expansion.proofs.most_children.Given as goal

abbrev pub invariant-loop-i : goal.invariant-loop-i
invariant-loop-i l = (l.sum ≡ points_to l.tiles.lens l.i) × (l.sum ≤ 33 * l.i)
