use mathlib.Core.Path.{◌≡◌}
use mathlib.Core.Bool.{false}
use Prim.Native.Nat.{ℕ, ◌≤◌, ◌<◌}
use Rattle.cells.specs.Lists.{set_at}
use Rattle.board.specs.Board.{board_of}
use Rattle.rectangle.specs.Board.{board_at, is_full}
use Rattle.tiler.proofs.building.find_complete.Given as goal

abbrev pub invariant-loop-i : goal.invariant-loop-i
invariant-loop-i l = (k : ℕ) → 1 ≤ k → k < l.i → is_full (board_at (board_of l.board) (set_at l.nodes k)) ≡ false
