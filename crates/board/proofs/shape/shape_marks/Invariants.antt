use mathlib.Core.Path.{◌≡◌}
use Prim.Native.Nat.{◌-◌, ◌≤◌}
use Rattle.cells.specs.Set.{from_bits, number}
use Rattle.board.specs.Board.{shape_mark}
use Rattle.board.proofs.ShapeLaws.{bits}
use Rattle.board.proofs.shape.shape_marks.Given as goal

abbrev pub invariant-loop-cell : goal.invariant-loop-cell
invariant-loop-cell l = number l.set ≡ from_bits l.cell (bits (shape_mark l.width l.height l.rows l.low l.high))
