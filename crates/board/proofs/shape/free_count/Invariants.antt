use Rattle.std.proofs.Common.{◌≡◌, ◌≤◌}
use Rattle.cells.specs.Set.{size_below}
use Rattle.rectangle.specs.Board.{free_set}
use Rattle.board.specs.Board.{board_of}
use Rattle.board.proofs.shape.free_count.Given as goal

abbrev pub invariant-loop-cell : goal.invariant-loop-cell
invariant-loop-cell l = (l.n ≤ l.cell) × (l.n ≡ size_below l.cell (free_set (board_of l.board)))
