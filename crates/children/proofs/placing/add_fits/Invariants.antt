use Rattle.std.proofs.Common.{◌≡◌, ℕ, List, eqb, length}
use Rattle.cells.specs.Lists.{add_firsts}
use Rattle.board.specs.Board.{board_of}
use Rattle.children.specs.Inner.{Keeps}
use Rattle.children.proofs.PlacingLaws.{point_children}
use Rattle.children.proofs.placing.add_fits.Given as goal

abbrev pub invariant-loop-point : goal.invariant-loop-point
invariant-loop-point l = (length l.out ≡ length l.initial.out) × ((ns : List ℕ) → Keeps ns l.initial.out l.initial.state → Keeps (add_firsts eqb ns (point_children (board_of l.parent.board) l.cell l.path l.point)) l.out l.state)
