use Rattle.std.proofs.Common.{◌≡◌, [], eqb, length}
use Rattle.cells.specs.Lists.{add_firsts}
use Rattle.board.specs.Board.{board_of}
use Rattle.children.specs.Inner.{Keeps}
use Rattle.children.proofs.PlacingLaws.{tile_children}
use Rattle.children.proofs.placing.add_tiles.Given as goal

abbrev pub invariant-loop-i : goal.invariant-loop-i
invariant-loop-i l = (length l.out ≡ length l.initial.out) × Keeps (add_firsts eqb [] (tile_children (board_of l.parent.board) l.cell l.tested.tiles.lens l.tested.tiles.codes l.i)) l.out l.state
