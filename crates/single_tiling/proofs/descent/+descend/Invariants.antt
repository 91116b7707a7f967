-- The number of free cells falls. In the loop the pieces of the indices so far lead to no full board, and the boards down to this one stand as they did.
use Rattle.std.proofs.Common.{◌≡◌, [], ℕ, ◌+◌, ◌<◌}
use Rattle.tiles.specs.Paths.{paths_in}
use Rattle.board.specs.Board.{board_of}
use Rattle.rectangle.specs.Board.{free_count}
use Rattle.single_tiling.specs.DescentLaws.{walk_at}
use Rattle.single_tiling.proofs.WalkSteps.{Same}
use Rattle.single_tiling.proofs.descent.+descend.Given as goal

abbrev pub decreases-descend : goal.decreases-descend
decreases-descend l = free_count (board_of l.here)

abbrev pub invariant-loop-i : goal.invariant-loop-i
invariant-loop-i l =
    Same (l.depth + 1) l.initial.out l.out × ((k : ℕ) → k < l.i → walk_at (board_of l.fn.here) (paths_in l.tiles) l.cell k ≡ [])
