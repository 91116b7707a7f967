-- `board::RectangularBoard::marks` meets its contract: the union of the two kinds.
-- Assumes nothing.
use Rattle.rectangle.specs.Board.{marks}
use Rattle.board.proofs.RectangularBoard.marks.Goals as goal

pub returns : goal.returns
unfolding marks
returns c = c.union.ensures
