-- `board::RectangularBoard::new` meets its contract: a shape with no rows marked.
-- Assumes nothing.
use Rattle.board.specs.Board.{new_board}
use Rattle.board.proofs.RectangularBoard.new.Goals as goal

pub returns : goal.returns
unfolding new_board
returns c = c.made.ensures
