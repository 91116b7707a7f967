-- `board::RectangularBoard::mark_tile_at_position` meets its contract: the laid marks are joined with the piece.
-- Assumes nothing.
use Rattle.board.proofs.MadeLaws.{lay_parts}
use Rattle.board.proofs.RectangularBoard.mark_tile_at_position.Goals as goal

pub returns : goal.returns
returns c = lay_parts c.args.self _ _ c.union-self.ensures
