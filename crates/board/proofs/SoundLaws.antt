-- What the type of a board says of its words: each is below 2^64, so that its two sets are sound. A proof cites it with what is known of a board that a function
-- is passed, as `board_sound _ c.well_formed.0`, where a search among all that is known at its goal would be long. Assumes nothing.
use mathlib.Core.List.{List}
use borrow.Author.Rules.{rules}
use mir.Val.{Val}
use denote.Laws.{Is}
use Rattle.cells.specs.Set.{Sound}
use Rattle.board.specs.declared.RectangularBoard.{RectangularBoard}
use Rattle.board.specs.contracts.RectangularBoard as T

pub board_sound : (b : RectangularBoard) {vs : List Val} → Is T.the_row b vs → Sound b.fixed × Sound b.laid
board_sound b is = (
  record { s0 = search rules; s1 = search rules; s2 = search rules; s3 = search rules },
  record { s0 = search rules; s1 = search rules; s2 = search rules; s3 = search rules },
)
