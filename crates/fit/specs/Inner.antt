-- Definitions that laws and contracts of private functions cite, and `walked`, which the law `walked_moved` compares with the definition of the fit.
-- Assumes nothing.
use Rattle.std.specs.Prelude.{cond, Option, None, Some, ◌&&◌, List, [], ◌∷◌, ◌++◌, ℕ, zero, suc, leb, length, get_or, drop}
use Rattle.direction.specs.Direction.{Position, shift, step, opposite}
use Rattle.tile.specs.Path.{Path, is_path}
use Rattle.rectangle.specs.Board.{Board, size_ok}
use Rattle.fit.specs.declared.place.Place.{Place}
use Rattle.fit.specs.Fit.{fit_at}

-- the board of the same size with no marks at all
abbrev pub bare : Board → Board
bare b = record { width = b.width; height = b.height; fixed = 0; laid = 0 }

-- `fit_in` on a board
unfoldable pub fit_for : Board → List ℕ → ℕ → ℕ → List ℕ
unfolding size_ok is_path fit_at
fit_for b codes j cell = cond (size_ok b.width b.height && (is_path codes && leb j (length codes))) (fit_at b codes j cell) []

-- ---- a tile put down by its point j: the points of the walk back from it, and of the walk on from it

unfoldable pub back : Position → Path → ℕ → List Position
unfolding step opposite
back p path zero = []
back p path (suc j) = shift p (step (opposite (get_or path j 0))) ∷ back (shift p (step (opposite (get_or path j 0)))) path j

unfoldable pub onward : Position → Path → List Position
unfolding step
onward p [] = []
onward p (code ∷ path) = shift p (step code) ∷ onward (shift p (step code)) path

unfoldable pub walked : Path → ℕ → Position → List Position
unfolding back onward
walked path j p = p ∷ back p path j ++ onward p (drop j path)

-- the row and the column of a place
abbrev pub place_of : Option Place → Option (ℕ × ℕ)
place_of None = None
place_of (Some p) = Some (p.row, p.col)
