-- Inner definitions: what the contracts of private functions say. No contract of a public function cites them. Assumes nothing.
use Rattle.std.specs.Prelude.{◌≡◌, Bool, true, false, List, [], ◌∷◌, ℕ, zero, suc, Option, Some, None, Result, IfOk}
use Rattle.std.specs.Borrow.{Bor}
use Rattle.refusal.specs.declared.Refusal.{Refusal}
use Rattle.refusal.specs.Refusal.{Answer, map_answer, answer_of}
use Rattle.tile.specs.declared.Tile.{Tile}
use Rattle.tile.specs.Path.{Path, path_in}
use Rattle.tiles.specs.Paths.{orbit, paths_in}
use Rattle.tile.specs.Inner.{CleanTile}
use Rattle.rectangle.specs.Board.{Board}
use Rattle.board.specs.Board.{board_of, new_board, l_board, t_board}
use Rattle.plot_file.specs.declared.marks.Mark.{Mark}
use Rattle.plot_file.specs.declared.marks.Mark.TheVariants.{RB, LB, TB, HO, TI, OR, EN}
use Rattle.plot_file.specs.declared.plots.Plot.{Plot as PlotSoFar}
use Rattle.plot_file.specs.declared.plots.Step.{Step as StepTaken}
use Rattle.plot_file.specs.PlotFile.{Plot, Step, more, ended, first_record, later_record}

-- ---- marks

-- a mark that is read, with the bytes behind it
abbrev pub marked_answer : Result (Mark × Bor (List ℕ)) Refusal → Answer (Mark × List ℕ)
marked_answer r = map_answer (λ m. (m.0, m.1.now)) (answer_of r)

-- ---- bodies

abbrev pub is_board : Mark → Bool
is_board RB = true
is_board LB = true
is_board TB = true
is_board HO = false
is_board TI = false
is_board OR = false
is_board EN = false

-- the board of two numbers by a board's mark
abbrev pub board_for : Mark → ℕ → ℕ → Answer Board
board_for RB = new_board
board_for LB = l_board
board_for TB = t_board
board_for HO = new_board
board_for TI = new_board
board_for OR = new_board
board_for EN = new_board

-- the tiles that a path stands for: itself, or its orbit
abbrev pub tiles_for : Bool → Path → List Path
tiles_for true path = orbit path
tiles_for false path = path ∷ []

-- a body that is read, with the bytes behind it, or its refusal: the tile is stored with zeros behind
pub record ReadsBody (a : Answer (Path × List ℕ)) (r : Result (Tile × Bor (List ℕ)) Refusal) : Type 0 where
  pub answer : map_answer (λ b. (path_in b.0, b.1.now)) (answer_of r) ≡ a
  pub clean : IfOk r (λ b. CleanTile b.0)

-- ---- records

-- the plot so far
abbrev pub plot_of : PlotSoFar → Plot
plot_of p = record { board = board_of p.board; tiles = paths_in p.tiles }

-- what a record leaves of a file: a plot, and the bytes behind the record, if there is more
abbrev pub step_to : Plot → Option (Bor (List ℕ)) → Step
step_to plot (Some rest) = more plot rest.now
step_to plot None = ended plot

abbrev pub step_in : StepTaken → Step
step_in s = step_to (plot_of s.plot) s.next

-- a record that is read, or its refusal
abbrev pub Reads : Answer Step → Result StepTaken Refusal → Type 0
Reads a r = map_answer step_in (answer_of r) ≡ a

-- the record at a place of the file: the board's at the beginning, a later one elsewhere
abbrev pub record_at : ℕ → Plot → List ℕ → Answer Step
record_at zero plot bytes = first_record bytes
record_at (suc at) plot bytes = later_record plot bytes

-- a board with no tiles, and the step behind a board's record
abbrev pub board_only : Board → Plot
board_only board = record { board = board; tiles = [] }

abbrev pub start_at : Board × List ℕ → Step
start_at r = more (board_only r.0) r.1
