-- Definitions: the plot file, record by record, and what its reader answers. What stands in quotation marks is 01's, from its section The plot file, or, of HO, 02's,
-- from its request 2. The refusals of a record are tried in the order written there: mark, place, body, board, hole or tile. Assumes nothing.
use Rattle.std.specs.Prelude.{List, [], ◌∷◌, ◌++◌, ℕ, zero, suc, ◌≡◌, Bool, cond, ◌&&◌, eqb, leb, length, get_or, take, drop}
use Rattle.cells.specs.Lists.{ascii}
use Rattle.refusal.specs.Refusal.{Answer, refused, given, map_answer, bind_answer, refusal_of, value_or, verdict_number}
use Rattle.tile.specs.Path.{Path, read_path}
use Rattle.tiles.specs.Paths.{orbit, tiles_of}
use Rattle.rectangle.specs.Board.{Board, no_board}
use Rattle.board.specs.Board.{board_of, new_board, l_board, t_board, with_hole}
use Rattle.plot_file.specs.declared.marks.Mark.{Mark}
use Rattle.plot_file.specs.declared.marks.Mark.TheVariants.{RB, LB, TB, HO, TI, OR, EN}
use Rattle.plot_file.specs.declared.MadePlot.{MadePlot}

-- what a file holds: "board and tiles"
pub record Plot : Type 0 where
  pub board : Board
  pub tiles : List Path

-- "A refusal hands back a 0 by 0 board and no tiles"
abbrev pub no_plot : Plot
no_plot = record { board = no_board; tiles = [] }

-- ---- marks: "each after a two-byte ASCII mark"

-- the two bytes of a mark
unfoldable pub letters : Mark → List ℕ
unfolding ascii
letters RB = ascii "RB"
letters LB = ascii "LB"
letters TB = ascii "TB"
letters HO = ascii "HO"
letters TI = ascii "TI"
letters OR = ascii "OR"
letters EN = ascii "EN"

-- all marks
abbrev pub all_marks : List Mark
all_marks = RB ∷ LB ∷ TB ∷ HO ∷ TI ∷ OR ∷ EN ∷ []

-- whether two bytes are a mark's
unfoldable pub spells : Mark → ℕ → ℕ → Bool
unfolding letters
spells mark a b = eqb a (get_or (letters mark) 0 0) && eqb b (get_or (letters mark) 1 0)

-- the mark of two bytes, one of some: "2, unknown mark"
unfoldable pub mark_among : List Mark → ℕ → ℕ → Answer Mark
unfolding spells
mark_among [] a b = refused 2
mark_among (mark ∷ marks) a b = cond (spells mark a b) (given mark) (mark_among marks a b)

-- the mark that bytes begin with, and the bytes behind it: "1, the mark is cut or missing"
unfoldable pub read_mark : List ℕ → Answer (Mark × List ℕ)
unfolding mark_among map_answer
read_mark [] = refused 1
read_mark (a ∷ []) = refused 1
read_mark (a ∷ b ∷ rest) = map_answer (λ mark. (mark, rest)) (mark_among all_marks a b)

-- ---- bodies, each with the bytes behind it

-- two bytes that make a board: "1, length or body byte missing"; "4, board size", and of HO "15 […] in the place of 4 for that record"
unfoldable pub read_pair : (ℕ → ℕ → Answer Board) → List ℕ → Answer (Board × List ℕ)
unfolding map_answer
read_pair make [] = refused 1
read_pair make (a ∷ []) = refused 1
read_pair make (a ∷ b ∷ rest) = map_answer (λ board. (board, rest)) (make a b)

-- "length byte k, then k direction bytes": "1, length or body byte missing (but k over 32 is 5 before the k bytes are looked for)"; "5, direction
-- code over 7"
unfoldable pub read_body : List ℕ → Answer (Path × List ℕ)
unfolding read_path map_answer
read_body [] = refused 1
read_body (k ∷ rest) =
    cond (leb k 32)
    (cond (leb k (length rest)) (map_answer (λ path. (path, drop k rest)) (read_path (take k rest))) (refused 1))
    (refused 5)

-- ---- records

-- what a record leaves: the plot with what it adds and the bytes behind it, or, at EN, the whole plot
pub data Step : Type 0 where
  more : Plot → List ℕ → Step
  ended : Plot → Step

-- "RB: width byte, height byte. LB and TB: n byte, scale byte"; "3, first record not a board"
unfoldable pub board_body : Mark → List ℕ → Answer (Board × List ℕ)
unfolding read_pair new_board l_board t_board
board_body RB bytes = read_pair new_board bytes
board_body LB bytes = read_pair l_board bytes
board_body TB bytes = read_pair t_board bytes
board_body HO bytes = refused 3
board_body TI bytes = refused 3
board_body OR bytes = refused 3
board_body EN bytes = refused 3

-- "One board record (RB, LB, TB) stands first"
unfoldable pub first_record : List ℕ → Answer Step
unfolding read_mark board_body bind_answer map_answer
first_record bytes =
    bind_answer (read_mark bytes) (λ m. map_answer (λ r. more (record { board = r.0; tiles = [] }) r.1) (board_body m.0 m.1))

-- "Directly after the board record any number of HO records may stand, each with a row byte and a column byte"; "an HO record after a tile is 3"
unfoldable pub hole_body : Plot → List ℕ → Answer Step
unfolding read_pair with_hole map_answer
hole_body plot bytes =
    cond (eqb (length plot.tiles) 0)
    (map_answer (λ r. more (record { board = r.0; tiles = plot.tiles }) r.1) (read_pair (with_hole plot.board) bytes))
    (refused 3)

-- "6, the tiles would pass 64"
unfoldable pub add_tiles : Plot → List Path → Answer Plot
add_tiles plot paths =
    cond (leb (length (plot.tiles ++ paths)) 64) (given record { board = plot.board; tiles = plot.tiles ++ paths }) (refused 6)

-- a record of a tile, which stands for some tiles
unfoldable pub tile_body : (Path → List Path) → Plot → List ℕ → Answer Step
unfolding read_body add_tiles bind_answer map_answer
tile_body tiles plot bytes = bind_answer (read_body bytes) (λ r. map_answer (λ p. more p r.1) (add_tiles plot (tiles r.0)))

-- "EN: no body, ends the file"; "3, a byte after EN"
unfoldable pub end_body : Plot → List ℕ → Answer Step
end_body plot [] = given (ended plot)
end_body plot (byte ∷ bytes) = refused 3

-- "then any number of TI and OR, none included, then EN"; "3, […] a later one a board". OR: "the same body, standing for the tile's whole orbit"
unfoldable pub later_body : Mark → Plot → List ℕ → Answer Step
unfolding hole_body tile_body end_body orbit
later_body RB plot bytes = refused 3
later_body LB plot bytes = refused 3
later_body TB plot bytes = refused 3
later_body HO plot bytes = hole_body plot bytes
later_body TI plot bytes = tile_body (λ path. path ∷ []) plot bytes
later_body OR plot bytes = tile_body orbit plot bytes
later_body EN plot bytes = end_body plot bytes

-- a record behind the first: its mark, then its body
unfoldable pub later_record : Plot → List ℕ → Answer Step
unfolding read_mark later_body bind_answer
later_record plot bytes = bind_answer (read_mark bytes) (λ m. later_body m.0 plot m.1)

-- ---- the file: "a run of records"

-- on to the next record, which `next` reads, or to the end
unfoldable pub onward : (Plot → List ℕ → Answer Plot) → Answer Step → Answer Plot
onward next (refused n) = refused n
onward next (given (more plot bytes)) = next plot bytes
onward next (given (ended plot)) = given plot

-- the records behind the board's, at most n of them. A record has two bytes or more, so that as many records as there are bytes are enough
-- (`records_enough`)
unfoldable pub records : ℕ → Plot → List ℕ → Answer Plot
unfolding onward later_record
records zero plot bytes = refused 1
records (suc n) plot bytes = onward (records n) (later_record plot bytes)

-- the plot that a file holds, or the refusal
unfoldable pub plot_in : List ℕ → Answer Plot
unfolding onward first_record records
plot_in file = onward (records (length file)) (first_record file)

-- ---- the answer of the code

-- `read_plot`: the refusal's number, 0 for none, the board and the tiles
pub record ReadsPlot (a : Answer Plot) (r : MadePlot) : Type 0 where
  pub verdict : verdict_number r.verdict ≡ refusal_of a
  pub board : board_of r.board ≡ (value_or no_plot a).board
  pub tiles : r.tiles ≡ tiles_of (value_or no_plot a).tiles
