-- The definitions compute: 01's example file, small files for each refusal at each kind of place, plots with holes, and holes as records. Assumes nothing.
use Rattle.std.specs.Prelude.{Err, Ok, ◌≡◌, refl, true, false, ℕ, ◌+◌, ◌*◌, ◌^◌, replicate}
use mathlib.Core.List.{List, [], ◌∷◌, ◌++◌, map, flat_map}
use Rattle.refusal.specs.Refusal.{refused, given, refusal_of, value_or}
use Rattle.refusal.specs.declared.Refusal.TheVariants as R
use Rattle.cells.specs.declared.Cells.{Cells}
use Rattle.cells.specs.Set.{number}
use Rattle.board.specs.Board.{of_marks}
use Rattle.direction.specs.Direction.{rotate, reflect}
use Rattle.tiles.specs.Paths.{orbit, tiles_of}
use Rattle.cells.specs.Lists.{ascii}
use Rattle.plot_file.specs.PlotFile.{plot_in, ReadsPlot}
use Rattle.plot_file.specs.Records.{rb, Hole, ti, hole_bytes, file_of, is_hole, holed}

-- 01's example, "hexadecimal 52 42 02 02 4F 52 01 03 45 4E": the 2 by 2 board and the four tiles of the orbit of Right
worked : plot_in (0x52 ∷ 0x42 ∷ 0x02 ∷ 0x02 ∷ 0x4F ∷ 0x52 ∷ 0x01 ∷ 0x03 ∷ 0x45 ∷ 0x4E ∷ [])
    ≡ given (record { board = record { width = 2; height = 2; fixed = 0; laid = 0 }; tiles = orbit (3 ∷ []) })
unfolding plot_in rotate reflect
worked = refl

four_tiles : orbit (3 ∷ []) ≡ (3 ∷ []) ∷ (1 ∷ []) ∷ (2 ∷ []) ∷ (0 ∷ []) ∷ []
unfolding orbit rotate reflect
four_tiles = refl

-- a 1 by 1 board's record, and other records behind it
abbrev behind : List ℕ → List ℕ
behind rest = ascii "RB" ++ 1 ∷ 1 ∷ rest

-- "RB: width byte, height byte. LB and TB: n byte, scale byte": RB 3,2; LB 3,1; TB 1,2
board_records : map plot_in ((ascii "RB" ++ 3 ∷ 2 ∷ ascii "EN") ∷ (ascii "LB" ++ 3 ∷ 1 ∷ ascii "EN") ∷ (ascii "TB" ++ 1 ∷ 2 ∷ ascii "EN") ∷ [])
    ≡ given (record { board = record { width = 3; height = 2; fixed = 0; laid = 0 }; tiles = [] })
    ∷ given (record { board = record { width = 3; height = 2; fixed = 6; laid = 0 }; tiles = [] })
    ∷ given (record { board = record { width = 6; height = 4; fixed = 51 * (2 ^ 16 + 1); laid = 0 }; tiles = [] })
    ∷ []
unfolding plot_in
board_records = refl

-- no tiles; a tile that stands twice, and the single tile
no_tiles : plot_in (behind (ascii "EN")) ≡ given (record { board = record { width = 1; height = 1; fixed = 0; laid = 0 }; tiles = [] })
unfolding plot_in
no_tiles = refl

some_tiles : plot_in (behind (ascii "TI" ++ 1 ∷ 7 ∷ ascii "TI" ++ 1 ∷ 7 ∷ ascii "TI" ++ 0 ∷ ascii "EN"))
    ≡ given (record { board = record { width = 1; height = 1; fixed = 0; laid = 0 }; tiles = (7 ∷ []) ∷ (7 ∷ []) ∷ [] ∷ [] })
unfolding plot_in
some_tiles = refl

-- a path of 32 codes is read
longest_path : plot_in (behind (ascii "TI" ++ 32 ∷ replicate 32 7 ++ ascii "EN"))
    ≡ given (record { board = record { width = 1; height = 1; fixed = 0; laid = 0 }; tiles = replicate 32 7 ∷ [] })
unfolding plot_in
longest_path = refl

-- "1, the mark is cut or missing": no file; a cut mark, first and later; no mark behind the board
cut_mark : map plot_in ([] ∷ ascii "R" ∷ behind (ascii "E") ∷ behind [] ∷ []) ≡ refused 1 ∷ refused 1 ∷ refused 1 ∷ refused 1 ∷ []
unfolding plot_in
cut_mark = refl

-- "2, unknown mark", first and later
unknown_mark : map plot_in (ascii "XX" ∷ ascii "rb" ∷ ascii "AB" ∷ ascii "RA" ∷ behind (ascii "ET") ∷ []) ≡ refused 2 ∷ refused 2 ∷ refused 2 ∷ refused 2 ∷ refused 2 ∷ []
unfolding plot_in
unknown_mark = refl

-- "3, first record not a board": HO, TI, OR, EN, before their bodies are looked for
not_a_board : map plot_in (ascii "HO" ∷ ascii "TI" ∷ ascii "OR" ∷ ascii "EN" ∷ []) ≡ refused 3 ∷ refused 3 ∷ refused 3 ∷ refused 3 ∷ []
unfolding plot_in
not_a_board = refl

-- "or a later one a board": RB, LB, TB, before their bodies are looked for
later_board : map plot_in (behind (ascii "RB") ∷ behind (ascii "LB") ∷ behind (ascii "TB") ∷ []) ≡ refused 3 ∷ refused 3 ∷ refused 3 ∷ []
unfolding plot_in
later_board = refl

-- "1, length or body byte missing": of a board's body; the length byte; a code
missing_byte : map plot_in (ascii "RB" ∷ (ascii "RB" ++ 17 ∷ []) ∷ behind (ascii "TI") ∷ behind (ascii "OR" ++ 2 ∷ 3 ∷ []) ∷ [])
    ≡ refused 1 ∷ refused 1 ∷ refused 1 ∷ refused 1 ∷ []
unfolding plot_in
missing_byte = refl

-- a cut body is 1, also with a bad code in it
cut_before_codes : plot_in (behind (ascii "TI" ++ 2 ∷ 8 ∷ [])) ≡ refused 1
unfolding plot_in
cut_before_codes = refl

-- "but k over 32 is 5 before the k bytes are looked for"
too_long : plot_in (behind (ascii "TI" ++ 33 ∷ [])) ≡ refused 5
unfolding plot_in
too_long = refl

-- "4, board size": RB 0,5; RB 17,1; LB 17,1; TB 8,1
board_size : map plot_in ((ascii "RB" ++ 0 ∷ 5 ∷ []) ∷ (ascii "RB" ++ 17 ∷ 1 ∷ []) ∷ (ascii "LB" ++ 17 ∷ 1 ∷ []) ∷ (ascii "TB" ++ 8 ∷ 1 ∷ []) ∷ [])
    ≡ refused 4 ∷ refused 4 ∷ refused 4 ∷ refused 4 ∷ []
unfolding plot_in
board_size = refl

-- "5, direction code over 7"
bad_code : map plot_in (behind (ascii "TI" ++ 1 ∷ 8 ∷ []) ∷ behind (ascii "OR" ++ 2 ∷ 0 ∷ 255 ∷ []) ∷ []) ≡ refused 5 ∷ refused 5 ∷ []
unfolding plot_in
bad_code = refl

-- "6, the tiles would pass 64": 64 single tiles, and one more
too_many : plot_in (behind (flat_map (λ k. ascii "TI" ++ k ∷ []) (replicate 65 0))) ≡ refused 6
unfolding plot_in flat_map
too_many = refl

-- "3, a byte after EN"
byte_after_end : plot_in (behind (ascii "EN" ++ 0 ∷ [])) ≡ refused 3
unfolding plot_in
byte_after_end = refl

-- ---- holes: the buildings of request 2

-- the records of a hole and of a board
abbrev ho : ℕ → ℕ → List ℕ
ho row column = ascii "HO" ++ row ∷ column ∷ []

abbrev board3x1 : List ℕ
board3x1 = ascii "RB" ++ 3 ∷ 1 ∷ []

-- a shed: the cells (0, 1) and (1, 2) of a 3 by 2 board are fixed, bits 1 and 18
shed : plot_in (ascii "RB" ++ 3 ∷ 2 ∷ ho 0 1 ++ ho 1 2 ++ ascii "TI" ++ 0 ∷ ascii "EN")
    ≡ given (record { board = record { width = 3; height = 2; fixed = 2 ^ 1 + 2 ^ 18; laid = 0 }; tiles = [] ∷ [] })
unfolding plot_in
shed = refl

-- beside the marks of LB 3,1, the cells 1 and 2, and of TB 1,1, the cells 0 and 2; with no tile behind
holes_beside_marks : map plot_in ((ascii "LB" ++ 3 ∷ 1 ∷ ho 1 2 ++ ascii "EN") ∷ (ascii "TB" ++ 1 ∷ 1 ∷ ho 0 1 ++ ascii "EN") ∷ [])
    ≡ given (record { board = record { width = 3; height = 2; fixed = 6 + 2 ^ 18; laid = 0 }; tiles = [] })
    ∷ given (record { board = record { width = 3; height = 2; fixed = 5 + 2; laid = 0 }; tiles = [] })
    ∷ []
unfolding plot_in
holes_beside_marks = refl

-- the row stands first: HO 0,2 is a cell of the 3 by 1 board, HO 2,0 is none
row_first : map plot_in ((board3x1 ++ ho 0 2 ++ ascii "EN") ∷ (board3x1 ++ ho 2 0 ++ ascii "EN") ∷ [])
    ≡ given (record { board = record { width = 3; height = 1; fixed = 4; laid = 0 }; tiles = [] }) ∷ refused 15 ∷ []
unfolding plot_in
row_first = refl

-- a board with every cell fixed, also with tiles
all_fixed : map plot_in ((ascii "RB" ++ 2 ∷ 1 ∷ ho 0 0 ++ ho 0 1 ++ ascii "EN") ∷ behind (ho 0 0 ++ ascii "TI" ++ 1 ∷ 3 ∷ ascii "EN") ∷ [])
    ≡ given (record { board = record { width = 2; height = 1; fixed = 3; laid = 0 }; tiles = [] })
    ∷ given (record { board = record { width = 1; height = 1; fixed = 1; laid = 0 }; tiles = (3 ∷ []) ∷ [] })
    ∷ []
unfolding plot_in
all_fixed = refl

-- the last cell of the largest board, bit 255
last_cell : plot_in (ascii "RB" ++ 16 ∷ 16 ∷ ho 15 15 ++ ascii "EN") ≡ given (record { board = record { width = 16; height = 16; fixed = 2 ^ 255; laid = 0 }; tiles = [] })
unfolding plot_in
last_cell = refl

-- "an HO record after a tile is 3": behind TI and OR, also behind holes, with no body behind the mark and with a cell outside the board; behind one tile, four of an orbit, and two
hole_after_tile : map plot_in (behind (ascii "TI" ++ 0 ∷ ascii "HO") ∷ behind (ascii "OR" ++ 0 ∷ ascii "HO") ∷ behind (ho 0 0 ++ ascii "TI" ++ 0 ∷ ho 9 9) ∷ behind (ascii "OR" ++ 1 ∷ 3 ∷ ho 0 0) ∷ behind (ascii "TI" ++ 0 ∷ ascii "TI" ++ 0 ∷ ho 0 0) ∷ [])
    ≡ replicate 5 (refused 3)
unfolding plot_in rotate reflect
hole_after_tile = refl

-- a board behind a hole is 3
board_after_hole : plot_in (behind (ho 0 0 ++ ascii "RB")) ≡ refused 3
unfolding plot_in
board_after_hole = refl

-- "1, length or body byte missing": HO alone, or with one byte, whatever it is; also behind another hole
missing_hole_byte : map plot_in (behind (ascii "HO") ∷ behind (ascii "HO" ++ 0 ∷ []) ∷ behind (ascii "HO" ++ 255 ∷ []) ∷ behind (ho 0 0 ++ ascii "HO" ++ 0 ∷ []) ∷ [])
    ≡ refused 1 ∷ refused 1 ∷ refused 1 ∷ refused 1 ∷ []
unfolding plot_in
missing_hole_byte = refl

-- "15 when a cell is outside the board": a row, a column, and a column whose number would be that of a cell in the next row; no cell of the 0 by 0 board
hole_outside : map plot_in ((board3x1 ++ ho 1 0) ∷ (board3x1 ++ ho 0 3) ∷ (ascii "RB" ++ 16 ∷ 2 ∷ ho 0 16) ∷ (board3x1 ++ ho 255 255) ∷ (board3x1 ++ ho 128 0) ∷ (board3x1 ++ ho 0 128) ∷ (ascii "RB" ++ 0 ∷ 0 ∷ ho 0 0) ∷ [])
    ≡ replicate 7 (refused 15)
unfolding plot_in
hole_outside = refl

-- "or marked already": by a hole before it, next to it or not; by LB 3,1; by TB 1,1
hole_marked : map plot_in ((board3x1 ++ ho 0 1 ++ ho 0 1) ∷ (board3x1 ++ ho 0 1 ++ ho 0 2 ++ ho 0 1) ∷ (ascii "LB" ++ 3 ∷ 1 ∷ ho 0 1) ∷ (ascii "TB" ++ 1 ∷ 1 ∷ ho 0 0) ∷ [])
    ≡ refused 15 ∷ refused 15 ∷ refused 15 ∷ refused 15 ∷ []
unfolding plot_in
hole_marked = refl

-- ---- holes as records

abbrev hole : ℕ → ℕ → Hole
hole row column = record { row = row; column = column }

-- HO, the row, the column
hole_bytes_lem : hole_bytes (hole 1 2) ≡ 0x48 ∷ 0x4F ∷ 1 ∷ 2 ∷ []
unfolding hole_bytes
hole_bytes_lem = refl

-- behind the board's record, before the tiles'
hole_in_file : file_of (rb 3 2) (hole 0 1 ∷ hole 1 2 ∷ []) (ti (7 ∷ []) ∷ [])
    ≡ 0x52 ∷ 0x42 ∷ 3 ∷ 2 ∷ 0x48 ∷ 0x4F ∷ 0 ∷ 1 ∷ 0x48 ∷ 0x4F ∷ 1 ∷ 2 ∷ 0x54 ∷ 0x49 ∷ 1 ∷ 7 ∷ 0x45 ∷ 0x4E ∷ []
unfolding file_of
hole_in_file = refl

-- the cells 1 and 18 are holes; the cells 16 and 33, with row and column exchanged, and the cells 0 and 17 are not
holes_cells : map (is_hole (hole 0 1 ∷ hole 1 2 ∷ [])) (1 ∷ 18 ∷ 16 ∷ 33 ∷ 0 ∷ 17 ∷ []) ≡ true ∷ true ∷ false ∷ false ∷ false ∷ false ∷ []
unfolding is_hole
holes_cells = refl

no_holes_cells : is_hole [] 0 ≡ false
unfolding is_hole
no_holes_cells = refl

-- beside the fixed marks, the cells 0 and 1; the size and the laid marks stay
holed_board : holed (record { width = 3; height = 2; fixed = 3; laid = 4 }) (hole 0 1 ∷ hole 1 2 ∷ []) ≡ record { width = 3; height = 2; fixed = 3 + 2 ^ 18; laid = 4 }
unfolding holed
holed_board = refl

-- ---- the answer of the code

-- no marks
abbrev none : Cells
none = record { w0 = 0; w1 = 0; w2 = 0; w3 = 0 }

-- board and tiles, and no refusal
read : ReadsPlot (plot_in (behind (ascii "TI" ++ 0 ∷ ascii "EN"))) (record { verdict = Ok tt; board = of_marks 1 1 none none; tiles = tiles_of ([] ∷ []) })
unfolding plot_in refusal_of value_or number
read = record { verdict = refl; board = refl; tiles = refl }

-- "A refusal hands back a 0 by 0 board and no tiles"
read_refused : ReadsPlot (plot_in (behind (ascii "EN" ++ 0 ∷ []))) (record { verdict = Err R.Misplaced; board = of_marks 0 0 none none; tiles = tiles_of [] })
unfolding plot_in refusal_of value_or number
read_refused = record { verdict = refl; board = refl; tiles = refl }

-- the cell of a hole is fixed; and "15 when a cell is outside the board"
read_hole : ReadsPlot (plot_in (behind (ho 0 0 ++ ascii "EN"))) (record { verdict = Ok tt; board = of_marks 1 1 (record { w0 = 1; w1 = 0; w2 = 0; w3 = 0 }) none; tiles = tiles_of [] })
unfolding plot_in refusal_of value_or number
read_hole = record { verdict = refl; board = refl; tiles = refl }

read_bad_hole : ReadsPlot (plot_in (behind (ho 1 0 ++ ascii "EN"))) (record { verdict = Err R.BadHole; board = of_marks 0 0 none none; tiles = tiles_of [] })
unfolding plot_in refusal_of value_or number
read_bad_hole = record { verdict = refl; board = refl; tiles = refl }
