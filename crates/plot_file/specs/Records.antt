-- Definitions: the records of a file as data, their bytes, and the file that some records make. The theorems say that the accepted files are the
-- files of records whose board, holes and tiles are accepted (`accepted_iff`), and that a file is so in one way (`file_once`). What stands in quotation
-- marks is 01's, or, of HO, 02's, from its request 2. Assumes nothing.
use Rattle.std.specs.Prelude.{◌≡◌, Bool, ℕ, ◌≤◌, eqb, pos, length}
use Rattle.std.proofs.Math.Bool.{So}
use mathlib.Core.List.{List, [], ◌∷◌, ◌++◌, flat_map, Memᴰ as Mem}
use Rattle.cells.specs.Set.{set_of, union_of}
use Rattle.cells.specs.FirstsLaws.{Once}
use Rattle.refusal.specs.Refusal.{Answer, given}
use Rattle.tile.specs.Path.{Path, codes_ok}
use Rattle.tiles.specs.Paths.{orbit}
use Rattle.direction.specs.Direction.{Position, at}
use Rattle.rectangle.specs.Board.{Board, cell_of, free_at}
use Rattle.board.specs.Board.{new_board, l_board, t_board}
use Rattle.cells.specs.Lists.{any, ascii}
use Rattle.plot_file.specs.PlotFile.{Plot}

-- "One board record (RB, LB, TB) stands first", of two bytes
pub data BoardRecord : Type 0 where
  rb : ℕ → ℕ → BoardRecord
  lb : ℕ → ℕ → BoardRecord
  tb : ℕ → ℕ → BoardRecord

-- "any number of HO records […], each with a row byte and a column byte"
pub record Hole : Type 0 where
  pub row : ℕ
  pub column : ℕ

-- "then any number of TI and OR", of the directions of a tile
pub data TileRecord : Type 0 where
  ti : Path → TileRecord
  or : Path → TileRecord

-- ---- their bytes

unfoldable pub board_bytes : BoardRecord → List ℕ
unfolding ascii
board_bytes (rb a b) = ascii "RB" ++ a ∷ b ∷ []
board_bytes (lb a b) = ascii "LB" ++ a ∷ b ∷ []
board_bytes (tb a b) = ascii "TB" ++ a ∷ b ∷ []

unfoldable pub hole_bytes : Hole → List ℕ
unfolding ascii
hole_bytes hole = ascii "HO" ++ hole.row ∷ hole.column ∷ []

unfoldable pub tile_bytes : TileRecord → List ℕ
unfolding ascii
tile_bytes (ti path) = ascii "TI" ++ length path ∷ path
tile_bytes (or path) = ascii "OR" ++ length path ∷ path

-- "One board record (RB, LB, TB) stands first, then any number of TI and OR, none included, then EN"; "Directly after the board record any number of HO records
-- may stand"
unfoldable pub file_of : BoardRecord → List Hole → List TileRecord → List ℕ
unfolding board_bytes hole_bytes tile_bytes ascii flat_map
file_of board holes tiles = board_bytes board ++ flat_map hole_bytes holes ++ flat_map tile_bytes tiles ++ ascii "EN"

-- ---- what they hold

unfoldable pub board_held : BoardRecord → Answer Board
unfolding new_board l_board t_board
board_held (rb width height) = new_board width height
board_held (lb n scale) = l_board n scale
board_held (tb n scale) = t_board n scale

-- where a hole is, and whether a cell is one of some holes'
abbrev pub place : Hole → Position
place hole = at (pos hole.row) (pos hole.column)

unfoldable pub is_hole : List Hole → ℕ → Bool
unfolding any cell_of
is_hole holes cell = any (λ hole. eqb (cell_of (place hole)) cell) holes

-- the board with the cells of some holes fixed beside its own fixed marks
unfoldable pub holed : Board → List Hole → Board
unfolding set_of is_hole union_of
holed b holes = record { width = b.width; height = b.height; fixed = union_of b.fixed (set_of (is_hole holes)); laid = b.laid }

abbrev pub directions : TileRecord → Path
directions (ti path) = path
directions (or path) = path

-- the tiles stand in the order of the file, an orbit's in the orbit's order
unfoldable pub tiles_held : TileRecord → List Path
unfolding orbit
tiles_held (ti path) = path ∷ []
tiles_held (or path) = orbit path

-- records whose file is accepted, and the plot that they hold
pub record Holds (board : BoardRecord) (holes : List Hole) (tiles : List TileRecord) (plot : Plot) : Type 0 where
  pub outline : Board
  pub size : board_held board ≡ given outline
  pub free : (hole : Hole) → Mem hole holes → So (free_at outline (place hole))
  pub once : Once holes
  pub fixes : plot.board ≡ holed outline holes
  pub paths : (t : TileRecord) → Mem t tiles → (length (directions t) ≤ 32) × So (codes_ok (directions t))
  pub few : length plot.tiles ≤ 64
  pub all : plot.tiles ≡ flat_map tiles_held tiles

-- ---- how long files are

-- the bytes of the longest accepted file: 4 of the board's record, 4 of each of 256 holes' records, 35 of each of 64 tiles' records, and 2 of EN
abbrev pub longest_file : ℕ
longest_file = 3270

-- the bytes that settle any file: those of the longest file, with the first 35 of a further record in the place of EN
abbrev pub settled_by : ℕ
settled_by = 3303
