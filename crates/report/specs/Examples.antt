-- Examples: the text of some files, byte for byte; the first is 01's. Rests on `Report`. Assumes nothing.
use Rattle.std.specs.Prelude.{◌≡◌, refl, ℕ, ◌≤◌, length, replicate}
use Rattle.std.proofs.Common.{sym, subst, arith}
use Rattle.std.proofs.Math.Bool.{So}
use mathlib.Core.List.Memᴰ.{eq_of_singleton}
use mathlib.Core.List.Memᴰ.{not-nil}
use mathlib.Core.List.{List, [], ◌∷◌, ◌++◌, map, flat_map}
use Rattle.std.specs.Prelude.{Some}
use Rattle.cells.specs.Lists.{padded, ascii}
use Rattle.direction.specs.Direction.{step, rotate, reflect}
use Rattle.tile.specs.Path.{Path, cell_count, codes_ok}
use Rattle.tile.specs.EdgeTest.{edge_joined, edge_joined_iff}
use Rattle.rectangle.specs.Board.{Board, free_at, is_free}
use Rattle.board.specs.Board.{new_board}
use Rattle.covers.specs.Counts.{Exactly}
use Rattle.expansion.specs.Plots.{IsCutting}
use Rattle.plot_file.specs.PlotFile.{Plot}
use Rattle.plot_file.specs.Records.{Hole, rb, TileRecord, ti, board_held, place, holed, directions, tiles_held, Holds}
use Rattle.layers.specs.LayerCounts.{layer_count_for}
use Rattle.tiler.specs.Graphs.{Graph, graph_for}
use Rattle.report.specs.Report.{with_equal_tiles, plot_layers, plot_graph, listed, digits, decimal, graph_line, report, WritesReport}
use Rattle.report.specs.Theorems.{holes_layers}

-- "For hexadecimal 52 42 02 02 4F 52 01 03 45 4E it prints exactly": the marks are RB, OR and EN; the line `cuttings 2` is 02's, from its request 3
pub worked_example : report (0x52 ∷ 0x42 ∷ 2 ∷ 2 ∷ 0x4F ∷ 0x52 ∷ 1 ∷ 3 ∷ 0x45 ∷ 0x4E ∷ [])
    ≡ ascii "board 2 2 free 4\ntiles 4\nlayers 2\ncuttings 2\ngraph 2 nodes 4 edges 4\ntiling 0: 0 1 3\ntiling 1: 0 2 3\n"
unfolding report ascii step rotate reflect
worked_example = refl

-- "A refused file prints `refused` and its number"
pub no_bytes : report [] ≡ ascii "refused 1\n"
unfolding report ascii
no_bytes = refl

-- an unknown mark
pub unknown_mark : report (0x52 ∷ 0x43 ∷ []) ≡ ascii "refused 2\n"
unfolding report ascii
unknown_mark = refl

-- "A refused count prints" its refusal "in its line's place": the single tile and Right have different numbers of cells
pub refused_counts : report (0x52 ∷ 0x42 ∷ 1 ∷ 1 ∷ 0x54 ∷ 0x49 ∷ 0 ∷ 0x54 ∷ 0x49 ∷ 1 ∷ 3 ∷ 0x45 ∷ 0x4E ∷ [])
    ≡ ascii "board 1 1 free 1\ntiles 2\nlayers refused 7\ncuttings refused 7\ngraph refused 7\n"
unfolding report ascii step
refused_counts = refl

-- no tiles: no tiling
pub no_tiles : report (0x52 ∷ 0x42 ∷ 2 ∷ 2 ∷ 0x45 ∷ 0x4E ∷ []) ≡ ascii "board 2 2 free 4\ntiles 0\nlayers 0\ncuttings 0\ngraph 0 nodes 1 edges 0\n"
unfolding report ascii
no_tiles = refl

-- LB 3,1 and dominoes, one of 01's known plots: 3 by 2 with two fixed marks
pub l_board_lem : report (0x4C ∷ 0x42 ∷ 3 ∷ 1 ∷ 0x4F ∷ 0x52 ∷ 1 ∷ 3 ∷ 0x45 ∷ 0x4E ∷ [])
    ≡ ascii "board 3 2 free 4\ntiles 4\nlayers 1\ncuttings 1\ngraph 1 nodes 3 edges 2\ntiling 0: 0 1 2\n"
unfolding report ascii step rotate reflect
l_board_lem = refl

-- 02, request 2: RB 3,3 with a hole at row 1, column 1 (HO) and dominoes, which lie round it in two ways
pub shed : report (0x52 ∷ 0x42 ∷ 3 ∷ 3 ∷ 0x48 ∷ 0x4F ∷ 1 ∷ 1 ∷ 0x4F ∷ 0x52 ∷ 1 ∷ 3 ∷ 0x45 ∷ 0x4E ∷ [])
    ≡ ascii "board 3 3 free 8\ntiles 4\nlayers 2\ncuttings 2\ngraph 2 nodes 8 edges 8\ntiling 0: 0 1 3 5 7\ntiling 1: 0 2 4 6 7\n"
unfolding report ascii step rotate reflect
shed = refl

-- "A plot whose cells are all fixed is now possible and counts 0": RB 2,1 with both cells built over. 02, request 3: "1 for a board with no free cell"
pub all_fixed : report (0x52 ∷ 0x42 ∷ 2 ∷ 1 ∷ 0x48 ∷ 0x4F ∷ 0 ∷ 0 ∷ 0x48 ∷ 0x4F ∷ 0 ∷ 1 ∷ 0x54 ∷ 0x49 ∷ 1 ∷ 3 ∷ 0x45 ∷ 0x4E ∷ [])
    ≡ ascii "board 2 1 free 0\ntiles 1\nlayers 0\ncuttings 1\ngraph 0 nodes 1 edges 0\n"
unfolding report ascii step
all_fixed = refl

-- a board of 0 by 0, with no tiles
pub no_cells : report (0x52 ∷ 0x42 ∷ 0 ∷ 0 ∷ 0x45 ∷ 0x4E ∷ []) ≡ ascii "board 0 0 free 0\ntiles 0\nlayers 0\ncuttings 1\ngraph 0 nodes 1 edges 0\n"
unfolding report ascii
no_cells = refl

-- "that call's refusals come first in either case": RB 1,1 built over, with the single tile and Right
pub full_refused : report (0x52 ∷ 0x42 ∷ 1 ∷ 1 ∷ 0x48 ∷ 0x4F ∷ 0 ∷ 0 ∷ 0x54 ∷ 0x49 ∷ 0 ∷ 0x54 ∷ 0x49 ∷ 1 ∷ 3 ∷ 0x45 ∷ 0x4E ∷ [])
    ≡ ascii "board 1 1 free 0\ntiles 2\nlayers refused 7\ncuttings refused 7\ngraph refused 7\n"
unfolding report ascii step
full_refused = refl

-- a hole outside the board
pub outside : report (0x52 ∷ 0x42 ∷ 2 ∷ 1 ∷ 0x48 ∷ 0x4F ∷ 1 ∷ 0 ∷ 0x45 ∷ 0x4E ∷ []) ≡ ascii "refused 15\n"
unfolding report ascii
outside = refl

-- ---- the conditions of the theorems about holes can be met: RB 3,1 with HO 0,2 and TI Right

abbrev outline : Board
outline = record { width = 3; height = 1; fixed = 0; laid = 0 }

abbrev holes : List Hole
holes = record { row = 0; column = 2 } ∷ []

abbrev right : List TileRecord
right = ti (3 ∷ []) ∷ []

abbrev small : Plot
small = record { board = record { width = 3; height = 1; fixed = 4; laid = 0 }; tiles = (3 ∷ []) ∷ [] }

small_held : Holds (rb 3 1) holes right small
unfolding board_held new_board free_at holed flat_map tiles_held codes_ok
small_held = record {
  outline = outline;
  size = refl;
  free = λ hole m. subst (λ (h : Hole). So (free_at outline (place h))) (sym (eq_of_singleton m)) refl;
  once = (λ m. not-nil m, tt);
  fixes = refl;
  paths = λ t m. subst (λ (u : TileRecord). (length (directions u) ≤ 32) × So (codes_ok (directions u))) (sym (eq_of_singleton m)) (omega arith, refl);
  few = omega arith;
  all = refl;
}

-- the one cutting of what is left, two cells
small_cutting : Exactly 1 (IsCutting (holed outline holes) (flat_map tiles_held right))
unfolding small_held plot_layers holed is_free flat_map tiles_held edge_joined cell_count step
small_cutting =
    holes_layers (rb 3 1) holes right small small_held (0, refl)
    (λ path m. (edge_joined_iff path).0 (subst (λ (q : Path). So (edge_joined q)) (sym (eq_of_singleton m)) refl)) 1 refl

-- ---- the parts of a line

-- the decimal digits of numbers of one digit and more
decimals : map decimal (0 ∷ 9 ∷ 10 ∷ 11 ∷ 99 ∷ 1024 ∷ []) ≡ ascii "0" ∷ ascii "9" ∷ ascii "10" ∷ ascii "11" ∷ ascii "99" ∷ ascii "1024" ∷ []
unfolding decimal ascii
decimals = refl

-- the largest count has 20 digits; where one digit is asked for it is the last
some_digits : (digits 19 18446744073709551615 ≡ ascii "18446744073709551615") × (digits 0 19 ≡ ascii "9")
unfolding digits ascii
some_digits = (refl, refl)

-- a graph of three nodes, two counts and one edge, whose full node has so many paths
abbrev graph : ℕ → Graph
graph n = record { nodes = 0 ∷ 1 ∷ 3 ∷ []; counts = 1 ∷ n ∷ []; edges = (0, 1) ∷ []; complete = Some 1 }

-- its line: "graph count, nodes, edges"
its_line : graph_line (graph 17) ≡ ascii "graph 17 nodes 3 edges 1\n"
unfolding graph_line ascii
its_line = refl

-- "the first 16 tilings, or all if there are fewer"
first_16 : map (λ n. listed (graph n)) (20 ∷ 16 ∷ 3 ∷ 0 ∷ []) ≡ 16 ∷ 16 ∷ 3 ∷ 0 ∷ []
unfolding listed
first_16 = refl

-- "512 boards a layer, 1,024 nodes, 4,096 edges": which room is which, of every plot
rooms : (plot : Plot) → (plot_layers plot ≡ with_equal_tiles plot (layer_count_for plot.board plot.tiles 512)) × (plot_graph plot ≡ with_equal_tiles plot (graph_for plot.board plot.tiles 1024 4096))
unfolding plot_layers plot_graph
rooms plot = (refl, refl)

-- ---- what `write_report` leaves in bytes that held 7

-- the text, zeros behind
left : WritesReport [] (replicate 12 7) (ascii "refused 1\n" ++ 0 ∷ 0 ∷ []) 10
unfolding report ascii padded
left = record { bytes = refl; number = refl }

-- as much as there is room for
left_cut : WritesReport [] (replicate 3 7) (ascii "ref") 3
unfolding report ascii padded
left_cut = record { bytes = refl; number = refl }
