-- The theorems about the text that the program `plot` prints: how long it is at most, how many bytes of a file settle it, that its counts and its figure called
-- cuttings are the number of cuttings, also of a plot with holes, that its two counts agree, what its tiling lines list, and what is printed for a plot with no
-- free cell. The text is `report` of `Report`; its examples are in `Examples`. Each is said here in words and proved in `CountLaws`, `BuiltLaws`, `FitLaws`,
-- `PlotLaws`, `FullLaws` or tiler's `NumberLaws`. What stands in quotation marks is 01's, or where it is said so 02's. Assumes nothing.
use Rattle.std.specs.Prelude.{◌≡◌, refl, ◌↔◌, true, false, ℕ, ◌≤◌, ◌<◌, length, take}
use Rattle.std.proofs.Common.{sym, ap₂, ◌∙◌, subst, ⊎_elim, arith}
use Rattle.std.proofs.Math.Path.{ap}
use mathlib.Core.List.{List, [], ◌∷◌, ◌++◌, flat_map, Memᴰ as Mem}
use Rattle.std.specs.Prelude.{Some}
use Rattle.cells.specs.Lists.{ascii}
use Rattle.refusal.specs.Refusal.{Answer, refused, given}
use Rattle.tile.specs.Path.{Path}
use Rattle.tiles.specs.Paths.{equal_counts}
use Rattle.rectangle.specs.Board.{Board, is_full}
use Rattle.choice.specs.Choice.{count_of}
use Rattle.covers.specs.Counts.{Exactly, Numbering, Chain}
use Rattle.graph.proofs.GraphLaws.{take_padded}
use Rattle.tiler.specs.Graphs.{Graph, count_of_graph, node_list_of}
use Rattle.tiler.specs.Inner.{marked_pieces_of}
use Rattle.expansion.specs.Plots.{IsCutting, HasFreeCell, AllEdgeJoined}
use Rattle.tiler.specs.NumberLaws.{list_chain, list_below}
use Rattle.plot_file.specs.PlotFile.{Plot, plot_in}
use Rattle.plot_file.specs.Records.{BoardRecord, Hole, TileRecord, file_of, holed, tiles_held, Holds}
use Rattle.plot_file.proofs.Theorems.{accepted_iff, refusal_listed, accepted_plot, accepted_fixed, four_thousand_settle}
use Rattle.report.specs.Report.{plot_layers, plot_cuttings, plot_graph, listed, board_line, tiles_line, plot_lines, lines_for, report, WritesReport}
use Rattle.report.specs.FitLaws.{longest_text, refused_length, plot_length}
use Rattle.report.specs.CountLaws as Count
use Rattle.report.specs.BuiltLaws.{list_short}
use Rattle.report.specs.PlotLaws as P
use Rattle.report.specs.FullLaws.{full_lines, unequal_lines}
use Rattle.report.specs.PlotLaws.{AcceptedPlot}

-- ---- 1. Refusals

-- A layer count is refused by 7, 8 or 9,
pub layers_refused : (plot : Plot) (n : ℕ) → plot_layers plot ≡ refused n → (7 ≤ n) × (n ≤ 9)
layers_refused = Count.layers_refusals

-- the figure exactly where the layer count is, and by the same number,
pub cuttings_refused : (plot : Plot) (n : ℕ) → (plot_cuttings plot ≡ refused n) ↔ (plot_layers plot ≡ refused n)
cuttings_refused = Count.cuttings_alike

-- and a graph by 7, 8, 9 or 10.
pub graph_refused : (plot : Plot) (n : ℕ) → plot_graph plot ≡ refused n → (7 ≤ n) × (n ≤ 10)
graph_refused = Count.graph_refusals

-- a number below the count, of which a tiling line is printed
below_count : (g : Graph) (m : ℕ) → m < listed g → m < count_of_graph g
unfolding listed
below_count g m h = omega arith

chain_some : (R : ℕ → ℕ → Type 0) (a b : ℕ) (xs : List ℕ) → Chain R a b xs → 1 ≤ length xs
chain_some R a b [] c = absurd c
chain_some R a b (x ∷ xs) c = omega arith

accepted : (file : List ℕ) (plot : Plot) → plot_in file ≡ given plot → AcceptedPlot plot
accepted file plot is =
    let r = accepted_plot file plot is in record { board = r.0; laid = r.1; fixed = accepted_fixed file plot is; few = r.2; storable = r.3 }

-- ---- 2. The text

-- No text is longer than `longest_text` bytes.
pub report_fits : (file : List ℕ) → length (report file) ≤ longest_text
unfolding report lines_for
report_fits file = go (plot_in file) refl
  where
    go : (a : Answer Plot) → plot_in file ≡ a → length (lines_for a) ≤ longest_text
    go (refused n) is = omega (arith, refused_length n (⊎_elim (λ h. omega (arith, h.1)) (λ h. omega arith) (refusal_listed file n is)))
    go (given plot) is = plot_length plot (accepted file plot is)

-- So a call with as many bytes leaves the whole text in front of them, and tells its length.
pub report_whole : (file out out' : List ℕ) (r : ℕ) → WritesReport file out out' r → longest_text ≤ length out → (r ≡ length (report file)) × (take r out' ≡ report file)
report_whole file out out' r w room =
    let all : r ≡ length (report file) = omega (arith, report_fits file, w.number) in
    (all, ap₂ (λ (n : ℕ) (bytes : List ℕ). take n bytes) all w.bytes ∙ take_padded (report file) (length out) (omega (arith, report_fits file)))

-- "4,096 bytes are enough to settle any file": the text is that of the first 4,096 bytes.
pub report_settled : (file : List ℕ) → report (take 4096 file) ≡ report file
unfolding report
report_settled file = ap lines_for (four_thousand_settle file)

module _ (file : List ℕ) (plot : Plot) (is : plot_in file ≡ given plot) where
  ok : AcceptedPlot plot
  ok = accepted file plot is

  -- ---- 3. The counts. Demand 3's conditions: the board has a free cell, and every cell of a tile of two or more cells shares an edge with another of
  -- that tile

  -- The number in the line `layers N` is the number of cuttings.
  pub layers_are_cuttings : (n : ℕ) → plot_layers plot ≡ given n → HasFreeCell plot.board → AllEdgeJoined plot.tiles
      → Exactly n (IsCutting plot.board plot.tiles)
  layers_are_cuttings n e = P.layers_cuttings plot ok n e

  -- 02, request 3: "Against exact covers, cuttings needs no free cell any more": the number in the line `cuttings N` is the number of cuttings whether a cell is free
  -- or not.
  pub cuttings_are_cuttings : (n : ℕ) → plot_cuttings plot ≡ given n → AllEdgeJoined plot.tiles → Exactly n (IsCutting plot.board plot.tiles)
  cuttings_are_cuttings n e = P.figure_cuttings plot ok n e

  -- Where a cell is free it is the layer count,
  pub cuttings_are_layers : HasFreeCell plot.board → plot_cuttings plot ≡ plot_layers plot
  cuttings_are_layers = P.figure_free plot ok

  -- and where it differs from it no cell is free: the line is `cuttings 1` behind `layers 0`.
  pub cuttings_differ : (plot_cuttings plot ≡ plot_layers plot → ⊥) → (is_full plot.board ≡ true) × (plot_layers plot ≡ given 0) × (plot_cuttings plot ≡ given 1)
  cuttings_differ = P.figure_differs plot ok

  module _ (g : Graph) (made : plot_graph plot ≡ given g) where
    -- The number behind `graph` is the number of cuttings, under the conditions of the layer count.
    pub graph_count_is_cuttings : HasFreeCell plot.board → AllEdgeJoined plot.tiles
        → Exactly (count_of_graph g) (IsCutting plot.board plot.tiles)
    graph_count_is_cuttings free joined = (marked_pieces_of g, P.lists_cuttings plot ok g made free joined)

    -- Both numbers agree where neither count is refused, whatever the board and the tiles.
    pub counts_agree : (n : ℕ) → plot_layers plot ≡ given n → count_of_graph g ≡ n
    counts_agree n e = P.counts_same plot ok g made n e

    -- ---- 4. The tiling lines

    -- The numbers below the graph's count number the cuttings: the pieces that the steps of the list of a number mark (`marked_pieces_of`) are a cutting, two numbers
    -- never give the same, and every cutting has its number. So the tiling lines are different cuttings, and all of them where there are at most 16.
    pub tilings_are_cuttings : HasFreeCell plot.board → AllEdgeJoined plot.tiles
        → Numbering (IsCutting plot.board plot.tiles) (count_of_graph g) (marked_pieces_of g)
    tilings_are_cuttings = P.lists_cuttings plot ok g made

    module _ (m : ℕ) (line : m < listed g) where
      -- A line's list begins at node 0, goes from each node to the next over an edge, and ends at the full node,
      pub list_is_chain : (v : ℕ) × (g.complete ≡ Some v) × Chain (λ p c. Mem (p, c) g.edges) 0 v (node_list_of g m)
      list_is_chain = P.of_graph plot ok g made (λ b f l ts x y z is. list_chain b f l ts x y z g is m (below_count g m line))

      -- has at least one node and at most 257,
      pub list_has_node : 1 ≤ length (node_list_of g m)
      list_has_node = let c = list_is_chain in chain_some (λ p c. Mem (p, c) g.edges) 0 c.0 (node_list_of g m) c.2

      pub list_has_few_nodes : length (node_list_of g m) ≤ 257
      list_has_few_nodes = P.of_graph plot ok g made (λ b f l ts x y z is. list_short b f l ts x y z g is m (below_count g m line))

      -- and its nodes are the graph's.
      pub list_in_graph : (v : ℕ) → Mem v (node_list_of g m) → v < length g.nodes
      list_in_graph = P.of_graph plot ok g made (λ b f l ts x y z is. list_below b f l ts x y z g is m (below_count g m line))

  -- ---- 5. A plot with no free cell

  -- 02, request 2: "A plot whose cells are all fixed is now possible and counts 0": by both counts, with one node, no edge and no tiling line, where the tiles have
  -- one number of cells; and its figure is 1;
  pub full_report : is_full plot.board ≡ true → equal_counts plot.tiles ≡ true
      → report file ≡ board_line plot ++ tiles_line plot ++ ascii "layers 0\ncuttings 1\ngraph 0 nodes 1 edges 0\n"
  unfolding report lines_for
  full_report full equal = ap lines_for is ∙ full_lines plot ok full equal

  -- else all three are refused by 7, as of every board.
  pub unequal_report : equal_counts plot.tiles ≡ false → report file ≡ board_line plot ++ tiles_line plot ++ ascii "layers refused 7\ncuttings refused 7\ngraph refused 7\n"
  unfolding report lines_for
  unequal_report unequal = ap lines_for is ∙ unequal_lines plot unequal

-- ---- 6. Plots with holes. 02, request 2: "The two counts and the numbered cuttings hold for such plots under the same conditions as for plain ones". Said of the
-- records of a file: `holed` is the board record's board with the cells of the holes fixed too

module _ (board : BoardRecord) (holes : List Hole) (tiles : List TileRecord) (plot : Plot) (h : Holds board holes tiles plot) where
  read : plot_in (file_of board holes tiles) ≡ given plot
  read = (accepted_iff (file_of board holes tiles) plot).1 (board, holes, tiles, refl, h)

  -- The text is that of the plot that the records hold.
  pub holes_report : report (file_of board holes tiles) ≡ plot_lines plot
  unfolding report lines_for
  holes_report = ap lines_for read

  -- "Neighbour counts ignore these cells, as they do for LB and TB": those of the plot are those of the board record's board.
  pub holes_uncounted : (cell : ℕ) → count_of plot.board cell ≡ count_of h.outline cell
  unfolding holed
  holes_uncounted cell = ap (λ (b : Board). count_of b cell) h.fixes

  joined_there : AllEdgeJoined (flat_map tiles_held tiles) → AllEdgeJoined plot.tiles
  joined_there = subst AllEdgeJoined (sym h.all)

  -- what is known of so many cuttings of the plot is known of those of that board by the tiles of the tile records
  of_records : (n : ℕ) → Exactly n (IsCutting plot.board plot.tiles) → Exactly n (IsCutting (holed h.outline holes) (flat_map tiles_held tiles))
  of_records n e =
      subst (λ (ts : List Path). Exactly n (IsCutting (holed h.outline holes) ts)) h.all (subst (λ (b : Board). Exactly n (IsCutting b plot.tiles)) h.fixes e)

  -- The number in the line `cuttings N` is the number of cuttings of that board by the tiles of the tile records, also where the holes leave no cell free.
  pub holes_cuttings : AllEdgeJoined (flat_map tiles_held tiles) → (n : ℕ) → plot_cuttings plot ≡ given n
      → Exactly n (IsCutting (holed h.outline holes) (flat_map tiles_held tiles))
  holes_cuttings joined n e = of_records n (cuttings_are_cuttings (file_of board holes tiles) plot read n e (joined_there joined))

  module _ (free : HasFreeCell (holed h.outline holes)) (joined : AllEdgeJoined (flat_map tiles_held tiles)) where
    free_there : HasFreeCell plot.board
    free_there = subst HasFreeCell (sym h.fixes) free

    -- Where a cell is left free the number in the line `layers N` is,
    pub holes_layers : (n : ℕ) → plot_layers plot ≡ given n → Exactly n (IsCutting (holed h.outline holes) (flat_map tiles_held tiles))
    holes_layers n e = of_records n (layers_are_cuttings (file_of board holes tiles) plot read n e free_there (joined_there joined))

    -- the numbers below the graph's count number these cuttings,
    pub holes_tilings : (g : Graph) → plot_graph plot ≡ given g
        → Numbering (IsCutting (holed h.outline holes) (flat_map tiles_held tiles)) (count_of_graph g) (marked_pieces_of g)
    holes_tilings g made =
        subst (λ (ts : List Path). Numbering (IsCutting (holed h.outline holes) ts) (count_of_graph g) (marked_pieces_of g)) h.all
        (subst (λ (b : Board). Numbering (IsCutting b plot.tiles) (count_of_graph g) (marked_pieces_of g)) h.fixes
        (tilings_are_cuttings (file_of board holes tiles) plot read g made free_there (joined_there joined)))

    -- and so the graph's count is their number too.
    pub holes_graph : (g : Graph) → plot_graph plot ≡ given g → Exactly (count_of_graph g) (IsCutting (holed h.outline holes) (flat_map tiles_held tiles))
    holes_graph g made = (marked_pieces_of g, holes_tilings g made)
