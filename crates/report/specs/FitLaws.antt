-- Laws of the lengths of lines: how many bytes each line of the text has at most, and the whole text of a plot. Rests on `DecimalLaws`, `BuiltLaws`, `PlotLaws` and
-- tiler's `NumberLaws`. Assumes nothing.
use Rattle.std.specs.Prelude.{◌≡◌, refl, ℕ, suc, ◌+◌, ◌*◌, ◌^◌, ◌≤◌, ◌<◌, length}
use Rattle.std.proofs.Common.{sym, subst, lt_of_lt_of_le, le_trans, lit≤}
use mathlib.Core.List.Memᴰ.{head as here}
use mathlib.Core.List.Memᴰ.{tail as there}
use mathlib.Core.List.{List, [], ◌∷◌, ◌++◌, flat_map, Memᴰ as Mem}
use Prim.Native.String.{String}
use native.Mathlib.Omega.{arith}
use Rattle.std.proofs.Math.ListN.{length-append}
use Rattle.cells.specs.Lists.{list_of, ascii}
use Rattle.cells.specs.ArrayLaws.{length_list_of}
use Rattle.cells.specs.MemberLaws.{mem_list_of}
use Rattle.refusal.specs.Refusal.{Answer, refused, given}
use Rattle.rectangle.specs.Board.{free_count}
use Rattle.rectangle.proofs.FreeLaws.{free_le}
use Rattle.rectangle.proofs.BoardLaws.{valid_width, valid_height}
use Rattle.tiler.specs.Graphs.{Graph, count_of_graph, node_list_of}
use Rattle.tiler.specs.NumberLaws.{graph_count_small, list_below}
use Rattle.path_count.specs.PathCounts.{count_limit}
use Rattle.plot_file.specs.PlotFile.{Plot}
use Rattle.report.specs.Report.{plot_layers, plot_cuttings, plot_graph, listed, decimal, field, feed, refused_line, board_line, tiles_line, layers_line, cuttings_line, graph_line, tiling_line, graph_lines, plot_lines}
use Rattle.report.specs.DecimalLaws.{decimal_length}
use Rattle.report.specs.CountLaws.{layers_refusals, cuttings_refusals, graph_refusals}
use Rattle.report.specs.BuiltLaws.{list_short}
use Rattle.report.specs.PlotLaws.{AcceptedPlot, layers_fit, cuttings_fit, of_graph, nodes_few, edges_few}

-- no text has more bytes: the board's line has at most 21, the tiles' 9, the layers' 28, the figure's 30, the graph's 49, and each of 16 tiling lines 1,296
-- ("tiling ", two digits, ":", 257 times a blank and four digits, and the line feed)
abbrev pub longest_text : ℕ
longest_text = 20873

-- ---- numbers and fields

field_length : (words : String) (k n : ℕ) → n < 10 ^ suc k → length (field words n) ≤ length (ascii words) + suc k
unfolding field
field_length words k n h = omega (arith, length-append (ascii words) (decimal n), decimal_length k n h)

-- ---- lines

-- a refusal's number has one or two digits
refusal_length : (words : String) (n : ℕ) → n < 100 → length (field words n ++ feed) ≤ length (ascii words) + 3
unfolding feed ascii
refusal_length words n h = omega (arith, length-append (field words n) feed, field_length words 1 n h)

pub refused_length : (n : ℕ) → n < 100 → length (refused_line n) ≤ 11
unfolding refused_line ascii
refused_length n h = refusal_length "refused " n h

three_fields : (w h f : ℕ) → w ≤ 16 → h ≤ 16 → f ≤ 256 → length (field "board " w ++ field " " h ++ field " free " f ++ feed) ≤ 21
unfolding feed ascii
three_fields w h f a b c =
    simp length-append
    (omega (arith, field_length "board " 1 w (omega arith), field_length " " 1 h (omega arith), field_length " free " 2 f (omega arith)))

pub board_length : (plot : Plot) → AcceptedPlot plot → length (board_line plot) ≤ 21
unfolding board_line
board_length plot ok =
    three_fields plot.board.width plot.board.height (free_count plot.board) (valid_width plot.board ok.board) (valid_height plot.board ok.board)
    (free_le plot.board)

pub tiles_length : (plot : Plot) → AcceptedPlot plot → length (tiles_line plot) ≤ 9
unfolding tiles_line feed ascii
tiles_length plot ok =
    let few = ok.few in
    omega (arith, length-append (field "tiles " (length plot.tiles)) feed, field_length "tiles " 1 (length plot.tiles) (omega arith))

-- a count below the limit has at most 20 digits
count_length : (words : String) (n : ℕ) → n < count_limit → length (field words n ++ feed) ≤ length (ascii words) + 21
unfolding feed ascii
count_length words n h = omega (arith, length-append (field words n) feed, field_length words 19 n (lt_of_lt_of_le h (lit≤ tt)))

pub layers_length : (plot : Plot) → AcceptedPlot plot → length (layers_line (plot_layers plot)) ≤ 28
unfolding layers_line field ascii
layers_length plot ok = go (plot_layers plot) refl
  where
    go : (a : Answer ℕ) → plot_layers plot ≡ a → length (layers_line a) ≤ 28
    go (refused n) e = let few = (layers_refusals plot n e).1 in omega (arith, refusal_length "layers refused " n (omega arith))
    go (given n) e = omega (arith, count_length "layers " n (layers_fit plot ok n e))

pub cuttings_length : (plot : Plot) → AcceptedPlot plot → length (cuttings_line (plot_cuttings plot)) ≤ 30
unfolding cuttings_line field ascii
cuttings_length plot ok = go (plot_cuttings plot) refl
  where
    go : (a : Answer ℕ) → plot_cuttings plot ≡ a → length (cuttings_line a) ≤ 30
    go (refused n) e = let few = (cuttings_refusals plot n e).1 in omega (arith, refusal_length "cuttings refused " n (omega arith))
    go (given n) e = omega (arith, count_length "cuttings " n (cuttings_fit plot ok n e))

flat_map_length : {A B : Type 0} (f : A → List B) (k : ℕ) (xs : List A) → ((x : A) → Mem x xs → length (f x) ≤ k) → length (flat_map f xs) ≤ length xs * k
unfolding flat_map
flat_map_length f k [] h = omega arith
flat_map_length f k (x ∷ xs) h = omega (arith, length-append (f x) (flat_map f xs), h x (here refl), flat_map_length f k xs (λ y m. h y (there m)))

module _ (plot : Plot) (ok : AcceptedPlot plot) (g : Graph) (e : plot_graph plot ≡ given g) where
  pub graph_length : length (graph_line g) ≤ 49
  unfolding graph_line feed ascii
  graph_length =
      let nodes = nodes_few plot ok g e in
      let edges = edges_few plot ok g e in
      simp length-append
      (omega (
        arith,
        field_length "graph " 19 (count_of_graph g) (lt_of_lt_of_le (of_graph plot ok g e (λ b f l ts x y z made. graph_count_small b f l ts x y z g made)) (lit≤ tt)),
        field_length " nodes " 3 (length g.nodes) (omega arith),
        field_length " edges " 3 (length g.edges) (omega arith),
      ))

  -- a node of a list has at most four digits
  list_length : (m : ℕ) → m < count_of_graph g → length (flat_map (field " ") (node_list_of g m)) ≤ 1285
  unfolding ascii
  list_length m below =
      omega (
        arith,
        of_graph plot ok g e (λ b f l ts x y z made. list_short b f l ts x y z g made m below),
        flat_map_length (field " ") 5 (node_list_of g m)
            (λ v i. field_length " " 3 v (lt_of_lt_of_le (of_graph plot ok g e (λ b f l ts x y z made. list_below b f l ts x y z g made m below v i)) (le_trans (nodes_few plot ok g e) (lit≤ tt)))),
      )

  pub tiling_length : (m : ℕ) → m < listed g → length (tiling_line g m) ≤ 1296
  unfolding tiling_line listed feed ascii
  tiling_length m h =
      let list = list_length m (omega arith) in
      simp length-append (omega (arith, field_length "tiling " 1 m (omega arith)))

  tilings_length : length (flat_map (tiling_line g) (list_of (λ m. m) (listed g))) ≤ 20736
  unfolding listed
  tilings_length =
      omega (
        arith,
        length_list_of (λ m. m) (listed g),
        flat_map_length (tiling_line g) 1296 (list_of (λ m. m) (listed g))
            (λ m i. let r = (mem_list_of (λ m. m) (listed g) m).0 i in tiling_length m (subst (λ (k : ℕ). k < listed g) (sym r.2) r.1)),
      )

  lines_length : length (graph_lines (given g)) ≤ 20785
  unfolding graph_lines
  lines_length = omega (arith, length-append (graph_line g) (flat_map (tiling_line g) (list_of (λ m. m) (listed g))), graph_length, tilings_length)

pub graphs_length : (plot : Plot) → AcceptedPlot plot → length (graph_lines (plot_graph plot)) ≤ 20785
unfolding graph_lines ascii
graphs_length plot ok = go (plot_graph plot) refl
  where
    go : (a : Answer Graph) → plot_graph plot ≡ a → length (graph_lines a) ≤ 20785
    go (refused n) e = let few = (graph_refusals plot n e).1 in omega (arith, refusal_length "graph refused " n (omega arith))
    go (given g) e = lines_length plot ok g e

-- ---- the text of a plot

five_parts : (a b c d e : List ℕ) → length a ≤ 21 → length b ≤ 9 → length c ≤ 28 → length d ≤ 30 → length e ≤ 20785 → length (a ++ b ++ c ++ d ++ e) ≤ longest_text
five_parts a b c d e p q r s t = simp length-append (omega arith)

pub plot_length : (plot : Plot) → AcceptedPlot plot → length (plot_lines plot) ≤ longest_text
unfolding plot_lines
plot_length plot ok =
    five_parts (board_line plot) (tiles_line plot) (layers_line (plot_layers plot)) (cuttings_line (plot_cuttings plot)) (graph_lines (plot_graph plot)) (board_length plot ok)
    (tiles_length plot ok) (layers_length plot ok) (cuttings_length plot ok) (graphs_length plot ok)
