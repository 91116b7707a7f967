-- Laws of the answers of a count: which refusals a layer count, the figure and a graph have; and that a count is its low word.
-- Assumes nothing.
use Rattle.std.specs.Prelude.{◌≡◌, ◌↔◌, true, false, List, ℕ, zero, suc, ◌+◌, ◌-◌, ◌*◌, ◌%◌, ◌^◌, ◌≤◌, ◌<◌, min, ltb, leb, eqb, length}
use Rattle.std.proofs.Common.{arith, ltb-true, ltb-false}
use Rattle.refusal.specs.Refusal.{refused}
use Rattle.refusal.specs.RefusalLaws.{map_refused, Refuses, refuses_one, refuses_none, refuses_cond, refuses_bind, refuses_map}
use Rattle.tiles.specs.Paths.{equal_counts}
use Rattle.rectangle.specs.Board.{marks}
use Rattle.children.specs.Children.{children_at, free_count_at}
use Rattle.covers.specs.Counts.{Entry, counts, layer}
use Rattle.graph.specs.Graph.{plot_boards, plot_nodes, plot_edges}
use Rattle.path_count.specs.PathCounts.{count_limit}
use Rattle.path_count.specs.PathCountLaws.{word_count}
use Rattle.layers.specs.LayerCounts.{too_large, judge_layer, judge_layers, layer_count_for}
use Rattle.cuttings.specs.Cuttings.{cuttings_of}
use Rattle.tiler.specs.Graphs.{graph_of, judge_graph}
use Rattle.plot_file.specs.PlotFile.{Plot}
use Rattle.report.specs.Report.{with_equal_tiles, plot_layers, plot_cuttings, plot_graph}

-- ---- refusals

-- one of 7, 8 and 9, or of 7 to 10
abbrev Layers : ℕ → Type 0
Layers n = (7 ≤ n) × (n ≤ 9)

abbrev Graphs : ℕ → Type 0
Graphs n = (7 ≤ n) × (n ≤ 10)

judge_layer_refusals : (room : ℕ) (es : List (Entry ℕ)) → Refuses Layers (judge_layer room es)
unfolding judge_layer
judge_layer_refusals room es =
    refuses_cond Layers (leb (length es) room) _ _
    (refuses_cond Layers (too_large (counts es)) _ _ (refuses_one Layers 9 (omega arith, omega arith)) (refuses_none Layers es))
    (refuses_one Layers 8 (omega arith, omega arith))

judge_layers_refusals : (at : ℕ → List (Entry ℕ)) (room n : ℕ) → Refuses Layers (judge_layers at room n)
unfolding judge_layers
judge_layers_refusals at room zero = judge_layer_refusals room (at zero)
judge_layers_refusals at room (suc n) = refuses_bind Layers (judge_layers at room n) _ (judge_layers_refusals at room n) (λ es. judge_layer_refusals room (at (suc n)))

-- A layer count is refused by 7, 8 or 9,
pub layers_refusals : (plot : Plot) (n : ℕ) → plot_layers plot ≡ refused n → (7 ≤ n) × (n ≤ 9)
unfolding plot_layers with_equal_tiles layer_count_for
layers_refusals plot =
    let at = layer eqb (children_at plot.board plot.tiles) (marks plot.board) in
    refuses_cond Layers (equal_counts plot.tiles) _ _
    (refuses_map Layers _ _ (judge_layers_refusals at plot_boards (free_count_at plot.board (marks plot.board)))) (refuses_one Layers 7 (omega arith, omega arith))

-- the figure by what the layer count is refused by,
pub cuttings_alike : (plot : Plot) (n : ℕ) → (plot_cuttings plot ≡ refused n) ↔ (plot_layers plot ≡ refused n)
unfolding plot_cuttings
cuttings_alike plot n = map_refused (cuttings_of plot.board) (plot_layers plot) n

pub cuttings_refusals : (plot : Plot) (n : ℕ) → plot_cuttings plot ≡ refused n → (7 ≤ n) × (n ≤ 9)
cuttings_refusals plot n e = layers_refusals plot n ((cuttings_alike plot n).0 e)

-- and a graph by 7, 8, 9 or 10.
pub graph_refusals : (plot : Plot) (n : ℕ) → plot_graph plot ≡ refused n → (7 ≤ n) × (n ≤ 10)
unfolding plot_graph with_equal_tiles judge_graph
graph_refusals plot =
    let g = graph_of plot.board plot.tiles in
    refuses_cond Graphs (equal_counts plot.tiles) _ _
    (refuses_cond Graphs (leb (length g.nodes) plot_nodes) _ _
    (refuses_cond Graphs (leb (length g.edges) plot_edges) _ _
    (refuses_cond Graphs (too_large g.counts) _ _ (refuses_one Graphs 9 (omega arith, omega arith)) (refuses_none Graphs g))
    (refuses_one Graphs 10 (omega arith, omega arith)))
    (refuses_one Graphs 8 (omega arith, omega arith)))
    (refuses_one Graphs 7 (omega arith, omega arith))

-- ---- the words of a count

pub low_is : (n : ℕ) → n < count_limit → (low : ℕ) → low ≡ n % 2 ^ 64 → low ≡ n
low_is n h low e = omega arith

-- whether the count of a small number is below a count, which is told
module _ (m r count : ℕ) (small : m ≤ 16) (e : r ≡ min (m + 2 ^ 64 * 0) (count_limit - 1)) where
  pub not_below : ltb r count ≡ false → count ≤ m
  not_below t = omega (arith, word_count m (omega arith) r e, ltb-false r count t)

  pub is_below : ltb r count ≡ true → m < count
  is_below t = omega (arith, word_count m (omega arith) r e, ltb-true r count t)
