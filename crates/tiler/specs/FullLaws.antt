-- Laws of the graph of a full start: the start has no children, so that there is one node, and the graph's count is 0. (Its layer count is in `FullLaws` of the crate
-- `cuttings`.) Rests on `Graphs`, children's `ChildLaws` and expansion's `SettingLaws`. Assumes nothing.
use Rattle.std.specs.Prelude.{◌≡◌, true, ℕ, ◌^◌, ◌<◌}
use Rattle.std.proofs.Math.Path.{ap, ap₂}
use Rattle.std.proofs.Common.{◌∙◌, le-leb, arith}
use Rattle.std.proofs.Math.Bool.{So, cond}
use mathlib.Core.List.{List, [], ◌∷◌, ◌++◌, map, flat_map}
use Rattle.std.specs.Prelude.{None}
use Rattle.std.proofs.Math.Dec.{eqb}
use Rattle.cells.specs.Lists.{any}
use Rattle.refusal.specs.Refusal.{refused, given}
use Rattle.tile.specs.Path.{Path}
use Rattle.rectangle.specs.Board.{Board, marks, is_full, valid}
use Rattle.children.specs.Children.{children, children_at, full_at}
use Rattle.children.specs.ChildLaws.{full_children}
use Rattle.covers.specs.Counts.{Entry, boards, counts, layer, layers, number_in, edges_of, full_from, full_node}
use Rattle.expansion.proofs.SettingLaws.{start_at_lem}
use Rattle.cuttings.specs.FullLaws.{none_free}
use Rattle.layers.specs.LayerCounts.{too_large}
use Rattle.tiler.specs.Graphs.{Graph, entries_for, graph_of, judge_graph, graph_for}

-- the graph of one node, which is not the full board's node
abbrev pub only_start : Board → Graph
only_start b = record { nodes = marks b ∷ []; counts = 1 ∷ []; edges = []; complete = None }

module _ (b : Board) (paths : List Path) (ok : So (valid b)) (fixed : b.fixed < 2 ^ 256) (laid : b.laid < 2 ^ 256) (full : is_full b ≡ true) where
  no_children : children_at b paths (marks b) ≡ []
  no_children = ap (λ (c : Board). children c paths) (start_at_lem b paths ok fixed laid) ∙ full_children b ok paths full

  one_node : entries_for b paths ≡ (marks b, 1) ∷ []
  unfolding layers layer
  one_node = ap (layers eqb (children_at b paths) (marks b)) (none_free b paths ok fixed laid full)

  no_edges : edges_of eqb (children_at b paths) (marks b ∷ []) ≡ []
  unfolding edges_of flat_map
  no_edges =
      ap (λ (cs : List ℕ). map (λ c. (number_in eqb (marks b ∷ []) (marks b), number_in eqb (marks b ∷ []) c)) cs ++ []) no_children

  full_graph : graph_of b paths ≡ only_start b
  unfolding graph_of full_node full_from
  full_graph =
      ap (λ (es : List (Entry ℕ)). record { nodes = boards es; counts = counts es; edges = edges_of eqb (children_at b paths) (boards es); complete = full_node (full_at b) (boards es) }) one_node
      ∙ ap (λ (es : List (ℕ × ℕ)). record { nodes = marks b ∷ []; counts = 1 ∷ []; edges = es; complete = None }) no_edges

  accepted : (nodes edges : ℕ) → 0 < nodes → judge_graph nodes edges (only_start b) ≡ given (only_start b)
  unfolding judge_graph too_large any
  accepted nodes edges h = ap₂ (λ t u. cond t (cond u (given (only_start b)) (refused 10)) (refused 8)) (le-leb 1 nodes h) (le-leb 0 edges (omega arith))

  pub full_graph_given : (nodes edges : ℕ) → 0 < nodes → graph_for b paths nodes edges ≡ given (only_start b)
  unfolding graph_for
  full_graph_given nodes edges h = ap (judge_graph nodes edges) full_graph ∙ accepted nodes edges h
