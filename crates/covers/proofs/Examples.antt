-- The definitions compute and the laws can be met: 2 by 2 with dominoes. And what is asked can't be left out: a full start, a plot whose pruning is
-- not sound, tiles of unequal size, two equal edges. Rests on `ExamplePlots` and `Theorems`. Assumes nothing.
use Rattle.std.specs.Prelude.{◌≡◌, refl, Bool, false, cond, ◌&&◌, ℕ, zero, suc, ◌+◌, ◌-◌, ◌%◌, ◌^◌, ◌<◌, eqb, get_or}
use Rattle.std.proofs.Common.{ap, subst, ⊎_elim, arith}
use mathlib.Core.List.Memᴰ.{cases_cons}
use mathlib.Core.List.Memᴰ.{eq_of_singleton}
use mathlib.Core.List.Memᴰ.{not-nil}
use mathlib.Core.List.{List, [], ◌∷◌, map, flat_map}
use Rattle.cells.specs.Set.{bit, has_cell, size}
use Rattle.cells.specs.Lists.{any, holds}
use Rattle.cells.specs.FirstsLaws.{holds_iff}
use Rattle.cells.specs.MemberLaws.{eqb_tells}
use Rattle.covers.specs.Counts.{Exactly, counts, sum_of, layers, edges_of, number_in, parents_of, turn, node_list_to, full_node, at_node, layer_count}
use Rattle.covers.specs.Setting.{CuttingOf, Laws, SoundPruning, EqualSteps, SumRule, entries_of, nodes_of, graph_edges, layer_count_of, graph_count, tiling_of}
use Rattle.covers.proofs.Theorems.{number_unique, layer_count_is_cuttings}
use Rattle.covers.specs.CellSets.{cell_setting}
use Rattle.covers.proofs.ExamplePlots.{Plot, all, is_within, setting_of, is_plot, cuts, plot_laws, plot_steps, plot_pruning, plot_ok, plot_cutting}

-- ---- 2 by 2 with dominoes: the cells 0 and 1 above 2 and 3, the lowest free cell is chosen

abbrev two_by_two : Plot
two_by_two = record {
  region = 15;
  cells = 0 ∷ 1 ∷ 2 ∷ 3 ∷ [];
  tiles = 3 ∷ 5 ∷ 10 ∷ 12 ∷ [];
  rank = λ s c. 0;
  prunes = λ s. false;
}

two_by_two_lem : Laws (setting_of two_by_two)
unfolding is_plot
two_by_two_lem = plot_laws two_by_two refl

two_by_two_steps : EqualSteps (setting_of two_by_two) 2
unfolding is_plot all size
two_by_two_steps = plot_steps two_by_two refl 2 refl

two_by_two_pruning : SoundPruning (setting_of two_by_two)
unfolding is_plot
two_by_two_pruning = plot_pruning two_by_two refl (λ s. refl)

two_by_two_ok : (setting_of two_by_two).Ok 0
unfolding is_plot is_within
two_by_two_ok = plot_ok two_by_two refl 0 refl

two_by_two_not_full : (setting_of two_by_two).full 0 ≡ false
unfolding setting_of
two_by_two_not_full = refl

-- both counts are 2
two_layers_lem : layer_count_of (setting_of two_by_two) 0 ≡ 2
unfolding setting_of size layer_count
two_layers_lem = refl

two_graph : graph_count (setting_of two_by_two) 0 ≡ 2
unfolding setting_of size graph_count
two_graph = refl

-- so there are exactly two cuttings
two_cuttings : Exactly 2 (CuttingOf (setting_of two_by_two) 0)
two_cuttings =
    subst (λ (n : ℕ). Exactly n (CuttingOf (setting_of two_by_two) 0)) two_layers_lem
    (layer_count_is_cuttings (setting_of two_by_two) two_by_two_lem 2 two_by_two_steps 0 two_by_two_ok two_by_two_not_full two_by_two_pruning)

-- the graph: its boards, their path counts, its edges
nodes : nodes_of (setting_of two_by_two) 0 ≡ 0 ∷ 3 ∷ 5 ∷ 15 ∷ []
unfolding setting_of size layers
nodes = refl

path_counts : counts (entries_of (setting_of two_by_two) 0) ≡ 1 ∷ 1 ∷ 1 ∷ 2 ∷ []
unfolding setting_of size layers
path_counts = refl

edges : graph_edges (setting_of two_by_two) 0 ≡ (0, 1) ∷ (0, 2) ∷ (1, 3) ∷ (2, 3) ∷ []
unfolding setting_of size layers edges_of
edges = refl

tiling_0 : tiling_of (setting_of two_by_two) 0 0 ≡ 0 ∷ 3 ∷ 15 ∷ []
unfolding setting_of size layers edges_of node_list_to full_node at_node
tiling_0 = refl

tiling_1 : tiling_of (setting_of two_by_two) 0 1 ≡ 0 ∷ 5 ∷ 15 ∷ []
unfolding setting_of size layers edges_of node_list_to full_node at_node
tiling_1 = refl

-- what is left of the number goes on: two lists to node 3, and on to node 4
turns_left : map (node_list_to ((0, 1) ∷ (0, 2) ∷ (1, 3) ∷ (2, 3) ∷ (3, 4) ∷ []) (λ v. get_or (1 ∷ 1 ∷ 1 ∷ 2 ∷ 2 ∷ []) v 0) 4) (0 ∷ 1 ∷ []) ≡ (0 ∷ 1 ∷ 3 ∷ 4 ∷ []) ∷ (0 ∷ 2 ∷ 3 ∷ 4 ∷ []) ∷ []
unfolding node_list_to
turns_left = refl

-- with no parents left the turn is node 0's; a board that is no node has the number of none
nothing_left : (turn (λ v. 1) [] 5 ≡ (0, 5)) × (number_in eqb [] 5 ≡ 0) × (number_in eqb (4 ∷ 5 ∷ []) 6 ≡ 2)
unfolding turn number_in
nothing_left = (refl, refl, refl)

-- a full start counts 0, though the empty set is a cutting
full_start_layers : layer_count_of (setting_of two_by_two) 15 ≡ 0
unfolding setting_of size layer_count
full_start_layers = refl

full_start_graph : graph_count (setting_of two_by_two) 15 ≡ 0
unfolding setting_of size graph_count
full_start_graph = refl

full_start_cutting : CuttingOf (setting_of two_by_two) 15 (holds eqb [])
unfolding is_plot cuts
full_start_cutting = plot_cutting two_by_two refl 15 [] (plot_ok two_by_two refl 15 refl) refl

-- ---- 01: "4 by 2 with tiles UpLeft and UpRight 0, though one cutting exists": the cells 0 to 3 above 4 to 7, all marks laid

-- the neighbour count: 1, since every cell is in an outer row, and the marks left, right and above or below
unfoldable beside : ℕ → ℕ → ℕ
unfolding bit
beside s c = 1 + cond (eqb (c % 4) 0) 0 (bit s (c - 1)) + cond (eqb (c % 4) 3) 0 (bit s (c + 1)) + bit s ((c + 4) % 8)

abbrev columns : List ℕ
columns = 0 ∷ 4 ∷ 1 ∷ 5 ∷ 2 ∷ 6 ∷ 3 ∷ 7 ∷ []

-- "any free cell has count 4"
unfoldable has_four : ℕ → Bool
unfolding any has_cell beside
has_four s = any (λ c. has_cell (255 - s) c && eqb (beside s c) 4) columns

abbrev slanted_with : (ℕ → Bool) → Plot
slanted_with prunes = record {
  region = 255;
  cells = columns;
  tiles = flat_map (λ c. (2 ^ c + 2 ^ (c + 5)) ∷ (2 ^ (c + 1) + 2 ^ (c + 4)) ∷ []) (0 ∷ 1 ∷ 2 ∷ []);
  rank = beside;
  prunes = prunes;
}

abbrev slanted : Plot
slanted = slanted_with has_four

slanted_laws : Laws (setting_of slanted)
unfolding is_plot flat_map
slanted_laws = plot_laws slanted refl

slanted_steps : EqualSteps (setting_of slanted) 2
unfolding is_plot flat_map all size
slanted_steps = plot_steps slanted refl 2 refl

slanted_layers : layer_count_of (setting_of slanted) 0 ≡ 0
unfolding setting_of size layer_count flat_map beside has_four
slanted_layers = refl

slanted_graph : graph_count (setting_of slanted) 0 ≡ 0
unfolding setting_of size graph_count flat_map beside has_four
slanted_graph = refl

-- one cutting exists: its pieces, and that there is no other, which the count with no pruning tells
abbrev slanted_pieces : List ℕ
slanted_pieces = 33 ∷ 18 ∷ 132 ∷ 72 ∷ []

slanted_cutting : CuttingOf (setting_of slanted) 0 (holds eqb slanted_pieces)
unfolding is_plot flat_map cuts
slanted_cutting = plot_cutting slanted refl 0 slanted_pieces (plot_ok slanted refl 0 refl) refl

abbrev unpruned : Plot
unpruned = slanted_with (λ s. false)

unpruned_layers : layer_count_of (setting_of unpruned) 0 ≡ 1
unfolding setting_of size layer_count flat_map beside
unpruned_layers = refl

slanted_one : Exactly 1 (CuttingOf (setting_of slanted) 0)
unfolding is_plot flat_map all size setting_of
slanted_one =
    subst (λ (n : ℕ). Exactly n (CuttingOf (setting_of unpruned) 0)) unpruned_layers
    (layer_count_is_cuttings (setting_of unpruned) (plot_laws unpruned refl) 2 (plot_steps unpruned refl 2 refl) 0
    (plot_ok unpruned refl 0 refl) refl (plot_pruning unpruned refl (λ s. refl)))

-- without the pruning condition the layer count is not the number of cuttings
slanted_unequal : Exactly (layer_count_of (setting_of slanted) 0) (CuttingOf (setting_of slanted) 0) → ⊥
slanted_unequal E = omega (arith, number_unique E slanted_one, slanted_layers)

-- so the pruning is not sound: with the cells 3 and 6 free, 6 has count 4 and the board is pruned, but a tile covers both
slanted_pruning : SoundPruning (setting_of slanted) → ⊥
unfolding setting_of cell_setting is_plot flat_map beside has_four cuts
slanted_pruning sound =
    let ok = plot_ok slanted refl 183 refl in
    ⊎_elim (λ m. not-nil m) (λ none. none (holds eqb (72 ∷ [])) (plot_cutting slanted refl 183 (72 ∷ []) ok refl))
    (sound 183 72 ok (record { tile = (holds_iff eqb eqb_tells slanted.tiles 72).0 refl; onto = λ c h. h }) refl)

-- ---- tiles of unequal size: 2 by 1 with the single tile and the domino, which 01 refuses by 7. The full board stands in two layers, so that the
-- graph has it twice and its count is not the layer count

abbrev mixed : Plot
mixed = record {
  region = 3;
  cells = 0 ∷ 1 ∷ [];
  tiles = 1 ∷ 2 ∷ 3 ∷ [];
  rank = λ s c. 0;
  prunes = λ s. false;
}

mixed_laws : Laws (setting_of mixed)
unfolding is_plot
mixed_laws = plot_laws mixed refl

mixed_pruning : SoundPruning (setting_of mixed)
unfolding is_plot
mixed_pruning = plot_pruning mixed refl (λ s. refl)

mixed_counts : (layer_count_of (setting_of mixed) 0 ≡ 2) × (graph_count (setting_of mixed) 0 ≡ 1)
unfolding setting_of size layer_count graph_count
mixed_counts = (refl, refl)

mixed_nodes : nodes_of (setting_of mixed) 0 ≡ 0 ∷ 1 ∷ 3 ∷ 3 ∷ []
unfolding setting_of size layers
mixed_nodes = refl

-- ---- two equal edges meet the rule of sums, but two numbers give one list: different lists need each edge once

abbrev doubled : List (ℕ × ℕ)
doubled = (0, 1) ∷ (0, 1) ∷ []

abbrev doubled_count : ℕ → ℕ
doubled_count v = get_or (1 ∷ 2 ∷ []) v 0

double_sums : (v : ℕ) → 0 < v → v < 2 → doubled_count v ≡ sum_of doubled_count (parents_of doubled v)
unfolding sum_of parents_of
double_sums zero a b = absurd (omega arith)
double_sums (suc zero) a b = refl
double_sums (suc (suc v)) a b = absurd (omega arith)

double_edge : SumRule 2 doubled doubled_count
double_edge = record {
  rises = λ p c m.
      let e : ◌≡◌ {A = ℕ × ℕ} (p, c) (0, 1) = ⊎_elim (λ e. e) (λ k. eq_of_singleton k) (cases_cons m) in
      let first : p ≡ 0 = ap (λ (x : ℕ × ℕ). x.0) e in
      let second : c ≡ 1 = ap (λ (x : ℕ × ℕ). x.1) e in
      (omega arith, omega arith);
  first = refl;
  sums = double_sums;
}

double_edge_same : (node_list_to doubled doubled_count 1 0 ≡ 0 ∷ 1 ∷ []) × (node_list_to doubled doubled_count 1 1 ≡ 0 ∷ 1 ∷ [])
unfolding node_list_to
double_edge_same = (refl, refl)
