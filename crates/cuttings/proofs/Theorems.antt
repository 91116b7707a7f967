-- The theorem page of the figure called cuttings: when it is refused, where it is 1 and where the layer count, that it is the number of cuttings whether a cell is free
-- or not, and what the product of two figures is. Each statement is for every board and tiles of the code (a set of the code has words of 64 bits: `Sound`) and every
-- room, or over the answers of calls. What stands in quotation marks is 02's, from its request 3. Rests on `CuttingLaws`, `FullLaws` and covers' `Theorems`. Assumes
-- nothing.
use Rattle.refusal.specs.declared.Refusal.{Refusal}
use Rattle.path_count.specs.declared.PathCount.{PathCount}
use Rattle.std.specs.Prelude.{◌≡◌, ◌↔◌, Bool, true, false, List, ℕ, ◌*◌, ◌<◌, length, Result}
use Rattle.std.proofs.Common.{sym, ◌∙◌}
use Rattle.std.proofs.Math.Bool.{So}
use Rattle.cells.specs.Set.{Sound}
use Rattle.tiles.specs.declared.Tiles.{Tiles}
use Rattle.refusal.specs.Refusal.{refused, given}
use Rattle.refusal.specs.RefusalLaws.{map_refused}
use Rattle.tile.specs.Path.{Path}
use Rattle.tiles.specs.Paths.{paths_in}
use Rattle.board.specs.declared.RectangularBoard.{RectangularBoard}
use Rattle.rectangle.specs.Board.{Board, is_full, valid}
use Rattle.board.specs.Board.{board_of}
use Rattle.covers.specs.Counts.{Numbering, Exactly}
use Rattle.covers.proofs.NumberingLaws.{product_of, OneOfEach}
use Rattle.covers.proofs.Theorems.{number_of_pairs, number_of_lists}
use Rattle.path_count.specs.PathCounts.{count_limit}
use Rattle.graph.specs.Graph.{layer_room}
use Rattle.expansion.specs.Plots.{accept_plot, IsCutting, HasFreeCell, AllEdgeJoined}
use Rattle.layers.specs.LayerCounts.{count_tilings}
use Rattle.cuttings.specs.Cuttings.{cuttings_of, count_cuttings, cuttings_from, AnswersCuttings, IsNumberOfCuttings}
use Rattle.cuttings.specs.FullLaws.{full_iff_none, no_width_full}
use Rattle.cuttings.proofs.CuttingLaws as Law

-- ---- 1. What the figure is

-- A full board is one with no free cell;
pub full_is_no_free_cell : (b : Board) → So (valid b) → (is_full b ≡ true) ↔ (HasFreeCell b → ⊥)
full_is_no_free_cell = full_iff_none

-- a board of 0 by 0 is.
pub no_cells_full : (b : Board) → b.width ≡ 0 → is_full b ≡ true
no_cells_full = no_width_full

module _ (b : RectangularBoard) (ts : Tiles) where
  -- "that call's refusals come first in either case": the figure is refused exactly where the layer count is, and by the same number;
  pub refused_alike : (room k : ℕ) → (count_cuttings b ts room ≡ refused k) ↔ (count_tilings b ts room ≡ refused k)
  unfolding count_cuttings
  refused_alike room k = map_refused (cuttings_of (board_of b)) (count_tilings b ts room) k

  -- by the number of the board or the tiles, whatever is free,
  pub board_and_tiles_first : (k : ℕ) → accept_plot b ts ≡ refused k → (room : ℕ) → count_cuttings b ts room ≡ refused k
  board_and_tiles_first = Law.plot_refused b ts

  -- and by 8 with no room.
  pub no_room_is_8 : (p : Board × List Path) → accept_plot b ts ≡ given p → count_cuttings b ts 0 ≡ refused 8
  no_room_is_8 = Law.no_room_figure b ts

  -- "otherwise the layer count": wherever a cell is free.
  pub free_is_layer_count : HasFreeCell (board_of b) → (room : ℕ) → count_cuttings b ts room ≡ count_tilings b ts room
  free_is_layer_count = Law.free_figure b ts

  -- The figure from the answer of the layer count is the figure, so that the layers need not be worked twice.
  pub figure_from_layers : (room : ℕ) → cuttings_from b (count_tilings b ts room) ≡ count_cuttings b ts room
  figure_from_layers = Law.from_layers b ts

  module _ (fixed : Sound b.fixed) (laid : Sound b.laid) where
    -- "1 for a board with no free cell", where board and tiles are accepted and there is room for one board.
    pub full_counts_one : is_full (board_of b) ≡ true → (p : Board × List Path) → accept_plot b ts ≡ given p → (room : ℕ) → 0 < room → count_cuttings b ts room ≡ given 1
    full_counts_one = Law.full_figure b ts fixed laid

    -- Where the figure differs from the layer count the board is full, the layer count is 0, and the figure 1.
    pub differs_of_full : (room : ℕ) → (count_cuttings b ts room ≡ count_tilings b ts room → ⊥)
        → (is_full (board_of b) ≡ true) × (count_tilings b ts room ≡ given 0) × (count_cuttings b ts room ≡ given 1)
    differs_of_full = Law.differs_full b ts fixed laid

    -- It is below the limit of a path count.
    pub figure_fits : (room n : ℕ) → count_cuttings b ts room ≡ given n → n < count_limit
    figure_fits = Law.figure_small b ts fixed laid

    -- ---- 2. Exact covers

    -- A board with no free cell "has one cutting, the empty one", whatever the tiles.
    pub full_has_one_cutting : So (valid (board_of b)) → is_full (board_of b) ≡ true → Numbering (IsCutting (board_of b) (paths_in ts)) 1 (λ m p. false)
    full_has_one_cutting = Law.full_cuttings b ts fixed laid

    -- "Against exact covers, cuttings needs no free cell any more": a figure that is given is the number of cuttings, where every tile is edge-joined;
    pub figure_is_cuttings : AllEdgeJoined (paths_in ts) → (room n : ℕ) → count_cuttings b ts room ≡ given n → Exactly n (IsCutting (board_of b) (paths_in ts))
    figure_is_cuttings = Law.figure_cuttings b ts fixed laid

    -- and so it is of the call.
    pub call_counts_cuttings : (boardsA countsA boardsB countsB boardsA' countsA' boardsB' countsB' : List ℕ) (count : Result PathCount Refusal)
        → AnswersCuttings b ts boardsA countsA boardsB countsB boardsA' countsA' boardsB' countsB' count → IsNumberOfCuttings b ts count
    call_counts_cuttings boardsA countsA boardsB countsB boardsA' countsA' boardsB' countsB' count counted joined n is =
        figure_is_cuttings joined (layer_room (length boardsA) (length countsA) (length boardsB) (length countsB)) n (sym counted.answer ∙ is)

-- ---- 3. Products

-- "The planners multiply the counts of neighbouring plots": the cuttings of two plots side by side are pairs, a cutting of one and a cutting of the other,
abbrev pub CutsBoth : Board → List Path → Board → List Path → (ℕ → Bool) × (ℕ → Bool) → Type 0
CutsBoth b paths d others p = IsCutting b paths p.0 × IsCutting d others p.1

-- and the product of two figures that are given is the number of these pairs. A fully built plot counts 1 in it.
pub product_is_number_of_pairs : (b : RectangularBoard) → Sound b.fixed → Sound b.laid → (ts : Tiles) → AllEdgeJoined (paths_in ts)
    → (d : RectangularBoard) → Sound d.fixed → Sound d.laid → (us : Tiles) → AllEdgeJoined (paths_in us)
    → (room n : ℕ) → count_cuttings b ts room ≡ given n → (room' k : ℕ) → count_cuttings d us room' ≡ given k
    → Exactly (n * k) (CutsBoth (board_of b) (paths_in ts) (board_of d) (paths_in us))
product_is_number_of_pairs b fixed laid ts joined d fixed' laid' us joined' room n is room' k is' =
    number_of_pairs n k (figure_is_cuttings b ts fixed laid joined room n is) (figure_is_cuttings d us fixed' laid' joined' room' k is')

-- Of any number of plots: a plot of edge-joined tiles, with its figure,
pub record PlotWithFigure : Type 0 where
  pub board : RectangularBoard
  pub fixed : Sound board.fixed
  pub laid : Sound board.laid
  pub tiles : Tiles
  pub joined : AllEdgeJoined (paths_in tiles)
  pub room : ℕ
  pub figure : ℕ
  pub is : count_cuttings board tiles room ≡ given figure

-- and the product of the figures is the number of lists of cuttings, one of each plot.
pub product_is_number_of_lists : (plots : List PlotWithFigure)
    → Exactly (product_of (λ (p : PlotWithFigure). p.figure) plots) (OneOfEach (λ (p : PlotWithFigure). IsCutting (board_of p.board) (paths_in p.tiles)) plots)
product_is_number_of_lists plots =
    number_of_lists (λ (p : PlotWithFigure). IsCutting (board_of p.board) (paths_in p.tiles)) (λ (p : PlotWithFigure). p.figure) plots
    (λ p m. figure_is_cuttings p.board p.tiles p.fixed p.laid p.joined p.room p.figure p.is)
