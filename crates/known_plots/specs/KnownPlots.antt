-- 01's known plots: "The starred twelve are shown of the definitions, as rows under one common statement". Both counts of each row compute
-- (`known_plots_lem`), and are what the calls answer by their contracts (`known_plots_counted`). Of the last row also that "one cutting exists". What stands in quotation marks is
-- 01's. Rests on expansion's `CuttingLaws` and covers' `SequenceLaws`. Assumes nothing.
use Rattle.std.specs.Prelude.{◌≡◌, refl, Bool, true, ◌&&◌, get_or}
use Rattle.std.proofs.Common.{sym, ◌∙◌, subst, ⊎_elim, lit<}
use Rattle.std.proofs.Math.Path.{ap, fun_ext}
use Rattle.std.proofs.Math.Bool.{So, and-eq-true_iff}
use mathlib.Core.List.Memᴰ.{cases_cons}
use mathlib.Core.List.Memᴰ.{eq_of_singleton}
use mathlib.Core.List.Memᴰ.{head as here}
use mathlib.Core.List.Memᴰ.{not-nil}
use mathlib.Core.List.Memᴰ.{of_map}
use mathlib.Core.List.{List, [], ◌∷◌, map, tail, Memᴰ as Mem}
use Prim.Native.Nat.{ℕ, ◌+◌, ◌*◌, ◌^◌, ◌<◌}
use Rattle.std.proofs.Math.Dec.{eqb}
use Rattle.cells.specs.Lists.{holds}
use Rattle.cells.specs.FirstsLaws.{so_eq, holds_iff}
use Rattle.cells.specs.MemberLaws.{eqb_tells}
use Rattle.tiles.specs.declared.Tiles.{Tiles}
use Rattle.refusal.specs.Refusal.{Answer, given, map_answer, bind_answer}
use Rattle.refusal.specs.RefusalLaws.{given_inj}
use Rattle.direction.specs.Direction.{step, rotate, reflect}
use Rattle.tile.specs.Path.{Path, l_path, t_path}
use Rattle.tiles.specs.Paths.{orbit, tiles_of, read_equal_tiles}
use Rattle.board.specs.declared.RectangularBoard.{RectangularBoard}
use Rattle.rectangle.specs.Board.{Board, board_at, marks, is_full, valid}
use Rattle.board.specs.Board.{board_of, read_board, new_board, l_board, t_board}
use Rattle.fit.specs.Fit.{pieces}
use Rattle.rectangle.proofs.BoardLaws.{valid_width, valid_height}
use Rattle.board.specs.BoardLaws.{read_board_given}
use Rattle.fit.proofs.PieceLaws.{mem_pieces}
use Rattle.fit.proofs.LayLaws.{piece_free, piece_iff, piece_some}
use Rattle.covers.specs.Counts.{Exactly}
use Rattle.covers.specs.Setting.{CuttingOf}
use Rattle.covers.proofs.NumberingLaws.{exactly_one, one_is, one_only}
use Rattle.covers.proofs.SequenceLaws.{cutting_add, sequence_cutting}
use Rattle.path_count.specs.Inner.{count_span}
use Rattle.graph.proofs.RoomLaws.{node_room_plot}
use Rattle.graph.specs.Graph.{node_room, edge_room, plot_boards, plot_nodes, plot_edges}
use Rattle.expansion.specs.Boards.{From, setting}
use Rattle.expansion.specs.Plots.{accept_plot, IsCutting}
use Rattle.layers.specs.LayerCounts.{layer_count_for, count_tilings}
use Rattle.tiler.specs.Graphs.{graph_for, generate_graph, count_of_graph}
use Rattle.expansion.proofs.SettingLaws.{fits_piece, lay_adds, lay_from, setting_laws, start_ok}
use Rattle.expansion.proofs.CuttingLaws.{cutting_start}

-- ---- the table

-- a row: the board as it is made, the tiles, and the count
pub record Row : Type 0 where
  pub board : Answer Board
  pub tiles : List Path
  pub count : ℕ

-- a row by its three parts
abbrev row : Answer Board → List Path → ℕ → Row
row board tiles count = record { board = board; tiles = tiles; count = count }

-- "D is the orbit of Right, L of `l_tile(2)`, T of `t_tile(1)`"
unfoldable pub D : List Path
unfolding orbit rotate reflect
D = orbit (3 ∷ [])

unfoldable pub L : List Path
unfolding orbit rotate reflect l_path
L = orbit (l_path 2)

unfoldable pub T : List Path
unfolding orbit rotate reflect t_path
T = orbit (t_path 1)

-- "tiles UpLeft and UpRight"
abbrev pub slanted : List Path
slanted = (4 ∷ []) ∷ (5 ∷ []) ∷ []

-- the starred twelve in 01's order, each beside its words. "Width first"
unfoldable pub rows : List Row
unfolding new_board l_board t_board D L T
rows =
    row (new_board 0 0) D 0  -- "0 by 0 D 0"
    ∷ row (new_board 1 1) ([] ∷ []) 1  -- "1 by 1 single tile 1"
    ∷ row (new_board 1 1) D 0  -- "1 by 1 D 0"
    ∷ row (new_board 2 2) D 2  -- "2 by 2 D 2"
    ∷ row (new_board 3 2) D 3  -- "3 by 2 D 3"
    ∷ row (new_board 3 3) D 0  -- "3 by 3 D 0"
    ∷ row (new_board 3 2) L 2  -- "3 by 2 L 2"
    ∷ row (l_board 2 1) L 1  -- "LB 2,1 L 1"
    ∷ row (l_board 3 1) D 1  -- "LB 3,1 D 1"
    ∷ row (t_board 1 1) T 1  -- "TB 1,1 T 1"
    ∷ row (t_board 1 1) D 0  -- "TB 1,1 D 0"
    ∷ row (new_board 4 2) slanted 0  -- "4 by 2 with tiles UpLeft and UpRight 0, though one cutting exists"
    ∷ []

-- ---- both counts, with the rooms that the program `plot` lends: "512 boards a layer, 1,024 nodes, 4,096 edges"

-- the layer count and the graph count of a row
unfoldable pub counts_of : Row → Answer ℕ × Answer ℕ
unfolding bind_answer map_answer count_of_graph layer_count_for graph_for
counts_of r = (
  bind_answer r.board (λ b. layer_count_for b r.tiles plot_boards),
  bind_answer r.board (λ b. map_answer count_of_graph (graph_for b r.tiles plot_nodes plot_edges)),
)

-- The known plots: neither count of a row is refused, and both are the row's.
pub known_plots_lem : map counts_of rows ≡ map (λ r. (given r.count, given r.count)) rows
unfolding counts_of rows step
known_plots_lem = refl

-- ---- the calls

-- where two maps agree on a list, they agree on each member
pub map_at : {A B : Type 0} (f g : A → B) (xs : List A) → map f xs ≡ map g xs → (x : A) → Mem x xs → f x ≡ g x
map_at f g [] e x m = absurd (not-nil m)
map_at f g (y ∷ ys) e x m =
    ⊎_elim (λ q. ap f q ∙ ap (λ l. get_or l 0 (f y)) e ∙ ap g (sym q)) (λ k. map_at f g ys (ap tail e) x k) (cases_cons m)

-- the boards are accepted, and the tiles, as they are stored, are read
boards_accepted : map (λ r. map_answer valid r.board) rows ≡ map (λ r. given true) rows
unfolding map_answer valid rows
boards_accepted = refl

tiles_read : map (λ r. read_equal_tiles (tiles_of r.tiles)) rows ≡ map (λ r. given r.tiles) rows
unfolding read_equal_tiles tiles_of rows step
tiles_read = refl

known_board_accepted : (r : Row) → Mem r rows → (b : Board) → given b ≡ r.board → valid b ≡ true
unfolding map_answer
known_board_accepted r m b made =
    given_inj (valid b) true (ap (map_answer valid) made ∙ map_at (λ (q : Row). map_answer valid q.board) (λ q. given true) rows boards_accepted r m)

pub known_tiles_read : (r : Row) → Mem r rows → read_equal_tiles (tiles_of r.tiles) ≡ given r.tiles
known_tiles_read r m = map_at (λ (q : Row). read_equal_tiles (tiles_of q.tiles)) (λ q. given q.tiles) rows tiles_read r m

-- what the calls answer with those rooms, for a board and tiles that are read
module _ (b : RectangularBoard) (ts : Tiles) (board : Board) (paths : List Path)
    (board_is : read_board b ≡ given board) (tiles_are : read_equal_tiles ts ≡ given paths) where
  plot_read : accept_plot b ts ≡ given (board, paths)
  unfolding accept_plot bind_answer map_answer
  plot_read = rw (board_is, tiles_are)

  layers_called : count_tilings b ts plot_boards ≡ layer_count_for board paths plot_boards
  unfolding count_tilings layer_count_for bind_answer
  layers_called = rw plot_read

  graph_called : generate_graph b ts (4 * plot_nodes) (count_span plot_nodes) (2 * plot_edges) ≡ graph_for board paths plot_nodes plot_edges
  unfolding generate_graph edge_room bind_answer
  graph_called =
      ap (λ (a : Answer (Board × List Path)). bind_answer a (λ p. graph_for p.0 p.1 (node_room (4 * plot_nodes) (count_span plot_nodes)) plot_edges)) plot_read
      ∙ ap (λ (n : ℕ). graph_for board paths n plot_edges) node_room_plot

-- For a board that is made as the row says and tiles that are read as the row's, what the contracts say that `count_tilings` with layers of 512 boards and
-- `generate_graph` with 4,096 node words and 8,192 edge words (four a node and two an edge) and as many count words as 1,024 counts take answer is the row's
-- count.
pub known_plots_counted : (r : Row) → Mem r rows → (b : RectangularBoard) (ts : Tiles) → given (board_of b) ≡ r.board → read_equal_tiles ts ≡ given r.tiles
    → (count_tilings b ts plot_boards ≡ given r.count) × (map_answer count_of_graph (generate_graph b ts (4 * plot_nodes) (count_span plot_nodes) (2 * plot_edges)) ≡ given r.count)
unfolding counts_of bind_answer
known_plots_counted r m b ts made read =
    let same = read_board_given b (known_board_accepted r m (board_of b) made) in
    let both = map_at counts_of (λ q. (given q.count, given q.count)) rows known_plots_lem r m in (
      layers_called b ts (board_of b) r.tiles same read
          ∙ ap (λ (a : Answer Board). bind_answer a (λ c. layer_count_for c r.tiles plot_boards)) made
          ∙ ap (λ (c : Answer ℕ × Answer ℕ). c.0) both,
      ap (map_answer count_of_graph) (graph_called b ts (board_of b) r.tiles same read)
          ∙ ap (λ (a : Answer Board). bind_answer a (λ c. map_answer count_of_graph (graph_for c r.tiles plot_nodes plot_edges))) made
          ∙ ap (λ (c : Answer ℕ × Answer ℕ). c.1) both,
    )

-- ---- "4 by 2 with tiles UpLeft and UpRight 0, though one cutting exists"

-- whether pieces, each told with one of its cells, fit one after another and leave no cell free
unfoldable cuts : Board → List Path → ℕ → List (ℕ × ℕ) → Bool
unfolding is_full holds pieces
cuts b paths n [] = is_full (board_at b n)
cuts b paths n (x ∷ xs) = holds eqb (pieces (board_at b n) paths x.0) x.1 && cuts b paths (n + x.1) xs

-- the set of the pieces
abbrev set_in : List (ℕ × ℕ) → ℕ → Bool
set_in xs = holds eqb (map (λ (x : ℕ × ℕ). x.1) xs)

module _ (b : Board) (paths : List Path) (good : So (valid b)) where
  -- pieces that pass the test are a cutting of what is free
  cuts_cutting : (n : ℕ) (xs : List (ℕ × ℕ)) → From b n → So (cuts b paths n xs) → CuttingOf (setting b paths) n (set_in xs)
  unfolding cuts setting
  cuts_cutting n [] ok h = sequence_cutting (setting b paths) (setting_laws b paths good) n [] ok h
  cuts_cutting n (x ∷ xs) ok h =
      let both = (and-eq-true_iff (holds eqb (pieces (board_at b n) paths x.0) x.1) (cuts b paths (n + x.1) xs)).0 h in
      let m = (holds_iff eqb eqb_tells (pieces (board_at b n) paths x.0) x.1).0 both.0 in
      let piece = ((mem_pieces (board_at b n) paths x.0 x.1 (valid_width b good) (valid_height b good)).0 m).0 in
      cutting_add (setting b paths) (setting_laws b paths good) n x.1 ok ((fits_piece b paths good n x.1 ok).1 piece) (map (λ (x : ℕ × ℕ). x.1) xs)
      (subst (λ (k : ℕ). CuttingOf (setting b paths) k (set_in xs)) (sym (lay_adds b paths n ok x.1 piece))
      (cuts_cutting (n + x.1) xs (lay_from b paths n ok x.1 piece) both.1))

  -- a cutting that has all pieces of another is that one
  cutting_within : (X Y : ℕ → Bool) → IsCutting b paths X → IsCutting b paths Y → ((p : ℕ) → So (Y p) → So (X p)) → X ≡ Y
  cutting_within X Y u v within = fun_ext (λ p. so_eq (X p) (Y p) (λ x. other p x) (within p))
    where
      other : (p : ℕ) → So (X p) → So (Y p)
      other p x =
          let piece = u.pieces p x in
          let s = piece_some b good paths p ((piece_iff b good paths p).0 piece).0 in
          let free = piece_free b good paths p piece s.0 s.1 in
          let y = one_is (v.exact s.0 free) in
          let q = (v.exact s.0 free).0 0 in
          let one = u.exact s.0 free in
          subst (λ (z : ℕ). So (Y z)) (one_only one q (within q y.0, y.1) ∙ sym (one_only one p (x, s.1))) y.0

  -- where each piece is told with a cell that no other piece covers, every cutting has it
  forced : (xs : List (ℕ × ℕ)) → map (λ x. pieces b paths x.0) xs ≡ map (λ x. x.1 ∷ []) xs
      → (X : ℕ → Bool) → IsCutting b paths X → (p : ℕ) → So (set_in xs p) → So (X p)
  forced xs alone X u p h =
      let r = of_map (λ (x : ℕ × ℕ). x.1) xs ((holds_iff eqb eqb_tells (map (λ (x : ℕ × ℕ). x.1) xs) p).0 h) in
      let x = r.0 in
      let only = map_at (λ (x : ℕ × ℕ). pieces b paths x.0) (λ x. x.1 ∷ []) xs alone x r.1 in
      let own = (mem_pieces b paths x.0 x.1 (valid_width b good) (valid_height b good)).0 (subst (Mem x.1) (sym only) (here refl)) in
      let one = u.exact x.0 (piece_free b good paths x.1 own.0 x.0 own.1) in
      let at = one_is one in
      let found = (mem_pieces b paths x.0 (one.0 0) (valid_width b good) (valid_height b good)).1 (u.pieces (one.0 0) at.0, at.1) in
      let same : one.0 0 ≡ x.1 = eq_of_singleton (subst (Mem (one.0 0)) only found) in
      subst (λ (z : ℕ). So (X z)) (same ∙ r.2) at.0

  module _ (fixed_lt : b.fixed < 2 ^ 256) (laid_lt : b.laid < 2 ^ 256) where
    -- pieces that pass the test are a cutting of the board,
    cuts_start : (xs : List (ℕ × ℕ)) → So (cuts b paths (marks b) xs) → IsCutting b paths (set_in xs)
    cuts_start xs h = (cutting_start b paths good fixed_lt laid_lt (set_in xs)).0 (cuts_cutting (marks b) xs (start_ok b paths good fixed_lt laid_lt) h)

    -- and the only one where each is told with a cell that no other piece covers
    one_cutting : (xs : List (ℕ × ℕ)) → So (cuts b paths (marks b) xs) → map (λ x. pieces b paths x.0) xs ≡ map (λ x. x.1 ∷ []) xs
        → Exactly 1 (IsCutting b paths)
    one_cutting xs h alone = exactly_one (set_in xs) (cuts_start xs h) (λ X u. cutting_within X (set_in xs) u (cuts_start xs h) (forced xs alone X u))

-- the board of the last row, and that it is accepted
abbrev pub four_by_two : Board
four_by_two = record { width = 4; height = 2; fixed = 0; laid = 0 }

four_by_two_valid : So (valid four_by_two)
unfolding valid
four_by_two_valid = refl

-- the corners (1, 0), (0, 0), (0, 3) and (1, 3), each with the one piece that covers it. "Cell (row, column) is bit 16 × row + column"
abbrev slanted_pieces : List (ℕ × ℕ)
slanted_pieces = (16, 2 ^ 16 + 2 ^ 1) ∷ (0, 2 ^ 17 + 2 ^ 0) ∷ (3, 2 ^ 18 + 2 ^ 3) ∷ (19, 2 ^ 19 + 2 ^ 2) ∷ []

-- the pieces fit one after another and leave no cell free
slanted_cuts : So (cuts four_by_two slanted (marks four_by_two) slanted_pieces)
unfolding cuts marks step
slanted_cuts = refl

-- no other piece covers a corner
slanted_alone : map (λ x. pieces four_by_two slanted x.0) slanted_pieces ≡ map (λ x. x.1 ∷ []) slanted_pieces
unfolding pieces step
slanted_alone = refl

-- "one cutting exists",
pub slanted_cutting_exists : (X : ℕ → Bool) × IsCutting four_by_two slanted X
slanted_cutting_exists = (set_in slanted_pieces, cuts_start four_by_two slanted four_by_two_valid (lit< tt) (lit< tt) slanted_pieces slanted_cuts)

-- and no other.
pub one_slanted_cutting : Exactly 1 (IsCutting four_by_two slanted)
one_slanted_cutting = one_cutting four_by_two slanted four_by_two_valid (lit< tt) (lit< tt) slanted_pieces slanted_cuts slanted_alone
