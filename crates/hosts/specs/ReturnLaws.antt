-- Laws of the number that is returned: it is 0 exactly if the answer is a value, since no definition refuses by 0; and then the shapes are right. Rests on
-- refusal's `RefusalLaws`, tile's `StoredLaws` and plot_file's `Theorems`. Assumes nothing.
use Rattle.std.specs.Prelude.{◌≡◌, ◌↔◌, Bool, true, false, cond, ◌&&◌, List, ℕ, zero, suc, ◌+◌, ◌/◌, ◌%◌, ◌≤◌, ◌<◌, eqb, leb, ltb, length}
use Rattle.std.proofs.Math.Path.{refl, sym, ap}
use Rattle.std.proofs.Common.{◌∙◌, arith, lit<, eqb-true, leb-true}
use Rattle.std.proofs.lemmas.Bool.{eqb-false}
use Rattle.cells.specs.Set.{value}
use Rattle.refusal.specs.Refusal.{Answer, refused, given, map_answer, refusal_of}
use Rattle.refusal.specs.RefusalLaws.{refused_given, Refuses, refuses_one, refuses_none, refuses_cond, refuses_bind, refuses_map}
use Rattle.tile.specs.declared.Tile.{Tile}
use Rattle.tiles.specs.declared.Tiles.{Tiles}
use Rattle.tile.specs.Path.{Path, read_tile}
use Rattle.tiles.specs.Paths.{equal_counts, orbit, paths_in, sound_at, read_tiles, read_equal_tiles}
use Rattle.tile.specs.StoredLaws.{read_tile_refuses}
use Rattle.cells.specs.Lists.{all_below}
use Rattle.board.specs.declared.RectangularBoard.{RectangularBoard}
use Rattle.board.specs.Board.{board_of, read_board}
use Rattle.board.specs.BoardLaws.{read_board_positive}
use Rattle.rectangle.proofs.BoardLaws.{accept_board_positive}
use Rattle.rectangle.specs.Board.{Board, marks as marksOf, accept_board, free_count}
use Rattle.children.specs.Children.{children, children_of, place_tile, children_at, free_count_at}
use Rattle.covers.specs.Counts.{Entry, counts, layer}
use Rattle.graph.specs.declared.GraphResult.{GraphResult}
use Rattle.graph.specs.Graph.{node_room, edge_room, count_from_graph}
use Rattle.numbered_tilings.specs.Tilings.{bad_graph, node_list_in, tiling_by_number}
use Rattle.tiler.specs.Graphs.{Graph, graph_of, judge_graph, generate_graph}
use Rattle.layers.specs.LayerCounts.{too_large, judge_layer, judge_layers, count_tilings, layer_count_for}
use Rattle.expansion.specs.Plots.{accept_plot}
use Rattle.single_tiling.specs.SingleTiling.{read_search}
use Rattle.plot_file.specs.PlotFile.{plot_in}
use Rattle.plot_file.proofs.Theorems.{refusal_positive}
use Rattle.host_words.specs.Layout.{board_in, result_in, plot_shape, unless, AnswersWords}
use Rattle.host_words.specs.AnswerLaws.{unless_right}
use Rattle.host_tiles.specs.TileBytes.{tile_in, tiles_in}
use Rattle.host_plots.specs.Calls.{orbit_shape, file_shape, placed, orbit_for, read_file}
use Rattle.cuttings.specs.Cuttings.{cuttings_of, count_cuttings}
use Rattle.host_counts.specs.Calls.{counted, cuttings_counted, generated}
use Rattle.host_tilings.specs.Calls.{tiling_shape, searched, numbered}

-- ---- no definition refuses by 0

abbrev pub Positive : ℕ → Type 0
Positive n = 0 < n

-- a refusal that is no 0, and a test of one cause
one : {A : Type 0} (k : ℕ) → 0 < k → Refuses {A = A} Positive (refused k)
one k h = refuses_one Positive k h

test : {A : Type 0} (t : Bool) (x : A) (k : ℕ) → 0 < k → Refuses Positive (cond t (given x) (refused k))
test t x k h = refuses_cond Positive t (given x) (refused k) (refuses_none Positive x) (one k h)

accept_refuses : (b : Board) → Refuses Positive (accept_board b)
accept_refuses b = accept_board_positive b

board_refuses : (b : RectangularBoard) → Refuses Positive (read_board b)
board_refuses b = read_board_positive b

tiles_refuses : (ts : Tiles) → Refuses Positive (read_tiles ts)
unfolding read_tiles
tiles_refuses ts =
    refuses_cond Positive (leb ts.count 64) _ _ (test (all_below (sound_at ts.lens ts.codes) ts.count) (paths_in ts) 5 (lit< tt)) (one 6 (lit< tt))

equal_refuses : (ts : Tiles) → Refuses Positive (read_equal_tiles ts)
unfolding read_equal_tiles
equal_refuses ts = refuses_bind Positive (read_tiles ts) _ (tiles_refuses ts) (λ paths. test (equal_counts paths) paths 7 (lit< tt))

pub place_refuses : (b : Board) (ts : Tiles) (room : ℕ) → Refuses Positive (place_tile b ts room)
unfolding place_tile children_of
place_refuses b ts room =
    refuses_bind Positive (children_of b ts) _
    (refuses_bind Positive (accept_board b) _ (accept_refuses b) (λ board. refuses_map Positive (children board) (read_tiles ts) (tiles_refuses ts)))
    (λ ns. test (leb (length ns) (room / 4)) ns 8 (lit< tt))

plot_refuses : (b : RectangularBoard) (ts : Tiles) → Refuses Positive (accept_plot b ts)
unfolding accept_plot
plot_refuses b ts =
    refuses_bind Positive (read_board b) _ (board_refuses b) (λ board. refuses_map Positive (λ (paths : List Path). (board, paths)) (read_equal_tiles ts) (equal_refuses ts))

judge_layer_refuses : (room : ℕ) (es : List (Entry ℕ)) → Refuses Positive (judge_layer room es)
unfolding judge_layer
judge_layer_refuses room es =
    refuses_cond Positive (leb (length es) room) _ _
    (refuses_cond Positive (too_large (counts es)) _ _ (one 9 (lit< tt)) (refuses_none Positive es)) (one 8 (lit< tt))

judge_layers_refuses : (at : ℕ → List (Entry ℕ)) (room n : ℕ) → Refuses Positive (judge_layers at room n)
unfolding judge_layers
judge_layers_refuses at room zero = judge_layer_refuses room (at zero)
judge_layers_refuses at room (suc n) = refuses_bind Positive (judge_layers at room n) _ (judge_layers_refuses at room n) (λ es. judge_layer_refuses room (at (suc n)))

layers_refuses : (b : Board) (paths : List Path) (room : ℕ) → Refuses Positive (layer_count_for b paths room)
unfolding layer_count_for
layers_refuses b paths room = refuses_map Positive _ _ (judge_layers_refuses (layer eqb (children_at b paths) (marksOf b)) room (free_count_at b (marksOf b)))

pub count_refuses : (b : RectangularBoard) (ts : Tiles) (room : ℕ) → Refuses Positive (count_tilings b ts room)
unfolding count_tilings
count_refuses b ts room =
    refuses_bind Positive (accept_plot b ts) _ (plot_refuses b ts) (λ p. layers_refuses p.0 p.1 room)

judge_graph_refuses : (nodes edges : ℕ) (g : Graph) → Refuses Positive (judge_graph nodes edges g)
unfolding judge_graph
judge_graph_refuses nodes edges g =
    refuses_cond Positive (leb (length g.nodes) nodes) _ _
    (refuses_cond Positive (leb (length g.edges) edges) _ _
    (refuses_cond Positive (too_large g.counts) _ _ (one 9 (lit< tt)) (refuses_none Positive g)) (one 10 (lit< tt))) (one 8 (lit< tt))

pub graph_refuses : (b : RectangularBoard) (ts : Tiles) (node_words count_words edge_words : ℕ) → Refuses Positive (generate_graph b ts node_words count_words edge_words)
unfolding generate_graph
graph_refuses b ts node_words count_words edge_words =
    refuses_bind Positive (accept_plot b ts) _ (plot_refuses b ts)
    (λ p. judge_graph_refuses (node_room node_words count_words) (edge_room edge_words) (graph_of p.0 p.1))

pub search_refuses : (b : RectangularBoard) (ts : Tiles) (room : ℕ) → Refuses Positive (read_search b ts room)
unfolding read_search
search_refuses b ts room =
    refuses_bind Positive (read_board b) _ (board_refuses b)
    (λ board. refuses_bind Positive (read_tiles ts) _ (tiles_refuses ts) (λ paths. test (leb (free_count board + 1) room) (board, paths) 8 (lit< tt)))

pub tiling_refuses : (r : GraphResult) (node_words : ℕ) (counts edges : List ℕ) (m room : ℕ) → Refuses Positive (tiling_by_number r node_words counts edges m room)
unfolding tiling_by_number
tiling_refuses r node_words counts edges m room =
    refuses_cond Positive (bad_graph r node_words counts edges) _ _ (one 11 (lit< tt))
    (refuses_cond Positive (ltb m (count_from_graph r.complete counts)) _ _
    (test (leb (length (node_list_in r counts edges m)) room) (node_list_in r counts edges m) 8 (lit< tt)) (one 12 (lit< tt)))

pub orbit_refuses : (t : Tile) → Refuses Positive (map_answer orbit (read_tile t))
orbit_refuses t = refuses_map Positive orbit (read_tile t) (read_tile_refuses t Positive (lit< tt))

pub file_refuses : (file : List ℕ) → Refuses Positive (plot_in file)
file_refuses = refusal_positive

-- ---- nor do wrong shapes

pub unless_refuses : {A : Type 0} (n : ℕ) (a : Answer A) → Refuses Positive a → Refuses Positive (unless n a)
unfolding unless
unless_refuses {A} n a p = go (eqb n 0) refl
  where
    go : (t : Bool) → eqb n 0 ≡ t → Refuses Positive (cond t a (refused n))
    go true e = p
    go false e = one n (omega (arith, eqb-false n 0 e))

pub unless_given : {A : Type 0} (n : ℕ) (a : Answer A) (x : A) → unless n a ≡ given x → (n ≡ 0) × (a ≡ given x)
unfolding unless
unless_given {A} n a x e = go (eqb n 0) refl e
  where
    go : (t : Bool) → eqb n 0 ≡ t → cond t a (refused n) ≡ given x → (n ≡ 0) × (a ≡ given x)
    go true q h = (eqb-true n 0 q, h)
    go false q h = absurd (refused_given n x h)

-- where something is given, it is what the call below gives
pub unless_same : {A : Type 0} (n : ℕ) (a : Answer A) → ((x : A) × (unless n a ≡ given x)) → unless n a ≡ a
unless_same n a h = unless_right n a (unless_given n a h.0 h.1).0

-- ---- the number that is returned

module _ {A : Type 0} where
  -- an answer whose number is 0 is a value
  pub given_zero : (a : Answer A) → Refuses Positive a → refusal_of a ≡ 0 → (x : A) × (a ≡ given x)
  unfolding refusal_of
  given_zero (refused n) p e = absurd (omega (arith, p n refl))
  given_zero (given x) p e = (x, refl)

  pub map_number : {B : Type 0} (f : A → B) (a : Answer A) → refusal_of (map_answer f a) ≡ refusal_of a
  unfolding refusal_of map_answer
  map_number f (refused n) = refl
  map_number f (given x) = refl

  -- 0 is returned exactly if nothing is refused
  pub zero_given : (f : A → List ℕ) (a : Answer A) (old new : List ℕ) (r : ℕ) → Refuses Positive a → AnswersWords (map_answer f a) old new r → (r ≡ 0) ↔ ((x : A) × (a ≡ given x))
  unfolding refusal_of
  zero_given f a old new r p t = (
    λ e. given_zero a p (sym (map_number f a) ∙ sym t.number ∙ e),
    λ x. t.number ∙ map_number f a ∙ ap refusal_of x.1,
  )

-- ---- shapes that are right

pub plot_shape_lem : (needed marks tiles answer : ℕ) → plot_shape needed marks tiles answer ≡ 0 → (marks ≡ 8) × (tiles % 33 ≡ 0) × (needed ≤ answer)
unfolding plot_shape
plot_shape_lem needed marks tiles answer e = go (eqb marks 8) refl (eqb (tiles % 33) 0) refl (leb needed answer) refl e
  where
    go : (s : Bool) → eqb marks 8 ≡ s → (t : Bool) → eqb (tiles % 33) 0 ≡ t → (u : Bool) → leb needed answer ≡ u
        → ◌≡◌ {A = ℕ} (cond s (cond t (cond u 0 8) 5) 4) 0 → (marks ≡ 8) × (tiles % 33 ≡ 0) × (needed ≤ answer)
    go true p true q true w h = (eqb-true marks 8 p, eqb-true (tiles % 33) 0 q, leb-true needed answer w)
    go true p true q false w h = absurd (omega (arith, h))
    go true p false q u w h = absurd (omega (arith, h))
    go false p t q u w h = absurd (omega (arith, h))

pub orbit_shape_lem : (tile tiles answer : ℕ) → orbit_shape tile tiles answer ≡ 0 → (tile ≡ 33) × (264 ≤ tiles) × (1 ≤ answer)
unfolding orbit_shape
orbit_shape_lem tile tiles answer e = go (eqb tile 33) refl (leb 264 tiles) refl (leb 1 answer) refl e
  where
    go : (s : Bool) → eqb tile 33 ≡ s → (t : Bool) → leb 264 tiles ≡ t → (u : Bool) → leb 1 answer ≡ u
        → ◌≡◌ {A = ℕ} (cond s (cond (t && u) 0 8) 5) 0 → (tile ≡ 33) × (264 ≤ tiles) × (1 ≤ answer)
    go true p true q true w h = (eqb-true tile 33 p, leb-true 264 tiles q, leb-true 1 answer w)
    go true p true q false w h = absurd (omega (arith, h))
    go true p false q u w h = absurd (omega (arith, h))
    go false p t q u w h = absurd (omega (arith, h))

pub file_shape_lem : (board tiles answer : ℕ) → file_shape board tiles answer ≡ 0 → (10 ≤ board) × (2112 ≤ tiles) × (1 ≤ answer)
unfolding file_shape
file_shape_lem board tiles answer e = go (leb 10 board) refl (leb 2112 tiles) refl (leb 1 answer) refl e
  where
    go : (s : Bool) → leb 10 board ≡ s → (t : Bool) → leb 2112 tiles ≡ t → (u : Bool) → leb 1 answer ≡ u
        → ◌≡◌ {A = ℕ} (cond (s && (t && u)) 0 8) 0 → (10 ≤ board) × (2112 ≤ tiles) × (1 ≤ answer)
    go true p true q true w h = (leb-true 10 board p, leb-true 2112 tiles q, leb-true 1 answer w)
    go true p true q false w h = absurd (omega (arith, h))
    go true p false q u w h = absurd (omega (arith, h))
    go false p t q u w h = absurd (omega (arith, h))

-- ---- the seven answers

module _ (width height : ℕ) (marks tiles : List ℕ) (words : ℕ) where
  pub placed_refuses : (room : ℕ) → Refuses Positive (placed width height marks tiles room words)
  unfolding placed
  placed_refuses room = unless_refuses (plot_shape 1 (length marks) (length tiles) words) _ (place_refuses (board_of (board_in width height marks)) (tiles_in tiles) room)

  pub counted_refuses : (room : ℕ) → Refuses Positive (counted width height marks tiles room words)
  unfolding counted
  counted_refuses room = unless_refuses (plot_shape 2 (length marks) (length tiles) words) _ (count_refuses (board_in width height marks) (tiles_in tiles) room)

  pub cuttings_refuses : (room : ℕ) → Refuses Positive (cuttings_counted width height marks tiles room words)
  unfolding cuttings_counted count_cuttings
  cuttings_refuses room =
      unless_refuses (plot_shape 2 (length marks) (length tiles) words) _
      (refuses_map Positive (cuttings_of (board_of (board_in width height marks))) _ (count_refuses (board_in width height marks) (tiles_in tiles) room))

  pub generated_refuses : (node_words count_words edge_words : ℕ) → Refuses Positive (generated width height marks tiles node_words count_words edge_words words)
  unfolding generated
  generated_refuses node_words count_words edge_words =
      unless_refuses (plot_shape 4 (length marks) (length tiles) words) _ (graph_refuses (board_in width height marks) (tiles_in tiles) node_words count_words edge_words)

  pub searched_refuses : (outWords : ℕ) → Refuses Positive (searched width height marks tiles outWords words)
  unfolding searched
  searched_refuses outWords = unless_refuses (plot_shape 1 (length marks) (length tiles) words) _ (search_refuses (board_in width height marks) (tiles_in tiles) (outWords / 4))

pub numbered_refuses : (node_words : ℕ) (counts edges graph m : List ℕ) (room words : ℕ) → Refuses Positive (numbered node_words counts edges graph m room words)
unfolding numbered
numbered_refuses node_words counts edges graph m room words =
    unless_refuses (tiling_shape graph (length m) words) _ (tiling_refuses (result_in graph) node_words counts edges (value m) room)

pub orbit_for_refuses : (tile : List ℕ) (bytes words : ℕ) → Refuses Positive (orbit_for tile bytes words)
unfolding orbit_for
orbit_for_refuses tile bytes words = unless_refuses (orbit_shape (length tile) bytes words) _ (orbit_refuses (tile_in tile))

pub read_refuses : (file : List ℕ) (boardSize bytes words : ℕ) → Refuses Positive (read_file file boardSize bytes words)
unfolding read_file
read_refuses file boardSize bytes words = unless_refuses (file_shape boardSize bytes words) _ (file_refuses file)
