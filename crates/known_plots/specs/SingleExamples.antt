-- Examples: the first tiling of small boards and the refusals by the definitions, and calls at which theorems are applied. Rests on single_tiling's
-- `Theorems`. Assumes nothing.
use Rattle.std.specs.Prelude.{Err, Ok, Option, Result, ◌≡◌, refl, ◌↔◌, Bool, true, List, [], ◌∷◌, ℕ, ◌≤◌, length, None, Some}
use Rattle.refusal.specs.declared.Refusal.{Refusal}
use Rattle.std.proofs.Common.{sym, ap, ◌∙◌, subst, ⊎_elim, lit≤, lit<}
use Rattle.std.proofs.Math.Bool.{So}
use mathlib.Core.List.Memᴰ.{cases_cons}
use mathlib.Core.List.Memᴰ.{eq_of_singleton}
use mathlib.Core.List.Memᴰ.{head as here}
use mathlib.Core.List.Memᴰ.{not-nil}
use Rattle.cells.specs.ListLaws.{sets_in}
use Rattle.cells.specs.Lists.{words_for}
use Rattle.cells.specs.Set.{number}
use Rattle.refusal.specs.Refusal.{Answer, refused, given, map_answer, bind_answer, value_or, answer_of}
use Rattle.refusal.specs.declared.Refusal.TheVariants as R
use Rattle.refusal.specs.RefusalLaws.{given_inj}
use Rattle.direction.specs.Direction.{step}
use Rattle.tiles.specs.declared.Tiles.{Tiles}
use Rattle.tile.specs.Path.{Path, codes_ok, cell_count}
use Rattle.tiles.specs.Paths.{equal_counts, tiles_of, paths_in, read_tiles}
use Rattle.tiles.specs.Inner.{Storable}
use Rattle.tiles.specs.StoredLaws.{read_tiles_tiles_of}
use Rattle.tiles.specs.ReadLaws.{read_tiles_sound}
use Rattle.tiles.specs.EqualLaws.{read_equal_tiles_equal}
use Rattle.tile.specs.EdgeTest.{edge_joined, edge_joined_iff}
use Rattle.rectangle.specs.Board.{Board, marks, is_free, free_count, is_full}
use Rattle.board.specs.Board.{board_of, read_board}
use Rattle.children.specs.Children.{children}
use Rattle.expansion.specs.Plots.{accept_plot, IsCutting, AllEdgeJoined}
use Rattle.layers.specs.LayerCounts.{layer_count_for, count_tilings}
use Rattle.known_plots.specs.Examples.{board, rectangle, no_marks_lem}
use Rattle.single_tiling.specs.SingleTiling.{IsTiling, read_search, boards_found, number_found, GetsSingleTiling}
use Rattle.single_tiling.specs.Inner.{single_of}
use Rattle.single_tiling.specs.Theorems.{found_is_tiling, no_cells_answer_none, none_exactly_where_the_count_is_0, none_means_no_cutting}

-- ---- the first tiling in child order

-- Right; a single tile and Right, which do not cover equally many cells; and Right Right and Right
abbrev right : List Path
right = (3 ∷ []) ∷ []

abbrev unequal : List Path
unequal = [] ∷ (3 ∷ []) ∷ []

abbrev long : List Path
long = (3 ∷ 3 ∷ []) ∷ (3 ∷ []) ∷ []

two_cells : single_of (board 2 1 0 0) right ≡ 0 ∷ 3 ∷ []
unfolding single_of step
two_cells = refl

three_cells : single_of (board 3 1 0 0) unequal ≡ 0 ∷ 1 ∷ 3 ∷ 7 ∷ []
unfolding single_of step
three_cells = refl

-- the first child leads nowhere
four_cells : single_of (board 4 1 0 0) long ≡ 0 ∷ 3 ∷ 15 ∷ []
unfolding single_of step
four_cells = refl

-- no tiling
one_cell : single_of (board 1 1 0 0) right ≡ []
unfolding single_of step
one_cell = refl

-- no piece: a full start, and 0 by 0
full_start : single_of (board 2 1 1 2) right ≡ []
unfolding single_of step
full_start = refl

no_cells : single_of (board 0 0 0 0) right ≡ []
unfolding single_of step
no_cells = refl

-- ---- refusals

-- so many tiles, the first of them the code 9
abbrev nines : ℕ → Tiles
nines n = record { count = n; lens = 1 ∷ []; codes = 9 ∷ [] }

-- "Refusals: 4, 6, 5; 8": the first cause decides, here with no room at all
refusals : read_search (rectangle 0 5) (nines 65) 0 ∷ read_search (rectangle 2 1) (nines 65) 0 ∷ read_search (rectangle 2 1) (nines 1) 0 ∷ [] ≡ refused 4 ∷ refused 6 ∷ refused 5 ∷ []
unfolding read_search number
refusals = refl

stored : Storable right
unfolding codes_ok
stored p m =
    ⊎_elim (λ e. subst (λ (q : Path). (length q ≤ 32) × So (codes_ok q)) (sym e) (lit≤ tt, refl)) (λ n. absurd (not-nil n)) (cases_cons m)

right_read : read_tiles (tiles_of right) ≡ given right
right_read = read_tiles_tiles_of right (lit≤ tt) stored

-- two free cells: "output holds fewer than free cells + 1 boards" is refused, room for three is enough
no_room : read_search (rectangle 2 1) (tiles_of right) 2 ≡ refused 8
unfolding read_search read_board bind_answer free_count number
no_room = rw right_read

two_read : read_search (rectangle 2 1) (tiles_of right) 3 ≡ given (board 2 1 0 0, right)
unfolding read_search read_board bind_answer free_count number
two_read = rw right_read

-- what the answers of the code stand for
answers : answer_of {A = Option ℕ} (Ok (Some 2)) ∷ answer_of (Ok None) ∷ answer_of (Err R.BadTile) ∷ [] ≡ given (Some 2) ∷ given None ∷ refused 5 ∷ []
answers = refl

-- what was found, and how many boards: nothing, and three
found : (boards_found None ≡ []) × (number_found None ≡ None) × (boards_found (Some (0 ∷ 3 ∷ 7 ∷ [])) ≡ 0 ∷ 3 ∷ 7 ∷ []) × (number_found (Some (0 ∷ 3 ∷ 7 ∷ [])) ≡ Some 3)
unfolding boards_found number_found
found = (refl, refl, refl, refl)

-- ---- the conditions of the theorems can be met: the 2 by 1 board and Right, with room for three boards

abbrev lent : List ℕ
lent = 0 ∷ 0 ∷ 0 ∷ 0 ∷ 0 ∷ 0 ∷ 0 ∷ 0 ∷ 0 ∷ 0 ∷ 0 ∷ 0 ∷ []

two_tiling : IsTiling (board 2 1 0 0) right (0 ∷ 3 ∷ [])
unfolding children is_full marks step
two_tiling = record { last = 3; sequence = (refl, (here refl, refl)); full = refl; pieces = lit< tt }

two_call : GetsSingleTiling (rectangle 2 1) (tiles_of right) lent (words_for (0 ∷ 3 ∷ []) 12) (Ok (Some 2))
unfolding map_answer value_or boards_found number_found
two_call = record {
  found = Some (0 ∷ 3 ∷ []);
  tiling = λ p e. subst (λ (q : Board × List Path). IsTiling q.0 q.1 (0 ∷ 3 ∷ [])) (given_inj (board 2 1 0 0, right) p (sym two_read ∙ e)) two_tiling;
  answer = ap (map_answer (λ (p : Board × List Path). Some 2)) (sym two_read);
  words = ap (λ (a : Answer (Board × List Path)). words_for (value_or [] (map_answer (λ p. 0 ∷ 3 ∷ []) a)) 12) (sym two_read);
}

two_found : (xs : List ℕ) × IsTiling (board 2 1 0 0) right xs × (length xs ≡ 2) × (sets_in (words_for (0 ∷ 3 ∷ []) 12) 2 ≡ xs) × (words_for (0 ∷ 3 ∷ []) 12 ≡ words_for xs 12)
two_found =
    found_is_tiling (rectangle 2 1) no_marks_lem no_marks_lem (tiles_of right) lent (words_for (0 ∷ 3 ∷ []) 12) (Ok (Some 2)) two_call (board 2 1 0 0, right) two_read 2 refl

-- the layer count is 1: none would be answered only if it were 0
equal_counts_lem : equal_counts right ≡ true
unfolding equal_counts step
equal_counts_lem = refl

two_plot : accept_plot (rectangle 2 1) (tiles_of right) ≡ given (board 2 1 0 0, right)
unfolding accept_plot bind_answer map_answer number
two_plot = rw (read_equal_tiles_equal (tiles_of right) right right_read equal_counts_lem)

two_layers_lem : layer_count_for (board 2 1 0 0) right 1 ≡ given 1
unfolding layer_count_for step
two_layers_lem = refl

two_counted : count_tilings (rectangle 2 1) (tiles_of right) 1 ≡ given 1
unfolding count_tilings layer_count_for bind_answer
two_counted = ap (λ (a : Answer (Board × List Path)). bind_answer a (λ p. layer_count_for p.0 p.1 1)) two_plot ∙ two_layers_lem

two_not_none : (answer_of {A = Option ℕ} (Ok (Some 2)) ≡ given None) ↔ ◌≡◌ {A = ℕ} 1 0
two_not_none =
    none_exactly_where_the_count_is_0 (rectangle 2 1) no_marks_lem no_marks_lem (tiles_of right) lent (words_for (0 ∷ 3 ∷ []) 12) (Ok (Some 2)) two_call
    (board 2 1 0 0, right) two_read 1 1 two_counted

-- the board has a free cell, and the cells of Right share an edge: none would mean that there is no cutting
right_joined : AllEdgeJoined right
unfolding edge_joined cell_count step
right_joined path m = (edge_joined_iff path).0 (subst (λ (q : Path). So (edge_joined q)) (sym (eq_of_singleton m)) refl)

corner_free : So (is_free (board_of (rectangle 2 1)) 0)
unfolding is_free number
corner_free = refl

two_cut : (answer_of {A = Option ℕ} (Ok (Some 2)) ≡ given None) ↔ ((X : ℕ → Bool) → IsCutting (board_of (rectangle 2 1)) (paths_in (tiles_of right)) X → ⊥)
two_cut =
    none_means_no_cutting (rectangle 2 1) no_marks_lem no_marks_lem (tiles_of right) lent (words_for (0 ∷ 3 ∷ []) 12) (Ok (Some 2)) two_call
    (board 2 1 0 0, right) two_read (0, corner_free) (subst AllEdgeJoined (read_tiles_sound (tiles_of right) right right_read).2 right_joined)

-- whatever a call with the 0 by 0 board and room for one board leaves, it answers none
none_read : read_search (rectangle 0 0) (tiles_of right) 1 ≡ given (board 0 0 0 0, right)
unfolding read_search read_board bind_answer free_count number
none_read = rw right_read

none_answered : (new : List ℕ) (r : Result (Option ℕ) Refusal) → GetsSingleTiling (rectangle 0 0) (tiles_of right) (0 ∷ 0 ∷ 0 ∷ 0 ∷ []) new r → answer_of r ≡ given None
none_answered new r call =
    no_cells_answer_none (rectangle 0 0) no_marks_lem no_marks_lem (tiles_of right) (0 ∷ 0 ∷ 0 ∷ 0 ∷ []) new r call (board 0 0 0 0, right) none_read refl
