-- What the functions of `descent` and `fits` other than the walk answer: whether an accepted board is full, the cell on which pieces are put, and the piece
-- of an index. Rests on the laws of `tile` and `board`. Assumes nothing.
use Rattle.std.specs.Prelude.{Ok, Result}
use mathlib.Core.Path.{◌≡◌, refl, sym, ap, ap₂, ◌∙◌}
use mathlib.Core.Bool.{Bool, true, false, So, cond, not, ◌&&◌}
use mathlib.Core.List.{List, []}
use Rattle.std.specs.Prelude.{Option, None, Some}
use Prim.Native.Nat.{ℕ, ◌+◌, ◌-◌, ◌*◌, ◌/◌, ◌%◌, ◌≤◌, ◌<◌}
use native.Mathlib.Omega.{arith}
use lib.Dec.{eqb}
use lib.ListN.{get_or, take, drop}
use borrow.Author.Tests.{ne_eqb}
use Rattle.cells.specs.ArrayLaws.{get_d_list_of}
use Rattle.refusal.specs.declared.Refusal.{Refusal}
use Rattle.refusal.specs.Refusal.{given, map_answer, answer_of}
use Rattle.refusal.specs.RefusalLaws.{given_inj}
use Rattle.tile.specs.Path.{Path}
use Rattle.tiles.specs.declared.Tiles.{Tiles}
use Rattle.tiles.specs.Paths.{contains_single, path_at, paths_in}
use Rattle.board.specs.declared.RectangularBoard.{RectangularBoard}
use Rattle.rectangle.specs.Board.{Board, marks, is_full, valid}
use Rattle.board.specs.Board.{board_of, read_board}
use Rattle.choice.specs.Choice.{count_of, chosen, cell_with_count, chosen_count}
use Rattle.children.specs.Children.{pruned}
use Rattle.fit.specs.Inner.{fit_for}
use Rattle.fit.specs.Parts.{fit_in}
use Rattle.fit.proofs.FitForLaws.{fit_in_is_fit_for}
use Rattle.board.specs.BoardLaws.{read_board_given}
use Rattle.rectangle.proofs.BoardLaws.{valid_width}
use Rattle.children.specs.PruneLaws.{pruned_chosen}
use Rattle.tiles.specs.ReadLaws.{sound_tile}
use Rattle.children.proofs.PlacingLaws.{part_path}
use Rattle.single_tiling.specs.Inner.{fit_index, place_for, Read}

-- a pair that is given, 0 and 0 with none
abbrev pair_in : Option (ℕ × ℕ) → ℕ × ℕ
pair_in None = (0, 0)
pair_in (Some p) = p

module _ (b : RectangularBoard) (good : So (valid (board_of b))) where
  -- what is asked of an accepted board is answered
  pub read_given : {A : Type 0} (f : Board → A) → map_answer f (read_board b) ≡ given (f (board_of b))
  unfolding map_answer
  read_given f = ap (map_answer f) (read_board_given b good)

  -- ---- whether it is full

  pub full_is : (r : Result Bool Refusal) → answer_of r ≡ map_answer is_full (read_board b) → (full : Bool) → r ≡ Ok full → full ≡ is_full (board_of b)
  full_is r e full q = given_inj full (is_full (board_of b)) (sym (ap answer_of q) ∙ e ∙ read_given is_full)

  -- ---- `choose_place`

  module _ (r : Result (Option (ℕ × ℕ)) Refusal) (e : answer_of r ≡ map_answer chosen_count (read_board b)) where
    pub place_full : r ≡ Ok None → (paths : List Path) → None ≡ place_for (board_of b) paths
    unfolding chosen_count cell_with_count place_for
    place_full h paths = go (pruned (board_of b) paths) (chosen (board_of b)) (given_inj None (chosen_count (board_of b)) (sym (ap answer_of h) ∙ e ∙ read_given chosen_count))
      where
        go : (t : Bool) (o : Option ℕ) → None ≡ cell_with_count (board_of b) o → None ≡ cond t None o
        go true o q = refl
        go false None q = refl
        go false (Some cell) q = let z : ◌≡◌ {A = ℕ} 0 1 = cc in absurd (omega arith)

    module _ (cell n : ℕ) (h : r ≡ Ok (Some (cell, n))) where
      told : (chosen (board_of b) ≡ Some cell) × (n ≡ count_of (board_of b) cell)
      unfolding chosen_count cell_with_count
      told = go (chosen (board_of b)) (given_inj (Some (cell, n)) (chosen_count (board_of b)) (sym (ap answer_of h) ∙ e ∙ read_given chosen_count))
        where
          go : (o : Option ℕ) → Some (cell, n) ≡ cell_with_count (board_of b) o → (o ≡ Some cell) × (n ≡ count_of (board_of b) cell)
          go None q = let z : ◌≡◌ {A = ℕ} 0 1 = cc in absurd (omega arith)
          go (Some c) q =
              let x : cell ≡ c = ap (λ (p : Option (ℕ × ℕ)). (pair_in p).0) q in
              let y : n ≡ count_of (board_of b) c = ap (λ (p : Option (ℕ × ℕ)). (pair_in p).1) q in
              (ap Some (sym x), y ∙ ap (count_of (board_of b)) (sym x))

      -- the test of the chosen cell's count decides
      place_by : (paths : List Path) (t : Bool) → (eqb n 4 && not (contains_single paths)) ≡ t → cond t None (Some cell) ≡ place_for (board_of b) paths
      unfolding place_for
      place_by paths t f =
          ap₂ (λ (s : Bool) (o : Option ℕ). cond s None o)
          (sym f ∙ ap (λ (k : ℕ). eqb k 4 && not (contains_single paths)) told.1 ∙ sym (pruned_chosen (board_of b) (valid_width (board_of b) good) paths cell told.0)) (sym told.0)

      pub place_single : (single : Bool) → single ≡ true → (paths : List Path) → single ≡ contains_single paths → Some cell ≡ place_for (board_of b) paths
      place_single single s paths f = place_by paths false (rw (← f, s) (never (eqb n 4)))
        where
          never : (t : Bool) → (t && false) ≡ false
          never true = refl
          never false = refl

      pub place_four : (single : Bool) → single ≡ false → n ≡ 4 → (paths : List Path) → single ≡ contains_single paths → None ≡ place_for (board_of b) paths
      place_four single s four paths f = place_by paths true (rw (← f, s, four))

      pub place_other : (single : Bool) → single ≡ false → (n ≡ 4 → ⊥) → (paths : List Path) → single ≡ contains_single paths → Some cell ≡ place_for (board_of b) paths
      place_other single s other paths f = place_by paths false (rw (ne_eqb n 4 other))

-- ---- `fit_at`

module _ (ts : Tiles) (i : ℕ) (h : i < 33 * ts.count) where
  index_below : i / 33 < ts.count
  index_below = omega arith

  -- the path of the index's tile is short
  pub index_short : Read ts → (get_or ts.lens (i / 33) 0 ≤ 32) × (i / 33 < 64)
  index_short read =
      let few = read.0 in
      let less = index_below in
      ((sound_tile ts read.2 (i / 33) index_below).0, omega arith)

  -- the part of the codes that is lent is the path of the index's tile
  pub index_fit : (b : Board) (m : ℕ) → m ≡ marks b → (cell : ℕ) (fits : List ℕ)
      → fits ≡ fit_in b.width b.height m (take (32 * (i / 33) + get_or ts.lens (i / 33) 0 - 32 * (i / 33)) (drop (32 * (i / 33)) ts.codes)) (i % 33) cell
      → fits ≡ fit_index b (paths_in ts) cell i
  unfolding fit_index
  index_fit b m marked cell fits e =
      e ∙ fit_in_is_fit_for b m marked _ (i % 33) cell ∙ ap (λ (path : List ℕ). fit_for b path (i % 33) cell) (part_path ts.lens ts.codes (i / 33) ∙ sym (get_d_list_of (path_at ts.lens ts.codes) ts.count (i / 33) [] index_below))
