-- Laws of the first tiling from a board: what it is for a full board, for one on which no piece is put, and for one with a chosen cell, by the index
-- of the fits on it; how long it is; and what `single_of` finds is a tiling of one piece or more, or there is none. Rests on `FirstLaws`, `IndexLaws`,
-- `TilingLaws` and expansion's `SettingLaws`. Assumes nothing.
use Rattle.std.specs.Prelude.{◌≡◌, Bool, length}
use Rattle.std.proofs.Math.Path.{refl, ap}
use Rattle.std.proofs.Common.{sym, ◌∙◌, subst, arith}
use Rattle.std.proofs.Math.Logic.{⊎_elim}
use Rattle.std.proofs.Math.Bool.{true, false, So, cond}
use mathlib.Core.List.{List, [], ◌∷◌, map}
use Rattle.std.specs.Prelude.{Option, None, Some}
use Rattle.cells.specs.OptionLaws.{none-ne-some}
use Prim.Native.Nat.{ℕ, zero, suc, ◌+◌, ◌*◌, ◌^◌, ◌≤◌, ◌<◌}
use Rattle.std.proofs.lemmas.Bool.{eqb-false}
use Rattle.cells.specs.Lists.{list_of}
use Rattle.cells.specs.SetLaws.{union_of_lt}
use Rattle.tile.specs.Path.{Path}
use Rattle.tiles.specs.Inner.{Storable}
use Rattle.rectangle.specs.Board.{Board, board_at, marks, free_count, is_full, valid, lay}
use Rattle.fit.specs.Fit.{IsPiece, pieces}
use Rattle.choice.specs.Choice.{chosen}
use Rattle.children.specs.Children.{pruned, children, children_at}
use Rattle.fit.proofs.PieceLaws.{pieces_are_pieces}
use Rattle.children.specs.ChildLaws.{children_pruned, children_full, children_chosen}
use Rattle.fit.proofs.LayLaws.{lay_valid}
use Rattle.covers.specs.Counts.{ChildSequence}
use Rattle.expansion.specs.Boards.{From}
use Rattle.expansion.proofs.SettingLaws.{start_at_lem, start_ok}
use Rattle.single_tiling.specs.SingleTiling.{Finds}
use Rattle.single_tiling.specs.Inner.{first_of, in_front, first_tiling, first_tiling_from, single_of, fit_index, place_for, New}
use Rattle.single_tiling.specs.FirstLaws.{or_else_nil, first_of_ext, first_of_map, tiling_full, tiling_more, tiling_none, tiling_steps, tiling_sound, tiling_complete}
use Rattle.single_tiling.specs.IndexLaws.{pieces_by_index, lay_fewer}
use Rattle.single_tiling.specs.TilingLaws.{child_falls, sequence_length, full_no_tiling, sequence_tiling}

-- the first tiling from what the fit of index i makes
abbrev pub walk_at : Board → List Path → ℕ → ℕ → List ℕ
walk_at b paths cell i = first_of (λ p. first_tiling_from (lay b p) paths) (fit_index b paths cell i)

-- what is found, or none
abbrev pub found_in : List ℕ → Option (List ℕ)
found_in [] = None
found_in (x ∷ xs) = Some (x ∷ xs)

-- ---- the walk at an index

module _ (b : Board) (paths : List Path) (cell i : ℕ) where
  pub walk_piece : (p : ℕ) → fit_index b paths cell i ≡ p ∷ [] → walk_at b paths cell i ≡ first_tiling_from (lay b p) paths
  unfolding first_of
  walk_piece p e = ap (first_of (λ p. first_tiling_from (lay b p) paths)) e ∙ or_else_nil (first_tiling_from (lay b p) paths)

  -- a piece that a lower index has need not be walked from again
  pub walk_new : (xs : List ℕ) → New (fit_index b paths cell) i xs → ((k : ℕ) → k < i → walk_at b paths cell k ≡ [])
      → walk_at b paths cell i ≡ first_of (λ p. first_tiling_from (lay b p) paths) xs
  unfolding first_of
  walk_new xs new before = ⊎_elim (λ e. ap walk (sym e)) (λ r. let s = r.1 in ap walk (sym s.2) ∙ before s.0 s.1 ∙ ap walk (sym r.0)) new
    where
      walk : List ℕ → List ℕ
      walk = first_of (λ p. first_tiling_from (lay b p) paths)

-- ---- the cell on which pieces are put

module _ (b : Board) (paths : List Path) where
  place_nowhere : place_for b paths ≡ None → children b paths ≡ []
  unfolding place_for
  place_nowhere e = go (pruned b paths) refl e
    where
      go : (t : Bool) → pruned b paths ≡ t → cond t None (chosen b) ≡ None → children b paths ≡ []
      go true q e = children_pruned b paths q
      go false q e = children_full b paths e

  place_cell : (cell : ℕ) → place_for b paths ≡ Some cell → (pruned b paths ≡ false) × (chosen b ≡ Some cell)
  unfolding place_for
  place_cell cell e = go (pruned b paths) refl e
    where
      go : (t : Bool) → pruned b paths ≡ t → cond t None (chosen b) ≡ Some cell → (pruned b paths ≡ false) × (chosen b ≡ Some cell)
      go true q e = absurd (none-ne-some cell e)
      go false q e = (q, e)

-- ---- arithmetic

from_one : (n : ℕ) → (n ≡ 0 → ⊥) → (k : ℕ) × (n ≡ suc k)
from_one zero h = absurd (h refl)
from_one (suc n) h = (n, refl)

free_some : (b : Board) → is_full b ≡ false → (k : ℕ) × (free_count b ≡ suc k)
unfolding is_full
free_some b e = from_one (free_count b) (eqb-false (free_count b) 0 e)

at_most : (x y : ℕ) → x ≡ y → x ≤ y
at_most x y e = omega arith

at_most_rest : (x y n k : ℕ) → x ≡ y → y < n → n ≡ suc k → x ≤ k
at_most_rest x y n k e h q = omega arith

-- ---- a laid piece, as a board of the start

module _ (b : Board) (good : So (valid b)) (paths : List Path) (fixed_lt : b.fixed < 2 ^ 256) (p : ℕ) (piece : IsPiece b paths p) where
  laid_at : board_at b (marks (lay b p)) ≡ lay b p
  unfolding lay
  laid_at = start_at_lem (lay b p) paths (lay_valid b good paths p piece) fixed_lt (union_of_lt b.laid p)

  laid_from : From b (marks (lay b p))
  unfolding lay
  laid_from =
      let r = start_ok (lay b p) paths (lay_valid b good paths p piece) fixed_lt (union_of_lt b.laid p) in
      record { accepted = r.accepted; above = r.above; small = r.small }

-- ---- the first tiling

module _ (b : Board) (good : So (valid b)) (fixed_lt : b.fixed < 2 ^ 256) (laid_lt : b.laid < 2 ^ 256) (paths : List Path) where
  abbrev full_at : ℕ → Bool
  full_at n = is_full (board_at b n)

  abbrev free_at_number : ℕ → ℕ
  free_at_number n = free_count (board_at b n)

  pub first_full : is_full b ≡ true → first_tiling_from b paths ≡ marks b ∷ []
  unfolding first_tiling_from
  first_full e = tiling_full full_at (children_at b paths) (free_count b) (marks b) (ap is_full (start_at_lem b paths good fixed_lt laid_lt) ∙ e)

  pub first_nowhere : is_full b ≡ false → place_for b paths ≡ None → first_tiling_from b paths ≡ []
  unfolding first_tiling_from
  first_nowhere e q =
      tiling_none full_at (children_at b paths) (free_count b) (marks b) (ap is_full (start_at_lem b paths good fixed_lt laid_lt) ∙ e)
      (ap (λ (d : Board). children d paths) (start_at_lem b paths good fixed_lt laid_lt) ∙ place_nowhere b paths q)

  -- the walk from a laid piece, in one step less
  laid_walk : (k : ℕ) → free_count b ≡ suc k → (p : ℕ) → IsPiece b paths p
      → first_tiling full_at (children_at b paths) k (marks (lay b p)) ≡ first_tiling_from (lay b p) paths
  unfolding first_tiling_from lay
  laid_walk k e p piece =
      let same : free_count (board_at b (marks (lay b p))) ≡ free_count (lay b p) = ap free_count (laid_at b good paths fixed_lt p piece) in
      tiling_steps full_at (children_at b paths) (From b) free_at_number (child_falls b good paths) k (free_count (lay b p)) (marks (lay b p))
      (laid_from b good paths fixed_lt p piece)
      (at_most_rest (free_count (board_at b (marks (lay b p)))) (free_count (lay b p)) (free_count b) k same (lay_fewer b good paths p piece) e)
      (at_most (free_count (board_at b (marks (lay b p)))) (free_count (lay b p)) same)

  pub first_place : Storable paths → is_full b ≡ false → (cell : ℕ) → place_for b paths ≡ Some cell
      → first_tiling_from b paths ≡ in_front (marks b) (first_of (walk_at b paths cell) (list_of (λ i. i) (33 * length paths)))
  unfolding first_tiling_from
  first_place small e cell q =
      let r = free_some b e in
      let place = place_cell b paths cell q in
      let below : ℕ → List ℕ = first_tiling full_at (children_at b paths) r.0 in
      let kids : children_at b paths (marks b) ≡ map (λ p. marks (lay b p)) (pieces b paths cell) =
      ap (λ (d : Board). children d paths) (start_at_lem b paths good fixed_lt laid_lt) ∙ children_chosen b paths place.0 cell place.1 in
      ap (λ (n : ℕ). first_tiling full_at (children_at b paths) n (marks b)) r.1
      ∙ tiling_more full_at (children_at b paths) r.0 (marks b) (ap is_full (start_at_lem b paths good fixed_lt laid_lt) ∙ e)
      ∙ ap (in_front (marks b))
      (ap (first_of below) kids
      ∙ first_of_map below (λ p. marks (lay b p)) (pieces b paths cell)
      ∙ first_of_ext (λ p. below (marks (lay b p))) (λ p. first_tiling_from (lay b p) paths) (pieces b paths cell)
      (λ p m. laid_walk r.0 r.1 p (pieces_are_pieces b paths cell p m))
      ∙ pieces_by_index b good cell (λ p. first_tiling_from (lay b p) paths) paths small)

  -- ---- what is found

  first_sound : (x : ℕ) (xs : List ℕ) → first_tiling_from b paths ≡ x ∷ xs
      → (t : ℕ) × ChildSequence (children_at b paths) (marks b) t (x ∷ xs) × So (is_full (board_at b t))
  unfolding first_tiling_from
  first_sound x xs e = tiling_sound full_at (children_at b paths) (free_count b) (marks b) x xs e

  first_complete : first_tiling_from b paths ≡ [] → (t : ℕ) (xs : List ℕ) → ChildSequence (children_at b paths) (marks b) t xs → So (is_full (board_at b t)) → ⊥
  unfolding first_tiling_from
  first_complete e =
      tiling_complete full_at (children_at b paths) (From b) free_at_number (child_falls b good paths) (free_count b) (marks b) (start_ok b paths good fixed_lt laid_lt)
      (at_most (free_count (board_at b (marks b))) (free_count b) (ap free_count (start_at_lem b paths good fixed_lt laid_lt))) e

  pub length_first : length (first_tiling_from b paths) ≤ free_count b + 1
  length_first = go (first_tiling_from b paths) refl
    where
      go : (xs : List ℕ) → first_tiling_from b paths ≡ xs → length xs ≤ free_count b + 1
      go [] e = omega arith
      go (x ∷ xs) e = let r = first_sound x xs e in sequence_length b good paths fixed_lt laid_lt r.0 (x ∷ xs) r.1

  -- ---- of one piece or more

  pub single_full : is_full b ≡ true → single_of b paths ≡ []
  unfolding single_of
  single_full e = rw e

  pub single_first : is_full b ≡ false → single_of b paths ≡ first_tiling_from b paths
  unfolding single_of
  single_first e = rw e

  pub single_finds : Finds b paths (found_in (single_of b paths))
  single_finds = go (is_full b) refl (first_tiling_from b paths) refl
    where
      go : (t : Bool) → is_full b ≡ t → (xs : List ℕ) → first_tiling_from b paths ≡ xs → Finds b paths (found_in (single_of b paths))
      go true e xs q = subst (λ (l : List ℕ). Finds b paths (found_in l)) (sym (single_full e)) (full_no_tiling b good paths fixed_lt laid_lt e)
      go false e [] q =
          subst (λ (l : List ℕ). Finds b paths (found_in l)) (sym (single_first e ∙ q)) (λ xs t. first_complete q t.last xs t.sequence t.full)
      go false e (x ∷ xs) q =
          let r = first_sound x xs q in
          subst (λ (l : List ℕ). Finds b paths (found_in l)) (sym (single_first e ∙ q)) (sequence_tiling b good paths fixed_lt laid_lt e r.0 r.2 (x ∷ xs) r.1)
