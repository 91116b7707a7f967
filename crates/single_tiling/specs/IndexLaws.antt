-- Laws of the fits on a cell by an index, tile i / 33 and its point i % 33: they are those of the tiles in order, repeats included, and the pieces are
-- their first appearances; so what is found first among the pieces is found first by the index. Each fit is a piece, and laying it keeps a board
-- accepted and leaves fewer free cells. Rests on `FirstLaws`, and on the laws of `tile`, `rectangle` and `fit`. Assumes nothing.
use Rattle.std.specs.Prelude.{◌≡◌, refl, Bool, true, false, ◌&&◌, cond, leb}
use Rattle.std.proofs.Math.Path.{sym, ap, ap₂}
use Rattle.std.proofs.Common.{◌∙◌, subst}
use Rattle.std.proofs.Math.Bool.{So}
use mathlib.Core.List.Memᴰ.{head as here}
use mathlib.Core.List.Memᴰ.{tail as there}
use mathlib.Core.List.{List, [], ◌∷◌, flat_map, nil≢cons, Memᴰ as Mem}
use Prim.Native.Nat.{ℕ, suc, ◌+◌, ◌*◌, ◌/◌, ◌%◌, ◌≤◌, ◌<◌}
use native.Mathlib.Omega.{arith}
use Rattle.std.proofs.Math.Dec.{eqb}
use Rattle.std.proofs.Math.ListN.{length, get_or}
use Rattle.cells.specs.Lists.{list_of}
use Rattle.cells.specs.FirstsLaws.{mem_get_d}
use Rattle.cells.specs.MemberLaws.{eqb_tells}
use Rattle.tile.specs.Path.{Path, codes_ok, is_path}
use Rattle.tiles.specs.Inner.{Storable}
use Rattle.tile.specs.StoredLaws.{is_path_good}
use Rattle.tile.specs.PathLaws.{cell_count_pos}
use Rattle.rectangle.specs.Board.{Board, position_of, free_count, size_ok, valid, lay}
use Rattle.fit.specs.Fit.{offset, point_at, IsPiece, fit_at, fits_of, pieces}
use Rattle.fit.specs.Inner.{fit_for}
use Rattle.rectangle.proofs.BoardLaws.{valid_size}
use Rattle.fit.specs.FitLaws.{fit_at_piece}
use Rattle.fit.proofs.FitForLaws.{fit_for_point, fit_for_fit}
use Rattle.fit.proofs.LayLaws.{lay_valid, piece_iff, piece_size, lay_count}
use Rattle.single_tiling.specs.Inner.{or_else, first_of, fit_index}
use Rattle.single_tiling.specs.FirstLaws.{first_of_append, first_of_flat_map, first_of_firsts, first_join, first_ext, first_miss, first_short}

-- ---- the fits and the pieces on a cell

quotient : (j : ℕ) → j < 33 → j / 33 ≡ 0
quotient j h = omega arith

remainder : (j : ℕ) → j < 33 → j % 33 ≡ j
remainder j h = omega arith

rest_quotient : (k : ℕ) → (33 + k) / 33 ≡ suc (k / 33)
rest_quotient k = omega arith

rest_remainder : (k : ℕ) → (33 + k) % 33 ≡ k % 33
rest_remainder k = omega arith

module _ {B : Type 0} (b : Board) (good : So (valid b)) (cell : ℕ) (f : ℕ → List B) where
  -- the fits of one tile
  one_tile : (path : Path) → length path ≤ 32 → So (codes_ok path) → first_of f (fits_of b cell path) ≡ first_of (λ j. first_of f (fit_for b path j cell)) (list_of (λ j. j) 33)
  unfolding fits_of first_of
  one_tile path short ok =
      first_of_flat_map f (λ j. fit_at b path j cell) (list_of (λ j. j) (length path + 1))
      ∙ first_short (λ j. first_of f (fit_at b path j cell)) (λ j. first_of f (fit_for b path j cell)) (length path + 1) 33 (omega arith)
      (λ j h. ap (first_of f) (sym (fit_for_fit b path j cell (valid_size b good) (is_path_good path short ok) (omega arith))))
      (λ j h k. ap (first_of f) (fit_for_point b path j cell (omega arith)))

  -- those of the tiles in order
  fits_by_index : (paths : List Path) → Storable paths
      → first_of f (flat_map (fits_of b cell) paths) ≡ first_of (λ i. first_of f (fit_index b paths cell i)) (list_of (λ i. i) (33 * length paths))
  unfolding first_of flat_map fit_index
  fits_by_index [] small = sym (first_miss (λ i. first_of f (fit_index b [] cell i)) (33 * length {A = Path} []) (λ k h. absurd (omega arith)))
  fits_by_index (path ∷ paths) small =
      let own = small path (here refl) in
      let long : 33 * length (path ∷ paths) ≡ 33 + 33 * length paths = omega arith in
      let at : ℕ → ℕ → List B = λ q r. first_of f (fit_for b (get_or (path ∷ paths) q []) r cell) in
      let all : ℕ → List B = λ i. first_of f (fit_index b (path ∷ paths) cell i) in
      first_of_append f (fits_of b cell path) (flat_map (fits_of b cell) paths)
      ∙ ap₂ or_else
      (one_tile path own.0 own.1 ∙ first_ext (at 0) all 33 (λ j h. ap₂ at (sym (quotient j h)) (sym (remainder j h))))
      (fits_by_index paths (λ p m. small p (there m))
      ∙ first_ext (λ i. first_of f (fit_index b paths cell i)) (λ k. all (33 + k)) (33 * length paths)
      (λ k h. ap₂ at (sym (rest_quotient k)) (sym (rest_remainder k))))
      ∙ sym (first_join all 33 (33 * length paths))
      ∙ ap (λ (n : ℕ). first_of all (list_of (λ i. i) n)) (sym long)

  -- the pieces are their first appearances
  pub pieces_by_index : (paths : List Path) → Storable paths
      → first_of f (pieces b paths cell) ≡ first_of (λ i. first_of f (fit_index b paths cell i)) (list_of (λ i. i) (33 * length paths))
  unfolding pieces
  pieces_by_index paths small = first_of_firsts f eqb eqb_tells (flat_map (fits_of b cell) paths) ∙ fits_by_index paths small

-- ---- each fit is a piece

-- laying a piece leaves fewer free cells
pub lay_fewer : (b : Board) → So (valid b) → (paths : List Path) (p : ℕ) → IsPiece b paths p → free_count (lay b p) < free_count b
lay_fewer b good paths p piece =
    let bare = ((piece_iff b good paths p).0 piece).0 in
    omega (arith, lay_count b good paths p piece, piece_size b good paths p bare, cell_count_pos bare.0)

-- what fits, fits with the point on the cell
fit_for_some : (b : Board) (path : Path) (j cell p : ℕ) → fit_for b path j cell ≡ p ∷ [] → fit_at b path j cell ≡ p ∷ []
unfolding fit_for
fit_for_some b path j cell p e = go (size_ok b.width b.height && (is_path path && leb j (length path))) e
  where
    go : (t : Bool) → cond t (fit_at b path j cell) [] ≡ p ∷ [] → fit_at b path j cell ≡ p ∷ []
    go true e = e
    go false e = absurd (nil≢cons e)

module _ (b : Board) (paths : List Path) (cell i p : ℕ) (below : i < 33 * length paths) (fit : fit_index b paths cell i ≡ p ∷ []) where
  fit_piece : IsPiece b paths p
  unfolding fit_index
  fit_piece =
      let path : Path = get_or paths (i / 33) [] in
      let at : fit_at b path (i % 33) cell ≡ p ∷ [] = fit_for_some b path (i % 33) cell p fit in
      let r = fit_at_piece b path (i % 33) cell p (subst (Mem p) (sym at) (here refl)) in
      (path, mem_get_d paths (i / 33) [] (omega arith), offset (point_at path (i % 33)) (position_of cell), r.0, r.1)

  module _ (good : So (valid b)) where
    pub fit_valid : So (valid (lay b p))
    fit_valid = lay_valid b good paths p fit_piece

    pub fit_fewer : free_count (lay b p) < free_count b
    fit_fewer = lay_fewer b good paths p fit_piece
