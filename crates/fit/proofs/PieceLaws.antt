-- Laws of pieces: the cells at positions of the rectangle; a fit with a point on a cell is a piece over the cell, and every piece over it is one; so
-- `pieces` has exactly the pieces over a cell, each once; how many there can be; how many cells a piece has; and that no fit stands on a cell outside.
-- Rests on `FitLaws`. Assumes nothing.
use Rattle.std.specs.Prelude.{◌≡◌, refl, ◌↔◌, false, ℕ, ◌+◌, ◌≤◌, ◌<◌, eqb, length}
use Rattle.std.proofs.Common.{sym, ap, ◌∙◌, arith, length-append}
use Rattle.std.proofs.Math.Path.{subst}
use Rattle.std.proofs.Math.Bool.{So}
use Rattle.std.proofs.lemmas.Bool.{false≢true}
use mathlib.Core.List.Memᴰ.{cast}
use mathlib.Core.List.Memᴰ.{head as here}
use mathlib.Core.List.Memᴰ.{map as mem-map}
use mathlib.Core.List.Memᴰ.{of_map}
use mathlib.Core.List.Memᴰ.{tail as there}
use mathlib.Core.List.{List, [], ◌∷◌, flat_map, Memᴰ as Mem}
use Rattle.std.proofs.Math.Decide.{dec_lt}
use Rattle.std.proofs.lemmas.List.{length-map}
use Rattle.cells.specs.Set.{bit, has_cell, with_cell, size}
use Rattle.cells.specs.BitLaws.{zero_bit}
use Rattle.cells.specs.SetLaws.{has_cell_iff, bit_with_cell_other, size_zero, size_with_cell_new}
use Rattle.cells.specs.FirstsLaws.{Once, mem_get_d, mem_firsts, once_firsts, length_add_firsts}
use Rattle.cells.specs.Lists.{list_of}
use Rattle.cells.specs.ArrayLaws.{length_list_of}
use Rattle.cells.specs.MemberLaws.{eqb_tells, mem_place, mem_list_of, mem_flat_map, length_flat_map}
use Rattle.direction.specs.Direction.{Position, origin, shift, same_position, step}
use Rattle.direction.specs.PositionLaws.{same_position_iff}
use Rattle.tile.specs.Path.{Path, points, cells, cell_count}
use Rattle.tile.specs.PathLaws.{cells_shift}
use Rattle.rectangle.specs.Board.{Board, cell_of, position_of, inside, free_at}
use Rattle.rectangle.proofs.BoardLaws.{cell_of_lt, position_of_cell_of, cell_of_inj, cell_of_position_of, free_at_inside}
use Rattle.fit.specs.Fit.{with_cells, cover, moved, offset, point_at, Fits, IsPiece, fit_at, fits_of, pieces}
use Rattle.fit.specs.Parts.{most_children}
use Rattle.fit.specs.FitLaws.{mem_cover, length_cover, bit_with_cells_past, bit_with_cells_new, bit_with_cells_iff, offset_takes, offset_only, fit_at_piece}

-- ---- the points of a path stand on its moved cells

length_points : (p : Position) (path : Path) → length (points p path) ≡ length path + 1
unfolding points
length_points p [] = refl
length_points p (code ∷ path) = omega (arith, length_points (shift p (step code)) path)

point_moved : (path : Path) (j : ℕ) (d : Position) → j ≤ length path → Mem (shift (point_at path j) d) (moved d path)
unfolding cells
point_moved path j d h =
    mem-map (λ p. shift p d)
    ((mem_firsts same_position same_position_iff (points origin path) (point_at path j)).1 (mem_get_d (points origin path) j origin (omega (arith, length_points origin path))))

moved_point : (path : Path) (d p : Position) → Mem p (moved d path) → (j : ℕ) × (j < length path + 1) × (shift (point_at path j) d ≡ p)
unfolding cells
moved_point path d p m =
    let a = of_map (λ p. shift p d) (cells path) m in
    let r = mem_place (points origin path) a.0 origin ((mem_firsts same_position same_position_iff (points origin path) a.0).0 a.1) in
    (r.0, omega (arith, r.1, length_points origin path), ap (λ (q : Position). shift q d) r.2 ∙ a.2)

-- ---- a fit is a piece over the cell

-- point j stands on the cell
pub fit_on : (path : Path) (j cell : ℕ) → j ≤ length path → Mem (position_of cell) (moved (offset (point_at path j) (position_of cell)) path)
fit_on path j cell h =
    cast (sym (offset_takes (point_at path j) (position_of cell))) (point_moved path j (offset (point_at path j) (position_of cell)) h)

-- which therefore is in the rectangle
module _ (b : Board) (path : Path) (j cell : ℕ) (h : j ≤ length path) where
  fit_at_inside : (n : ℕ) → Mem n (fit_at b path j cell) → So (inside b.width b.height (position_of cell))
  fit_at_inside n m = free_at_inside b (position_of cell) ((fit_at_piece b path j cell n m).0 (position_of cell) (fit_on path j cell h))

  pub fit_at_outside : inside b.width b.height (position_of cell) ≡ false → fit_at b path j cell ≡ []
  fit_at_outside e = go (fit_at b path j cell) refl
    where
      go : (ns : List ℕ) → fit_at b path j cell ≡ ns → ns ≡ []
      go [] q = refl
      go (n ∷ ns) q = absurd (false≢true (sym e ∙ fit_at_inside n (subst (Mem n) (sym q) (here refl))))

module _ (b : Board) (hw : b.width ≤ 16) (hh : b.height ≤ 16) where
  fits_inside : (path : Path) (d p : Position) → Fits b path d → Mem p (moved d path) → So (inside b.width b.height p)
  fits_inside path d p f m = free_at_inside b p (f p m)

  pub fit_at_over : (path : Path) (j cell n : ℕ) → j ≤ length path → Mem n (fit_at b path j cell) → So (has_cell n cell)
  fit_at_over path j cell n h m =
      let d : Position = offset (point_at path j) (position_of cell) in
      let small : cell_of (position_of cell) < 256 = cell_of_lt b.width b.height (position_of cell) (fit_at_inside b path j cell h n m) hw hh in
      let set : bit (with_cells 0 (moved d path)) cell ≡ 1 =
      ap (bit (with_cells 0 (moved d path))) (sym (cell_of_position_of cell)) ∙ bit_with_cells_new 0 (moved d path) (position_of cell) (fit_on path j cell h) small in
      (has_cell_iff n cell).1 (ap (λ (x : ℕ). bit x cell) (fit_at_piece b path j cell n m).1 ∙ set)

  -- a cell of a piece is that of a moved cell of the tile
  pub piece_cell : (path : Path) (d : Position) → Fits b path d → (cell : ℕ) → So (has_cell (with_cells 0 (moved d path)) cell) → Mem (position_of cell) (moved d path)
  piece_cell path d f cell e = go (dec_lt cell 256) ((has_cell_iff (with_cells 0 (moved d path)) cell).0 e)
    where
      go : Dec (cell < 256) → bit (with_cells 0 (moved d path)) cell ≡ 1 → Mem (position_of cell) (moved d path)
      go (yes i) s =
          let r = (bit_with_cells_iff (moved d path) cell i).0 s in
          cast (ap position_of (sym r.2) ∙ position_of_cell_of b.width b.height r.0 (fits_inside path d r.0 f r.1) hw) r.1
      go (no i) s = absurd (omega (arith, zero_bit cell, bit_with_cells_past 0 (moved d path) cell (omega arith)))

  -- and every piece over the cell is a fit
  pub piece_fit_at : (path : Path) (d : Position) → Fits b path d → (cell : ℕ) → So (has_cell (with_cells 0 (moved d path)) cell) → (j : ℕ) × (j < length path + 1) × Mem (with_cells 0 (moved d path)) (fit_at b path j cell)
  unfolding fit_at
  piece_fit_at path d f cell e =
      let r = moved_point path d (position_of cell) (piece_cell path d f cell e) in
      let same : d ≡ offset (point_at path r.0) (position_of cell) = offset_only (point_at path r.0) (position_of cell) d r.2 in
      let fit : Mem (with_cells 0 (moved d path)) (cover (free_at b) 0 (moved d path)) = (mem_cover (free_at b) 0 (moved d path) (with_cells 0 (moved d path))).1 (f, refl) in
      (r.0, r.1, subst (λ (x : Position). Mem (with_cells 0 (moved d path)) (cover (free_at b) 0 (moved x path))) same fit)

-- ---- the pieces on a cell

-- the fits of the tiles in order
fits_piece : (b : Board) (paths : List Path) (cell n : ℕ) → Mem n (flat_map (fits_of b cell) paths) → (path : Path) × Mem path paths × (j : ℕ) × (j ≤ length path) × Mem n (fit_at b path j cell)
unfolding fits_of
fits_piece b paths cell n m =
    let s = (mem_flat_map (fits_of b cell) paths n).0 m in
    let r = (mem_flat_map (λ j. fit_at b s.0 j cell) (list_of (λ j. j) (length s.0 + 1)) n).0 s.2 in
    let i = (mem_list_of (λ j. j) (length s.0 + 1) r.0).0 r.1 in
    (s.0, s.1, r.0, omega (arith, i.1, i.2), r.2)

piece_fits : (b : Board) (paths : List Path) (cell n : ℕ) (path : Path) → Mem path paths → (j : ℕ) → j < length path + 1 → Mem n (fit_at b path j cell) → Mem n (flat_map (fits_of b cell) paths)
unfolding fits_of
piece_fits b paths cell n path m j h k =
    (mem_flat_map (fits_of b cell) paths n).1
    (path, m, (mem_flat_map (λ i. fit_at b path i cell) (list_of (λ i. i) (length path + 1)) n).1 (j, (mem_list_of (λ i. i) (length path + 1) j).1 (j, h, refl), k))

-- every fit is a piece, whatever the size of the board
pub fits_are_pieces : (b : Board) (paths : List Path) (cell n : ℕ) → Mem n (flat_map (fits_of b cell) paths) → IsPiece b paths n
fits_are_pieces b paths cell n m =
    let s = fits_piece b paths cell n m in
    let f = fit_at_piece b s.0 s.2 cell n s.4 in
    (s.0, s.1, offset (point_at s.0 s.2) (position_of cell), f.0, f.1)

pub pieces_are_fits : (b : Board) (paths : List Path) (cell n : ℕ) → Mem n (pieces b paths cell) ↔ Mem n (flat_map (fits_of b cell) paths)
unfolding pieces
pieces_are_fits b paths cell n = mem_firsts eqb eqb_tells (flat_map (fits_of b cell) paths) n

pub pieces_are_pieces : (b : Board) (paths : List Path) (cell n : ℕ) → Mem n (pieces b paths cell) → IsPiece b paths n
pieces_are_pieces b paths cell n m = fits_are_pieces b paths cell n ((pieces_are_fits b paths cell n).0 m)

-- the pieces on a cell are the pieces that cover it
pub mem_pieces : (b : Board) (paths : List Path) (cell n : ℕ) → b.width ≤ 16 → b.height ≤ 16 → Mem n (pieces b paths cell) ↔ (IsPiece b paths n × So (has_cell n cell))
mem_pieces b paths cell n hw hh = (to, from)
  where
    to : Mem n (pieces b paths cell) → IsPiece b paths n × So (has_cell n cell)
    to m =
        let s = fits_piece b paths cell n ((pieces_are_fits b paths cell n).0 m) in
        (pieces_are_pieces b paths cell n m, fit_at_over b hw hh s.0 s.2 cell n s.3 s.4)

    from : IsPiece b paths n × So (has_cell n cell) → Mem n (pieces b paths cell)
    from h =
        let p = h.0 in
        let r = piece_fit_at b hw hh p.0 p.2 p.3 cell (subst (λ (x : ℕ). So (has_cell x cell)) p.4 h.1) in
        (pieces_are_fits b paths cell n).1 (cast p.4 (piece_fits b paths cell (with_cells 0 (moved p.2 p.0)) p.0 p.1 r.0 r.1 r.2))

-- each once
pub once_pieces : (b : Board) (paths : List Path) (cell : ℕ) → Once (pieces b paths cell)
unfolding pieces
once_pieces b paths cell = once_firsts eqb eqb_tells (flat_map (fits_of b cell) paths)

-- ---- how many pieces

length_fits_of : (b : Board) (cell : ℕ) (path : Path) → length (fits_of b cell path) ≤ length path + 1
unfolding fits_of fit_at
length_fits_of b cell path =
    omega (
      arith,
      length_flat_map (λ j. fit_at b path j cell) 1 (list_of (λ j. j) (length path + 1)) (λ j. length_cover (free_at b) 0 (moved (offset (point_at path j) (position_of cell)) path)),
      length_list_of {A = ℕ} (λ j. j) (length path + 1),
    )

length_fits : (b : Board) (cell : ℕ) (paths : List Path) → length (flat_map (fits_of b cell) paths) ≤ most_children paths
unfolding flat_map most_children
length_fits b cell [] = omega arith
length_fits b cell (path ∷ paths) =
    omega (arith, length-append (fits_of b cell path) (flat_map (fits_of b cell) paths), length_fits_of b cell path, length_fits b cell paths)

pub length_pieces : (b : Board) (paths : List Path) (cell : ℕ) → length (pieces b paths cell) ≤ most_children paths
unfolding pieces
length_pieces b paths cell = omega (arith, (length_add_firsts eqb [] (flat_map (fits_of b cell) paths)).1, length_fits b cell paths)

-- ---- how many cells

once_moved : (d : Position) (path : Path) → Once (moved d path)
once_moved d path = subst Once (cells_shift d path) (once_firsts same_position same_position_iff (points d path))

-- different positions of the rectangle add a cell each
size_with_cells : (w h : ℕ) → w ≤ 16 → h ≤ 16 → (n : ℕ) (ps : List Position) → Once ps → ((p : Position) → Mem p ps → So (inside w h p)) → ((p : Position) → Mem p ps → bit n (cell_of p) ≡ 0) → size (with_cells n ps) ≡ size n + length ps
unfolding with_cells
size_with_cells w h hw hh n [] o i z = omega arith
size_with_cells w h hw hh n (p ∷ ps) o i z =
    let other : (q : Position) → Mem q ps → cell_of q ≡ cell_of p → ⊥ =
    λ q m e. o.0 (cast (sym (cell_of_inj w h q p (i q (there m)) (i p (here refl)) hw e)) m) in
    omega (
      arith,
      size_with_cells w h hw hh (with_cell n (cell_of p)) ps o.1 (λ q m. i q (there m)) (λ q m. bit_with_cell_other n (cell_of p) (cell_of q) (other q m) ∙ z q (there m)),
      size_with_cell_new n (cell_of p) (cell_of_lt w h p (i p (here refl)) hw hh) (z p (here refl)),
    )

pub size_piece : (b : Board) → b.width ≤ 16 → b.height ≤ 16 → (path : Path) (d : Position) → Fits b path d → size (with_cells 0 (moved d path)) ≡ cell_count path
unfolding cell_count
size_piece b hw hh path d f =
    omega (
      arith,
      size_with_cells b.width b.height hw hh 0 (moved d path) (once_moved d path) (λ p m. free_at_inside b p (f p m)) (λ p m. zero_bit (cell_of p)),
      size_zero,
      length-map (cells path) (λ p. shift p d),
    )
