-- Laws of a piece that is laid: it shares no cell with the marks, so laying it adds it to them and keeps a board accepted; what it takes from the free
-- cells; and that a piece of a board is a piece of the board without marks whose cells are free. Rests on `PieceLaws`. Assumes nothing.
use Rattle.std.specs.Prelude.{◌≡◌, refl, false, not, ℕ, ◌+◌, ◌^◌, ◌≤◌, ◌<◌, ◌↔◌}
use Rattle.std.proofs.Math.Path.{sym, ap, subst}
use Rattle.std.proofs.Common.{◌∙◌, pow_pos}
use Rattle.std.proofs.Math.Bool.{true, So, and-eq-true_iff}
use mathlib.Core.List.Memᴰ.{head as here}
use mathlib.Core.List.Memᴰ.{map as mem-map}
use mathlib.Core.List.{List, [], ◌∷◌, Memᴰ as Mem}
use Rattle.std.proofs.Math.Decide.{ℕ_discrete, dec_lt}
use native.Mathlib.Omega.{arith}
use Rattle.std.proofs.lemmas.Bool.{not-true}
use Rattle.std.proofs.Math.Dec.{eqb}
use Rattle.cells.specs.Set.{bit, has_cell, union_of, size}
use Rattle.cells.specs.BitLaws.{Disjoint, bit_le, bit_ext, bit_high, bit_add, add_lt, zero_bit}
use Rattle.cells.specs.SetLaws.{has_cell_false, bit_union_of, union_of_lt, size_add, bit_free, has_cell_iff, digit}
use Rattle.cells.specs.Lists.{all_below}
use Rattle.cells.specs.ArrayLaws.{all_below_all}
use Rattle.direction.specs.Direction.{Position, origin, shift}
use Rattle.tile.specs.Path.{Path, cell_count}
use Rattle.tile.specs.PathLaws.{cells_origin}
use Rattle.rectangle.specs.Board.{Board, cell_of, position_of, inside, marks, is_marked, free_at, size_ok, mark_ok, valid, lay, is_free, free_set, free_count}
use Rattle.fit.specs.Inner.{bare}
use Rattle.rectangle.proofs.BoardLaws.{position_of_cell_of, free_at_inside, marks_lt, is_marked_marks, valid_size, valid_mark, valid_width, valid_height, cell_of_lt, has_cell_free_set, free_set_lt}
use Rattle.rectangle.proofs.FreeLaws.{bit_free_set, free_iff, free_lt}
use Rattle.fit.specs.Fit.{with_cells, moved, Fits, IsPiece}
use Rattle.fit.specs.FitLaws.{bit_with_cells_iff, with_cells_lt, bit_with_cells_new}
use Rattle.fit.proofs.PieceLaws.{size_piece, piece_cell}

-- ---- a piece and the marks

free_unmarked : (b : Board) (p : Position) → cell_of p < 256 → So (free_at b p) → bit (marks b) (cell_of p) ≡ 0
unfolding free_at
free_unmarked b p h e =
    bit_free (marks b) (cell_of p)
    (sym (is_marked_marks b (cell_of p) h) ∙ not-true (is_marked b (cell_of p)) ((and-eq-true_iff (inside b.width b.height p) (not (is_marked b (cell_of p)))).0 e).1)

module _ (b : Board) (paths : List Path) (n : ℕ) (piece : IsPiece b paths n) where
  pub piece_lt : n < 2 ^ 256
  piece_lt = subst (λ (x : ℕ). x < 2 ^ 256) (sym piece.4) (with_cells_lt 0 (moved piece.2 piece.0) (pow_pos 256))

  -- a piece shares no cell with the marks
  pub piece_apart : Disjoint (marks b) n
  piece_apart c = go (dec_lt c 256) (ℕ_discrete (bit n c) 1)
    where
      go : Dec (c < 256) → Dec (bit n c ≡ 1) → bit (marks b) c + bit n c ≤ 1
      go (no h) d = omega (arith, bit_high 256 (marks b) c (marks_lt b) (omega arith), bit_le n c)
      go (yes h) (no d) = omega (arith, bit_le (marks b) c, bit_le n c)
      go (yes h) (yes d) =
          let r = (bit_with_cells_iff (moved piece.2 piece.0) c h).0 (ap (λ (x : ℕ). bit x c) (sym piece.4) ∙ d) in
          let small : cell_of r.0 < 256 = omega (arith, r.2) in
          let unmarked : bit (marks b) c ≡ 0 = ap (bit (marks b)) (sym r.2) ∙ free_unmarked b r.0 small (piece.3 r.0 r.1) in
          omega (arith, bit_le n c)

  -- so laying it adds it to them
  pub marks_lay : marks (lay b n) ≡ marks b + n
  unfolding marks lay
  marks_lay =
      bit_ext 256 (union_of b.fixed (union_of b.laid n)) (union_of b.fixed b.laid + n)
      (union_of_lt b.fixed (union_of b.laid n))
      (add_lt 256 (union_of b.fixed b.laid) n (union_of_lt b.fixed b.laid) piece_lt piece_apart)
      (λ c h.
      omega (
        arith,
        bit_union_of b.fixed (union_of b.laid n) c h,
        bit_union_of b.laid n c h,
        bit_union_of b.fixed b.laid c h,
        bit_add c (union_of b.fixed b.laid) n piece_apart,
        piece_apart c,
      ))

-- ---- on an accepted board

module _ (b : Board) (ok : So (valid b)) where
  -- laying a tile adds as many marks as it has cells
  pub size_child : (path : Path) (d : Position) → Fits b path d → size (marks b + with_cells 0 (moved d path)) ≡ size (marks b) + cell_count path
  size_child path d f =
      size_add (marks b) (with_cells 0 (moved d path)) (piece_apart b (path ∷ []) (with_cells 0 (moved d path)) (path, here refl, d, f, refl))
      ∙ ap (λ (k : ℕ). size (marks b) + k) (size_piece b (valid_width b ok) (valid_height b ok) path d f)

  -- ---- a piece laid on the board

  module _ (paths : List Path) where
    module _ (n : ℕ) (piece : IsPiece b paths n) where
      -- a cell of the piece is in the rectangle and not fixed
      cell_open : (c : ℕ) → c < 256 → bit n c ≡ 1 → So (inside b.width b.height (position_of c)) × (has_cell b.fixed c ≡ false)
      unfolding marks
      cell_open c h e =
          let r = (bit_with_cells_iff (moved piece.2 piece.0) c h).0 (ap (λ (x : ℕ). bit x c) (sym piece.4) ∙ e) in
          let within = free_at_inside b r.0 (piece.3 r.0 r.1) in (
            subst (λ (p : Position). So (inside b.width b.height p)) (sym (position_of_cell_of b.width b.height r.0 within (valid_width b ok)) ∙ ap position_of r.2) within,
            has_cell_false b.fixed c (omega (arith, piece_apart b paths n piece c, bit_union_of b.fixed b.laid c h)),
          )

      -- elsewhere the laid marks are as they were
      lay_old : (c : ℕ) → c < 256 → bit n c ≡ 0 → has_cell (union_of b.laid n) c ≡ has_cell b.laid c
      unfolding has_cell
      lay_old c h e =
          let same : bit (union_of b.laid n) c ≡ bit b.laid c = omega (arith, bit_union_of b.laid n c h) in
          ap (λ (x : ℕ). eqb x 1) same

      lay_ok : (c : ℕ) → c < 256 → mark_ok (lay b n) c ≡ true
      unfolding mark_ok is_marked lay
      lay_ok c h = go (ℕ_discrete (bit n c) 1)
        where
          go : Dec (bit n c ≡ 1) → mark_ok (lay b n) c ≡ true
          go (yes e) = let r = cell_open c h e in rw (r.0, r.1)
          go (no e) = rw (lay_old c h (omega (arith, bit_le n c))) (valid_mark b ok c h)

      -- laying a piece keeps a board accepted
      pub lay_valid : So (valid (lay b n))
      unfolding valid lay
      lay_valid = (and-eq-true_iff (size_ok b.width b.height) (all_below (mark_ok (lay b n)) 256)).1 (valid_size b ok, all_below_all (mark_ok (lay b n)) 256 lay_ok)

-- ---- a piece

-- a moved cell of a tile is a cell of the piece
piece_has : (b : Board) → So (valid b) → (path : Path) (d : Position) (q : Position)
    → Mem q (moved d path) → So (inside b.width b.height q) → So (has_cell (with_cells 0 (moved d path)) (cell_of q))
piece_has b ok path d q m i =
    (has_cell_iff (with_cells 0 (moved d path)) (cell_of q)).1
    (bit_with_cells_new 0 (moved d path) q m (cell_of_lt b.width b.height q i (valid_width b ok) (valid_height b ok)))

bare_free : (b : Board) (p : Position) → So (free_at b p) → So (free_at (bare b) p)
unfolding free_at is_marked
bare_free b p f = rw (free_at_inside b p f, has_cell_false 0 (cell_of p) (zero_bit (cell_of p)))

module _ (b : Board) (ok : So (valid b)) (paths : List Path) (p : ℕ) where
  -- a piece's cells are free
  pub piece_free : IsPiece b paths p → (c : ℕ) → So (has_cell p c) → So (is_free b c)
  unfolding is_free
  piece_free piece c h =
      piece.3 (position_of c)
      (piece_cell b (valid_width b ok) (valid_height b ok) piece.0 piece.2 piece.3 c (subst (λ (x : ℕ). So (has_cell x c)) piece.4 h))

  -- a piece is one of the board without marks, on free cells
  pub piece_iff : IsPiece b paths p ↔ (IsPiece (bare b) paths p × ((c : ℕ) → So (has_cell p c) → So (is_free b c)))
  unfolding is_free
  piece_iff = (
    λ x. ((x.0, x.1, x.2, λ q m. bare_free b q (x.3 q m), x.4), piece_free x),
    λ r.
        let x = r.0 in (
          x.0,
          x.1,
          x.2,
          λ q m.
              let i = free_at_inside (bare b) q (x.3 q m) in
              let f = r.1 (cell_of q) (subst (λ (y : ℕ). So (has_cell y (cell_of q))) (sym x.4) (piece_has b ok x.0 x.2 q m i)) in
              subst (λ (y : Position). So (free_at b y)) (position_of_cell_of b.width b.height q i (valid_width b ok)) f,
          x.4,
        ),
  )

  -- a piece of the board without marks has a cell, and as many cells as its tile
  pub piece_some : IsPiece (bare b) paths p → (c : ℕ) × So (has_cell p c)
  piece_some x =
      let q : Position = shift origin x.2 in
      let m : Mem q (moved x.2 x.0) = mem-map (λ y. shift y x.2) (cells_origin x.0) in
      (cell_of q, subst (λ (y : ℕ). So (has_cell y (cell_of q))) (sym x.4) (piece_has b ok x.0 x.2 q m (free_at_inside (bare b) q (x.3 q m))))

  pub piece_size : (x : IsPiece (bare b) paths p) → size p ≡ cell_count x.0
  piece_size x = ap size x.4 ∙ size_piece (bare b) (valid_width b ok) (valid_height b ok) x.0 x.2 x.3

  -- ---- a piece is laid

  module _ (piece : IsPiece b paths p) where
    bit_lay : (c : ℕ) → bit (marks (lay b p)) c ≡ bit (marks b) c + bit p c
    bit_lay c = ap (λ (x : ℕ). bit x c) (marks_lay b paths p piece) ∙ bit_add c (marks b) p (piece_apart b paths p piece)

    -- it takes its cells from the free ones and no others
    pub lay_free : (c : ℕ) → So (is_free (lay b p) c) ↔ (So (is_free b c) × (So (has_cell p c) → ⊥))
    unfolding lay
    lay_free c = (to, from)
      where
        to : So (is_free (lay b p) c) → So (is_free b c) × (So (has_cell p c) → ⊥)
        to f =
            let l = free_lt (lay b p) (lay_valid b ok paths p piece) c f in
            let r = (free_iff (lay b p) c l).0 f in
            let z = bit_lay c in
            ((free_iff b c l).1 (r.0, omega (arith, r.1)), λ h. omega (arith, r.1, (has_cell_iff p c).0 h))

        from : So (is_free b c) × (So (has_cell p c) → ⊥) → So (is_free (lay b p) c)
        from h =
            let l = free_lt b ok c h.0 in
            let r = (free_iff b c l).0 h.0 in
            let n : bit p c ≡ 1 → ⊥ = λ e. h.1 ((has_cell_iff p c).1 e) in
            (free_iff (lay b p) c l).1 (r.0, omega (arith, bit_lay c, r.1, bit_le p c))

    bit_taken : (c : ℕ) → c < 256 → bit (free_set (lay b p)) c + bit p c ≡ bit (free_set b) c
    unfolding lay
    bit_taken c h = go (ℕ_discrete (bit p c) 1)
      where
        go : Dec (bit p c ≡ 1) → bit (free_set (lay b p)) c + bit p c ≡ bit (free_set b) c
        go (yes e) =
            let own = (has_cell_iff (free_set b) c).0 (has_cell_free_set b c h ∙ piece_free piece c ((has_cell_iff p c).1 e)) in
            let cell = digit (inside b.width b.height (position_of c)) in
            omega (arith, bit_free_set (lay b p) c h, bit_free_set b c h, bit_lay c)
        go (no e) = omega (arith, bit_free_set (lay b p) c h, bit_free_set b c h, bit_lay c, bit_le p c)

    apart : Disjoint (free_set (lay b p)) p
    apart c = go (dec_lt c 256)
      where
        go : Dec (c < 256) → bit (free_set (lay b p)) c + bit p c ≤ 1
        go (yes h) = omega (arith, bit_taken c h, bit_le (free_set b) c)
        go (no h) = omega (arith, bit_high 256 (free_set (lay b p)) c (free_set_lt (lay b p)) (omega arith), bit_le p c)

    -- as many cells fewer are free as it has
    pub lay_count : free_count (lay b p) + size p ≡ free_count b
    unfolding free_count
    lay_count =
        let small = add_lt 256 (free_set (lay b p)) p (free_set_lt (lay b p)) (piece_lt b paths p piece) apart in
        sym (size_add (free_set (lay b p)) p apart)
        ∙ ap size (bit_ext 256 (free_set (lay b p) + p) (free_set b) small (free_set_lt b)
        (λ c h. bit_add c (free_set (lay b p)) p apart ∙ bit_taken c h))
