-- Laws of boards and pieces as sets of cells: the setting of `CellSets` meets the laws of `Setting`, from what is asked of its region, tiles,
-- choice and pieces. Rests on `CellSets` and cells' `SetLaws` and `MemberLaws`. Assumes nothing.
use Rattle.std.specs.Prelude.{◌≡◌, ◌↔◌, List, ℕ, ◌+◌, ◌-◌, ◌^◌, ◌≤◌, ◌<◌}
use Rattle.std.proofs.Math.Path.{sym}
use Rattle.std.proofs.Common.{ap, ◌∙◌, lt_of_le_of_lt, arith}
use Rattle.std.proofs.Math.Bool.{So}
use borrow.Author.Tests.{eqb-true, eqb-false, eq-eqb}
use Rattle.cells.specs.Set.{bit, has_cell, size}
use Rattle.cells.specs.BitLaws.{bit_le, zero_bit, bit_ext, bit_add}
use Rattle.cells.specs.SetLaws.{has_cell_iff, within_iff, within_le, bit_sub, size_add, size_none}
use Rattle.cells.specs.MemberLaws.{eqb_tells}
use Rattle.covers.specs.Setting.{Laws, EqualSteps}
use Rattle.covers.specs.CellSets.{Between, cell_setting, CellLaws}

-- ---- one board

module _ {region start : ℕ} (small : region < 2 ^ 256) where
  board_lt : (s : ℕ) → Between start region s → s < 2 ^ 256
  board_lt s b = lt_of_le_of_lt (within_le s region b.below) small

  -- a cell is free if it is in the region and has no mark
  pub bit_region : (s : ℕ) → Between start region s → (c : ℕ) → bit (region - s) c ≡ bit region c - bit s c
  bit_region s b = bit_sub s region (board_lt s b) small b.below

  -- no cell of a board is free just where it is the region
  pub none_free : (s : ℕ) → Between start region s → (s ≡ region) ↔ ((c : ℕ) → So (has_cell (region - s) c) → ⊥)
  none_free s b = (to, from)
    where
      to : s ≡ region → (c : ℕ) → So (has_cell (region - s) c) → ⊥
      to e c h = omega (arith, (has_cell_iff (region - s) c).0 h, bit_region s b c, ap (λ (x : ℕ). bit x c) e)

      from : ((c : ℕ) → So (has_cell (region - s) c) → ⊥) → s ≡ region
      from none =
          bit_ext 256 s region (board_lt s b) small
          (λ c h.
          let n : bit (region - s) c ≡ 1 → ⊥ = λ e. none c ((has_cell_iff (region - s) c).1 e) in
          omega (arith, bit_region s b c, b.below c, bit_le region c))

  -- ---- a piece that fits is laid
  module _ (s p : ℕ) (b : Between start region s) (onto : (c : ℕ) → So (has_cell p c) → So (has_cell (region - s) c)) where
    within : (c : ℕ) → bit s c + bit p c ≤ bit region c
    within c = omega (arith, (within_iff p (region - s)).1 onto c, bit_region s b c, b.below c)

    bit_laid : (c : ℕ) → bit (s + p) c ≡ bit s c + bit p c
    bit_laid c = bit_add c s p (λ d. omega (arith, within d, bit_le region d))

    laid_between : Between start region (s + p)
    laid_between = record {
      above = λ c. omega (arith, b.above c, bit_laid c);
      below = λ c. omega (arith, within c, bit_laid c);
    }

    bit_left : (c : ℕ) → bit (region - (s + p)) c ≡ bit (region - s) c - bit p c
    bit_left c = omega (arith, bit_region (s + p) laid_between c, bit_region s b c, bit_laid c)

    laid_free : (c : ℕ) → So (has_cell (region - (s + p)) c) ↔ (So (has_cell (region - s) c) × (So (has_cell p c) → ⊥))
    laid_free c = (to, from)
      where
        to : So (has_cell (region - (s + p)) c) → So (has_cell (region - s) c) × (So (has_cell p c) → ⊥)
        to h =
            let e = (has_cell_iff (region - (s + p)) c).0 h in
            let l = bit_left c in
            let m = bit_le (region - s) c in
            ((has_cell_iff (region - s) c).1 (omega arith), λ k. omega (arith, (has_cell_iff p c).0 k))

        from : So (has_cell (region - s) c) × (So (has_cell p c) → ⊥) → So (has_cell (region - (s + p)) c)
        from h =
            let n : bit p c ≡ 1 → ⊥ = λ e. h.1 ((has_cell_iff p c).1 e) in
            (has_cell_iff (region - (s + p)) c).1 (omega (arith, bit_left c, bit_le p c, (has_cell_iff (region - s) c).0 h.0))

    -- the free cells before are those left and the piece's
    laid_size : size (region - (s + p)) + size p ≡ size (region - s)
    laid_size =
        let le = within_le (s + p) region laid_between.below in
        let e : region - (s + p) + p ≡ region - s = omega arith in
        sym (size_add (region - (s + p)) p (λ c. omega (arith, bit_left c, bit_le (region - s) c, bit_le p c))) ∙ ap size e

    piece_size : (c : ℕ) → So (has_cell p c) → 0 < size p
    piece_size c h =
        let lt = lt_of_le_of_lt (within_le p region (λ d. omega (arith, within d))) small in
        let n : size p ≡ 0 → ⊥ = λ e. omega (arith, (has_cell_iff p c).0 h, ap (λ (x : ℕ). bit x c) (size_none p lt e), zero_bit c) in
        omega arith

-- ---- the laws

module _ {region start : ℕ} {IsTile : ℕ → Type 0} {chosen : ℕ → ℕ} {pieces : ℕ → List ℕ} (L : CellLaws region start IsTile chosen pieces) where
  pub cell_laws : Laws (cell_setting region start IsTile chosen pieces)
  unfolding cell_setting
  cell_laws = record {
    board_eq = eqb_tells;
    piece_eq = eqb_tells;
    full_iff = λ s b. let r = none_free L.region_lt s b in (λ e. r.0 (eqb-true s region e), λ n. eq-eqb s region (r.1 n));
    full_one = λ s t b d e f. eqb-true s region e ∙ sym (eqb-true t region f);
    chosen_free = λ s b e. L.chosen_free s b (eqb-false s region e);
    tile_cell = L.tile_cell;
    lay_ok = λ s p b f. laid_between L.region_lt s p b f.onto;
    lay_free = λ s p b f. laid_free L.region_lt s p b f.onto;
    lay_count = λ s p b f.
        let r = L.tile_cell p f.tile in
        omega (arith, laid_size L.region_lt s p b f.onto, piece_size L.region_lt s p b f.onto r.0 r.1);
    lay_step = λ s p b f. omega arith;
    piece_fits = L.piece_fits;
    piece_chosen = L.piece_chosen;
    piece_once = L.piece_once;
  }

  -- tiles of one size
  pub cell_steps : (a : ℕ) → ((p : ℕ) → IsTile p → size p ≡ a) → EqualSteps (cell_setting region start IsTile chosen pieces) a
  unfolding cell_setting
  cell_steps a same s p b f = omega (arith, same p f.tile, laid_size L.region_lt s p b f.onto)
