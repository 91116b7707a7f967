-- Definitions: boards and pieces as sets of cells, each one number (cells' `Set`), as a setting; and what is asked of its region, tiles, choice and
-- pieces. Rests on `Setting`. Assumes nothing.
use Rattle.std.specs.Prelude.{◌≡◌, ℕ, ◌+◌, ◌-◌, ◌^◌, ◌<◌, eqb}
use Rattle.std.proofs.Math.Bool.{So}
use mathlib.Core.List.{List, Memᴰ as Mem}
use Rattle.cells.specs.Set.{has_cell, size}
use Rattle.cells.specs.BitLaws.{Within}
use Rattle.cells.specs.FirstsLaws.{Once}
use Rattle.covers.specs.Setting.{IsFit, Setting}

-- the boards between a start and a region: every mark of the start is there, and every mark is in the region
pub record Between (start region s : ℕ) : Type 0 where
  pub above : Within start s
  pub below : Within s region

-- `region` has all cells of the plot, and a board is the set of its marks
unfoldable pub cell_setting : (region start : ℕ) → (ℕ → Type 0) → (ℕ → ℕ) → (ℕ → List ℕ) → Setting ℕ ℕ
cell_setting region start IsTile chosen pieces = record {
  Ok = Between start region;
  IsTile = IsTile;
  free = λ s. has_cell (region - s);
  covers = has_cell;
  full = λ s. eqb s region;
  free_count = λ s. size (region - s);
  lay = ◌+◌;
  step_piece = λ s t. t - s;
  chosen = chosen;
  pieces = pieces;
  same_board = eqb;
  same_piece = eqb;
}

-- what is asked of a region, tiles, choice and pieces
pub record CellLaws (region start : ℕ) (IsTile : ℕ → Type 0) (chosen : ℕ → ℕ) (pieces : ℕ → List ℕ) : Type 0 where
  pub region_lt : region < 2 ^ 256
  pub tile_cell : (p : ℕ) → IsTile p → (c : ℕ) × So (has_cell p c)
  pub chosen_free : (s : ℕ) → Between start region s → (s ≡ region → ⊥) → So (has_cell (region - s) (chosen s))
  pub piece_fits : (s p : ℕ) → Between start region s → Mem p (pieces s) → IsFit has_cell IsTile (has_cell (region - s)) p
  pub piece_chosen : (s p : ℕ) → Between start region s → Mem p (pieces s) → So (has_cell p (chosen s))
  pub piece_once : (s : ℕ) → Between start region s → Once (pieces s)
