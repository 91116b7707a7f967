-- Laws of a full start, one with no free cell: its layer count is 0 where there is room for one board and refused by 8 where there is none, and it has one cutting, the
-- empty set, whatever the tiles. A board has a free cell exactly if it is not full. Rests on layers' `CountLaws` and `RunLaws`, expansion's `SettingLaws` and
-- `CuttingLaws`, choice's `ChosenLaws` and covers' `Theorems`. Assumes nothing.
use Rattle.std.specs.Prelude.{◌≡◌, refl, ◌↔◌, Bool, true, false, List, ℕ, ◌^◌, ◌<◌, Option, None, Some}
use Rattle.std.proofs.Common.{sym, ◌∙◌, arith}
use Rattle.std.proofs.Math.Path.{ap}
use Rattle.std.proofs.Math.Bool.{So}
use Rattle.std.proofs.lemmas.Bool.{false≢true}
use borrow.Author.Tests.{eqb-true}
use Rattle.refusal.specs.Refusal.{refused, given}
use Rattle.tile.specs.Path.{Path}
use Rattle.rectangle.specs.Board.{Board, marks, free_count, is_full, valid}
use Rattle.rectangle.proofs.BoardLaws.{full_none, none_full, valid_width, valid_height, free_inside}
use Rattle.rectangle.proofs.FreeLaws.{free_lt}
use Rattle.choice.specs.Choice.{chosen}
use Rattle.choice.specs.ChosenLaws.{chosen_best, full_iff}
use Rattle.children.specs.Children.{free_count_at}
use Rattle.covers.specs.Counts.{Numbering}
use Rattle.covers.proofs.Theorems.{full_has_one, numbering_carried}
use Rattle.expansion.specs.Boards.{setting}
use Rattle.expansion.specs.Plots.{IsCutting, HasFreeCell}
use Rattle.expansion.proofs.SettingLaws.{setting_laws, start_at_lem, start_ok}
use Rattle.expansion.proofs.CuttingLaws.{cutting_start}
use Rattle.layers.specs.LayerCounts.{layer_count_for}
use Rattle.layers.proofs.CountLaws.{layers_setting}
use Rattle.layers.proofs.RunLaws.{layers_full, layers_no_room}

-- ---- free cells

-- a board has no free cell where it is full,
pub free_not_full : (b : Board) → So (valid b) → HasFreeCell b → is_full b ≡ false
free_not_full b ok free = go (is_full b) refl
  where
    go : (t : Bool) → is_full b ≡ t → t ≡ false
    go true e = absurd (full_none b e free.0 (free_lt b ok free.0 free.1) free.1)
    go false e = refl

-- and one where it is not
pub not_full_free : (b : Board) → So (valid b) → is_full b ≡ false → HasFreeCell b
not_full_free b ok e = go (chosen b) refl
  where
    go : (c : Option ℕ) → chosen b ≡ c → HasFreeCell b
    go None h = absurd (false≢true (sym e ∙ (full_iff b (valid_width b ok) (valid_height b ok)).1 h))
    go (Some c) h = (c, (chosen_best b (valid_width b ok) c h).free)

pub full_iff_none : (b : Board) → So (valid b) → (is_full b ≡ true) ↔ (HasFreeCell b → ⊥)
full_iff_none b ok = (λ e free. false≢true (sym (free_not_full b ok free) ∙ e), λ never. none_full b (λ c f. never (c, f)))

-- a board of no columns has no cell
pub no_width_full : (b : Board) → b.width ≡ 0 → is_full b ≡ true
no_width_full b e = none_full b (λ c f. absurd (omega (arith, free_inside b c f)))

-- ---- a full start

-- the layer count of no boards is refused
pub no_room_count : (b : Board) (paths : List Path) → layer_count_for b paths 0 ≡ refused 8
no_room_count b paths = layers_setting b paths 0 ∙ layers_no_room (setting b paths) (marks b)

module _ (b : Board) (paths : List Path) (ok : So (valid b)) (fixed : b.fixed < 2 ^ 256) (laid : b.laid < 2 ^ 256) (full : is_full b ≡ true) where
  pub none_free : free_count_at b (marks b) ≡ 0
  unfolding is_full
  none_free = ap free_count (start_at_lem b paths ok fixed laid) ∙ eqb-true (free_count b) 0 full

  pub full_layer_count_lem : (room : ℕ) → 0 < room → layer_count_for b paths room ≡ given 0
  unfolding setting
  full_layer_count_lem room h = layers_setting b paths room ∙ layers_full (setting b paths) (marks b) room none_free h

  pub full_one_cutting : Numbering (IsCutting b paths) 1 (λ m p. false)
  unfolding setting
  full_one_cutting =
      let same = cutting_start b paths ok fixed laid in
      numbering_carried (λ X. X) (λ X u. (same X).0 u) (λ X Y u v e. e) (λ X u. (X, (same X).1 u, refl))
      (full_has_one (setting b paths) (setting_laws b paths ok) (marks b) (start_ok b paths ok fixed laid) (ap is_full (start_at_lem b paths ok fixed laid) ∙ full))
