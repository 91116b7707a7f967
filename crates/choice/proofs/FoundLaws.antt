-- The cell that the code finds, by the array of counts and by both kinds of marks together, is the chosen cell of the definition. Rests on
-- `ChosenLaws`. Assumes nothing.
use mathlib.Core.Path.{◌≡◌, refl, sym, ap, ◌∙◌}
use mathlib.Core.Logic.{⊎_elim}
use mathlib.Core.Bool.{Bool, true, not, ◌&&◌}
use mathlib.Core.List.{List, Memᴰ as Mem}
use Rattle.std.specs.Prelude.{Option, None, Some}
use Prim.Native.Nat.{ℕ, ◌/◌, ◌%◌, ◌<◌}
use native.Mathlib.Omega.{arith}
use lib.ListN.{get_or}
use Rattle.cells.specs.Set.{has_cell}
use Rattle.cells.specs.Lists.{list_of}
use Rattle.cells.specs.ArrayLaws.{get_d_list_of}
use Rattle.refusal.specs.Refusal.{given}
use Rattle.rectangle.specs.Board.{size_ok, cell_of, position_of}
use Rattle.rectangle.specs.Parts.{free_in}
use Rattle.rectangle.proofs.BoardLaws.{size_ok_le, inside_iff, cell_of_position_of}
use Rattle.choice.specs.Inner.{array_count, open_in}
use Rattle.choice.specs.Choice.{neighbour_count, columns, best_of, cell_with_count_by}
use Rattle.choice.specs.Parts.{chosen_in, chosen_for}
use Rattle.choice.specs.ChosenLaws.{mem_columns, best_of_ext, best_among}

none_some : (c : ℕ) → None ≡ Some c → ⊥
none_some c e = cc

module _ (w h : ℕ) (ok : size_ok w h ≡ true) (m laid : ℕ) (counts : List ℕ) (ec : counts ≡ list_of (neighbour_count w h laid) 256) where
  small : (c : ℕ) → Mem c (columns h w) → (c % 16 < w) × (c / 16 < h) × (c < 256)
  small c e =
      let size = size_ok_le w h ok in
      let r = (mem_columns h w c size.0).0 e in
      (r.0, r.1, omega (arith, r.0, r.1, size.0, size.1))

  count_is : (c : ℕ) → Mem c (columns h w) → array_count counts c ≡ neighbour_count w h laid c
  count_is c e = ap (λ (l : List ℕ). get_or l c 0) ec ∙ get_d_list_of (neighbour_count w h laid) 256 c 0 (small c e).2

  open_is : (c : ℕ) → Mem c (columns h w) → open_in m c ≡ free_in w h m (position_of c)
  unfolding free_in
  open_is c e =
      let r = small c e in
      sym
      (ap (λ (t : Bool). t && not (has_cell m (cell_of (position_of c)))) ((inside_iff w h (c / 16) (c % 16)).1 (r.1, r.0))
      ∙ ap (λ (n : ℕ). not (has_cell m n)) (cell_of_position_of c))

  best_is : best_of (open_in m) (array_count counts) None (columns h w) ≡ chosen_in w h m laid
  unfolding chosen_in
  best_is =
      best_of_ext (open_in m) (λ c. free_in w h m (position_of c)) (array_count counts) (neighbour_count w h laid) (columns h w) None open_is count_is
      (λ c e. absurd (none_some _ e))

  -- the count that stands beside the cell is the cell's
  found_count_is : (o : Option ℕ) → ((c : ℕ) → o ≡ Some c → Mem c (columns h w)) → cell_with_count_by (array_count counts) o ≡ cell_with_count_by (neighbour_count w h laid) o
  unfolding cell_with_count_by
  found_count_is None f = refl
  found_count_is (Some c) f = ap (λ (n : ℕ). Some (c, n)) (count_is c (f c refl))

  pub found_is : given (cell_with_count_by (array_count counts) (best_of (open_in m) (array_count counts) None (columns h w))) ≡ chosen_for w h m laid
  unfolding chosen_for
  found_is =
      ap given
      (ap (cell_with_count_by (array_count counts)) best_is
      ∙ found_count_is (chosen_in w h m laid) (λ c e. ⊎_elim (λ q. absurd (none_some _ q)) (λ k. k) (best_among (open_in m) (array_count counts) None (columns h w) c (best_is ∙ e))))
      ∙ rw ok refl
