-- Tilings and the layer count: where it is given, it is 0 exactly if there is no tiling. Rests on `TilingLaws` and tiler's `Theorems`. Assumes nothing.
use Rattle.std.specs.Prelude.{◌≡◌, refl, Bool, true, false, List, ℕ}
use Rattle.std.proofs.Math.Bool.{So}
use Rattle.std.proofs.Common.{arith}
use Rattle.cells.specs.Set.{Sound}
use Rattle.cells.specs.WordLaws.{number_lt}
use Rattle.refusal.specs.Refusal.{given}
use Rattle.tiles.specs.declared.Tiles.{Tiles}
use Rattle.tiles.specs.Paths.{paths_in}
use Rattle.board.specs.declared.RectangularBoard.{RectangularBoard}
use Rattle.board.specs.Board.{board_of}
use Rattle.rectangle.specs.Board.{is_full, valid}
use Rattle.covers.specs.Counts.{Exactly}
use Rattle.layers.specs.LayerCounts.{count_tilings}
use Rattle.layers.proofs.CountLaws.{layers_count}
use Rattle.tiler.specs.Theorems.{Reaches, layer_count_is_number_of_sequences, layer_count_of_none, layer_count_of_full_start}
use Rattle.single_tiling.specs.SingleTiling.{IsTiling}
use Rattle.single_tiling.specs.TilingLaws.{full_no_tiling, sequence_tiling}

module _ (b : RectangularBoard) (fixed : Sound b.fixed) (laid : Sound b.laid) (ts : Tiles) (room n : ℕ) (told : count_tilings b ts room ≡ given n) where
  good : So (valid (board_of b))
  good = (layers_count b fixed laid ts room n told).0.board

  pub no_tiling_count : ((xs : List ℕ) → IsTiling (board_of b) (paths_in ts) xs → ⊥) → n ≡ 0
  no_tiling_count never = go (is_full (board_of b)) refl
    where
      go : (t : Bool) → is_full (board_of b) ≡ t → n ≡ 0
      go true full = layer_count_of_full_start b fixed laid ts room n told full
      go false free =
          layer_count_of_none b fixed laid ts room n told
          (λ t full xs s. never xs (sequence_tiling (board_of b) good (paths_in ts) (number_lt b.fixed fixed) (number_lt b.laid laid) free t full xs s))

  pub count_no_tiling : n ≡ 0 → (xs : List ℕ) → IsTiling (board_of b) (paths_in ts) xs → ⊥
  count_no_tiling none xs t = go (is_full (board_of b)) refl
    where
      go : (s : Bool) → is_full (board_of b) ≡ s → ⊥
      go true full = full_no_tiling (board_of b) good (paths_in ts) (number_lt b.fixed fixed) (number_lt b.laid laid) full xs t
      go false free =
          let ways : Exactly n (Reaches b fixed laid ts t.last) =
          layer_count_is_number_of_sequences b fixed laid ts room n told free t.last t.full xs t.sequence in
          let m = ways.1.all xs t.sequence in omega (arith, m.1)
