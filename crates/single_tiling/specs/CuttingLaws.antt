-- Tilings and cuttings: the pieces that a tiling's steps mark are a cutting of the start; and under demand 3's conditions each cutting is that of a
-- tiling. Rests on `TilingLaws`, expansion's `CuttingLaws` and covers' `ChildLaws` and `SequenceLaws`. Assumes nothing.
use Rattle.std.specs.Prelude.{◌≡◌, Bool, false, eqb}
use Rattle.std.proofs.Common.{sym, ◌∙◌, subst}
use Rattle.std.proofs.Math.Path.{ap}
use Rattle.std.proofs.Math.Bool.{So}
use mathlib.Core.List.{List, Memᴰ as Mem}
use Prim.Native.Nat.{ℕ, ◌^◌, ◌<◌}
use Rattle.cells.specs.Lists.{holds}
use Rattle.tile.specs.Path.{Path, codes_ok}
use Rattle.rectangle.specs.Board.{Board, marks, is_free, is_full, valid}
use Rattle.covers.specs.Counts.{ChildSequence, pieces_of}
use Rattle.covers.proofs.ChildLaws.{sequence_children, children_sequence}
use Rattle.covers.proofs.SequenceLaws.{free_not_full, sequence_cutting, cutting_sequence}
use Rattle.graph.specs.Graph.{step_piece, marked_pieces}
use Rattle.expansion.specs.Boards.{setting}
use Rattle.expansion.specs.Plots.{IsCutting, HasFreeCell, AllEdgeJoined}
use Rattle.expansion.proofs.SettingLaws.{same_children, setting_laws, start_at_lem, start_ok}
use Rattle.expansion.proofs.CuttingLaws.{sound_pruning, cutting_start}
use Rattle.single_tiling.specs.SingleTiling.{IsTiling}
use Rattle.single_tiling.specs.TilingLaws.{sequence_tiling}

module _ (b : Board) (good : So (valid b)) (paths : List Path) (fixed_lt : b.fixed < 2 ^ 256) (laid_lt : b.laid < 2 ^ 256) where
  -- the pieces that a tiling's steps mark
  pub tiling_cutting : (xs : List ℕ) → IsTiling b paths xs → IsCutting b paths (marked_pieces xs)
  unfolding setting
  tiling_cutting xs t =
      let ok = start_ok b paths good fixed_lt laid_lt in
      (cutting_start b paths good fixed_lt laid_lt (marked_pieces xs)).0
      (sequence_cutting (setting b paths) (setting_laws b paths good) (marks b) (pieces_of step_piece xs) ok
      (children_sequence (setting b paths) (setting_laws b paths good) (marks b) t.last xs ok t.full
      (subst (λ (ch : ℕ → List ℕ). ChildSequence ch (marks b) t.last xs) (sym (same_children b paths)) t.sequence)))

  -- a board with a free cell is not full
  free_start : HasFreeCell b → is_full b ≡ false
  unfolding setting
  free_start free =
      ap is_full (sym (start_at_lem b paths good fixed_lt laid_lt))
      ∙ free_not_full (setting b paths) (setting_laws b paths good) (marks b) free.0 (start_ok b paths good fixed_lt laid_lt)
      (subst (λ (d : Board). So (is_free d free.0)) (sym (start_at_lem b paths good fixed_lt laid_lt)) free.1)

  -- each cutting is that of a tiling
  pub cutting_tiling : HasFreeCell b → AllEdgeJoined paths → ((path : Path) → Mem path paths → So (codes_ok path)) → (X : ℕ → Bool) → IsCutting b paths X
      → (xs : List ℕ) × IsTiling b paths xs × (marked_pieces xs ≡ X)
  unfolding setting
  cutting_tiling free joined codes X cutting =
      let ok = start_ok b paths good fixed_lt laid_lt in
      let L = setting_laws b paths good in
      let c = cutting_sequence (setting b paths) L (sound_pruning b paths good joined codes) (marks b) X ok ((cutting_start b paths good fixed_lt laid_lt X).1 cutting) in
      let s = sequence_children (setting b paths) L (marks b) c.0 ok c.1 in (
        s.1,
        sequence_tiling b good paths fixed_lt laid_lt (free_start free) s.0 s.3 s.1
            (subst (λ (ch : ℕ → List ℕ). ChildSequence ch (marks b) s.0 s.1) (same_children b paths) s.4),
        ap (holds eqb) s.5 ∙ c.2,
      )
