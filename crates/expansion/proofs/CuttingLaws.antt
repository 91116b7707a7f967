-- Laws of cuttings: those of the setting's start are those of the board and the tiles; under demand 3's condition on tiles only boards without a cutting
-- are pruned; and the numbers below the graph count number the cuttings. Rests on `SettingLaws`, `AcceptedLaws`, children's `PruneLaws` and
-- covers' `Theorems`. Assumes nothing.
use Rattle.std.specs.Prelude.{◌≡◌, ◌⊎◌, ◌↔◌, Bool, true, false, cond, ℕ, ◌^◌, ◌<◌, Option, None, Some}
use Rattle.std.proofs.Math.Path.{refl}
use Rattle.std.proofs.Common.{sym, subst, inl, inr}
use Rattle.std.proofs.Math.Bool.{So}
use mathlib.Core.List.{List, [], Memᴰ as Mem}
use Rattle.cells.specs.Set.{has_cell, Sound}
use Rattle.cells.specs.WordLaws.{number_lt}
use Rattle.tiles.specs.declared.Tiles.{Tiles}
use Rattle.tile.specs.Path.{Path, codes_ok}
use Rattle.tiles.specs.Paths.{paths_in}
use Rattle.tiles.specs.ReadLaws.{read_tiles_storable}
use Rattle.tiles.specs.EqualLaws.{read_equal_tiles_given}
use Rattle.board.specs.declared.RectangularBoard.{RectangularBoard}
use Rattle.rectangle.specs.Board.{Board, board_at, marks, is_free, valid}
use Rattle.board.specs.Board.{board_of}
use Rattle.fit.specs.Fit.{IsPiece}
use Rattle.choice.specs.Choice.{chosen}
use Rattle.children.specs.Children.{pruned}
use Rattle.rectangle.proofs.BoardLaws.{valid_width, valid_height}
use Rattle.choice.specs.ChosenLaws.{chosen_none}
use Rattle.children.specs.PruneLaws.{pruned_none}
use Rattle.fit.proofs.PieceLaws.{piece_cell, mem_pieces}
use Rattle.covers.specs.Setting.{FitsOn, CuttingOf, SoundPruning, Setting, graph_count, cutting_at}
use Rattle.covers.specs.Counts.{Numbering}
use Rattle.covers.proofs.Theorems.{numbering_carried, tilings_are_cuttings}
use Rattle.covers.proofs.SequenceLaws.{free_not_full}
use Rattle.covers.proofs.NumberingLaws.{one_is}
use Rattle.fit.proofs.LayLaws.{piece_some}
use Rattle.expansion.proofs.SettingLaws.{fits_piece, start_at_lem, start_ok}
use Rattle.expansion.specs.Boards.{cell_or, pieces_on, setting, setting_of, start_of, Accepted}
use Rattle.expansion.specs.Plots.{IsCutting, HasFreeCell, AllEdgeJoined}
use Rattle.expansion.specs.Parts.{step_of}
use Rattle.expansion.proofs.AcceptedLaws.{accepted_laws, accepted_steps, accepted_at, start_accepted}

module _ (b : Board) (paths : List Path) (good : So (valid b)) where
  -- under demand 3's condition only boards without a cutting are pruned
  pub sound_pruning : AllEdgeJoined paths → ((path : Path) → Mem path paths → So (codes_ok path)) → SoundPruning (setting b paths)
  unfolding setting cell_or pieces_on
  sound_pruning joined codes n p ok f h = go (pruned (board_at b n) paths) refl (chosen (board_at b n)) refl
    where
      x : IsPiece (board_at b n) paths p
      x = (fits_piece b paths good n p ok).0 f

      go : (t : Bool) → pruned (board_at b n) paths ≡ t → (c : Option ℕ) → chosen (board_at b n) ≡ c
          → Mem p (cond t [] (pieces_on (board_at b n) paths c)) ⊎ ((X : ℕ → Bool) → CuttingOf (setting b paths) n X → ⊥)
      go true e c i =
          inr (λ X u.
          let r = pruned_none (board_at b n) paths e joined codes in
          let one = u.exact r.0 r.1 in
          let at = one_is one in
          let y = (fits_piece b paths good n (one.0 0) ok).0 (u.fits (one.0 0) at.0) in
          r.2 y.0 y.1 y.2 y.3
          (piece_cell (board_at b n) (valid_width b good) (valid_height b good) y.0 y.2 y.3 r.0 (subst (λ (z : ℕ). So (has_cell z r.0)) y.4 at.1)))
      go false e None i =
          let s = piece_some b good paths p f.tile in
          absurd (chosen_none (board_at b n) (valid_width b good) i s.0 (f.onto s.0 s.1))
      go false e (Some cell) i =
          inl ((mem_pieces (board_at b n) paths cell p (valid_width b good) (valid_height b good)).1 (x, subst (λ (c : Option ℕ). So (has_cell p (cell_or c))) i h))

  module _ (fixed_lt : b.fixed < 2 ^ 256) (laid_lt : b.laid < 2 ^ 256) where
    pub fits_start : (p : ℕ) → FitsOn (setting b paths) (marks b) p ↔ IsPiece b paths p
    fits_start p = subst (λ (d : Board). FitsOn (setting b paths) (marks b) p ↔ IsPiece d paths p) (start_at_lem b paths good fixed_lt laid_lt) (fits_piece b paths good (marks b) p (start_ok b paths good fixed_lt laid_lt))

    -- the cuttings of the setting's start are those of the board and the tiles
    pub cutting_start : (X : ℕ → Bool) → CuttingOf (setting b paths) (marks b) X ↔ IsCutting b paths X
    unfolding setting
    cutting_start X = (
      λ u. record {
        pieces = λ p x. (fits_start p).0 (u.fits p x);
        exact = λ c f. u.exact c (subst (λ (d : Board). So (is_free d c)) (sym (start_at_lem b paths good fixed_lt laid_lt)) f);
      },
      λ r. record {
        fits = λ p x. (fits_start p).1 (r.pieces p x);
        exact = λ c f. r.exact c (subst (λ (d : Board). So (is_free d c)) (start_at_lem b paths good fixed_lt laid_lt) f);
      },
    )

-- ---- the cuttings by number, of a board and tiles that are not refused

module _ (b : RectangularBoard) (fixed : Sound b.fixed) (laid : Sound b.laid) (ts : Tiles) (ok : Accepted b ts) (free : HasFreeCell (board_of b)) where
  -- the setting of the board and the tiles, and its start
  abbrev S : Setting ℕ ℕ
  S = setting_of b ts

  abbrev start : ℕ
  start = start_of b

  pub not_full : S.full start ≡ false
  unfolding setting
  not_full =
      free_not_full S (accepted_laws b ts ok) start free.0 (start_accepted b fixed laid ts ok)
      (subst (λ (d : Board). So (is_free d free.0)) (sym (accepted_at b ts ok (number_lt b.fixed fixed) (number_lt b.laid laid))) free.1)

  codes : (path : Path) → Mem path (paths_in ts) → So (codes_ok path)
  codes path m = ((read_tiles_storable ts (paths_in ts) (read_equal_tiles_given ts (paths_in ts) ok.tiles).0).0 path m).1

  pub cuttings_numbered : AllEdgeJoined (paths_in ts)
      → Numbering (IsCutting (board_of b) (paths_in ts)) (graph_count S start) (cutting_at S start)
  cuttings_numbered joined =
      let same = cutting_start (board_of b) (paths_in ts) ok.board (number_lt b.fixed fixed) (number_lt b.laid laid) in
      numbering_carried (λ X. X) (λ X u. (same X).0 u) (λ X Y u v e. e) (λ X u. (X, (same X).1 u, refl))
      (tilings_are_cuttings S (accepted_laws b ts ok) (step_of (paths_in ts)) (accepted_steps b ts ok) start (start_accepted b fixed laid ts ok) not_full
      (sound_pruning (board_of b) (paths_in ts) ok.board joined codes))
