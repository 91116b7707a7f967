-- What is read of a board and tiles: both are accepted, or the refusal has a number above 0. Where neither is refused their setting meets the laws of
-- `covers`, each piece takes equally many free cells, and the start is one of its boards. Rests on `SettingLaws` and
-- the laws of `tiles` and `board`. Assumes nothing.
use Rattle.std.specs.Prelude.{◌≡◌, Bool, ℕ, ◌^◌, ◌<◌, leb}
use Rattle.std.proofs.Math.Path.{refl, ap}
use Rattle.std.proofs.Common.{sym, ap₂, ◌∙◌, arith}
use Rattle.std.proofs.Math.Bool.{true, false, cond}
use mathlib.Core.List.{List, Memᴰ as Mem}
use borrow.Author.Tests.{eqb-true, eqb-false}
use Rattle.std.proofs.Math.Dec.{eqb}
use Rattle.cells.specs.Set.{number, Sound}
use Rattle.cells.specs.WordLaws.{number_lt}
use Rattle.cells.specs.Lists.{all_below}
use Rattle.tiles.specs.declared.Tiles.{Tiles}
use Rattle.refusal.specs.Refusal.{Answer, refused, given, map_answer, bind_answer, refusal_of}
use Rattle.refusal.specs.RefusalLaws.{refused_given, map_given, bind_given, refuses_bind, refuses_map}
use Rattle.tile.specs.Path.{Path, cell_count}
use Rattle.tiles.specs.Paths.{EqualCounts, equal_counts, shared_count, sound_at, paths_in, read_tiles, read_equal_tiles}
use Rattle.tile.specs.PathLaws.{cell_count_pos}
use Rattle.tiles.specs.EqualLaws.{shared_count_mem, read_equal_tiles_given}
use Rattle.board.specs.declared.RectangularBoard.{RectangularBoard}
use Rattle.rectangle.specs.Board.{Board, board_at, is_full, free_count}
use Rattle.board.specs.Board.{board_of, read_board}
use Rattle.board.specs.BoardLaws.{read_board_is, read_board_positive}
use Rattle.covers.specs.Setting.{Laws, EqualSteps}
use Rattle.expansion.specs.Plots.{accept_plot}
use Rattle.expansion.specs.Parts.{step_of}
use Rattle.expansion.specs.Boards.{Accepted, setting, setting_of, start_of}
use Rattle.expansion.proofs.SettingLaws.{setting_laws, setting_steps, start_at_lem, start_ok}

-- ---- what is read

pub read_accepted : (b : RectangularBoard) (ts : Tiles) (p : Board × List Path) → accept_plot b ts ≡ given p → (p ≡ (board_of b, paths_in ts)) × Accepted b ts
unfolding accept_plot
read_accepted b ts p e =
    let x = bind_given (read_board b) (λ board. map_answer (λ (paths : List Path). (board, paths)) (read_equal_tiles ts)) p e in
    let y = map_given (λ (paths : List Path). (x.0, paths)) (read_equal_tiles ts) p x.2 in
    let board = read_board_is b x.0 x.1 in
    let tiles = (read_equal_tiles_given ts y.0 y.1).1 in
    (sym y.2 ∙ ap₂ (λ (d : Board) (ps : List Path). (d, ps)) (sym board.0) tiles, record { board = board.1; tiles = y.1 ∙ ap given tiles })

-- an answer that is given comes from board and tiles that are not refused
pub from_read : {A : Type 0} (b : RectangularBoard) (ts : Tiles) (f : Board × List Path → Answer A) (x : A) → bind_answer (accept_plot b ts) f ≡ given x
    → Accepted b ts × (f (board_of b, paths_in ts) ≡ given x)
unfolding bind_answer
from_read {A} b ts f x e = go (accept_plot b ts) refl e
  where
    go : (a : Answer (Board × List Path)) → accept_plot b ts ≡ a → bind_answer a f ≡ given x → Accepted b ts × (f (board_of b, paths_in ts) ≡ given x)
    go (refused n) q h = absurd (refused_given n x h)
    go (given p) q h = let r = read_accepted b ts p q in (r.1, ap f (sym r.0) ∙ h)

-- ---- refusals have numbers above 0

module _ (b : RectangularBoard) (ts : Tiles) where
  tiles_refusal : (n : ℕ) → read_equal_tiles ts ≡ refused n → 0 < n
  unfolding read_equal_tiles read_tiles bind_answer refusal_of
  tiles_refusal n e = go (leb ts.count 64) (all_below (sound_at ts.lens ts.codes) ts.count) e
    where
      last : (t : Bool) → cond t (given (paths_in ts)) (refused 7) ≡ refused n → 0 < n
      last true h = absurd (refused_given n (paths_in ts) (sym h))
      last false h = omega (arith, ap refusal_of h)

      go : (t u : Bool) → bind_answer (cond t (cond u (given (paths_in ts)) (refused 5)) (refused 6)) (λ paths. cond (equal_counts paths) (given paths) (refused 7)) ≡ refused n → 0 < n
      go true true h = last (equal_counts (paths_in ts)) h
      go true false h = omega (arith, ap refusal_of h)
      go false u h = omega (arith, ap refusal_of h)

  pub plot_refusal : (n : ℕ) → accept_plot b ts ≡ refused n → 0 < n
  unfolding accept_plot
  plot_refusal =
      refuses_bind (λ n. 0 < n) (read_board b) (λ board. map_answer (λ (paths : List Path). (board, paths)) (read_equal_tiles ts)) (read_board_positive b)
      (λ board. refuses_map (λ n. 0 < n) (λ (paths : List Path). (board, paths)) (read_equal_tiles ts) tiles_refusal)

-- ---- the setting

pub setting_full : (b : Board) (paths : List Path) (n : ℕ) → (setting b paths).full n ≡ eqb ((setting b paths).free_count n) 0
unfolding setting is_full
setting_full b paths n = refl

module _ (b : RectangularBoard) (ts : Tiles) (h : Accepted b ts) where
  pub accepted_laws : Laws (setting_of b ts)
  accepted_laws = setting_laws (board_of b) (paths_in ts) h.board

  equal : EqualCounts (paths_in ts)
  equal = (read_equal_tiles_given ts (paths_in ts) h.tiles).3

  step_cells : (path : Path) → Mem path (paths_in ts) → cell_count path ≡ step_of (paths_in ts)
  unfolding step_of
  step_cells path m = go (eqb (shared_count (paths_in ts)) 0) refl (shared_count_mem (paths_in ts) equal path m)
    where
      go : (t : Bool) → eqb (shared_count (paths_in ts)) 0 ≡ t → cell_count path ≡ shared_count (paths_in ts) → cell_count path ≡ cond t 1 (shared_count (paths_in ts))
      go true e q = absurd (omega (arith, eqb-true (shared_count (paths_in ts)) 0 e, cell_count_pos path))
      go false e q = q

  pub accepted_steps : EqualSteps (setting_of b ts) (step_of (paths_in ts))
  accepted_steps = setting_steps (board_of b) (paths_in ts) h.board (step_of (paths_in ts)) step_cells

  -- the marks are sets of 256 cells, as four words are
  module _ (fixed : number b.fixed < 2 ^ 256) (laid : number b.laid < 2 ^ 256) where
    pub accepted_start : (setting_of b ts).Ok (start_of b)
    unfolding setting
    accepted_start = start_ok (board_of b) (paths_in ts) h.board fixed laid

    pub accepted_at : board_at (board_of b) (start_of b) ≡ board_of b
    accepted_at = start_at_lem (board_of b) (paths_in ts) h.board fixed laid

    pub accepted_free : (setting_of b ts).free_count (start_of b) ≡ free_count (board_of b)
    unfolding setting
    accepted_free = ap free_count accepted_at

-- of the sets of the code
pub start_accepted : (b : RectangularBoard) → Sound b.fixed → Sound b.laid → (ts : Tiles) → Accepted b ts → (setting_of b ts).Ok (start_of b)
start_accepted b fixed laid ts ok = accepted_start b ts ok (number_lt b.fixed fixed) (number_lt b.laid laid)

pub step_of_pos : (paths : List Path) → 0 < step_of paths
unfolding step_of
step_of_pos paths = go (eqb (shared_count paths) 0) refl
  where
    go : (t : Bool) → eqb (shared_count paths) 0 ≡ t → 0 < cond t 1 (shared_count paths)
    go true e = omega arith
    go false e = let n = eqb-false (shared_count paths) 0 e in omega arith
