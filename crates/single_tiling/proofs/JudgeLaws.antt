-- What `judge` answers: the refusals of board, tiles and room, and whether a tile is single. Rests on `Inner` and on the
-- laws of `refusal`, `tile` and `board`. Assumes nothing.
use Rattle.std.specs.Prelude.{Err, Ok, Result, ⊤}
use mathlib.Core.Path.{◌≡◌, refl, sym, ap, ◌∙◌}
use mathlib.Core.Bool.{Bool, true, false, cond}
use mathlib.Core.List.{List}
use Prim.Native.Nat.{ℕ, ◌+◌, ◌≤◌, ◌<◌}
use native.Mathlib.Omega.{arith}
use borrow.Author.Tests.{le-leb, lt-leb}
use lib.Dec.{leb}
use Rattle.refusal.specs.declared.Refusal.{Refusal}
use Rattle.refusal.specs.Refusal.{Answer, refused, given, map_answer, bind_answer, refusal_of, refusal_number, verdict_number, answer_of}
use Rattle.refusal.specs.RefusalLaws.{refused_of, refused_given, given_inj, refused_inj}
use Rattle.tiles.specs.declared.Tiles.{Tiles}
use Rattle.tile.specs.Path.{Path}
use Rattle.tiles.specs.Paths.{contains_single, paths_in, read_tiles}
use Rattle.tiles.specs.ReadLaws.{read_tiles_accepted}
use Rattle.board.specs.declared.RectangularBoard.{RectangularBoard}
use Rattle.rectangle.specs.Board.{Board, free_count}
use Rattle.board.specs.Board.{read_board}
use Rattle.single_tiling.specs.SingleTiling.{read_search}
use Rattle.single_tiling.specs.Inner.{Read, judge_tiles}

-- ---- `judge_tiles`: the tiles, then the room

module _ (ts : Tiles) (room free : ℕ) (v : Result ⊤ Refusal) (e : verdict_number v ≡ refusal_of (read_tiles ts)) where
  tiles_given_lem : v ≡ Ok tt → read_tiles ts ≡ given (paths_in ts)
  tiles_given_lem q = (read_tiles_accepted ts (sym (ap verdict_number q) ∙ e)).1

  pub tiles_free : v ≡ Ok tt → free < room → given free ≡ judge_tiles ts room free
  unfolding judge_tiles bind_answer
  tiles_free q h = let k : free + 1 ≤ room = omega arith in rw (tiles_given_lem q, le-leb (free + 1) room k)

  pub tiles_no_room : v ≡ Ok tt → room ≤ free → refused 8 ≡ judge_tiles ts room free
  unfolding judge_tiles bind_answer
  tiles_no_room q h = let k : room < free + 1 = omega arith in rw (tiles_given_lem q, lt-leb (free + 1) room k)

  pub tiles_refused : (q : Refusal) → v ≡ Err q → refused (refusal_number q) ≡ judge_tiles ts room free
  unfolding judge_tiles bind_answer
  tiles_refused q s = rw (refused_of (read_tiles ts) q (sym (ap verdict_number s) ∙ e))

-- ---- `judge`: the board first

module _ (b : RectangularBoard) (ts : Tiles) (room : ℕ) (a : Result ℕ Refusal) (e : answer_of a ≡ map_answer free_count (read_board b)) where
  pub judge_free : (n : ℕ) → a ≡ Ok n → (r : Result ℕ Refusal) → answer_of r ≡ judge_tiles ts room n
      → answer_of r ≡ map_answer (λ p. free_count p.0) (read_search b ts room)
  unfolding judge_tiles read_search map_answer bind_answer
  judge_free n q r s = go (read_board b) (sym (ap answer_of q) ∙ e)
    where
      tiles : (board : Board) (t : Bool) (x : Answer (List Path))
          → bind_answer x (λ paths. cond t (given (free_count board)) (refused 8))
          ≡ map_answer (λ (p : Board × List Path). free_count p.0) (bind_answer x (λ paths. cond t (given (board, paths)) (refused 8)))
      tiles board t (refused k) = refl
      tiles board true (given paths) = refl
      tiles board false (given paths) = refl

      go : (x : Answer Board) → given n ≡ map_answer free_count x
          → answer_of r
          ≡ map_answer (λ (p : Board × List Path). free_count p.0)
          (bind_answer x (λ board. bind_answer (read_tiles ts) (λ paths. cond (leb (free_count board + 1) room) (given (board, paths)) (refused 8))))
      go (refused k) f = absurd (refused_given k n (sym f))
      go (given board) f =
          s ∙ ap (judge_tiles ts room) (given_inj n (free_count board) f) ∙ tiles board (leb (free_count board + 1) room) (read_tiles ts)

  pub judge_refused : (q : Refusal) → a ≡ Err q → refused (refusal_number q) ≡ map_answer (λ p. free_count p.0) (read_search b ts room)
  unfolding read_search map_answer bind_answer
  judge_refused q s = go (read_board b) (sym (ap answer_of s) ∙ e)
    where
      go : (x : Answer Board) → refused (refusal_number q) ≡ map_answer free_count x
          → refused (refusal_number q)
          ≡ map_answer (λ (p : Board × List Path). free_count p.0)
          (bind_answer x (λ board. bind_answer (read_tiles ts) (λ paths. cond (leb (free_count board + 1) room) (given (board, paths)) (refused 8))))
      go (refused k) f = ap refused (refused_inj (refusal_number q) k f)
      go (given board) f = absurd (refused_given (refusal_number q) (free_count board) f)

-- ---- whether a tile is single, of tiles that are not refused

module _ (ts : Tiles) (ok : Read ts) (a : Result Bool Refusal) (e : answer_of a ≡ map_answer contains_single (read_tiles ts)) where
  pub single_told : answer_of a ≡ given (contains_single (paths_in ts))
  unfolding map_answer
  single_told = e ∙ ap (map_answer contains_single) ok.2

  pub single_is : (t : Bool) → a ≡ Ok t → t ≡ contains_single (paths_in ts)
  single_is t q = given_inj t (contains_single (paths_in ts)) (sym (ap answer_of q) ∙ single_told)
