-- What `place_tile` answers: the refusals of board and tiles, then that of the room. Rests on `Children`, `Inner`, `PlacingLaws` and `cells`. Assumes nothing.
use Rattle.std.specs.Prelude.{Err, None, Ok, Option, Result, Some}
use Rattle.std.specs.Option.{ok_or}
use mathlib.Core.Path.{◌≡◌, refl, sym, ap, ◌∙◌}
use mathlib.Core.Bool.{true, false}
use mathlib.Core.List.{List, []}
use Prim.Native.Nat.{ℕ, ◌*◌, ◌/◌, ◌^◌, ◌<◌}
use native.Mathlib.Omega.{arith}
use borrow.Author.Tests.{le-leb, lt-leb}
use lib.Dec.{leb}
use lib.ListN.{length, get_or}
use Rattle.cells.specs.Parts.{cleared_from}
use Rattle.cells.specs.Lists.{words_for, list_of, set_at}
use Rattle.cells.specs.ArrayLaws.{length_list_of}
use Rattle.cells.specs.ListLaws.{cleared_sets, cleared_all}
use Rattle.refusal.specs.declared.Refusal.{Refusal}
use Rattle.refusal.specs.declared.Refusal.TheVariants as R
use Rattle.refusal.specs.Refusal.{refused, given, map_answer, bind_answer, refusal_of, refusal_number, value_or, answer_of}
use Rattle.refusal.specs.RefusalLaws.{refused_of, refused_value}
use Rattle.tiles.specs.declared.Tiles.{Tiles}
use Rattle.tiles.specs.Paths.{paths_in, read_tiles}
use Rattle.rectangle.specs.Board.{valid}
use Rattle.rectangle.proofs.BoardLaws.{accept_board_given}
use Rattle.board.specs.declared.RectangularBoard.{RectangularBoard}
use Rattle.board.specs.Board.{board_of, read_board}
use Rattle.children.specs.Children.{children, children_of, place_tile, PlacesTiles}
use Rattle.children.specs.Inner.{Keeps, Stores}
use Rattle.children.proofs.PlacingLaws.{stored_number, stored_full}

-- ---- what is stored

module _ (b : RectangularBoard) (ts : Tiles) (ws : List ℕ) where
  -- board or tiles are refused
  stores_refused : (r : Refusal) → children_of (board_of b) ts ≡ refused (refusal_number r) → Stores (board_of b) ts ws (Err r)
  unfolding place_tile bind_answer map_answer
  stores_refused r e = record { answer = rw e; sets = λ n q. absurd (err_ok r n q) }
    where
      err_ok : (r : Refusal) (n : ℕ) → ◌≡◌ {A = Result ℕ Refusal} (Err r) (Ok n) → ⊥
      err_ok r n q = cc

  pub stores_no_board : (r : Refusal) → read_board b ≡ refused (refusal_number r) → Stores (board_of b) ts ws (Err r)
  unfolding children_of bind_answer read_board
  stores_no_board r e = stores_refused r (rw e)

  module _ (ok : valid (board_of b) ≡ true) where
    pub stores_no_tiles : (r : Refusal) → refusal_number r ≡ refusal_of (read_tiles ts) → Stores (board_of b) ts ws (Err r)
    unfolding children_of bind_answer map_answer
    stores_no_tiles r e = stores_refused r (rw (accept_board_given (board_of b) ok, refused_of (read_tiles ts) r e))

    module _ (sound : read_tiles ts ≡ given (paths_in ts)) (st : Option ℕ) (k : Keeps (children (board_of b) (paths_in ts)) ws st) where
      abbrev ns : List ℕ
      ns = children (board_of b) (paths_in ts)

      found : children_of (board_of b) ts ≡ given ns
      unfolding children_of bind_answer map_answer
      found = rw (accept_board_given (board_of b) ok, sound)

      -- more children than there is room for
      stores_none : st ≡ None → Stores (board_of b) ts ws (Err R.NoRoom)
      unfolding place_tile bind_answer map_answer
      stores_none q =
          let over : leb (length ns) (length ws / 4) ≡ false = lt-leb (length ns) (length ws / 4) (stored_full (length ws / 4) (length ns) (sym q ∙ k.state)) in
          record { answer = rw (found, over); sets = λ n e. let z : ◌≡◌ {A = ℕ} 0 1 = cc in absurd (omega arith) }

      stores_some : (n : ℕ) → st ≡ Some n → Stores (board_of b) ts ws (Ok n)
      unfolding place_tile bind_answer map_answer value_or
      stores_some n q =
          let f = stored_number (length ws / 4) (length ns) n (sym q ∙ k.state) in
          let room : leb (length ns) (length ws / 4) ≡ true = le-leb (length ns) (length ws / 4) f.0 in
          record {
            answer = rw (found, room) (ap given f.1);
            sets = λ m e. let s : n ≡ m = cc in (omega (arith, f.0, f.1), rw (found, room) (ap (list_of (set_at ws)) (sym s ∙ f.1) ∙ k.sets f.0));
          }

-- the state as an answer
pub stores_ok_or : (b : RectangularBoard) (ts : Tiles) (ws : List ℕ) → valid (board_of b) ≡ true → read_tiles ts ≡ given (paths_in ts) → (st : Option ℕ) → Keeps (children (board_of b) (paths_in ts)) ws st → (r : Result ℕ Refusal) → r ≡ ok_or st R.NoRoom → Stores (board_of b) ts ws r
stores_ok_or b ts ws ok sound None k r e = rw e (stores_none b ts ws ok sound None k refl)
stores_ok_or b ts ws ok sound (Some n) k r e = rw e (stores_some b ts ws ok sound (Some n) k n refl)

-- ---- `place_tile`

module _ (b : RectangularBoard) (ts : Tiles) (old mid new : List ℕ) (same : length mid ≡ length old) (r : Result ℕ Refusal) (k : Stores (board_of b) ts mid r) where
  -- all words are cleared after a refusal
  pub places_refused : (f : Refusal) → r ≡ Err f → new ≡ cleared_from 0 mid → PlacesTiles b ts old new (Err f)
  places_refused f q g =
      let e = ap answer_of (sym q) ∙ k.answer in
      record {
        answer = e ∙ ap (λ (m : ℕ). map_answer length (place_tile (board_of b) ts m)) same;
        words =
            g
            ∙ cleared_all mid
            ∙ ap (λ (l : List ℕ). words_for l (length mid)) (sym (refused_value length (place_tile (board_of b) ts (length mid)) (refusal_number f) [] e))
            ∙ ap (λ (m : ℕ). words_for (value_or [] (place_tile (board_of b) ts m)) m) same;
      }

  -- the words behind the last child are cleared
  pub places_number : (n : ℕ) → r ≡ Ok n → ((i : ℕ) → get_or mid i 0 < 2 ^ 64) → new ≡ cleared_from (4 * n) mid → PlacesTiles b ts old new (Ok n)
  places_number n q small g =
      let ns : List ℕ = value_or [] (place_tile (board_of b) ts (length mid)) in
      let s = k.sets n q in
      let e : n ≡ length ns = sym (length_list_of (set_at mid) n) ∙ ap length s.1 in
      record {
        answer = ap answer_of (sym q) ∙ k.answer ∙ ap (λ (m : ℕ). map_answer length (place_tile (board_of b) ts m)) same;
        words =
            g
            ∙ ap (λ (j : ℕ). cleared_from (4 * j) mid) e
            ∙ cleared_sets mid ns small (omega (arith, s.0, e)) (ap (list_of (set_at mid)) (sym e) ∙ s.1)
            ∙ ap (λ (m : ℕ). words_for (value_or [] (place_tile (board_of b) ts m)) m) same;
      }
