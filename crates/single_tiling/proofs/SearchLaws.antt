-- What `walk`, `search` and `get_single_tiling` answer. Rests on `DescentLaws`, `SumLaws`, `TilingLaws` and cells' `ListLaws`. Assumes nothing.
use Rattle.std.specs.Prelude.{Err, Ok, Option, Result}
use mathlib.Core.Path.{◌≡◌, refl, sym, ap, ◌∙◌, subst}
use mathlib.Core.Bool.{Bool, true, false, cond, false≢true}
use mathlib.Core.List.{List, [], ◌∷◌, ◌++◌, map}
use Rattle.std.specs.Prelude.{None, Some}
use Prim.Native.Nat.{ℕ, ◌+◌, ◌*◌, ◌/◌, ◌^◌, ◌≤◌, ◌<◌}
use native.Mathlib.Nat.{zero-add}
use native.Mathlib.Omega.{arith}
use borrow.Author.Tests.{eq-eqb, ne_eqb, le-leb}
use lib.ListN.{length, get_or}
use Rattle.cells.specs.Set.{Sound}
use Rattle.cells.specs.WordLaws.{number_lt}
use Rattle.cells.specs.Lists.{list_from, list_of, set_at, words_for}
use Rattle.cells.specs.Parts.{cleared_from}
use Rattle.cells.specs.ListLaws.{cleared_sets, cleared_all}
use Rattle.refusal.specs.declared.Refusal.{Refusal}
use Rattle.refusal.specs.Refusal.{Answer, refused, given, map_answer, bind_answer, refusal_number, value_or, answer_of}
use Rattle.refusal.specs.RefusalLaws.{refused_given, given_inj, map_refused}
use Rattle.tiles.specs.declared.Tiles.{Tiles}
use Rattle.tile.specs.Path.{Path, cell_count}
use Rattle.tiles.specs.Paths.{contains_single, paths_in}
use Rattle.tiles.specs.ReadLaws.{read_tiles_sound}
use Rattle.board.specs.declared.RectangularBoard.{RectangularBoard}
use Rattle.rectangle.specs.Board.{Board, free_count, is_full}
use Rattle.board.specs.Board.{board_of}
use Rattle.board.specs.BoardLaws.{read_board_given}
use Rattle.rectangle.proofs.FreeLaws.{free_le}
use Rattle.single_tiling.specs.SingleTiling.{Finds, read_search, boards_found, number_found, GetsSingleTiling}
use Rattle.single_tiling.specs.Inner.{first_tiling_from, single_of, IsSum, Searches, Held, found_as, Walked}
use Rattle.single_tiling.specs.DescentLaws.{found_in, length_first, single_full, single_first, single_finds}
use Rattle.single_tiling.specs.SumLaws.{tiling_sum}
use Rattle.single_tiling.specs.TilingLaws.{search_read}
use Rattle.single_tiling.proofs.WalkSteps.{found_some, found_none}

-- ---- numbers

none_le : (n : ℕ) → length {A = ℕ} [] ≤ n
none_le n = omega arith

next_le : (a n room : ℕ) → a ≡ n → a < room → n + 1 ≤ room
next_le a n room e h = omega arith

less_room : (a n room : ℕ) → a ≡ n → n + 1 ≤ room → a < room
less_room a n room e h = omega arith

few : (n k free count : ℕ) → n ≡ 0 + k → k ≤ free + 1 → free + 1 ≤ count / 4 → free ≤ 256 → (4 * n ≤ count) × (n ≤ 257)
few n k free count e h room most = (omega arith, omega arith)

below : (a n room : ℕ) → a ≡ n → a < room → 0 + n < room
below a n room e h = omega arith

none_some : 0 < length {A = ℕ} [] → ⊥
none_some h = omega arith

room_is : (n k a c : ℕ) → n ≡ k → a ≡ c → 4 * n ≤ c → 4 * k ≤ a
room_is n k a c e long h = omega arith

-- ---- `walk`

walked_nothing : (ns old : List ℕ) → ns ≡ [] → Walked ns 0 old old None
unfolding list_of list_from
walked_nothing ns old e = subst (λ (xs : List ℕ). Walked xs 0 old old None) (sym e) (record { answer = refl; boards = refl })

-- behind no boards stand those that were found
from_none : (old mid ns : List ℕ) → list_of (set_at mid) (0 + length ns) ≡ list_of (set_at old) 0 ++ ns → list_of (set_at mid) (length ns) ≡ ns
unfolding list_of list_from
from_none old mid ns e = ap (list_of (set_at mid)) (sym (zero-add (length ns))) ∙ e

module _ (b : RectangularBoard) (fixed : Sound b.fixed) (laid : Sound b.laid) (ts : Tiles) (free room : ℕ) (ok : Searches b ts free room) where
  full_if : free ≡ 0 → is_full (board_of b) ≡ true
  unfolding is_full
  full_if e = eq-eqb (free_count (board_of b)) 0 (sym ok.cells ∙ e)

  not_full : (free ≡ 0 → ⊥) → is_full (board_of b) ≡ false
  unfolding is_full
  not_full h = ne_eqb (free_count (board_of b)) 0 (λ e. h (ok.cells ∙ e))

  finds : Finds (board_of b) (paths_in ts) (found_in (single_of (board_of b) (paths_in ts)))
  finds = single_finds (board_of b) ok.board (number_lt b.fixed fixed) (number_lt b.laid laid) (paths_in ts)

  -- board and tiles as the walk takes them
  pub searched_held : (single : Bool) → single ≡ contains_single (paths_in ts) → Held (board_of b) ts single × (0 + free_count (board_of b) < room)
  searched_held single e = (record { board = ok.board; tiles = ok.tiles; singles = e }, below free (free_count (board_of b)) room ok.cells ok.fits)

  pub walk_full : (old : List ℕ) → free ≡ 0 → Walked (single_of (board_of b) (paths_in ts)) 0 old old None
  walk_full old e = walked_nothing (single_of (board_of b) (paths_in ts)) old (single_full _ ok.board (number_lt b.fixed fixed) (number_lt b.laid laid) (paths_in ts) (full_if e))

  -- a tiling would make the free cells a sum
  pub walk_no_sum : (old : List ℕ) (r : Bool) → r ≡ false → (IsSum (map cell_count (paths_in ts)) free → r ≡ true) → Walked (single_of (board_of b) (paths_in ts)) 0 old old None
  walk_no_sum old r e sum = walked_nothing (single_of (board_of b) (paths_in ts)) old (go (single_of (board_of b) (paths_in ts)) finds)
    where
      go : (ns : List ℕ) → Finds (board_of b) (paths_in ts) (found_in ns) → ns ≡ []
      go [] f = refl
      go (x ∷ xs) f =
          let s = tiling_sum (board_of b) ok.board (number_lt b.fixed fixed) (number_lt b.laid laid) (paths_in ts) (x ∷ xs) f in
          absurd (false≢true (sym e ∙ sum (subst (IsSum (map cell_count (paths_in ts))) (sym ok.cells) s)))

  pub walk_first : (old new : List ℕ) (r : Option ℕ) → (free ≡ 0 → ⊥) → Walked (first_tiling_from (board_of b) (paths_in ts)) 0 old new r → Walked (single_of (board_of b) (paths_in ts)) 0 old new r
  walk_first old new r h w =
      subst (λ (ns : List ℕ). Walked ns 0 old new r) (sym (single_first _ ok.board (number_lt b.fixed fixed) (number_lt b.laid laid) (paths_in ts) (not_full h))) w

  -- ---- `search`

  single_length : length (single_of (board_of b) (paths_in ts)) ≤ free_count (board_of b) + 1
  unfolding single_of
  single_length = go (is_full (board_of b))
    where
      go : (t : Bool) → length (cond t [] (first_tiling_from (board_of b) (paths_in ts))) ≤ free_count (board_of b) + 1
      go true = none_le (free_count (board_of b) + 1)
      go false = length_first (board_of b) ok.board (number_lt b.fixed fixed) (number_lt b.laid laid) (paths_in ts)

  fits : free_count (board_of b) + 1 ≤ room
  fits = next_le free (free_count (board_of b)) room ok.cells ok.fits

  read : read_search b ts room ≡ given (board_of b, paths_in ts)
  unfolding read_search bind_answer
  read = rw (read_board_given b ok.board, ok.tiles.2, le-leb (free_count (board_of b) + 1) room fits)

module _ (b : RectangularBoard) (fixed : Sound b.fixed) (laid : Sound b.laid) (ts : Tiles) (free : ℕ) (old : List ℕ) (ok : Searches b ts free (length old / 4)) where
  -- what was found, in 01's words, whatever the words hold
  gets : (ns new : List ℕ) (r : Result (Option ℕ) Refusal) → single_of (board_of b) (paths_in ts) ≡ ns → answer_of r ≡ given (number_found (found_in ns)) → new ≡ words_for ns (length old)
      → boards_found (found_in ns) ≡ ns → GetsSingleTiling b ts old new r
  unfolding map_answer value_or
  gets ns new r e answer words back = record {
    found = found_in ns;
    tiling = λ p q.
        subst (λ (x : Board × List Path). Finds x.0 x.1 (found_in ns)) (given_inj (board_of b, paths_in ts) p (sym given_is ∙ q))
        (subst (λ (xs : List ℕ). Finds (board_of b) (paths_in ts) (found_in xs)) e (finds b fixed laid ts free (length old / 4) ok));
    answer = answer ∙ sym (ap (map_answer (λ p. number_found (found_in ns))) given_is);
    words = words ∙ ap (λ (xs : List ℕ). words_for xs (length old)) (sym back ∙ sym (ap (λ (a : Answer (Board × List Path)). value_or [] (map_answer (λ p. boards_found (found_in ns)) a)) given_is));
  }
    where
      given_is : read_search b ts (length old / 4) ≡ given (board_of b, paths_in ts)
      given_is = read b fixed laid ts free (length old / 4) ok

  module _ (mid : List ℕ) (r : Option ℕ) (w : Walked (single_of (board_of b) (paths_in ts)) 0 old mid r) (long : length mid ≡ length old) where
    -- the boards that are found have room, and are at most 257
    pub boards_few : (n : ℕ) → r ≡ Some n → (4 * n ≤ length old) × (n ≤ 257)
    boards_few n e =
        let some = found_some 0 n (single_of (board_of b) (paths_in ts)) (sym e ∙ w.answer) in
        few n (length (single_of (board_of b) (paths_in ts))) (free_count (board_of b)) (length old) some.1 (single_length b fixed laid ts free (length old / 4) ok)
        (fits b fixed laid ts free (length old / 4) ok) (free_le (board_of b))

    pub gets_boards : (new : List ℕ) (n : ℕ) → r ≡ Some n → ((i : ℕ) → get_or mid i 0 < 2 ^ 64) → new ≡ cleared_from (4 * n) mid → GetsSingleTiling b ts old new (Ok (Some n))
    unfolding number_found boards_found
    gets_boards new n e small cleared = go (single_of (board_of b) (paths_in ts)) refl
      where
        go : (ns : List ℕ) → single_of (board_of b) (paths_in ts) ≡ ns → GetsSingleTiling b ts old new (Ok (Some n))
        go [] q = absurd (none_some (found_some 0 n [] (sym e ∙ w.answer ∙ ap (found_as 0) q)).0)
        go (x ∷ xs) q =
            let number : n ≡ length (x ∷ xs) = (found_some 0 n (x ∷ xs) (sym e ∙ w.answer ∙ ap (found_as 0) q)).1 ∙ zero-add (length (x ∷ xs)) in
            let room : 4 * length (x ∷ xs) ≤ length mid = room_is n (length (x ∷ xs)) (length mid) (length old) number long (boards_few n e).0 in
            gets (x ∷ xs) new (Ok (Some n)) q (ap (λ (k : ℕ). given (Some k)) number)
            (cleared ∙ ap (λ (k : ℕ). cleared_from (4 * k) mid) number ∙ cleared_sets mid (x ∷ xs) small room (boards_are (x ∷ xs) q) ∙ ap (words_for (x ∷ xs)) long) refl
          where
            boards_are : (ns : List ℕ) → single_of (board_of b) (paths_in ts) ≡ ns → list_of (set_at mid) (length ns) ≡ ns
            boards_are ns q = subst (λ (xs : List ℕ). list_of (set_at mid) (length xs) ≡ xs) q (from_none old mid (single_of (board_of b) (paths_in ts)) w.boards)

    pub gets_nothing : (new : List ℕ) → r ≡ None → new ≡ cleared_from 0 mid → GetsSingleTiling b ts old new (Ok None)
    unfolding number_found boards_found
    gets_nothing new e cleared =
        gets [] new (Ok None) (found_none 0 (single_of (board_of b) (paths_in ts)) (sym e ∙ w.answer)) refl (cleared ∙ cleared_all mid ∙ ap (words_for []) long) refl

-- ---- `get_single_tiling`

module _ (b : RectangularBoard) (ts : Tiles) (room : ℕ) (r : Result ℕ Refusal) (e : answer_of r ≡ map_answer (λ p. free_count p.0) (read_search b ts room)) where
  pub judged_free : (n : ℕ) → r ≡ Ok n → length ts.codes ≡ 2048 → Searches b ts n room
  unfolding map_answer
  judged_free n q long = go (read_search b ts room) refl (sym (ap answer_of q) ∙ e)
    where
      go : (a : Answer (Board × List Path)) → read_search b ts room ≡ a → given n ≡ map_answer (λ p. free_count p.0) a → Searches b ts n room
      go (refused k) h f = absurd (refused_given k n (sym f))
      go (given p) h f =
          let s = search_read b ts room p h in
          let cells : n ≡ free_count (board_of b) = given_inj n (free_count p.0) f ∙ ap (λ (x : Board × List Path). free_count x.0) s.0 in
          record {
            board = s.1;
            tiles = ((read_tiles_sound ts (paths_in ts) s.2).0, long, s.2);
            cells = cells;
            fits = less_room n (free_count (board_of b)) room cells s.3;
          }

  pub judged_refused : (q : Refusal) → r ≡ Err q → read_search b ts room ≡ refused (refusal_number q)
  judged_refused q h = (map_refused (λ p. free_count p.0) (read_search b ts room) (refusal_number q)).0 (sym (sym (ap answer_of h) ∙ e))

-- nothing stands after a refusal; what is found is of no account then
pub gets_refused : (b : RectangularBoard) (ts : Tiles) (old new : List ℕ) (q : Refusal) → read_search b ts (length old / 4) ≡ refused (refusal_number q)
    → new ≡ cleared_from 0 old → GetsSingleTiling b ts old new (Err q)
unfolding map_answer value_or
gets_refused b ts old new q e cleared = record {
  found = None;
  tiling = λ p h. absurd (refused_given (refusal_number q) p (sym e ∙ h));
  answer = sym (ap (map_answer (λ p. number_found None)) e);
  words = cleared ∙ cleared_all old ∙ ap (λ (a : Answer (Board × List Path)). words_for (value_or [] (map_answer (λ p. boards_found None) a)) (length old)) (sym e);
}
