-- What the calls tell their callers: neither board nor tiles are refused, or the refusal; the words for the children; and of a board of the start all
-- children, in order; and numbers below a bound, by their places. Rests on `Plots`, `Parts`, `AcceptedLaws`, `SettingLaws` and the laws of `cells`, `tiles`, `board` and `children`. Assumes nothing.
use Rattle.std.specs.Prelude.{Err, Ok, Result, ◌≡◌, ℕ, ◌*◌, ◌/◌, ◌^◌, ◌≤◌, ◌<◌, length, get_or, take}
use Rattle.std.proofs.Math.Path.{refl, sym, ap}
use Rattle.std.proofs.Common.{◌∙◌, subst, arith, pow_pos, length-take-le}
use Rattle.std.proofs.Math.Bool.{So}
use mathlib.Core.List.{List, [], Memᴰ as Mem}
use Rattle.std.proofs.Math.Decide.{dec_lt}
use borrow.Author.Tests.{le-leb}
use Rattle.std.proofs.Math.ListN.{get_or-eq_default}
use Rattle.cells.specs.Lists.{list_of, set_at, words_for}
use Rattle.cells.specs.FirstsLaws.{mem_get_d}
use Rattle.cells.specs.ListLaws.{sets_words_for}
use Rattle.refusal.specs.declared.Refusal.{Refusal}
use Rattle.refusal.specs.Refusal.{Answer, refused, given, map_answer, bind_answer, refusal_number, value_or, answer_of}
use Rattle.refusal.specs.RefusalLaws.{refused_given, given_inj, refused_inj}
use Rattle.tiles.specs.declared.Tiles.{Tiles}
use Rattle.tile.specs.Path.{Path}
use Rattle.tiles.specs.Paths.{paths_in, read_tiles}
use Rattle.tiles.specs.ReadLaws.{read_tiles_storable}
use Rattle.tiles.specs.EqualLaws.{read_equal_tiles_given}
use Rattle.board.specs.declared.RectangularBoard.{RectangularBoard}
use Rattle.rectangle.specs.Board.{Board, board_at, valid}
use Rattle.board.specs.Board.{board_of}
use Rattle.children.specs.Children.{children, children_of, place_tile}
use Rattle.rectangle.proofs.BoardLaws.{accept_board_given}
use Rattle.fit.specs.Parts.{most_children}
use Rattle.children.specs.ChildLaws.{child_lt, length_children}
use Rattle.children.specs.WriteLaws.{few_children}
use Rattle.board.specs.BoardLaws.{with_within}
use Rattle.covers.specs.Setting.{child_boards}
use Rattle.expansion.specs.Boards.{From, setting_of, Accepted}
use Rattle.expansion.specs.Plots.{accept_plot}
use Rattle.expansion.specs.Parts.{step_of, marked_board, Expands, child_words}
use Rattle.expansion.proofs.SettingLaws.{children_are}
use Rattle.expansion.proofs.AcceptedLaws.{read_accepted}

-- ---- `judge`

-- the step of what is read
abbrev steps : Board × List Path → ℕ
steps p = step_of p.1

module _ (b : RectangularBoard) (ts : Tiles) (r : Result ℕ Refusal) where
  -- neither is refused, and the number is the step
  pub judged_size : (n : ℕ) → answer_of r ≡ map_answer (λ p. step_of p.1) (accept_plot b ts) → r ≡ Ok n
      → Accepted b ts × (n ≡ step_of (paths_in ts)) × (accept_plot b ts ≡ given (board_of b, paths_in ts))
  unfolding map_answer
  judged_size n e f = go (accept_plot b ts) refl
    where
      told : given n ≡ map_answer steps (accept_plot b ts)
      told = sym (ap answer_of f) ∙ e

      go : (a : Answer (Board × List Path)) → accept_plot b ts ≡ a
          → Accepted b ts × (n ≡ step_of (paths_in ts)) × (accept_plot b ts ≡ given (board_of b, paths_in ts))
      go (refused k) q = absurd (refused_given k n (sym (told ∙ ap (map_answer steps) q)))
      go (given p) q =
          let r = read_accepted b ts p q in
          (r.1, given_inj n (step_of p.1) (told ∙ ap (map_answer steps) q) ∙ ap steps r.0, q ∙ ap given r.0)

  -- board or tiles are refused
  pub judged_refused : (q : Refusal) → answer_of r ≡ map_answer (λ p. step_of p.1) (accept_plot b ts) → r ≡ Err q
      → accept_plot b ts ≡ refused (refusal_number q)
  unfolding map_answer
  judged_refused q e f = go (accept_plot b ts) (sym (ap answer_of f) ∙ e)
    where
      go : (a : Answer (Board × List Path)) → refused (refusal_number q) ≡ map_answer steps a → a ≡ refused (refusal_number q)
      go (refused n) s = ap refused (sym (refused_inj (refusal_number q) n s))
      go (given p) s = absurd (refused_given (refusal_number q) (step_of p.1) s)

-- ---- lists of numbers

-- numbers below a bound, by their places; 0 behind the last
pub below_at : (m : ℕ) → 0 < m → (ns : List ℕ) → ((n : ℕ) → Mem n ns → n < m) → (i : ℕ) → get_or ns i 0 < m
below_at m pos ns h i = go (dec_lt i (length ns))
  where
    go : Dec (i < length ns) → get_or ns i 0 < m
    go (yes l) = h (get_or ns i 0) (mem_get_d ns i 0 l)
    go (no l) = subst (λ (n : ℕ). n < m) (sym (get_or-eq_default ns 0 {n = i} (omega arith))) pos

-- of sets
pub small_at : (ns : List ℕ) → ((n : ℕ) → Mem n ns → n < 2 ^ 256) → (i : ℕ) → get_or ns i 0 < 2 ^ 256
small_at = below_at (2 ^ 256) (pow_pos 256)

-- ---- the children of a board

module _ (b : Board) (ts : Tiles) (paths : List Path) (ok : So (valid b)) (e : read_tiles ts ≡ given paths) where
  given_children : children_of b ts ≡ given (children b paths)
  unfolding children_of bind_answer map_answer
  given_children = rw (accept_board_given b ok, e)

  given_placed : (m : ℕ) → length (children b paths) ≤ m / 4 → place_tile b ts m ≡ given (children b paths)
  unfolding place_tile bind_answer
  given_placed m h = rw (given_children, le-leb (length (children b paths)) (m / 4) h)

-- ---- `child_words`

-- accepted tiles are read
accepted_read : (b : RectangularBoard) (ts : Tiles) → Accepted b ts → read_tiles ts ≡ given (paths_in ts)
accepted_read b ts ok = (read_equal_tiles_given ts (paths_in ts) ok.tiles).0

-- their words, at most 8,448
pub child_words_lem : (b : RectangularBoard) (ts : Tiles) → Accepted b ts → (r : ℕ) → r ≡ child_words ts → (r ≡ 4 * most_children (paths_in ts)) × (r ≤ 8448)
unfolding child_words map_answer value_or
child_words_lem b ts ok r e =
    let read = accepted_read b ts ok in
    let is : r ≡ 4 * most_children (paths_in ts) = e ∙ ap (λ (a : Answer (List Path)). value_or 0 (map_answer (λ paths. 4 * most_children paths) a)) read in
    let stored = read_tiles_storable ts (paths_in ts) read in
    let few = few_children (paths_in ts) stored.1 (λ p k. (stored.0 p k).0) in
    (is, omega arith)

-- so many of 8,448 words hold the children of any board
pub child_part : (b : RectangularBoard) (ts : Tiles) → Accepted b ts → (r : ℕ) → r ≡ child_words ts → (ws : List ℕ) → length ws ≡ 8448
    → (r ≡ length (take r ws)) × (4 * most_children (paths_in ts) ≤ length (take r ws))
child_part b ts ok r e ws long =
    let w = child_words_lem b ts ok r e in
    let is : length (take r ws) ≡ r = length-take-le r ws (omega (arith, w.1)) in
    (sym is, omega (arith, w.0))

-- ---- `expand`

-- the board with these marks
pub marked_from : (b : RectangularBoard) (m : ℕ) → From (board_of b) m → marked_board b m ≡ board_at (board_of b) m
marked_from b m from = with_within (board_of b) m from.small from.above

-- of accepted board and tiles, a board of the start and words for as many children as there can be: the number of the children, and the children in order
-- in front of the words
module _ (b : RectangularBoard) (ts : Tiles) (ok : Accepted b ts) (m : ℕ) (from : From (board_of b) m) (old new : List ℕ)
    (room : 4 * most_children (paths_in ts) ≤ length old) (r : ℕ) (x : Expands b ts m old new r) where
  abbrev at : Board
  at = board_at (board_of b) m

  abbrev all : List ℕ
  all = children at (paths_in ts)

  fits : length all ≤ length old / 4
  fits = omega (arith, length_children at (paths_in ts))

  placed : value_or [] (place_tile (marked_board b m) ts (length old)) ≡ all
  unfolding value_or
  placed =
      ap (λ (d : Board). value_or [] (place_tile d ts (length old))) (marked_from b m from)
      ∙ ap (value_or []) (given_placed at ts (paths_in ts) from.accepted (accepted_read b ts ok) (length old) fits)

  many : r ≡ length all
  many = x.number ∙ ap length placed

  written : new ≡ words_for all (length old)
  written = x.words ∙ ap (λ (ns : List ℕ). words_for ns (length old)) placed

  pub expanded_children : (r ≡ length (child_boards (setting_of b ts) m)) × (list_of (set_at new) r ≡ child_boards (setting_of b ts) m)
  expanded_children =
      subst (λ (ns : List ℕ). (r ≡ length ns) × (list_of (set_at new) r ≡ ns)) (sym (children_are (board_of b) (paths_in ts) m)) (
        many,
        ap (list_of (set_at new)) many ∙ ap (λ (ws : List ℕ). list_of (set_at ws) (length all)) written
            ∙ sets_words_for all (length old) (let f = fits in omega arith) (small_at all (child_lt at (paths_in ts))),
      )

-- ---- a contract and what follows from it

pub both : {A B : Type 0} → (A → B) → A → A × B
both f a = (a, f a)
