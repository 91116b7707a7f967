-- What `judge`, `expand` and `child_words` answer: the refusals of board and tiles and the step that they tell, the number of the children that are
-- written, and the words for as many as there can be. Rests on
-- `Plots` and on the laws of `refusal` and `board`. Assumes nothing.
use Rattle.std.specs.Prelude.{Err, Ok, Result, ⊤}
use mathlib.Core.Path.{◌≡◌, refl, sym, ap, ap₂, ◌∙◌}
use mathlib.Core.Bool.{Bool, true, false, cond}
use Rattle.std.specs.Result.{is_err, result_unwrap_or}
use Rattle.std.proofs.lemmas.Bool.{false≢true}
use borrow.Author.Tests.{eqb-true, eqb-false}
use mathlib.Core.List.{List, [], ◌∷◌, ◌++◌}
use Prim.Native.Nat.{ℕ, zero, suc, max, ◌+◌, ◌*◌, ◌≤◌, ◌<◌}
use native.Mathlib.Numerals.{add-one}
use native.Mathlib.Omega.{arith}
use lib.Dec.{eqb}
use lib.ListN.{length, get_or, drop, length-take, length-drop}
use Rattle.cells.specs.Lists.{list_from, list_of, words_for}
use Rattle.cells.specs.ArrayLaws.{list_of_snoc}
use Rattle.tiles.specs.declared.Tiles.{Tiles}
use Rattle.refusal.specs.declared.Refusal.{Refusal}
use Rattle.refusal.specs.Refusal.{Answer, refused, given, map_answer, bind_answer, refusal_of, refusal_number, verdict_number, value_or, answer_of}
use Rattle.refusal.specs.RefusalLaws.{refused_of, refused_given, refused_inj, given_inj}
use Rattle.tile.specs.Path.{Path}
use Rattle.tiles.specs.Paths.{shared_count, path_at, paths_in, read_tiles, read_equal_tiles}
use Rattle.tiles.specs.ReadLaws.{read_tiles_accepted, read_tiles_sound, sound_tile}
use Rattle.board.specs.declared.RectangularBoard.{RectangularBoard}
use Rattle.rectangle.specs.Board.{Board}
use Rattle.board.specs.Board.{board_of, read_board}
use Rattle.fit.specs.Parts.{most_children}
use Rattle.children.specs.Children.{place_tile, PlacesTiles}
use Rattle.board.specs.BoardLaws.{read_board_given, check_accepted}
use Rattle.expansion.specs.Plots.{accept_plot}
use Rattle.expansion.specs.Parts.{step_of, marked_board, Expands, child_words}

-- ---- `judge`: the board first, then the tiles

-- the step of what is read, and paths beside the board
abbrev steps : Board × List Path → ℕ
steps p = step_of p.1

abbrev beside : RectangularBoard → List Path → Board × List Path
beside b paths = (board_of b, paths)

-- a step is at least 1
step_is : (paths : List Path) (n : ℕ) → n ≡ shared_count paths → max n 1 ≡ step_of paths
unfolding step_of
step_is paths n e = go (eqb n 0) refl ∙ ap (λ (k : ℕ). cond (eqb k 0) 1 k) e
  where
    go : (t : Bool) → eqb n 0 ≡ t → max n 1 ≡ cond t 1 n
    go true q = omega (arith, eqb-true n 0 q)
    go false q = let ne = eqb-false n 0 q in omega arith

module _ (b : RectangularBoard) (ts : Tiles) where
  pub judge_refused : (q : Refusal) → refusal_number q ≡ refusal_of (read_board b) → refused (refusal_number q) ≡ map_answer (λ p. step_of p.1) (accept_plot b ts)
  unfolding accept_plot map_answer bind_answer
  judge_refused q e = rw (refused_of (read_board b) q e) refl

  module _ (e : 0 ≡ refusal_of (read_board b)) where
    plot_given : accept_plot b ts ≡ map_answer (beside b) (read_equal_tiles ts)
    unfolding accept_plot bind_answer
    plot_given = rw (read_board_given b (check_accepted b (Ok tt) e refl)) refl

    pub tiles_refused : (n : ℕ) → refused n ≡ map_answer shared_count (read_equal_tiles ts) → refused n ≡ map_answer (λ p. step_of p.1) (accept_plot b ts)
    unfolding map_answer
    tiles_refused n f = go (read_equal_tiles ts) f ∙ ap (map_answer steps) (sym plot_given)
      where
        go : (a : Answer (List Path)) → refused n ≡ map_answer shared_count a → refused n ≡ map_answer steps (map_answer (beside b) a)
        go (refused k) h = ap refused (refused_inj n k h)
        go (given paths) h = absurd (refused_given n (shared_count paths) h)

    pub judge_given : (n : ℕ) → given n ≡ map_answer shared_count (read_equal_tiles ts) → given (max n 1) ≡ map_answer (λ p. step_of p.1) (accept_plot b ts)
    unfolding map_answer
    judge_given n f = go (read_equal_tiles ts) f ∙ ap (map_answer steps) (sym plot_given)
      where
        go : (a : Answer (List Path)) → given n ≡ map_answer shared_count a → given (max n 1) ≡ map_answer steps (map_answer (beside b) a)
        go (refused k) h = absurd (refused_given k n (sym h))
        go (given paths) h = ap given (step_is paths n (given_inj n (shared_count paths) h))

-- ---- `expand`: what is written of the board d with some marks

number_of : (r : Result ℕ Refusal) (a : Answer (List ℕ)) → answer_of r ≡ map_answer length a → result_unwrap_or r 0 ≡ length (value_or [] a)
unfolding map_answer value_or
number_of (Ok n) (refused k) e = absurd (refused_given k n (sym e))
number_of (Ok n) (given ns) e = given_inj n (length ns) e
number_of (Err q) (refused k) e = refl
number_of (Err q) (given ns) e = absurd (refused_given (refusal_number q) (length ns) e)

module _ (b d : RectangularBoard) (ts : Tiles) (m : ℕ) (at : board_of d ≡ marked_board b m) (old new : List ℕ) (r : Result ℕ Refusal)
    (w : PlacesTiles d ts old new r) where
  abbrev placed : Answer (List ℕ)
  placed = place_tile (marked_board b m) ts (length old)

  told : answer_of r ≡ map_answer length placed
  told = w.answer ∙ ap (λ (x : Board). map_answer length (place_tile x ts (length old))) at

  written : new ≡ words_for (value_or [] placed) (length old)
  written = w.words ∙ ap (λ (x : Board). words_for (value_or [] (place_tile x ts (length old))) (length old)) at

  pub expands_number : (n : ℕ) → n ≡ result_unwrap_or r 0 → Expands b ts m old new n
  expands_number n q = record { number = q ∙ number_of r placed told; words = written }

-- ---- `most_children`: the tiles one after the other

-- the sum of k + 1 over the first lengths
unfoldable pub points_to : List ℕ → ℕ → ℕ
points_to lens zero = 0
points_to lens (suc i) = points_to lens i + (get_or lens i 0 + 1)

pub points_none : (lens : List ℕ) → 0 ≡ points_to lens 0
unfolding points_to
points_none lens = refl

pub points_more : (lens : List ℕ) (sum i : ℕ) → sum ≡ points_to lens i → sum + (get_or lens i 0 + 1) ≡ points_to lens (i + 1)
unfolding points_to
points_more lens sum i e = rw (add-one i) (ap (λ (n : ℕ). n + (get_or lens i 0 + 1)) e)

most_children_snoc : (paths : List Path) (path : Path) → most_children (paths ++ path ∷ []) ≡ most_children paths + (length path + 1)
unfolding most_children
most_children_snoc [] path = omega arith
most_children_snoc (p ∷ paths) path = omega (arith, most_children_snoc paths path)

module _ (ts : Tiles) (lent : length ts.codes ≡ 2048) (ok : read_tiles ts ≡ given (paths_in ts)) where
  long : (i : ℕ) → i < ts.count → length (path_at ts.lens ts.codes i) ≡ get_or ts.lens i 0
  long i h =
      let few = (read_tiles_sound ts (paths_in ts) ok).0 in
      let short = (sound_tile ts ok i h).0 in
      omega (arith, length-take (get_or ts.lens i 0) (drop (32 * i) ts.codes), length-drop (32 * i) ts.codes)

  points_are : (i : ℕ) → i ≤ ts.count → points_to ts.lens i ≡ most_children (list_of (path_at ts.lens ts.codes) i)
  unfolding points_to most_children list_of list_from
  points_are zero h = refl
  points_are (suc i) h =
      ap₂ (λ (m n : ℕ). m + (n + 1)) (points_are i (omega arith)) (sym (long i h))
      ∙ sym (ap most_children (ap (list_of (path_at ts.lens ts.codes)) (sym (add-one i)) ∙ list_of_snoc (path_at ts.lens ts.codes) i) ∙ most_children_snoc (list_of (path_at ts.lens ts.codes) i) (path_at ts.lens ts.codes i))

  pub points_all : (i sum : ℕ) → i ≤ ts.count → ts.count ≤ i → sum ≡ points_to ts.lens i → sum ≡ most_children (paths_in ts)
  points_all i sum h l e = let q : i ≡ ts.count = omega arith in e ∙ ap (points_to ts.lens) q ∙ points_are ts.count (omega arith)

-- ---- `child_words`

pub words_read : (ts : Tiles) (v : Result ⊤ Refusal) → verdict_number v ≡ refusal_of (read_tiles ts) → false ≡ is_err v → read_tiles ts ≡ given (paths_in ts)
words_read ts (Ok tt) e q = (read_tiles_accepted ts e).1
words_read ts (Err f) e q = absurd (false≢true q)

pub words_accepted : (ts : Tiles) → read_tiles ts ≡ given (paths_in ts) → (n : ℕ) → n ≡ most_children (paths_in ts) → 4 * n ≡ child_words ts
unfolding child_words map_answer value_or
words_accepted ts e n m =
    ap (λ (k : ℕ). 4 * k) m ∙ sym (ap (λ (a : Answer (List Path)). value_or 0 (map_answer (λ paths. 4 * most_children paths) a)) e)

pub words_refused : (ts : Tiles) (v : Result ⊤ Refusal) → verdict_number v ≡ refusal_of (read_tiles ts) → true ≡ is_err v → 0 ≡ child_words ts
unfolding child_words map_answer value_or
words_refused ts (Ok tt) e q = absurd (false≢true (sym q))
words_refused ts (Err f) e q =
    sym (ap (λ (a : Answer (List Path)). value_or 0 (map_answer (λ paths. 4 * most_children paths) a)) (refused_of (read_tiles ts) f e))
