-- Laws that the proofs of `counting` and of `count_tilings` cite: the free cells of an accepted board, layer 0 in lent words, the answer of each way out,
-- and the words that are cleared. Rests on `RunLaws`, expansion's `AcceptedLaws` and cells' `ListLaws`. Assumes nothing.
use Rattle.std.specs.Prelude.{Ok, Result}
use mathlib.Core.Path.{◌≡◌, sym, ap, ap₂, ◌∙◌, subst}
use mathlib.Core.List.{List, [], ◌∷◌}
use Prim.Native.Nat.{ℕ, ◌/◌, ◌^◌, ◌≤◌, ◌<◌}
use native.Mathlib.Nat.{le_refl}
use native.Mathlib.Omega.{arith}
use borrow.Author.Tests.{le-ltb, ne_eqb}
use lib.Dec.{eqb, ltb, lit<}
use lib.ListN.{length, get_or, replicate}
use mathlib.Core.Bool.{Bool, So, false, cond}
use Rattle.cells.specs.Set.{number, Sound}
use Rattle.cells.specs.WordLaws.{number_lt}
use Rattle.cells.specs.Lists.{list_from, list_of, set_at}
use Rattle.cells.specs.Parts.{with_set, cleared_from}
use Rattle.cells.specs.ArrayLaws.{list_of_ext, replicate_list_of}
use Rattle.cells.specs.ListLaws.{set_at_same}
use Rattle.tiles.specs.declared.Tiles.{Tiles}
use Rattle.refusal.specs.declared.Refusal.{Refusal}
use Rattle.refusal.specs.Refusal.{Answer, refused, given, map_answer, bind_answer, answer_of}
use Rattle.refusal.specs.RefusalLaws.{given_inj}
use Rattle.tile.specs.Path.{Path}
use Rattle.tiles.specs.Paths.{paths_in}
use Rattle.board.specs.declared.RectangularBoard.{RectangularBoard}
use Rattle.rectangle.specs.Board.{Board, valid, free_count}
use Rattle.board.specs.Board.{board_of, read_board}
use Rattle.rectangle.proofs.BoardLaws.{marks_lt}
use Rattle.board.specs.BoardLaws.{read_board_given}
use Rattle.covers.specs.Setting.{Setting}
use Rattle.covers.specs.Counts.{Entry}
use Rattle.path_count.specs.PathCounts.{count_room, count_in}
use Rattle.path_count.specs.Parts.{with_count}
use Rattle.path_count.specs.PathCountLaws.{count_in_same}
use Rattle.expansion.specs.Boards.{setting, setting_of, start_of, Accepted}
use Rattle.layers.specs.Inner.{layers_answer, entries_in, count_from, Ready}
use Rattle.layers.specs.LayerCounts.{count_tilings, layer_count_for}
use Rattle.layers.proofs.CountLaws.{layers_setting}
use Rattle.expansion.specs.Plots.{accept_plot}
use Rattle.layers.proofs.RunLaws.{ready_start, layers_from, layers_full, layers_no_room}
use Rattle.expansion.proofs.AcceptedLaws.{setting_full, accepted_laws, accepted_start, accepted_free}

-- ---- `free_cells`, of an accepted board

module _ (b : RectangularBoard) (ok : So (valid (board_of b))) (r : Result ℕ Refusal) (e : answer_of r ≡ map_answer free_count (read_board b)) where
  pub free_answer : answer_of r ≡ given (free_count (board_of b))
  unfolding map_answer
  free_answer = e ∙ ap (map_answer free_count) (read_board_given b ok)

  pub free_number : (n : ℕ) → r ≡ Ok n → n ≡ free_count (board_of b)
  free_number n q = given_inj n (free_count (board_of b)) (sym (ap answer_of q) ∙ free_answer)

-- ---- layer 0 in lent words

one_lent : (n : ℕ) → 4 ≤ n → 0 < n / 4
one_lent n h = omega arith

pub first_entries : (b : RectangularBoard) (bs cs bs' cs' : List ℕ) (m k : ℕ) → m ≡ start_of b → k ≡ 1 → bs' ≡ with_set bs 0 m → cs' ≡ with_count cs 0 k
    → 4 ≤ length bs → 0 < count_room (length cs) → entries_in bs' cs' 1 ≡ (start_of b, 1) ∷ []
unfolding entries_in list_of list_from
first_entries b bs cs bs' cs' m k is one put stored longB longC =
    ap₂ (λ (x y : ℕ). (x, y) ∷ [])
    (ap (λ (ws : List ℕ). set_at ws 0) (put ∙ ap (with_set bs 0) is) ∙ set_at_same bs 0 (start_of b) (one_lent (length bs) longB) (marks_lt (board_of b)))
    (ap (λ (ws : List ℕ). count_in ws 0) (stored ∙ ap (with_count cs 0) one) ∙ count_in_same cs 0 1 longC (lit< tt))

-- ---- the ways out of `count_accepted`

pub start_no_room : (S : Setting ℕ ℕ) (s room R : ℕ) → room ≡ R → room ≡ 0 → refused 8 ≡ layers_answer S s R
start_no_room S s room R e z = sym (ap (layers_answer S s) (sym e ∙ z) ∙ layers_no_room S s)

pub positive : (n : ℕ) → (n ≡ 0 → ⊥) → 0 < n
positive n h = omega arith

module _ (b : RectangularBoard) (ts : Tiles) (A : Accepted b ts) (fixed : Sound b.fixed) (laid : Sound b.laid)
    (free : ℕ) (is_free : free ≡ free_count (board_of b)) (room R : ℕ) (is : room ≡ R) (some : room ≡ 0 → ⊥) where
  abbrev S : Setting ℕ ℕ
  S = setting_of b ts

  fixed_lt : number b.fixed < 2 ^ 256
  fixed_lt = number_lt b.fixed fixed

  laid_lt : number b.laid < 2 ^ 256
  laid_lt = number_lt b.laid laid

  start_free : S.free_count (start_of b) ≡ free
  start_free = accepted_free b ts A fixed_lt laid_lt ∙ sym is_free

  pub start_full : (x : ℕ) → x ≡ 0 → free ≡ 0 → given x ≡ layers_answer S (start_of b) R
  start_full x e z = ap given e ∙ sym (ap (layers_answer S (start_of b)) (sym is) ∙ layers_full S (start_of b) room (start_free ∙ z) (positive room some))

  module _ (es : List (Entry ℕ)) (entries : es ≡ (start_of b, 1) ∷ []) where
    pub start_ready : Ready S free es
    unfolding setting
    start_ready =
        subst (λ (es : List (Entry ℕ)). Ready S free es) (sym entries)
        (subst (λ (k : ℕ). Ready S k ((start_of b, 1) ∷ [])) start_free
        (ready_start S (accepted_laws b ts A) (start_of b) (accepted_start b ts A fixed_lt laid_lt)))

    pub start_run : (free ≡ 0 → ⊥) → (x : Answer ℕ) → ((k : ℕ) → free ≤ k → x ≡ count_from S room k es)
        → x ≡ layers_answer S (start_of b) R
    start_run z x e =
        let notFull : S.full (start_of b) ≡ false =
        setting_full (board_of b) (paths_in ts) (start_of b) ∙ ap (λ (k : ℕ). eqb k 0) start_free ∙ ne_eqb free 0 z in
        e free (le_refl free) ∙ ap (count_from S room free) entries ∙ ap (λ (k : ℕ). count_from S room k ((start_of b, 1) ∷ [])) (sym start_free)
        ∙ sym (layers_from S (start_of b) room notFull (positive room some))
        ∙ ap (layers_answer S (start_of b)) is

-- ---- the ways out of `counted`

module _ (b : RectangularBoard) (ts : Tiles) (room : ℕ) where
  pub count_given_lem : (x : Answer ℕ) → accept_plot b ts ≡ given (board_of b, paths_in ts) → x ≡ layers_answer (setting_of b ts) (start_of b) room
      → x ≡ count_tilings b ts room
  unfolding count_tilings bind_answer
  count_given_lem x r e =
      e ∙ sym (layers_setting (board_of b) (paths_in ts) room) ∙ ap (λ (a : Answer (Board × List Path)). bind_answer a (λ p. layer_count_for p.0 p.1 room)) (sym r)

  pub count_refused : (n : ℕ) → accept_plot b ts ≡ refused n → refused n ≡ count_tilings b ts room
  unfolding count_tilings bind_answer
  count_refused n r = ap (λ (a : Answer (Board × List Path)). bind_answer a (λ p. layer_count_for p.0 p.1 room)) (sym r)

-- ---- words that are cleared

pub cleared_zeros : (n : ℕ) (ws ws' : List ℕ) → ws' ≡ cleared_from 0 ws → length ws ≡ n → ws' ≡ replicate n 0
unfolding cleared_from
cleared_zeros n ws ws' e h =
    e
    ∙ list_of_ext (λ i. cond (ltb i 0) (get_or ws i 0) 0) (λ i. 0) (length ws)
    (λ i k. ap {B = ℕ} (λ (t : Bool). cond t (get_or ws i 0) 0) (le-ltb i 0 (omega arith)))
    ∙ sym (replicate_list_of 0 (length ws) 0)
    ∙ ap (λ (n : ℕ). replicate n 0) h
