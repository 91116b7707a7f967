-- Laws that the proofs of `from_layer` cite: what a layer in lent words has, what is right where it has grown, and the answer of each way out. Rests on `RunLaws`, expansion's
-- `AcceptedLaws` and `LayerLaws`. Assumes nothing.
use Rattle.std.specs.Prelude.{Err, None, Ok, Option, Result, Some}
use mathlib.Core.Path.{◌≡◌, refl, sym, ap, ◌∙◌, subst}
use mathlib.Core.Bool.{Bool, true, false, cond}
use mathlib.Core.List.{List, ◌∷◌, map, Memᴰ as Mem}
use Prim.Native.Nat.{ℕ, zero, suc, ◌+◌, ◌-◌, ◌≤◌, ◌<◌}
use native.Mathlib.Decide.{ℕ_discrete}
use native.Mathlib.Omega.{arith}
use borrow.Author.Tests.{eq-eqb, ne_eqb}
use lib.Dec.{eqb}
use lib.ListN.{get_or}
use Rattle.cells.specs.Lists.{list_from, list_of, set_at}
use Rattle.cells.specs.MemberLaws.{mem_list_of}
use Rattle.tiles.specs.declared.Tiles.{Tiles}
use Rattle.refusal.specs.declared.Refusal.{Refusal}
use Rattle.refusal.specs.declared.Refusal.TheVariants as Refusals
use Rattle.refusal.specs.Refusal.{Answer, refused, given, bind_answer, refusal_number}
use Rattle.tiles.specs.Paths.{paths_in}
use Rattle.board.specs.declared.RectangularBoard.{RectangularBoard}
use Rattle.board.specs.Board.{board_of}
use Rattle.covers.specs.Setting.{Setting, EqualSteps}
use Rattle.covers.specs.Counts.{Entry, boards, counts}
use Rattle.path_count.specs.PathCounts.{count_in}
use Rattle.expansion.specs.Boards.{From, setting, setting_of, Accepted}
use Rattle.layers.specs.LayerCounts.{judge_layer}
use Rattle.expansion.specs.Parts.{step_of}
use Rattle.layers.specs.Inner.{entries_in, HoldsLayer, next_of, count_from, Right, Ready, Grows}
use Rattle.layers.proofs.RunLaws.{count_last, count_short, count_on, ready_next}
use Rattle.expansion.proofs.AcceptedLaws.{step_of_pos, setting_full, accepted_laws, accepted_steps}
use Rattle.layers.proofs.LayerLaws.{held_entries, held_large, held_fits, held_no_room}

-- ---- entries in lent words

map_list_from : {A B : Type 0} (h : A → B) (f : ℕ → A) (i n : ℕ) → map h (list_from f i n) ≡ list_from (λ k. h (f k)) i n
unfolding list_from
map_list_from h f i zero = refl
map_list_from {A} {B} h f i (suc n) = ap (λ (l : List B). h (f i) ∷ l) (map_list_from h f (suc i) n)

boards_entries_in : (bs cs : List ℕ) (n : ℕ) → boards (entries_in bs cs n) ≡ list_of (set_at bs) n
unfolding entries_in list_of
boards_entries_in bs cs n = map_list_from (λ (e : Entry ℕ). e.0) (λ i. (set_at bs i, count_in cs i)) 0 n

counts_entries_in : (bs cs : List ℕ) (n : ℕ) → counts (entries_in bs cs n) ≡ list_of (count_in cs) n
unfolding entries_in list_of
counts_entries_in bs cs n = map_list_from (λ (e : Entry ℕ). e.1) (λ i. (set_at bs i, count_in cs i)) 0 n

-- ---- the ways out

module _ (b : RectangularBoard) (ts : Tiles) (bs cs : List ℕ) (n left : ℕ) (R : Ready (setting_of b ts) left (entries_in bs cs n)) where
  -- each board of the layer is one of the start
  pub layer_from : (i : ℕ) → i < n → From (board_of b) (set_at bs i)
  unfolding setting
  layer_from i h =
      R.ok (set_at bs i) (subst (Mem (set_at bs i)) (sym (boards_entries_in bs cs n)) ((mem_list_of (set_at bs) n (set_at bs i)).1 (i, h, refl)))

  module _ (A : Accepted b ts) (room size : ℕ) (is : size ≡ step_of (paths_in ts)) where
    abbrev S : Setting ℕ ℕ
    S = setting_of b ts

    abbrev es : List (Entry ℕ)
    es = entries_in bs cs n

    -- an answer is right from the layer on
    abbrev RightHere : Answer ℕ → Type 0
    RightHere x = Right S room left es x

    steps : EqualSteps S size
    steps = subst (EqualSteps S) (sym is) (accepted_steps b ts A)

    size_pos : 0 < size
    size_pos = omega (arith, is, step_of_pos (paths_in ts))

    pub run_less : (rest : ℕ) → size + size ≤ left → rest ≡ left - (size + size) → rest < left
    run_less rest h e = omega (arith, size_pos)

    last_layer : left ≡ 0 → RightHere (given (get_or (list_of (count_in cs) n) 0 0))
    last_layer z k h =
        ap (λ (l : List ℕ). given (get_or l 0 0)) (sym (counts_entries_in bs cs n))
        ∙ sym
        (count_last S (accepted_laws b ts A) (setting_full (board_of b) (paths_in ts)) size steps room k es (subst (λ (m : ℕ). Ready S m es) z R) size_pos)

    short_layer : (left ≡ 0 → ⊥) → left < size → RightHere (given 0)
    short_layer z l k h =
        let some : 0 < left = omega arith in
        sym (count_short S (accepted_laws b ts A) (setting_full (board_of b) (paths_in ts)) size steps room k left es R some l)

    -- no piece can be laid on a board of the layer
    pub run_last : (x : ℕ) → left < size → x ≡ cond (eqb left 0) (get_or (list_of (count_in cs) n) 0 0) 0 → RightHere (given x)
    run_last x l e = go (ℕ_discrete left 0)
      where
        go : Dec (left ≡ 0) → RightHere (given x)
        go (yes z) k h =
            ap given (e ∙ ap (λ (t : Bool). cond t (get_or (list_of (count_in cs) n) 0 0) 0) (eq-eqb left 0 z)) ∙ last_layer z k h
        go (no z) k h =
            ap given (e ∙ ap (λ (t : Bool). cond t (get_or (list_of (count_in cs) n) 0 0) 0) (ne_eqb left 0 z)) ∙ short_layer z l k h

    module _ (fits : size ≤ left) (bs' cs' : List ℕ) (g : Option (ℕ × Bool)) (H : HoldsLayer room bs' cs' g (next_of S es)) where
      next : (k : ℕ) → left ≤ k → count_from S room k es ≡ bind_answer (judge_layer room (next_of S es)) (count_from S room (k - 1))
      next k h =
          let some : 0 < left = omega (arith, size_pos) in
          let q : k ≡ suc (k - 1) = omega arith in
          ap (λ (i : ℕ). count_from S room i es) q
          ∙ count_on S (accepted_laws b ts A) (setting_full (board_of b) (paths_in ts)) room (k - 1) left es R some

      refuses : (m : ℕ) → judge_layer room (next_of S es) ≡ refused m → RightHere (refused m)
      unfolding bind_answer
      refuses m w k h =
          ap (λ (x : Answer (List (Entry ℕ))). bind_answer x (count_from S room (k - 1))) (sym w) ∙ sym (next k h)

      -- its boards pass the room
      pub once_no_room : g ≡ None → Grows S room left size es bs' cs' (Err Refusals.NoRoom)
      unfolding Grows
      once_no_room q = refuses 8 (held_no_room room bs' cs' (next_of S es) (subst (λ (x : Option (ℕ × Bool)). HoldsLayer room bs' cs' x (next_of S es)) q H))

      module _ (m : ℕ) (over : Bool) (q : g ≡ Some (m, over)) where
        pub once_large : over ≡ true → Grows S room left size es bs' cs' (Err Refusals.CountTooLarge)
        unfolding Grows
        once_large o =
            refuses 9
            (held_large room bs' cs' (next_of S es) m (subst (λ (x : Option (ℕ × Bool)). HoldsLayer room bs' cs' x (next_of S es)) (q ∙ ap (λ (t : Bool). Some (m, t)) o) H))

        module _ (o : over ≡ false) where
          held : HoldsLayer room bs' cs' (Some (m, false)) (next_of S es)
          held = subst (λ (x : Option (ℕ × Bool)). HoldsLayer room bs' cs' x (next_of S es)) (q ∙ ap (λ (t : Bool). Some (m, t)) o) H

          entries : entries_in bs' cs' m ≡ next_of S es
          entries = (held_entries room bs' cs' (next_of S es) m held).2

          ready : Ready S (left - size) (entries_in bs' cs' m)
          ready = subst (Ready S (left - size)) (sym entries) (ready_next S (accepted_laws b ts A) size steps left es R)

          right_on : (x : Answer ℕ) → Right S room (left - size) (entries_in bs' cs' m) x → RightHere x
          unfolding bind_answer
          right_on x e k h =
              let small = size_pos in
              e (k - 1) (omega arith) ∙ ap (count_from S room (k - 1)) entries
              ∙ ap (λ (x : Answer (List (Entry ℕ))). bind_answer x (count_from S room (k - 1))) (sym (held_fits room bs' cs' (next_of S es) m held))
              ∙ sym (next k h)

          pub once_boards : Grows S room left size es bs' cs' (Ok (m, left - size))
          unfolding Grows
          once_boards = (refl, ready, right_on)

-- ---- a layer that has grown

module _ (S : Setting ℕ ℕ) (room left size : ℕ) (es : List (Entry ℕ)) (bs cs : List ℕ) where
  pub grown_refused : (q : Refusal) → Grows S room left size es bs cs (Err q) → Right S room left es (refused (refusal_number q))
  unfolding Grows
  grown_refused q g = g

  -- whatever would have come behind it
  pub once_refused : (q : Refusal) → Grows S room left size es bs cs (Err q) → (laid : ℕ) (bs' cs' : List ℕ) → Grows S room left laid es bs' cs' (Err q)
  unfolding Grows
  once_refused q g laid bs' cs' = g

  module _ (m rest : ℕ) (grown : Grows S room left size es bs cs (Ok (m, rest))) where
    pub grown_rest : rest ≡ left - size
    unfolding Grows
    grown_rest = grown.0

    pub grown_ready : Ready S rest (entries_in bs cs m)
    unfolding Grows
    grown_ready = grown.1

    pub grown_on : (x : Answer ℕ) → Right S room rest (entries_in bs cs m) x → Right S room left es x
    unfolding Grows
    grown_on = grown.2

    -- and grows again
    pub grown_twice : (bs' cs' : List ℕ) (r : Result (ℕ × ℕ) Refusal) → Grows S room rest size (entries_in bs cs m) bs' cs' r → Grows S room left (size + size) es bs' cs' r
    unfolding Grows
    grown_twice bs' cs' (Ok (k, d)) g = (omega (arith, g.0, grown_rest), g.1, λ x h. grown_on x (g.2 x h))
    grown_twice bs' cs' (Err q) g = grown_on (refused (refusal_number q)) g

-- in the same room
pub grows_in : (S : Setting ℕ ℕ) {room room' : ℕ} (left laid : ℕ) (es : List (Entry ℕ)) (bs cs : List ℕ) (r : Result (ℕ × ℕ) Refusal) → room' ≡ room
    → Grows S room' left laid es bs cs r → Grows S room left laid es bs cs r
grows_in S left laid es bs cs r q g = subst (λ (m : ℕ). Grows S m left laid es bs cs r) q g

pub right_in : (S : Setting ℕ ℕ) {room room' : ℕ} (left : ℕ) (es : List (Entry ℕ)) (x : Answer ℕ) → room' ≡ room → Right S room' left es x → Right S room left es x
right_in S left es x q h = subst (λ (m : ℕ). Right S m left es x) q h
