-- A layer in lent words: what its state tells; the empty layer; what one addition and many do to words and state; the layer behind a layer; the count
-- of a last layer. Rests on `Inner`, `AddingLaws`, graph's law of the search and path_count's `PathCountLaws`. Assumes nothing.
use Rattle.std.specs.Prelude.{Option, None, Some}
use mathlib.Core.Path.{◌≡◌, refl, sym, ap, ap₂, ◌∙◌, subst}
use mathlib.Core.Bool.{Bool, true, false, cond, ◌||◌, false≢true}
use mathlib.Core.List.{List, [], ◌∷◌, ◌++◌, map-append}
use Prim.Native.Nat.{ℕ, zero, suc, ◌+◌, ◌*◌, ◌/◌, ◌^◌, ◌≤◌, ◌<◌}
use native.Mathlib.Decide.{ℕ_discrete}
use native.Mathlib.Numerals.{add-one}
use native.Mathlib.Omega.{arith}
use borrow.Author.Tests.{le-leb, lt-leb, leb-true, leb-false, eq-eqb, ne_eqb}
use lib.Dec.{eqb, leb}
use lib.ListN.{length, get_or, set, length-append, length-map, get_or-map}
use Rattle.cells.specs.Lists.{holds, list_of, set_at}
use Rattle.cells.specs.Parts.{with_set, find_set}
use Rattle.cells.specs.FirstsLaws.{add_new_old, holds_iff}
use Rattle.cells.specs.MemberLaws.{eqb_tells}
use Rattle.cells.specs.ArrayLaws.{get_d_list_of, list_of_ext, list_of_eta, list_of_snoc}
use Rattle.cells.specs.ListLaws.{set_at_same, set_at_other}
use Rattle.refusal.specs.Refusal.{refused, given}
use Rattle.tile.specs.Path.{Path}
use Rattle.rectangle.specs.Board.{Board}
use Rattle.covers.specs.Setting.{Setting, child_boards}
use Rattle.covers.specs.Counts.{Entry, boards, counts, number_in}
use Rattle.covers.specs.Inner.{add_paths}
use Rattle.covers.proofs.GatherLaws.{boards_add_paths}
use Rattle.covers.proofs.NodeLaws.{number_lt}
use Rattle.path_count.specs.PathCounts.{count_limit, count_room, count_in}
use Rattle.path_count.specs.Parts.{with_count, AddsCount}
use Rattle.path_count.specs.PathCountLaws.{counts_snoc, counts_set, adds_done}
use Rattle.graph.proofs.GraphLaws.{found_held}
use Rattle.expansion.specs.Boards.{setting}
use Rattle.layers.specs.LayerCounts.{too_large, judge_layer}
use Rattle.layers.specs.Inner.{entries_in, layer_state, HoldsLayer, add_each, next_of}
use Rattle.layers.specs.AddingLaws.{too_large_snoc, too_large_set, add_paths_new, counts_old, length_old, length_new, length_add_paths, add_each_none, add_each_more, next_none, next_more}

-- ---- the room of the count words

-- it goes by their number
pub room_kept : (room n m : ℕ) → room ≤ count_room m → n ≡ m → room ≤ count_room n
room_kept room n m h e = subst (λ (k : ℕ). room ≤ count_room k) (sym e) h

-- the room of a layer stays the same: what holds in that of its start holds in its own, and back
module _ {m n : ℕ} {bs cs : List ℕ} {state : Option (ℕ × Bool)} {es : List (Entry ℕ)} where
  pub to_own_room : n ≡ m → HoldsLayer m bs cs state es → HoldsLayer n bs cs state es
  to_own_room q h = subst (λ (x : ℕ). HoldsLayer x bs cs state es) (sym q) h

  pub to_first_room : n ≡ m → HoldsLayer n bs cs state es → HoldsLayer m bs cs state es
  to_first_room q h = subst (λ (x : ℕ). HoldsLayer x bs cs state es) q h

-- ---- the state

abbrev state_of : List (Entry ℕ) → Option (ℕ × Bool)
state_of es = Some (length es, too_large (counts es))

module _ (room : ℕ) (es : List (Entry ℕ)) where
  state_boards : (n : ℕ) (over : Bool) → Some (n, over) ≡ layer_state room es → (length es ≤ room) × (n ≡ length es) × (over ≡ too_large (counts es))
  unfolding layer_state
  state_boards n over e = go (leb (length es) room) (leb-true (length es) room) e
    where
      go : (t : Bool) → (t ≡ true → length es ≤ room) → Some (n, over) ≡ cond t (state_of es) None
          → (length es ≤ room) × (n ≡ length es) × (over ≡ too_large (counts es))
      go true f q =
          let both : ◌≡◌ {A = ℕ × Bool} (n, over) (length es, too_large (counts es)) = cc in
          (f refl, ap (λ (p : ℕ × Bool). p.0) both, ap (λ (p : ℕ × Bool). p.1) both)
      go false f q = let z : ◌≡◌ {A = ℕ} 0 1 = cc in absurd (omega arith)

  state_no_room : None ≡ layer_state room es → room < length es
  unfolding layer_state
  state_no_room e = go (leb (length es) room) (leb-false (length es) room) e
    where
      go : (t : Bool) → (t ≡ false → room < length es) → None ≡ cond t (state_of es) None → room < length es
      go true f q = let z : ◌≡◌ {A = ℕ} 0 1 = cc in absurd (omega arith)
      go false f q = f refl

  state_within : (n : ℕ) (over : Bool) → length es ≤ room → n ≡ length es → over ≡ too_large (counts es) → Some (n, over) ≡ layer_state room es
  unfolding layer_state
  state_within n over h e f = rw (le-leb (length es) room h, e, f)

  state_past : room < length es → None ≡ layer_state room es
  unfolding layer_state
  state_past h = rw (lt-leb (length es) room h)

-- the empty layer
held_none : (room : ℕ) (bs cs : List ℕ) → HoldsLayer room bs cs (Some (0, false)) []
unfolding too_large list_of
held_none room bs cs =
    record {
      state = state_within room [] 0 false (omega arith) refl refl;
      boards = λ h. refl;
      counts = λ h e. refl;
    }

-- a layer whose boards pass the room, whatever the words
held_past : (room : ℕ) (bs cs : List ℕ) (es : List (Entry ℕ)) → room < length es → HoldsLayer room bs cs None es
held_past room bs cs es h =
    record { state = state_past room es h; boards = λ l. absurd (omega arith); counts = λ l e. absurd (omega arith) }

-- ---- what a layer is that has grown

-- words that hold the boards and the counts hold the entries
entries_are : (bs cs : List ℕ) (es : List (Entry ℕ)) → list_of (set_at bs) (length es) ≡ boards es → list_of (count_in cs) (length es) ≡ counts es
    → entries_in bs cs (length es) ≡ es
unfolding entries_in
entries_are bs cs es f g = sym (list_of_eta (0, 0) es (λ i. (set_at bs i, count_in cs i)) (length es) refl (λ i h. ap₂ (λ (b n : ℕ). (b, n)) (board i h) (count i h)))
  where
    board : (i : ℕ) → i < length es → (get_or es i (0, 0)).0 ≡ set_at bs i
    board i h =
        sym (get_or-map (λ (e : Entry ℕ). e.0) es i (0, 0)) ∙ ap (λ (l : List ℕ). get_or l i 0) (sym f) ∙ get_d_list_of (set_at bs) (length es) i 0 h

    count : (i : ℕ) → i < length es → (get_or es i (0, 0)).1 ≡ count_in cs i
    count i h =
        sym (get_or-map (λ (e : Entry ℕ). e.1) es i (0, 0)) ∙ ap (λ (l : List ℕ). get_or l i 0) (sym g) ∙ get_d_list_of (count_in cs) (length es) i 0 h

module _ (room : ℕ) (bs cs : List ℕ) (es : List (Entry ℕ)) where
  pub held_no_room : HoldsLayer room bs cs None es → judge_layer room es ≡ refused 8
  unfolding judge_layer
  held_no_room h = rw (lt-leb (length es) room (state_no_room room es h.state))

  module _ (m : ℕ) where
    pub held_large : HoldsLayer room bs cs (Some (m, true)) es → judge_layer room es ≡ refused 9
    unfolding judge_layer
    held_large h = let s = state_boards room es m true h.state in rw (le-leb (length es) room s.0, ← s.2)

    pub held_fits : HoldsLayer room bs cs (Some (m, false)) es → judge_layer room es ≡ given es
    unfolding judge_layer
    held_fits h = let s = state_boards room es m false h.state in rw (le-leb (length es) room s.0, ← s.2)

    pub held_entries : HoldsLayer room bs cs (Some (m, false)) es → (m ≡ length es) × (length es ≤ room) × (entries_in bs cs m ≡ es)
    held_entries h =
        let s = state_boards room es m false h.state in
        (s.1, s.0, ap (entries_in bs cs) s.1 ∙ entries_are bs cs es (h.boards s.0) (h.counts s.0 (sym s.2)))

-- ---- one addition

module _ (room : ℕ) (bs cs : List ℕ) (n : ℕ) (over : Bool) (es : List (Entry ℕ)) (held : HoldsLayer room bs cs (Some (n, over)) es) (c k : ℕ) (lent : 4 * room ≤ length bs)
    (found : Option ℕ) (f : found ≡ find_set bs 0 n c) where
  told : (length es ≤ room) × (n ≡ length es) × (over ≡ too_large (counts es))
  told = state_boards room es n over held.state

  sought : found ≡ cond (holds eqb (boards es) c) (Some (number_in eqb (boards es) c)) None
  sought =
      let long : length (boards es) ≡ length es = length-map es (λ (x : Entry ℕ). x.0) in
      f
      ∙ ap (λ (m : ℕ). find_set bs 0 m c) (told.1 ∙ sym long)
      ∙ found_held bs (boards es) c (omega (arith, told.0)) (ap (list_of (set_at bs)) long ∙ held.boards told.0)

  -- ---- it is new
  module _ (new : found ≡ None) where
    not_held : holds eqb (boards es) c ≡ false
    not_held = go (holds eqb (boards es) c) (sym new ∙ sought)
      where
        go : (t : Bool) → None ≡ cond t (Some (number_in eqb (boards es) c)) None → t ≡ false
        go true q = let z : ◌≡◌ {A = ℕ} 0 1 = cc in absurd (omega arith)
        go false q = refl

    -- there is no room for it
    pub add_past : room ≤ n → HoldsLayer room bs cs None (add_paths eqb c k es)
    add_past h = held_past room bs cs (add_paths eqb c k es) (omega (arith, told.1, length_new c k es not_held))

    -- it is stored behind the others
    module _ (h : n < room) (bs' : List ℕ) (g : bs' ≡ with_set bs n c) where
      before : (j : ℕ) → j < length es → set_at bs' j ≡ set_at bs j
      before j l = ap (λ (ws : List ℕ). set_at ws j) g ∙ set_at_other bs n c j (λ q. omega (arith, told.1))

      lent_one : n < length bs / 4
      lent_one = omega arith

      last : c < 2 ^ 256 → set_at bs' (length es) ≡ c
      last hc = ap (set_at bs') (sym told.1) ∙ ap (λ (ws : List ℕ). set_at ws n) g ∙ set_at_same bs n c lent_one hc

      long : length (es ++ (c, k) ∷ []) ≡ length es + 1
      long = length-append es ((c, k) ∷ [])

      large : k < count_limit → too_large (counts (es ++ (c, k) ∷ [])) ≡ too_large (counts es)
      large hk = ap too_large (map-append (λ (x : Entry ℕ). x.1) es ((c, k) ∷ [])) ∙ too_large_snoc (counts es) k hk

      stored : c < 2 ^ 256 → list_of (set_at bs') (length (es ++ (c, k) ∷ [])) ≡ boards (es ++ (c, k) ∷ [])
      stored hc =
          ap (list_of (set_at bs')) long
          ∙ list_of_snoc (set_at bs') (length es)
          ∙ ap₂ (λ (l : List ℕ) (x : ℕ). l ++ x ∷ []) (list_of_ext (set_at bs') (set_at bs) (length es) before ∙ held.boards told.0) (last hc)
          ∙ sym (map-append (λ (x : Entry ℕ). x.0) es ((c, k) ∷ []))

      module _ (cs' : List ℕ) (p : cs' ≡ with_count cs n k) where
        counted : room ≤ count_room (length cs) → k < count_limit → too_large (counts es) ≡ false
            → list_of (count_in cs') (length (es ++ (c, k) ∷ [])) ≡ counts (es ++ (c, k) ∷ [])
        counted r hk q =
            ap₂ (λ (ws : List ℕ) (m : ℕ). list_of (count_in ws) m) p (long ∙ ap (λ (m : ℕ). m + 1) (sym told.1))
            ∙ counts_snoc cs n k (omega arith) hk
            ∙ ap (λ (l : List ℕ). l ++ k ∷ []) (ap (list_of (count_in cs)) told.1 ∙ held.counts told.0 q)
            ∙ sym (map-append (λ (x : Entry ℕ). x.1) es ((c, k) ∷ []))

        more : (length (es ++ (c, k) ∷ []) ≤ room) × (n + 1 ≡ length (es ++ (c, k) ∷ []))
        more = (omega (arith, told.1, long), omega (arith, told.1, long))

        pub add_new_lem : room ≤ count_room (length cs) → c < 2 ^ 256 → k < count_limit → HoldsLayer room bs' cs' (Some (n + 1, over)) (add_paths eqb c k es)
        add_new_lem r hc hk =
            rw (add_paths_new c k es not_held)
            record {
              state = state_within room (es ++ (c, k) ∷ []) (n + 1) over more.0 more.1 (told.2 ∙ sym (large hk));
              boards = λ l. stored hc;
              counts = λ l q. counted r hk (sym (large hk) ∙ q);
            }

  -- ---- it is there already
  module _ (i : ℕ) (old : found ≡ Some i) where
    is_held : (holds eqb (boards es) c ≡ true) × (i ≡ number_in eqb (boards es) c)
    is_held = go (holds eqb (boards es) c) (sym old ∙ sought)
      where
        go : (t : Bool) → Some i ≡ cond t (Some (number_in eqb (boards es) c)) None → (t ≡ true) × (i ≡ number_in eqb (boards es) c)
        go true q = (refl, cc)
        go false q = let z : ◌≡◌ {A = ℕ} 0 1 = cc in absurd (omega arith)

    at_place : i < length (counts es)
    at_place =
        omega (
          arith,
          is_held.1,
          number_lt eqb eqb_tells (boards es) c ((holds_iff eqb eqb_tells (boards es) c).0 is_held.0),
          length-map es (λ (x : Entry ℕ). x.0),
          length-map es (λ (x : Entry ℕ). x.1),
        )

    raised : counts (add_paths eqb c k es) ≡ set (counts es) i (get_or (counts es) i 0 + k)
    raised = counts_old c k es is_held.0 ∙ ap (λ (j : ℕ). set (counts es) j (get_or (counts es) j 0 + k)) (sym is_held.1)

    grows : too_large (counts (add_paths eqb c k es)) ≡ (over || leb count_limit (get_or (counts es) i 0 + k))
    grows =
        ap too_large raised
        ∙ too_large_set (counts es) i (get_or (counts es) i 0 + k) at_place (omega arith)
        ∙ ap (λ (t : Bool). t || leb count_limit (get_or (counts es) i 0 + k)) (sym told.2)

    as_long : (length (add_paths eqb c k es) ≤ room) × (n ≡ length (add_paths eqb c k es))
    as_long = (omega (arith, told.0, length_old c k es is_held.0), omega (arith, told.1, length_old c k es is_held.0))

    kept : list_of (set_at bs) (length (add_paths eqb c k es)) ≡ boards (add_paths eqb c k es)
    kept =
        ap (list_of (set_at bs)) (length_old c k es is_held.0)
        ∙ held.boards told.0
        ∙ sym (boards_add_paths eqb c k es ∙ add_new_old eqb (boards es) c is_held.0)

    -- a count was too large before
    pub add_large : (cs' : List ℕ) → over ≡ true → HoldsLayer room bs cs' (Some (n, over)) (add_paths eqb c k es)
    add_large cs' q =
        let large : too_large (counts (add_paths eqb c k es)) ≡ true = grows ∙ ap (λ (t : Bool). t || leb count_limit (get_or (counts es) i 0 + k)) q in
        record {
          state = state_within room (add_paths eqb c k es) n over as_long.0 as_long.1 (q ∙ sym large);
          boards = λ l. kept;
          counts = λ l z. absurd (false≢true (sym z ∙ large));
        }

    -- none was
    module _ (fine : over ≡ false) (lentCounts : room ≤ count_room (length cs)) (cs' : List ℕ) (r : Bool) (adds : AddsCount cs i k cs' r) where
      are : list_of (count_in cs) (length es) ≡ counts es
      are = held.counts told.0 (sym told.2 ∙ fine)

      in_layer : i < length es
      in_layer = omega (arith, at_place, length-map es (λ (x : Entry ℕ). x.1))

      count_at : count_in cs i ≡ get_or (counts es) i 0
      count_at = sym (get_d_list_of (count_in cs) (length es) i 0 in_layer) ∙ ap (λ (ns : List ℕ). get_or ns i 0) are

      now_large : too_large (counts (add_paths eqb c k es)) ≡ r
      now_large =
          grows
          ∙ ap (λ (t : Bool). t || leb count_limit (get_or (counts es) i 0 + k)) fine
          ∙ ap (λ (m : ℕ). leb count_limit (m + k)) (sym count_at)
          ∙ sym adds.large

      raised_all : r ≡ false → list_of (count_in cs') (length (add_paths eqb c k es)) ≡ counts (add_paths eqb c k es)
      raised_all q =
          let done = adds_done cs i k cs' r adds q in
          ap₂ (λ (ws : List ℕ) (m : ℕ). list_of (count_in ws) m) done.1 (length_old c k es is_held.0)
          ∙ counts_set cs (length es) i (count_in cs i + k) in_layer (omega (arith, told.0)) done.0
          ∙ ap₂ (λ (ns : List ℕ) (m : ℕ). set ns i (m + k)) are count_at
          ∙ sym raised

      pub add_old : HoldsLayer room bs cs' (Some (n, r)) (add_paths eqb c k es)
      add_old =
          record {
            state = state_within room (add_paths eqb c k es) n r as_long.0 as_long.1 (sym now_large);
            boards = λ l. kept;
            counts = λ l z. raised_all (sym now_large ∙ z);
          }

-- ---- many additions

-- a layer that has passed the room has passed it with more boards
held_on : (room : ℕ) (bs cs : List ℕ) (es ds : List (Entry ℕ)) → length es ≤ length ds → HoldsLayer room bs cs None es → HoldsLayer room bs cs None ds
held_on room bs cs es ds l h = held_past room bs cs ds (omega (arith, state_no_room room es h.state))

-- what grows from step to step is longer in the end
longer : (at : ℕ → List (Entry ℕ)) → ((i : ℕ) → length (at i) ≤ length (at (i + 1))) → (i n : ℕ) → i ≤ n → length (at i) ≤ length (at n)
longer at more i zero h = let e : i ≡ 0 = omega arith in subst (λ (m : ℕ). length (at i) ≤ length (at m)) e (omega arith)
longer at more i (suc n) h = go (ℕ_discrete i (suc n)) (longer at more i n)
  where
    go : Dec (i ≡ suc n) → (i ≤ n → length (at i) ≤ length (at n)) → length (at i) ≤ length (at (suc n))
    go (yes e) f = subst (λ (m : ℕ). length (at i) ≤ length (at m)) e (omega arith)
    go (no ne) f = let l : i ≤ n = omega arith in subst (λ (m : ℕ). length (at i) ≤ length (at m)) (add-one n) (omega (arith, f l, more n))

length_add_each : (cs : List ℕ) (k : ℕ) (es : List (Entry ℕ)) → length es ≤ length (add_each cs k es)
unfolding add_each
length_add_each [] k es = omega arith
length_add_each (c ∷ cs) k es = omega (arith, length_add_paths c k es, length_add_each cs k (add_paths eqb c k es))

module _ (room : ℕ) (bs cs : List ℕ) (layer : Option (ℕ × Bool)) (f : ℕ → ℕ) (k : ℕ) (es : List (Entry ℕ)) where
  pub each_none : HoldsLayer room bs cs layer es → HoldsLayer room bs cs layer (add_each (list_of f 0) k es)
  each_none h = subst (HoldsLayer room bs cs layer) (sym (add_each_none f k es)) h

  pub each_more : (i c : ℕ) → c ≡ f i → HoldsLayer room bs cs layer (add_paths eqb c k (add_each (list_of f i) k es))
      → HoldsLayer room bs cs layer (add_each (list_of f (i + 1)) k es)
  each_more i c e h =
      subst (HoldsLayer room bs cs layer) (ap (λ (b : ℕ). add_paths eqb b k (add_each (list_of f i) k es)) e ∙ add_each_more f i k es) h

-- past the room, the additions that are left change nothing
pub each_on : (room : ℕ) (bs cs : List ℕ) (f : ℕ → ℕ) (k : ℕ) (es : List (Entry ℕ)) (i n c : ℕ) → i < n → c ≡ f i
    → HoldsLayer room bs cs None (add_paths eqb c k (add_each (list_of f i) k es)) → HoldsLayer room bs cs None (add_each (list_of f n) k es)
each_on room bs cs f k es i n c l e h =
    held_on room bs cs (add_each (list_of f (i + 1)) k es) (add_each (list_of f n) k es)
    (longer (λ j. add_each (list_of f j) k es) (λ j. omega (arith, length_add_paths (f j) k (add_each (list_of f j) k es), ap length (add_each_more f j k es))) (i + 1) n (omega arith))
    (each_more room bs cs None f k es i c e h)

-- ---- the layer behind a layer

module _ (room : ℕ) (nextBoards nextCounts : List ℕ) (layer : Option (ℕ × Bool)) where
  -- the children and the paths, given by another list and another number that are theirs
  pub grown_by : (bs bs' : List ℕ) (k k' : ℕ) (es : List (Entry ℕ)) → bs ≡ bs' → k ≡ k' → HoldsLayer room nextBoards nextCounts layer (add_each bs k es)
      → HoldsLayer room nextBoards nextCounts layer (add_each bs' k' es)
  grown_by bs bs' k k' es e q h = rw (← e, ← q) h

  module _ (b : Board) (paths : List Path) (bs cs : List ℕ) where
    pub grown_more : (i : ℕ)
        → HoldsLayer room nextBoards nextCounts layer (add_each (child_boards (setting b paths) (set_at bs i)) (count_in cs i) (next_of (setting b paths) (entries_in bs cs i)))
        → HoldsLayer room nextBoards nextCounts layer (next_of (setting b paths) (entries_in bs cs (i + 1)))
    grown_more i h = subst (HoldsLayer room nextBoards nextCounts layer) (next_more b paths bs cs i) h

-- past the room, the boards that are left change nothing
pub next_on : (room : ℕ) (nextBoards nextCounts : List ℕ) (b : Board) (paths : List Path) (bs cs : List ℕ) (i n : ℕ) → i < n
    → HoldsLayer room nextBoards nextCounts None (add_each (child_boards (setting b paths) (set_at bs i)) (count_in cs i) (next_of (setting b paths) (entries_in bs cs i)))
    → HoldsLayer room nextBoards nextCounts None (next_of (setting b paths) (entries_in bs cs n))
next_on room nextBoards nextCounts b paths bs cs i n l h =
    held_on room nextBoards nextCounts (next (i + 1)) (next n) (longer next more (i + 1) n (omega arith)) (grown_more room nextBoards nextCounts None b paths bs cs i h)
  where
    next : ℕ → List (Entry ℕ)
    next j = next_of (setting b paths) (entries_in bs cs j)

    more : (j : ℕ) → length (next j) ≤ length (next (j + 1))
    more j = omega (arith, length_add_each (child_boards (setting b paths) (set_at bs j)) (count_in cs j) (next j), ap length (next_more b paths bs cs j))

pub next_same : {room : ℕ} {nextBoards nextCounts : List ℕ} {layer : Option (ℕ × Bool)} (S : Setting ℕ ℕ) (bs cs : List ℕ) {i n : ℕ} → i ≡ n
    → HoldsLayer room nextBoards nextCounts layer (next_of S (entries_in bs cs i)) → HoldsLayer room nextBoards nextCounts layer (next_of S (entries_in bs cs n))
next_same {room} {nextBoards} {nextCounts} {layer} S bs cs e h = subst (λ (k : ℕ). HoldsLayer room nextBoards nextCounts layer (next_of S (entries_in bs cs k))) e h

pub grown_none : (room : ℕ) (nextBoards nextCounts : List ℕ) (b : Board) (paths : List Path) (bs cs : List ℕ)
    → HoldsLayer room nextBoards nextCounts (Some (0, false)) (next_of (setting b paths) (entries_in bs cs 0))
grown_none room nextBoards nextCounts b paths bs cs = subst (HoldsLayer room nextBoards nextCounts (Some (0, false))) (next_none b paths bs cs) (held_none room nextBoards nextCounts)

-- ---- the count of a last layer: x is what is told

module _ (f : ℕ → ℕ) (n left x : ℕ) where
  pub last_free : x ≡ 0 → 0 < left → x ≡ cond (eqb left 0) (get_or (list_of f n) 0 0) 0
  last_free q h = rw (ne_eqb left 0 (λ e. omega arith)) q

  module _ (h : left ≤ 0) where
    pub last_none : x ≡ 0 → n ≡ 0 → x ≡ cond (eqb left 0) (get_or (list_of f n) 0 0) 0
    unfolding list_of
    last_none q e = rw (eq-eqb left 0 (omega arith), e) q

    pub last_one : x ≡ f 0 → (n ≡ 0 → ⊥) → x ≡ cond (eqb left 0) (get_or (list_of f n) 0 0) 0
    last_one q ne = rw (eq-eqb left 0 (omega arith)) (q ∙ sym (get_d_list_of f n 0 0 (omega arith)))
