-- Laws of the layers one after the other: which boards a layer has, where they are full, and what is answered from a layer on; that this is the
-- layers' answer. Rests on `Inner` and on the laws of `covers`. Assumes nothing.
use Rattle.std.specs.Prelude.{◌≡◌, Bool, true, false, eqb, leb, length, get_or}
use Rattle.std.proofs.Math.Path.{refl, ap}
use Rattle.std.proofs.Common.{sym, ◌∙◌, subst, zero-add, add-zero, le-leb, ne_eqb, eq-eqb}
use Rattle.std.proofs.Math.Bool.{cond}
use mathlib.Core.List.Memᴰ.{eq_of_singleton, not-nil}
use mathlib.Core.List.Memᴰ.{head as here}
use mathlib.Core.List.Memᴰ.{tail as there}
use mathlib.Core.List.{List, [], ◌∷◌, flat_map, Memᴰ as Mem}
use Prim.Native.Nat.{ℕ, zero, suc, ◌+◌, ◌-◌, ◌<◌}
use native.Mathlib.Omega.{arith}
use Rattle.cells.specs.FirstsLaws.{Once}
use Rattle.cells.specs.Lists.{any, add_firsts, firsts}
use Rattle.cells.specs.MemberLaws.{no_member, mem_flat_map}
use Rattle.refusal.specs.Refusal.{Answer, refused, given, map_answer, bind_answer}
use Rattle.refusal.specs.RefusalLaws.{refused_given}
use Rattle.covers.specs.Setting.{Setting, child_boards, Laws, EqualSteps, layer_of, layer_count_to, layer_count_of}
use Rattle.covers.specs.Counts.{Entry, boards, counts, sum_of, shares, gather, layer, full_count, layer_count}
use Rattle.covers.proofs.SumLaws.{sum_zero}
use Rattle.covers.proofs.GatherLaws.{mem_boards, once_gather, mem_gather}
use Rattle.covers.proofs.LayerLaws.{boards_shares}
use Rattle.covers.proofs.ChildLaws.{child_ok, child_equal}
use Rattle.layers.specs.LayerCounts.{too_large, judge_layer, judge_layers}
use Rattle.layers.specs.Inner.{layers_answer, next_of, count_from, Ready}

-- ---- answers

map_zero : (x : Answer ℕ) → map_answer (λ n. 0 + n) x ≡ x
unfolding map_answer
map_zero (refused n) = refl
map_zero (given n) = ap given (zero-add n)

map_plus : (m k b : ℕ) (x : Answer ℕ) → b ≡ m + k → map_answer (λ n. b + n) x ≡ map_answer (λ n. m + n) (map_answer (λ n. k + n) x)
unfolding map_answer
map_plus m k b (refused n) e = refl
map_plus m k b (given n) e = let q : b + n ≡ m + (k + n) = omega arith in ap given q

-- ---- a layer by itself

-- what is given is the layer
judge_layer_given : (room : ℕ) (es ds : List (Entry ℕ)) → judge_layer room es ≡ given ds → es ≡ ds
unfolding judge_layer
judge_layer_given room es ds e = go (leb (length es) room) (too_large (counts es)) e
  where
    value : Answer (List (Entry ℕ)) → List (Entry ℕ)
    value (refused n) = ds
    value (given x) = x

    go : (a b : Bool) → cond a (cond b (refused 9) (given es)) (refused 8) ≡ given ds → es ≡ ds
    go true true e = absurd (refused_given 9 ds e)
    go true false e = ap value e
    go false b e = absurd (refused_given 8 ds e)

judge_layer_none : (room : ℕ) → judge_layer room [] ≡ given []
unfolding judge_layer too_large any
judge_layer_none room = rw (le-leb 0 room (omega arith))

-- layer 0
judge_layer_start : (room s : ℕ) → 0 < room → judge_layer room ((s, 1) ∷ []) ≡ given ((s, 1) ∷ [])
unfolding judge_layer too_large any
judge_layer_start room s h = rw (le-leb 1 room (omega arith))

judge_layer_no_room : (s : ℕ) → judge_layer 0 ((s, 1) ∷ []) ≡ refused 8
unfolding judge_layer
judge_layer_no_room s = refl

-- ---- the layer behind a layer

module _ (S : Setting ℕ ℕ) where
  next_of_none : next_of S [] ≡ []
  unfolding next_of gather shares flat_map firsts add_firsts
  next_of_none = refl

  -- no board, no count
  count_none : (room k : ℕ) → count_from S room k [] ≡ given 0
  unfolding count_from full_count sum_of map_answer bind_answer
  count_none room zero = refl
  count_none room (suc k) =
      ap (λ (es : List (Entry ℕ)). map_answer (λ n. 0 + n) (bind_answer (judge_layer room es) (count_from S room k))) next_of_none
      ∙ ap (λ (x : Answer (List (Entry ℕ))). map_answer (λ n. 0 + n) (bind_answer x (count_from S room k))) (judge_layer_none room)
      ∙ ap (map_answer (λ n. 0 + n)) (count_none room k)

  module _ (L : Laws S) where
    pub ready_start : (s : ℕ) → S.Ok s → Ready S (S.free_count s) ((s, 1) ∷ [])
    ready_start s ok = record {
      once = (not-nil, tt);
      ok = λ n m. subst S.Ok (sym (eq_of_singleton m)) ok;
      free = λ n m. ap S.free_count (eq_of_singleton m);
    }

    -- a board of the next layer is a child
    mem_next : (es : List (Entry ℕ)) (t : ℕ) → Mem t (boards (next_of S es)) → (n : ℕ) × Mem n (boards es) × Mem t (child_boards S n)
    unfolding next_of
    mem_next es t m =
        (mem_flat_map (child_boards S) (boards es) t).0
        (subst (Mem t) (boards_shares (child_boards S) es) ((mem_gather S.same_board L.board_eq (shares (child_boards S) es) t).0 m))

    once_next : (es : List (Entry ℕ)) → Once (boards (next_of S es))
    unfolding next_of
    once_next es = once_gather S.same_board L.board_eq (shares (child_boards S) es)

    module _ (a : ℕ) (E : EqualSteps S a) (left : ℕ) (es : List (Entry ℕ)) (R : Ready S left es) where
      -- a board of the next layer has a free cells fewer
      next_free : (t : ℕ) → Mem t (boards (next_of S es)) → S.free_count t + a ≡ left
      next_free t m =
          let r = mem_next es t m in
          child_equal S L a E r.0 t (R.ok r.0 r.1) r.2 ∙ R.free r.0 r.1

      pub ready_next : Ready S (left - a) (next_of S es)
      ready_next = record {
        once = once_next es;
        ok = λ t m. let r = mem_next es t m in child_ok S L r.0 t (R.ok r.0 r.1) r.2;
        free = λ t m. omega (arith, next_free t m);
      }

      next_none : left < a → next_of S es ≡ []
      next_none h = no_member (next_of S es) (λ e m. let f = next_free e.0 (mem_boards (next_of S es) e m) in omega arith)

    -- ---- full boards: those with no free cell

    module _ (fullIs : (n : ℕ) → S.full n ≡ eqb (S.free_count n) 0) where
      full_none : (n : ℕ) → S.free_count n ≡ 0 → S.full n ≡ true
      full_none n e = fullIs n ∙ ap (λ (k : ℕ). eqb k 0) e ∙ eq-eqb 0 0 refl

      full_some : (n : ℕ) → 0 < S.free_count n → S.full n ≡ false
      full_some n h = fullIs n ∙ ne_eqb (S.free_count n) 0 (λ e. omega arith)

      -- a last layer has one board at most
      last_full : (es : List (Entry ℕ)) → Ready S 0 es → full_count S.full es ≡ get_or (counts es) 0 0
      unfolding full_count sum_of
      last_full [] R = refl
      last_full (e ∷ []) R = omega (arith, ap (λ (b : Bool). cond b e.1 0) (full_none e.0 (R.free e.0 (here refl))))
      last_full (e ∷ d ∷ es) R =
          absurd
          (R.once.0
          (here
          (L.full_one e.0 d.0 (R.ok e.0 (here refl)) (R.ok d.0 (there (here refl)))
          (full_none e.0 (R.free e.0 (here refl))) (full_none d.0 (R.free d.0 (there (here refl)))))))

      not_full : (left : ℕ) (es : List (Entry ℕ)) → Ready S left es → 0 < left → full_count S.full es ≡ 0
      unfolding full_count
      not_full left es R h = sum_zero (λ e. cond (S.full e.0) e.1 0) es
          (λ e m.
          let f = R.free e.0 (mem_boards es e m) in
          ap (λ (b : Bool). cond b e.1 0) (full_some e.0 (omega arith)))

      -- ---- what is answered from a layer on

      pub count_on : (room k left : ℕ) (es : List (Entry ℕ)) → Ready S left es → 0 < left
          → count_from S room (suc k) es ≡ bind_answer (judge_layer room (next_of S es)) (count_from S room k)
      unfolding count_from
      count_on room k left es R h =
          ap (λ (m : ℕ). map_answer (λ n. m + n) (bind_answer (judge_layer room (next_of S es)) (count_from S room k))) (not_full left es R h)
          ∙ map_zero (bind_answer (judge_layer room (next_of S es)) (count_from S room k))

      module _ (a : ℕ) (E : EqualSteps S a) where
        -- nothing follows
        none_follows : (room k : ℕ) (es : List (Entry ℕ)) → next_of S es ≡ [] → count_from S room k es ≡ given (full_count S.full es)
        unfolding count_from map_answer bind_answer
        none_follows room zero es e = refl
        none_follows room (suc k) es e =
            ap (λ (x : Answer (List (Entry ℕ))). map_answer (λ n. full_count S.full es + n) (bind_answer x (count_from S room k)))
            (ap (judge_layer room) e ∙ judge_layer_none room)
            ∙ ap (map_answer (λ n. full_count S.full es + n)) (count_none room k)
            ∙ ap given (add-zero (full_count S.full es))

        pub count_last : (room k : ℕ) (es : List (Entry ℕ)) → Ready S 0 es → 0 < a → count_from S room k es ≡ given (get_or (counts es) 0 0)
        count_last room k es R h = none_follows room k es (next_none a E 0 es R h) ∙ ap given (last_full es R)

        pub count_short : (room k left : ℕ) (es : List (Entry ℕ)) → Ready S left es → 0 < left → left < a → count_from S room k es ≡ given 0
        count_short room k left es R h l = none_follows room k es (next_none a E left es R l) ∙ ap given (not_full left es R h)

-- ---- the layers' answer

module _ (S : Setting ℕ ℕ) (s room : ℕ) where
  abbrev W : ℕ → Answer (List (Entry ℕ))
  W n = judge_layers (layer_of S s) room n

  -- the layers 0 to j and then what is answered from layer j on; b is the count of the layers before j
  from_layer_lem : (k j b : ℕ) → layer_count_to S s j ≡ b + full_count S.full (layer_of S s j)
      → map_answer (λ es. layer_count_to S s (j + k)) (W (j + k)) ≡ bind_answer (W j) (λ es. map_answer (λ n. b + n) (count_from S room k (layer_of S s j)))
  unfolding count_from map_answer bind_answer layer_count judge_layers next_of layer
  from_layer_lem zero j b e =
      ap (λ (i : ℕ). map_answer (λ es. layer_count_to S s i) (W i)) (add-zero j) ∙ go (W j)
    where
      go : (w : Answer (List (Entry ℕ)))
          → map_answer (λ es. layer_count_to S s j) w ≡ bind_answer w (λ es. given (b + full_count S.full (layer_of S s j)))
      go (refused n) = refl
      go (given ds) = ap given e
  from_layer_lem (suc k) j b e =
      let q : j + suc k ≡ suc j + k = omega arith in
      ap (λ (i : ℕ). map_answer (λ es. layer_count_to S s i) (W i)) q
      ∙ from_layer_lem k (suc j) (layer_count_to S s j) refl
      ∙ go (W j) (judge_layer room (layer_of S s (suc j))) refl
    where
      go : (w u : Answer (List (Entry ℕ))) → judge_layer room (layer_of S s (suc j)) ≡ u
          → bind_answer (bind_answer w (λ es. u)) (λ es. map_answer (λ n. layer_count_to S s j + n) (count_from S room k (layer_of S s (suc j))))
          ≡ bind_answer w (λ es. map_answer (λ n. b + n) (map_answer (λ n. full_count S.full (layer_of S s j) + n) (bind_answer u (count_from S room k))))
      go (refused n) u q = refl
      go (given ds) (refused n) q = refl
      go (given ds) (given es) q =
          map_plus b (full_count S.full (layer_of S s j)) (layer_count_to S s j) (count_from S room k (layer_of S s (suc j))) e
          ∙ ap (λ (x : List (Entry ℕ)). map_answer (λ n. b + n) (map_answer (λ n. full_count S.full (layer_of S s j) + n) (count_from S room k x)))
          (judge_layer_given room (layer_of S s (suc j)) es q)

  -- of a start that is not full, and room for it
  pub layers_from : S.full s ≡ false → 0 < room → layers_answer S s room ≡ count_from S room (S.free_count s) ((s, 1) ∷ [])
  unfolding layers_answer layer_count judge_layers layer full_count sum_of bind_answer
  layers_from f h =
      let none : 0 ≡ 0 + full_count S.full ((s, 1) ∷ []) = omega (arith, ap {B = ℕ} (λ (b : Bool). cond b 1 0) f) in
      ap (λ (i : ℕ). map_answer (λ es. layer_count_to S s i) (W i)) (sym (zero-add (S.free_count s)))
      ∙ from_layer_lem (S.free_count s) 0 0 none
      ∙ ap (λ (x : Answer (List (Entry ℕ))). bind_answer x (λ es. map_answer (λ n. 0 + n) (count_from S room (S.free_count s) ((s, 1) ∷ []))))
      (judge_layer_start room s h)
      ∙ map_zero (count_from S room (S.free_count s) ((s, 1) ∷ []))

  -- of a full start, and room for it
  pub layers_full : S.free_count s ≡ 0 → 0 < room → layers_answer S s room ≡ given 0
  unfolding layers_answer layer_count judge_layers layer map_answer
  layers_full z h =
      ap (λ (i : ℕ). map_answer (λ es. layer_count_to S s i) (W i)) z ∙ ap (map_answer (λ (es : List (Entry ℕ)). 0)) (judge_layer_start room s h)

-- no room
no_room : (S : Setting ℕ ℕ) (s n : ℕ) → judge_layers (layer_of S s) 0 n ≡ refused 8
unfolding judge_layers layer bind_answer
no_room S s zero = judge_layer_no_room s
no_room S s (suc n) = ap (λ (x : Answer (List (Entry ℕ))). bind_answer x (λ es. judge_layer 0 (layer_of S s (suc n)))) (no_room S s n)

pub layers_no_room : (S : Setting ℕ ℕ) (s : ℕ) → layers_answer S s 0 ≡ refused 8
unfolding layers_answer map_answer
layers_no_room S s = ap (map_answer (λ (es : List (Entry ℕ)). layer_count_of S s)) (no_room S s (S.free_count s))
