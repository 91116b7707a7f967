-- Laws of lists of sets in lent words: what is stored is read back, and the words behind the last set are cleared.
-- Rests on `Lists`, `Parts`, `WordLaws`, `ArrayLaws`. Assumes nothing.
use Rattle.std.specs.Prelude.{◌≡◌, Bool, cond, ℕ, zero, suc, ◌+◌, ◌*◌, ◌/◌, ◌%◌, ◌^◌, ◌≤◌, ◌<◌, min, ltb, length, set}
use Rattle.std.proofs.Math.Path.{refl}
use Rattle.std.proofs.Common.{sym, ap, ◌∙◌, add-zero, arith, lt-ltb, le-ltb, leb-true, pow_pos, length-set, get_or-set_same, get_or-set_other}
use Rattle.std.proofs.Math.Bool.{true, false}
use mathlib.Core.List.{List, [], ◌∷◌, flat_map}
use Rattle.std.proofs.Math.Decide.{dec_lt}
use Rattle.std.proofs.Math.ListN.{get_or, get_or-eq_default}
use Rattle.std.proofs.lemmas.List.Edits.{sets}
use Rattle.std.proofs.Math.Seq.{length-sets}
use Rattle.cells.specs.Set.{value, words_of, words_below, number}
use Rattle.cells.specs.WordLaws.{Small, value_words_of, words_of_value}
use Rattle.cells.specs.Lists.{list_of, padded, set_at, words_for}
use Rattle.cells.specs.Parts.{with_set, cleared_from}
use Rattle.cells.specs.ArrayLaws.{length_list_of, get_d_list_of, list_of_ext, list_of_eta, get_d_block}

-- the first n sets, or as many as are lent
unfoldable pub sets_in : List ℕ → ℕ → List ℕ
unfolding set_at list_of
sets_in ws n = list_of (set_at ws) (min n (length ws / 4))

-- ---- one set

module _ (ws : List ℕ) (i : ℕ) where
  pub set_at_none : length ws / 4 ≤ i → 0 ≡ set_at ws i
  unfolding set_at
  set_at_none h = rw (le-ltb i (length ws / 4) h)

  pub set_at_value : i < length ws / 4 → value (get_or ws (4 * i) 0 ∷ get_or ws (4 * i + 1) 0 ∷ get_or ws (4 * i + 2) 0 ∷ get_or ws (4 * i + 3) 0 ∷ []) ≡ set_at ws i
  unfolding set_at
  set_at_value h = rw (lt-ltb i (length ws / 4) h)

-- ---- a set is stored

module _ (ws : List ℕ) (i n : ℕ) where
  pub with_set_none : length ws / 4 ≤ i → with_set ws i n ≡ ws
  unfolding with_set
  with_set_none h = rw (le-ltb i (length ws / 4) h)

  pub with_set_lent : i < length ws / 4 → with_set ws i n ≡ sets ws (4 * i) (words_of n)
  unfolding with_set
  with_set_lent h = rw (lt-ltb i (length ws / 4) h)

pub length_with_set : (ws : List ℕ) (i n : ℕ) → length (with_set ws i n) ≡ length ws
unfolding with_set
length_with_set ws i n = go (ltb i (length ws / 4))
  where
    go : (b : Bool) → length (cond b (sets ws (4 * i) (words_of n)) ws) ≡ length ws
    go true = length-sets ws (4 * i) (words_of n)
    go false = refl

-- ---- zeros from a word on

pub length_cleared_from : (from : ℕ) (ws : List ℕ) → length (cleared_from from ws) ≡ length ws
unfolding cleared_from
length_cleared_from from ws = length_list_of (λ k. cond (ltb k from) (get_or ws k 0) 0) (length ws)

-- ---- so many words that hold a list of sets

-- word k of a list of sets, 0 behind the last
unfoldable pub word_at : List ℕ → ℕ → ℕ
unfolding words_of
word_at ns k = get_or (words_of (get_or ns (k / 4) 0)) (k % 4) 0

-- the four words of one set
word_at_part : (ns : List ℕ) (i j : ℕ) → j < 4 → word_at ns (4 * i + j) ≡ get_or (words_of (get_or ns i 0)) j 0
unfolding word_at
word_at_part ns i j h =
    let a : (4 * i + j) / 4 ≡ i = omega arith in
    let b : (4 * i + j) % 4 ≡ j = omega arith in
    rw (a, b)

words_of_length : (n : ℕ) → length (words_of n) ≡ 4
unfolding words_of words_below
words_of_length n = refl

words_of_four : (n : ℕ) → words_of n ≡ get_or (words_of n) 0 0 ∷ get_or (words_of n) 1 0 ∷ get_or (words_of n) 2 0 ∷ get_or (words_of n) 3 0 ∷ []
unfolding words_of words_below
words_of_four n = refl

zero_word : (j : ℕ) → j < 4 → get_or (words_of 0) j 0 ≡ 0
unfolding words_of words_below
zero_word zero h = refl
zero_word (suc zero) h = refl
zero_word (suc (suc zero)) h = refl
zero_word (suc (suc (suc zero))) h = refl
zero_word (suc (suc (suc (suc j)))) h = absurd (omega arith)

-- behind the last set there are zeros
pub word_at_past : (ns : List ℕ) (k : ℕ) → 4 * length ns ≤ k → word_at ns k ≡ 0
unfolding word_at
word_at_past ns k h =
    let l : length ns ≤ k / 4 = omega arith in
    ap (λ (n : ℕ). get_or (words_of n) (k % 4) 0) (get_or-eq_default ns 0 l) ∙ zero_word (k % 4) (omega arith)

-- words that hold a list of sets, by their places
pub words_for_at : (ns : List ℕ) (n : ℕ) → words_for ns n ≡ list_of (word_at ns) n
unfolding words_for padded word_at
words_for_at ns n = list_of_ext (λ k. get_or (flat_map words_of ns) k 0) (word_at ns) n (λ k h. word_at_lem k)
  where
    zeros : (j : ℕ) → get_or (words_of 0) j 0 ≡ 0
    zeros j = go (dec_lt j 4)
      where
        go : Dec (j < 4) → get_or (words_of 0) j 0 ≡ 0
        go (yes h) = zero_word j h
        go (no h) = let a : length (words_of 0) ≤ j = omega (arith, words_of_length 0) in get_or-eq_default (words_of 0) 0 a

    word_at_lem : (k : ℕ) → get_or (flat_map words_of ns) k 0 ≡ get_or (words_of (get_or ns (k / 4) 0)) (k % 4) 0
    word_at_lem k =
        let e : 4 * (k / 4) + k % 4 ≡ k = omega arith in
        ap (λ (i : ℕ). get_or (flat_map words_of ns) i 0) (sym e) ∙ get_d_block 4 words_of words_of_length 0 zeros ns (k / 4) (k % 4) (omega arith)

pub length_words_for : (ns : List ℕ) (n : ℕ) → length (words_for ns n) ≡ n
length_words_for ns n = ap length (words_for_at ns n) ∙ length_list_of (word_at ns) n

get_d_words_for : (ns : List ℕ) (n k : ℕ) → k < n → get_or (words_for ns n) k 0 ≡ word_at ns k
get_d_words_for ns n k h = ap (λ (ws : List ℕ). get_or ws k 0) (words_for_at ns n) ∙ get_d_list_of (word_at ns) n k 0 h

-- what they hold is read back
set_at_words_for : (ns : List ℕ) (n i : ℕ) → i < length ns → 4 * length ns ≤ n → get_or ns i 0 < 2 ^ 256 → set_at (words_for ns n) i ≡ get_or ns i 0
set_at_words_for ns n i h r s =
    let l : i < length (words_for ns n) / 4 = omega (arith, length_words_for ns n) in
    let word : (j : ℕ) → j < 4 → get_or (words_for ns n) (4 * i + j) 0 ≡ get_or (words_of (get_or ns i 0)) j 0 =
    λ j k. get_d_words_for ns n (4 * i + j) (omega arith) ∙ word_at_part ns i j k in
    let zeroth : get_or (words_for ns n) (4 * i) 0 ≡ get_or (words_of (get_or ns i 0)) 0 0 = ap (λ (k : ℕ). get_or (words_for ns n) k 0) (sym (add-zero (4 * i))) ∙ word 0 (omega arith) in
    sym (set_at_value (words_for ns n) i l)
    ∙ rw (zeroth, word 1 (omega arith), word 2 (omega arith), word 3 (omega arith), ← words_of_four (get_or ns i 0)) (value_words_of (get_or ns i 0) s)

pub sets_words_for : (ns : List ℕ) (n : ℕ) → 4 * length ns ≤ n → ((i : ℕ) → get_or ns i 0 < 2 ^ 256) → list_of (set_at (words_for ns n)) (length ns) ≡ ns
sets_words_for ns n r s = sym (list_of_eta 0 ns (set_at (words_for ns n)) (length ns) refl (λ i h. sym (set_at_words_for ns n i h r (s i))))

pub sets_in_words_for : (ns : List ℕ) (n : ℕ) → 4 * length ns ≤ n → ((i : ℕ) → get_or ns i 0 < 2 ^ 256) → sets_in (words_for ns n) (length ns) ≡ ns
unfolding sets_in
sets_in_words_for ns n r s =
    let all : min (length ns) (length (words_for ns n) / 4) ≡ length ns = omega (arith, length_words_for ns n) in
    ap (list_of (set_at (words_for ns n))) all ∙ sets_words_for ns n r s

-- ---- one set stored

-- a run of stores: what stands outside it, and in it
get_d_sets_out : (vs l : List ℕ) (i k : ℕ) → (i ≤ k → k < i + length vs → ⊥) → get_or (sets l i vs) k 0 ≡ get_or l k 0
get_d_sets_out [] l i k h = refl
get_d_sets_out (a ∷ vs) l i k h =
    get_d_sets_out vs (set l i a) (suc i) k (λ p q. h (omega arith) (omega arith))
    ∙ get_or-set_other l i k a 0 (λ e. h (omega arith) (omega arith))

get_d_sets_in : (vs l : List ℕ) (i j : ℕ) → j < length vs → i + length vs ≤ length l → get_or (sets l i vs) (i + j) 0 ≡ get_or vs j 0
get_d_sets_in [] l i j h r = absurd (omega arith)
get_d_sets_in (a ∷ vs) l i zero h r =
    ap (λ (k : ℕ). get_or (sets (set l i a) (suc i) vs) k 0) (add-zero i)
    ∙ get_d_sets_out vs (set l i a) (suc i) i (λ p q. omega arith)
    ∙ get_or-set_same l i a 0 (omega arith)
get_d_sets_in (a ∷ vs) l i (suc j) h r =
    let e : i + suc j ≡ suc i + j = omega arith in
    ap (λ (k : ℕ). get_or (sets (set l i a) (suc i) vs) k 0) e
    ∙ get_d_sets_in vs (set l i a) (suc i) j (omega arith) (omega (arith, length-set l i a))

module _ (ws : List ℕ) (i n : ℕ) where
  word_in : i < length ws / 4 → (j : ℕ) → j < 4 → get_or (with_set ws i n) (4 * i + j) 0 ≡ get_or (words_of n) j 0
  word_in h j l =
      ap (λ (vs : List ℕ). get_or vs (4 * i + j) 0) (with_set_lent ws i n h)
      ∙ get_d_sets_in (words_of n) ws (4 * i) j (omega (arith, words_of_length n)) (omega (arith, words_of_length n))

  word_out : (k : ℕ) → (k / 4 ≡ i → ⊥) → get_or (with_set ws i n) k 0 ≡ get_or ws k 0
  unfolding with_set
  word_out k ne = go (ltb i (length ws / 4))
    where
      go : (t : Bool) → get_or (cond t (sets ws (4 * i) (words_of n)) ws) k 0 ≡ get_or ws k 0
      go true = get_d_sets_out (words_of n) ws (4 * i) k (λ p q. ne (omega (arith, words_of_length n)))
      go false = refl

  -- what is stored is read back
  pub set_at_same : i < length ws / 4 → n < 2 ^ 256 → set_at (with_set ws i n) i ≡ n
  set_at_same h s =
      let zeroth : get_or (with_set ws i n) (4 * i) 0 ≡ get_or (words_of n) 0 0 =
      ap (λ (k : ℕ). get_or (with_set ws i n) k 0) (sym (add-zero (4 * i))) ∙ word_in h 0 (lt 0 refl) in
      sym (set_at_value (with_set ws i n) i (long h))
      ∙ rw (zeroth, word_in h 1 (lt 1 refl), word_in h 2 (lt 2 refl), word_in h 3 (lt 3 refl), ← words_of_four n) (value_words_of n s)
    where
      lt : (j : ℕ) → ltb j 4 ≡ true → j < 4
      lt j e = leb-true (suc j) 4 e

      long : i < length ws / 4 → i < length (with_set ws i n) / 4
      long h = omega (arith, length_with_set ws i n)

  -- and the other sets are as they were
  pub set_at_other : (j : ℕ) → (j ≡ i → ⊥) → set_at (with_set ws i n) j ≡ set_at ws j
  unfolding set_at
  set_at_other j ne =
      rw (
        length_with_set ws i n,
        word_out (4 * j) (λ e. ne (omega arith)),
        word_out (4 * j + 1) (λ e. ne (omega arith)),
        word_out (4 * j + 2) (λ e. ne (omega arith)),
        word_out (4 * j + 3) (λ e. ne (omega arith)),
      )

-- ---- the words behind the last set cleared

-- the four words of a set are machine words where all are
small_four : (ws : List ℕ) → Small ws → (i : ℕ) → Small (get_or ws (4 * i) 0 ∷ get_or ws (4 * i + 1) 0 ∷ get_or ws (4 * i + 2) 0 ∷ get_or ws (4 * i + 3) 0 ∷ [])
small_four ws s i zero = s (4 * i)
small_four ws s i (suc zero) = s (4 * i + 1)
small_four ws s i (suc (suc zero)) = s (4 * i + 2)
small_four ws s i (suc (suc (suc zero))) = s (4 * i + 3)
small_four ws s i (suc (suc (suc (suc k)))) = pow_pos 64

-- the four words of a set, as they stand
four_words : (ws : List ℕ) (k j : ℕ) → k % 4 ≡ j → j < 4
    → get_or (get_or ws (4 * (k / 4)) 0 ∷ get_or ws (4 * (k / 4) + 1) 0 ∷ get_or ws (4 * (k / 4) + 2) 0 ∷ get_or ws (4 * (k / 4) + 3) 0 ∷ []) j 0 ≡ get_or ws k 0
four_words ws k zero e h = let q : 4 * (k / 4) ≡ k = omega arith in ap (λ (i : ℕ). get_or ws i 0) q
four_words ws k (suc zero) e h = let q : 4 * (k / 4) + 1 ≡ k = omega arith in ap (λ (i : ℕ). get_or ws i 0) q
four_words ws k (suc (suc zero)) e h = let q : 4 * (k / 4) + 2 ≡ k = omega arith in ap (λ (i : ℕ). get_or ws i 0) q
four_words ws k (suc (suc (suc zero))) e h = let q : 4 * (k / 4) + 3 ≡ k = omega arith in ap (λ (i : ℕ). get_or ws i 0) q
four_words ws k (suc (suc (suc (suc j)))) e h = absurd (omega arith)

-- the words behind the last set cleared
pub cleared_sets : (ws ns : List ℕ) → ((i : ℕ) → get_or ws i 0 < 2 ^ 64) → 4 * length ns ≤ length ws → list_of (set_at ws) (length ns) ≡ ns
    → cleared_from (4 * length ns) ws ≡ words_for ns (length ws)
unfolding cleared_from word_at
cleared_sets ws ns s h e =
    list_of_ext (λ k. cond (ltb k (4 * length ns)) (get_or ws k 0) 0) (word_at ns) (length ws) (λ k l. go k (dec_lt k (4 * length ns)))
    ∙ sym (words_for_at ns (length ws))
  where
    four : ℕ → List ℕ
    four i = get_or ws (4 * i) 0 ∷ get_or ws (4 * i + 1) 0 ∷ get_or ws (4 * i + 2) 0 ∷ get_or ws (4 * i + 3) 0 ∷ []

    set_is : (i : ℕ) → i < length ns → get_or ns i 0 ≡ value (four i)
    set_is i l =
        ap (λ (l : List ℕ). get_or l i 0) (sym e) ∙ get_d_list_of (set_at ws) (length ns) i 0 l ∙ sym (set_at_value ws i (omega arith))

    back : (i : ℕ) → words_of (value (four i)) ≡ four i
    back i = words_of_value (four i) refl (small_four ws s i)

    stored : (k : ℕ) → k < 4 * length ns → get_or ws k 0 ≡ word_at ns k
    stored k a =
        sym
        (ap (λ (n : ℕ). get_or (words_of n) (k % 4) 0) (set_is (k / 4) (omega arith))
        ∙ ap (λ (l : List ℕ). get_or l (k % 4) 0) (back (k / 4))
        ∙ four_words ws k (k % 4) refl (omega arith))

    go : (k : ℕ) → Dec (k < 4 * length ns) → cond (ltb k (4 * length ns)) (get_or ws k 0) 0 ≡ word_at ns k
    go k (yes a) = rw (lt-ltb k (4 * length ns) a) (stored k a)
    go k (no a) = rw (le-ltb k (4 * length ns) (omega arith)) (sym (word_at_past ns k (omega arith)))

-- all cleared
pub cleared_all : (ws : List ℕ) → cleared_from 0 ws ≡ words_for [] (length ws)
unfolding cleared_from
cleared_all ws =
    list_of_ext (λ k. cond (ltb k 0) (get_or ws k 0) 0) (word_at []) (length ws)
    (λ k h. rw (le-ltb k 0 (omega arith)) (sym (word_at_past [] k (omega arith))))
    ∙ sym (words_for_at [] (length ws))

-- the set with no cell
pub value_none : value (0 ∷ 0 ∷ 0 ∷ 0 ∷ []) ≡ 0
unfolding value
value_none = refl

pub number_none : number (record { w0 = 0; w1 = 0; w2 = 0; w3 = 0 }) ≡ 0
unfolding number value
number_none = refl
