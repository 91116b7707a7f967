-- Laws of path counts: a count is below the limit; what is stored in words is read back; words that hold the counts of a function or of a list; and
-- what a sum tells. Laws and proofs of other crates cite these and unfold nothing (but see `PathCounts`). Rests on `PathCounts` and `cells`. Assumes nothing.
use Rattle.std.specs.Prelude.{◌≡◌, ℕ, ◌+◌, ◌-◌, ◌*◌, ◌/◌, ◌%◌, ◌^◌, ◌<◌, ◌≤◌, min, Bool, true, false, cond, leb, List, [], ◌∷◌, ◌++◌, length, ◌==◌, ◌≢◌, nat_le, nat_lt, slice_index, slice_set, Option, None, Some}
use Rattle.std.proofs.Math.Path.{refl}
use Rattle.std.proofs.Common.{sym, ap, ap₂, ◌∙◌, arith}
use Rattle.cells.specs.OptionLaws.{none-ne-some, some-injective}
use Rattle.std.proofs.Math.Decide.{ℕ_discrete, dec_lt}
use borrow.Author.Tests.{leb-true, leb-false, eq-eqb, ne_eqb, le-ltb}
use Rattle.std.proofs.Math.ListN.{length-set, get_or-eq_default}
use Rattle.std.proofs.Math.Seq.{set_out, get_or-set_same, get_or-set_other}
use Rattle.cells.specs.WordLaws.{Small}
use Rattle.cells.specs.Lists.{list_of}
use Rattle.cells.specs.Parts.{cleared_from}
use Rattle.cells.specs.ArrayLaws.{length_list_of, get_d_list_of, list_of_ext, list_of_eta, list_of_snoc}
use Rattle.path_count.specs.declared.PathCount.{PathCount}
use Rattle.path_count.specs.PathCounts.{count_limit, count_value, count_room, count_in, counts_for}
use Rattle.path_count.specs.Parts.{sum_answer, with_count, AddsCount}
use Rattle.path_count.specs.Inner.{count_span, count_words}

-- ---- one count

-- what holds of every count that the code has: its words have 64 bits. A proof shows it of an argument by `search needs`
abbrev pub CountFits : PathCount → Type 0
CountFits c = c.word < 2 ^ 64

pub count_small : (c : PathCount) → CountFits c → count_value c < count_limit
unfolding count_value
count_small c h = h

-- the number of a count's two words is the count
pub count_halves : (n : ℕ) → n % 2 ^ 64 + 2 ^ 64 * (n / 2 ^ 64) ≡ n
count_halves n = omega arith

-- a number that is a count's is kept whole
pub count_whole : (n : ℕ) → n < count_limit → min n (count_limit - 1) ≡ n
count_whole n h = omega arith

-- a word is the count of itself, as `of_words` makes it
pub word_count : (n : ℕ) → n < 2 ^ 64 → (x : ℕ) → x ≡ min (n + 2 ^ 64 * 0) (count_limit - 1) → x ≡ n
word_count n h x e = omega arith

-- ---- a sum

module _ (r : Option PathCount) (n : ℕ) (e : sum_answer r ≡ cond (nat_le count_limit n) None (Some n)) where
  pub sum_is : (c : PathCount) → r ≡ Some c → (count_value c ≡ n) × (n < count_limit)
  unfolding sum_answer
  sum_is c q = go (nat_le count_limit n) refl (sym (ap sum_answer q) ∙ e)
    where
      go : (t : Bool) → nat_le count_limit n ≡ t → Some (count_value c) ≡ cond t None (Some n) → (count_value c ≡ n) × (n < count_limit)
      go true p f = absurd (none-ne-some (count_value c) (sym f))
      go false p f = (some-injective (count_value c) n f, leb-false count_limit n p)

  pub sum_large : r ≡ None → count_limit ≤ n
  unfolding sum_answer
  sum_large q = go (nat_le count_limit n) refl (sym (ap sum_answer q) ∙ e)
    where
      go : (t : Bool) → nat_le count_limit n ≡ t → None ≡ cond t None (Some n) → count_limit ≤ n
      go true p f = leb-true count_limit n p
      go false p f = absurd (none-ne-some n f)

-- ---- one count in words

-- the words that so many counts take hold as many
pub room_span : (n : ℕ) → count_room (count_span n) ≡ n
unfolding count_room count_span
room_span n = refl

pub count_in_small : (ws : List ℕ) → Small ws → (i : ℕ) → count_in ws i < count_limit
unfolding count_in
count_in_small ws small i = small i

pub count_in_past : (ws : List ℕ) (i : ℕ) → count_room (length ws) ≤ i → count_in ws i ≡ 0
unfolding count_in count_room
count_in_past ws i h = get_or-eq_default ws 0 h

module _ (ws : List ℕ) (i n : ℕ) where
  pub length_with_count : length (with_count ws i n) ≡ length ws
  unfolding with_count
  length_with_count = length-set ws i n

  pub with_count_past : count_room (length ws) ≤ i → with_count ws i n ≡ ws
  unfolding with_count count_room
  with_count_past h = set_out ws i n h

  -- what is stored is read back
  pub count_in_same : i < count_room (length ws) → n < count_limit → count_in (with_count ws i n) i ≡ n
  unfolding count_in with_count count_room
  count_in_same h s = get_or-set_same ws i n 0 h

  -- and the other counts are as they were
  pub count_in_other : (j : ℕ) → (j ≢ i) → count_in (with_count ws i n) j ≡ count_in ws j
  unfolding count_in with_count
  count_in_other j ne = get_or-set_other ws i j n 0 ne

  pub count_in_with_count : i < count_room (length ws) → n < count_limit → (j : ℕ) → count_in (with_count ws i n) j ≡ cond (j == i) n (count_in ws j)
  count_in_with_count h s j = go (ℕ_discrete j i)
    where
      go : Dec (j ≡ i) → count_in (with_count ws i n) j ≡ cond (j == i) n (count_in ws j)
      go (yes q) = rw (eq-eqb j i q) (ap (count_in (with_count ws i n)) q ∙ count_in_same h s)
      go (no q) = rw (ne_eqb j i q) (count_in_other j q)

-- ---- the first counts of the words as a list

-- one count more, behind the last
pub counts_snoc : (ws : List ℕ) (n k : ℕ) → n < count_room (length ws) → k < count_limit
    → list_of (count_in (with_count ws n k)) (n + 1) ≡ list_of (count_in ws) n ++ k ∷ []
counts_snoc ws n k h s =
    list_of_snoc (count_in (with_count ws n k)) n
    ∙ ap₂ (λ (l : List ℕ) (x : ℕ). l ++ x ∷ [])
    (list_of_ext (count_in (with_count ws n k)) (count_in ws) n (λ j l. count_in_other ws n k j (λ q. omega arith))) (count_in_same ws n k h s)

-- another count among them
pub counts_set : (ws : List ℕ) (n i k : ℕ) → i < n → n ≤ count_room (length ws) → k < count_limit
    → list_of (count_in (with_count ws i k)) n ≡ slice_set (list_of (count_in ws) n) i k
counts_set ws n i k h r s =
    sym
    (list_of_eta 0 (slice_set (list_of (count_in ws) n) i k) (count_in (with_count ws i k)) n
    (length-set (list_of (count_in ws) n) i k ∙ length_list_of (count_in ws) n) (λ j l. go j l (ℕ_discrete j i)))
  where
    go : (j : ℕ) → j < n → Dec (j ≡ i) → slice_index (slice_set (list_of (count_in ws) n) i k) j ≡ count_in (with_count ws i k) j
    go j l (yes q) =
        ap (λ (x : ℕ). slice_index (slice_set (list_of (count_in ws) n) i k) x) q
        ∙ get_or-set_same (list_of (count_in ws) n) i k 0 (omega (arith, length_list_of (count_in ws) n))
        ∙ sym (ap (count_in (with_count ws i k)) q ∙ count_in_same ws i k (omega arith) s)
    go j l (no q) =
        get_or-set_other (list_of (count_in ws) n) i j k 0 q ∙ get_d_list_of (count_in ws) n j 0 l ∙ sym (count_in_other ws i k j q)

-- ---- words that hold the counts of a function

pub length_count_words : (f : ℕ → ℕ) (words : ℕ) → length (count_words f words) ≡ words
unfolding count_words
length_count_words f words = length_list_of f words

pub count_words_ext : (f g : ℕ → ℕ) (words : ℕ) → ((i : ℕ) → i < count_room words → f i ≡ g i) → count_words f words ≡ count_words g words
unfolding count_words count_room
count_words_ext f g words h = list_of_ext f g words h

-- what is stored is read back
pub count_in_count_words : (f : ℕ → ℕ) (words i : ℕ) → i < count_room words → f i < count_limit → count_in (count_words f words) i ≡ f i
unfolding count_in count_words count_room
count_in_count_words f words i h s = get_d_list_of f words i 0 h

-- another count is stored
pub with_count_count_words : (f : ℕ → ℕ) (words i n : ℕ) → with_count (count_words f words) i n ≡ count_words (λ j. cond (j == i) n (f j)) words
unfolding with_count count_words
with_count_count_words f words i n =
    list_of_eta 0 (slice_set (list_of f words) i n) (λ j. cond (j == i) n (f j)) words (length-set (list_of f words) i n ∙ length_list_of f words)
    (λ j l. go j l (ℕ_discrete j i))
  where
    go : (j : ℕ) → j < words → Dec (j ≡ i) → slice_index (slice_set (list_of f words) i n) j ≡ cond (j == i) n (f j)
    go j l (yes q) =
        rw (eq-eqb j i q)
        (ap (λ (x : ℕ). slice_index (slice_set (list_of f words) i n) x) q ∙ get_or-set_same (list_of f words) i n 0 (omega (arith, length_list_of f words)))
    go j l (no q) = rw (ne_eqb j i q) (get_or-set_other (list_of f words) i j n 0 q ∙ get_d_list_of f words j 0 l)

-- all words cleared
pub cleared_count_words : (ws : List ℕ) → cleared_from 0 ws ≡ count_words (λ i. 0) (length ws)
unfolding cleared_from count_words
cleared_count_words ws = list_of_ext (λ i. cond (nat_lt i 0) (slice_index ws i) 0) (λ i. 0) (length ws) (λ i h. rw (le-ltb i 0 (omega arith)))

-- ---- words that hold a list of counts

pub length_counts_for : (ns : List ℕ) (words : ℕ) → length (counts_for ns words) ≡ words
unfolding counts_for count_words
length_counts_for ns words = length_count_words (λ i. slice_index ns i) words

pub count_words_counts_for : (f : ℕ → ℕ) (ns : List ℕ) (words : ℕ) → ((i : ℕ) → i < count_room words → f i ≡ slice_index ns i) → count_words f words ≡ counts_for ns words
unfolding counts_for count_words
count_words_counts_for f ns words h = count_words_ext f (λ i. slice_index ns i) words h

pub cleared_counts_for : (ws : List ℕ) → cleared_from 0 ws ≡ counts_for [] (length ws)
cleared_counts_for ws = cleared_count_words ws ∙ count_words_counts_for (λ i. 0) [] (length ws) (λ i h. refl)

-- the list is read back, count by count and whole
module _ (ns : List ℕ) (words : ℕ) (lent : length ns ≤ count_room words) (small : (i : ℕ) → slice_index ns i < count_limit) where
  pub count_in_counts_for : (i : ℕ) → count_in (counts_for ns words) i ≡ slice_index ns i
  count_in_counts_for i = go (dec_lt i (count_room words))
    where
      long : count_room (length (counts_for ns words)) ≡ count_room words
      long = ap count_room (length_counts_for ns words)

      inside : i < count_room words → count_in (counts_for ns words) i ≡ slice_index ns i
      inside h = ap (λ (ws : List ℕ). count_in ws i) (sym (count_words_counts_for (λ i. slice_index ns i) ns words (λ i l. refl)))
          ∙ count_in_count_words (λ i. slice_index ns i) words i h (small i)

      go : Dec (i < count_room words) → count_in (counts_for ns words) i ≡ slice_index ns i
      go (yes h) = inside h
      go (no h) = count_in_past (counts_for ns words) i (omega (arith, long)) ∙ sym (get_or-eq_default ns 0 {n = i} (omega arith))

  pub list_of_counts_for : list_of (count_in (counts_for ns words)) (length ns) ≡ ns
  list_of_counts_for = sym (list_of_eta 0 ns (count_in (counts_for ns words)) (length ns) refl (λ i h. sym (count_in_counts_for i)))

-- ---- some paths more

module _ (cs : List ℕ) (i k : ℕ) (cs' : List ℕ) (r : Bool) (adds : AddsCount cs i k cs' r) where
  pub adds_length : length cs' ≡ length cs
  adds_length = ap length adds.words ∙ go r
    where
      go : (t : Bool) → length (cond t cs (with_count cs i (count_in cs i + k))) ≡ length cs
      go true = refl
      go false = length_with_count cs i (count_in cs i + k)

  pub adds_refused : r ≡ true → (count_limit ≤ count_in cs i + k) × (cs' ≡ cs)
  adds_refused q =
      (leb-true count_limit (count_in cs i + k) (sym adds.large ∙ q), adds.words ∙ ap (λ (t : Bool). cond t cs (with_count cs i (count_in cs i + k))) q)

  pub adds_done : r ≡ false → (count_in cs i + k < count_limit) × (cs' ≡ with_count cs i (count_in cs i + k))
  adds_done q =
      (leb-false count_limit (count_in cs i + k) (sym adds.large ∙ q), adds.words ∙ ap (λ (t : Bool). cond t cs (with_count cs i (count_in cs i + k))) q)

  -- the counts that they leave
  pub adds_same : i < count_room (length cs) → (j : ℕ) → count_in cs' j ≡ cond r (count_in cs j) (cond (j == i) (count_in cs i + k) (count_in cs j))
  adds_same h j = go r refl
    where
      go : (t : Bool) → r ≡ t → count_in cs' j ≡ cond t (count_in cs j) (cond (j == i) (count_in cs i + k) (count_in cs j))
      go true q = ap (λ (ws : List ℕ). count_in ws j) (adds_refused q).1
      go false q = ap (λ (ws : List ℕ). count_in ws j) (adds_done q).1 ∙ count_in_with_count cs i (count_in cs i + k) h (adds_done q).0 j

-- in words that hold the counts of a function
pub adds_count_words : (f : ℕ → ℕ) (words i k : ℕ) (cs' : List ℕ) (r : Bool) → i < count_room words → f i < count_limit → AddsCount (count_words f words) i k cs' r
    → (r ≡ nat_le count_limit (f i + k)) × (cs' ≡ cond r (count_words f words) (count_words (λ j. cond (j == i) (f i + k) (f j)) words))
adds_count_words f words i k cs' r h s adds =
    let e : count_in (count_words f words) i + k ≡ f i + k = ap (λ (n : ℕ). n + k) (count_in_count_words f words i h s) in (
      adds.large ∙ ap (leb count_limit) e,
      adds.words
          ∙ ap (λ (n : ℕ). cond r (count_words f words) (with_count (count_words f words) i n)) e
          ∙ ap (cond r (count_words f words)) (with_count_count_words f words i (f i + k)),
    )
