-- Laws of the words of a set: `value` and `words_of` are inverse; a bit of the value is a bit of one word; and what `|`, `&` and `==` on the
-- words do to the set. Rests on `BitLaws` and `SetLaws`. Assumes nothing.
use Rattle.std.specs.Prelude.{◌≡◌, true, false, List, [], ◌∷◌, length}
use Rattle.std.proofs.Math.Path.{refl, sym, ap, subst}
use Rattle.std.proofs.Common.{ap₂, ◌∙◌, one-mul, lit<, pow_pos, pow-add, shl_exact, get_or-set_same, get_or-set_other}
use Rattle.std.proofs.Math.Bool.{not, ◌&&◌}
use Prim.Native.Nat.{ℕ, zero, suc, ◌+◌, ◌-◌, ◌*◌, ◌/◌, ◌%◌, ◌^◌, ◌≤◌, ◌<◌, min, max}
use Rattle.std.proofs.Math.Decide.{ℕ_discrete, dec_lt}
use native.Mathlib.Omega.{arith}
use borrow.Author.Tests.{eq-eqb, ne_eqb}
use Rattle.std.proofs.Math.Dec.{eqb}
use Rattle.std.proofs.Math.Pow.{pow-lt}
use Rattle.std.specs.Int.Bits.{bit_and, bit_or}
use Rattle.std.proofs.lemmas.Nat.{or_lt, and_le_l}
use Rattle.std.proofs.Math.ListN.{get_or, set}
use Rattle.cells.specs.declared.Cells.{Cells}
use Rattle.cells.specs.Set.{bit, has_cell, with_cell, union_of, value, words_below, words_of, words, number, Sound}
use Rattle.cells.specs.Parts.{intersection_of, shares_cell}
use Rattle.cells.specs.BitLaws.{bit_le, zero_bit, bit_ext, bit_block_low, bit_block_high, bit_high, bit_and_lem, bit_or_lem, bit_pow_same, bit_pow_other}
use Rattle.cells.specs.SetLaws.{has_cell_false, with_cell_past, bit_with_cell_same, bit_with_cell_other, with_cell_lt, union_of_lt, bit_union_of, intersection_of_lt, bit_intersection_of}

-- numbers of 64 bits, as machine words are
abbrev pub Small : List ℕ → Type 0
Small ws = (i : ℕ) → get_or ws i 0 < 2 ^ 64

-- ---- `value` and `words_of` are inverse

tail_small : (w : ℕ) (ws : List ℕ) → Small (w ∷ ws) → Small ws
tail_small w ws h i = h (suc i)

pow_words : (k : ℕ) → 2 ^ (64 * suc k) ≡ 2 ^ 64 * 2 ^ (64 * k)
pow_words k = let e : 64 * suc k ≡ 64 + 64 * k = omega arith in ap (λ (j : ℕ). 2 ^ j) e ∙ pow-add 2 64 (64 * k)

pub value_lt : (ws : List ℕ) → Small ws → value ws < 2 ^ (64 * length ws)
unfolding value
value_lt [] h = pow_pos 0
value_lt (w ∷ ws) h = omega (arith, pow_words (length ws), h 0, value_lt ws (tail_small w ws h))

pub value_words_below : (k n : ℕ) → n < 2 ^ (64 * k) → value (words_below k n) ≡ n
unfolding value words_below
value_words_below zero n h = omega arith
value_words_below (suc k) n h =
    let less : n / 2 ^ 64 < 2 ^ (64 * k) = omega (arith, pow_words k) in
    omega (arith, value_words_below k (n / 2 ^ 64) less)

pub value_words_of : (n : ℕ) → n < 2 ^ 256 → value (words_of n) ≡ n
unfolding words_of
value_words_of n h = value_words_below 4 n h

pub words_below_value : (ws : List ℕ) → Small ws → words_below (length ws) (value ws) ≡ ws
unfolding value words_below
words_below_value [] h = refl
words_below_value (w ∷ ws) h =
    let a : (w + 2 ^ 64 * value ws) % 2 ^ 64 ≡ w = omega (arith, h 0) in
    let b : (w + 2 ^ 64 * value ws) / 2 ^ 64 ≡ value ws = omega (arith, h 0) in
    ap₂ ◌∷◌ a (ap (words_below (length ws)) b ∙ words_below_value ws (tail_small w ws h))

pub words_of_value : (ws : List ℕ) → length ws ≡ 4 → Small ws → words_of (value ws) ≡ ws
unfolding words_of
words_of_value ws e h = subst (λ (k : ℕ). words_below k (value ws) ≡ ws) e (words_below_value ws h)

-- words with the value 0 are 0
value_none : (ws : List ℕ) → value ws ≡ 0 → (i : ℕ) → get_or ws i 0 ≡ 0
unfolding value
value_none [] e i = refl
value_none (w ∷ ws) e zero = omega arith
value_none (w ∷ ws) e (suc i) = value_none ws (omega arith) i

-- cell c is bit c % 64 of word c / 64
pub bit_value : (ws : List ℕ) → Small ws → (c : ℕ) → bit (value ws) c ≡ bit (get_or ws (c / 64) 0) (c % 64)
unfolding value
bit_value [] h c = zero_bit c ∙ sym (zero_bit (c % 64))
bit_value (w ∷ ws) h c = ap (λ (n : ℕ). bit n c) swap ∙ go (dec_lt c 64) (bit_value ws (tail_small w ws h))
  where
    swap : w + 2 ^ 64 * value ws ≡ value ws * 2 ^ 64 + w
    swap = omega arith

    go : Dec (c < 64) → ((d : ℕ) → bit (value ws) d ≡ bit (get_or ws (d / 64) 0) (d % 64)) → bit (value ws * 2 ^ 64 + w) c ≡ bit (get_or (w ∷ ws) (c / 64) 0) (c % 64)
    go (yes i) below =
        let a : c / 64 ≡ 0 = omega arith in let b : c % 64 ≡ c = omega arith in
        bit_block_low 64 c w (value ws) i ∙ sym (ap₂ (λ (i j : ℕ). bit (get_or (w ∷ ws) i 0) j) a b)
    go (no i) below =
        let a : c / 64 ≡ suc ((c - 64) / 64) = omega arith in
        let b : c % 64 ≡ (c - 64) % 64 = omega arith in
        let d : c ≡ 64 + (c - 64) = omega arith in
        ap (bit (value ws * 2 ^ 64 + w)) d
        ∙ bit_block_high 64 (c - 64) w (value ws) (h 0)
        ∙ below (c - 64)
        ∙ sym (ap₂ (λ (i j : ℕ). bit (get_or (w ∷ ws) i 0) j) a b)

-- ---- the words of a set

-- each of the four words
each_word : (P : ℕ → Type 0) (s : Cells) → P s.w0 → P s.w1 → P s.w2 → P s.w3 → P 0 → (i : ℕ) → P (get_or (words s) i 0)
each_word P s a b c d z zero = a
each_word P s a b c d z (suc zero) = b
each_word P s a b c d z (suc (suc zero)) = c
each_word P s a b c d z (suc (suc (suc zero))) = d
each_word P s a b c d z (suc (suc (suc (suc i)))) = z

pub sound_small : (s : Cells) → Sound s → Small (words s)
sound_small s h = each_word (λ w. w < 2 ^ 64) s h.s0 h.s1 h.s2 h.s3 (pow_pos 64)

pub number_lt : (s : Cells) → Sound s → number s < 2 ^ 256
unfolding number
number_lt s h = value_lt (words s) (sound_small s h)

pub bit_number : (s : Cells) → Sound s → (c : ℕ) → bit (number s) c ≡ bit (get_or (words s) (c / 64) 0) (c % 64)
unfolding number
bit_number s h = bit_value (words s) (sound_small s h)

pub words_of_number : (s : Cells) → Sound s → words_of (number s) ≡ words s
unfolding number
words_of_number s h = words_of_value (words s) refl (sound_small s h)

-- sets with one number have the same words
pub words_inj : (s t : Cells) → Sound s → Sound t → number s ≡ number t → words s ≡ words t
words_inj s t h k e = sym (words_of_number s h) ∙ ap words_of e ∙ words_of_number t k

-- a number with the bits of a set's words is the set's number
number_ext : (s : Cells) (n : ℕ) → Sound s → n < 2 ^ 256 → ((c : ℕ) → c < 256 → bit (get_or (words s) (c / 64) 0) (c % 64) ≡ bit n c) → number s ≡ n
number_ext s n h k e = bit_ext 256 (number s) n (number_lt s h) k (λ c i. bit_number s h c ∙ e c i)

-- ---- what the machine's operations do

-- an operation f on words, word by word
abbrev wordwise : (ℕ → ℕ → ℕ) → Cells → Cells → Cells
wordwise f s t = record { w0 = f s.w0 t.w0; w1 = f s.w1 t.w1; w2 = f s.w2 t.w2; w3 = f s.w3 t.w3 }

word_at_lem : (f : ℕ → ℕ → ℕ) → f 0 0 ≡ 0 → (s t : Cells) (i : ℕ) → get_or (words (wordwise f s t)) i 0 ≡ f (get_or (words s) i 0) (get_or (words t) i 0)
word_at_lem f z s t zero = refl
word_at_lem f z s t (suc zero) = refl
word_at_lem f z s t (suc (suc zero)) = refl
word_at_lem f z s t (suc (suc (suc zero))) = refl
word_at_lem f z s t (suc (suc (suc (suc i)))) = sym z

-- f acts on bits as g does, and so does the operation op on sets: then f word by word is op
module _ (f g op : ℕ → ℕ → ℕ) (z : f 0 0 ≡ 0) (small : (x y : ℕ) → x < 2 ^ 64 → y < 2 ^ 64 → f x y < 2 ^ 64) (bit-f : (x y c : ℕ) → bit (f x y) c ≡ g (bit x c) (bit y c))
    (op-lt : (n m : ℕ) → op n m < 2 ^ 256) (bit-op : (n m c : ℕ) → c < 256 → bit (op n m) c ≡ g (bit n c) (bit m c)) where
  number_wordwise : (s t : Cells) → Sound s → Sound t → number (wordwise f s t) ≡ op (number s) (number t)
  number_wordwise s t hs ht =
      number_ext (wordwise f s t) (op (number s) (number t))
      (record { s0 = small _ _ hs.s0 ht.s0; s1 = small _ _ hs.s1 ht.s1; s2 = small _ _ hs.s2 ht.s2; s3 = small _ _ hs.s3 ht.s3 })
      (op-lt (number s) (number t))
      (λ c h.
      ap (λ (n : ℕ). bit n (c % 64)) (word_at_lem f z s t (c / 64))
      ∙ bit-f (get_or (words s) (c / 64) 0) (get_or (words t) (c / 64) 0) (c % 64)
      ∙ ap₂ g (sym (bit_number s hs c)) (sym (bit_number t ht c))
      ∙ sym (bit-op (number s) (number t) c h))

and_small : (x y : ℕ) → x < 2 ^ 64 → y < 2 ^ 64 → bit_and x y < 2 ^ 64
and_small x y h k = omega (arith, and_le_l x y)

module _ (s t : Cells) (hs : Sound s) (ht : Sound t) where
  -- word by word `|` is the union, and `&` the intersection
  pub number_or : number (wordwise bit_or s t) ≡ union_of (number s) (number t)
  number_or = number_wordwise bit_or max union_of refl (λ x y. or_lt 64 x y) bit_or_lem union_of_lt bit_union_of s t hs ht

  pub number_and : number (wordwise bit_and s t) ≡ intersection_of (number s) (number t)
  number_and = number_wordwise bit_and min intersection_of refl and_small bit_and_lem intersection_of_lt bit_intersection_of s t hs ht

  -- a cell is shared where some word's `&` is not 0, and only there
  pub shares_cell_word : (i : ℕ) → (bit_and (get_or (words s) i 0) (get_or (words t) i 0) ≡ 0 → ⊥) → true ≡ shares_cell (number s) (number t)
  unfolding shares_cell number
  shares_cell_word i n =
      let some : intersection_of (number s) (number t) ≡ 0 → ⊥ =
      λ e. n (sym (word_at_lem bit_and refl s t i) ∙ value_none (words (wordwise bit_and s t)) (number_and ∙ e) i)
      in rw (ne_eqb (intersection_of (number s) (number t)) 0 some)

  pub shares_cell_last : bit_and s.w0 t.w0 ≡ 0 → bit_and s.w1 t.w1 ≡ 0 → bit_and s.w2 t.w2 ≡ 0
      → not (eqb (bit_and s.w3 t.w3) 0) ≡ shares_cell (number s) (number t)
  unfolding shares_cell number value
  shares_cell_last p q r = go (ℕ_discrete (bit_and s.w3 t.w3) 0)
    where
      go : Dec (bit_and s.w3 t.w3 ≡ 0) → not (eqb (bit_and s.w3 t.w3) 0) ≡ not (eqb (intersection_of (number s) (number t)) 0)
      go (yes e) =
          let none : intersection_of (number s) (number t) ≡ 0 = sym number_and ∙ rw (p, q, r, e) in
          rw (eq-eqb (bit_and s.w3 t.w3) 0 e, eq-eqb (intersection_of (number s) (number t)) 0 none)
      go (no n) = ap not (ne_eqb (bit_and s.w3 t.w3) 0 n) ∙ shares_cell_word 3 n

  -- two sets differ where some word does, and only there
  pub eqb_word : (i : ℕ) → (get_or (words s) i 0 ≡ get_or (words t) i 0 → ⊥) → false ≡ eqb (number s) (number t)
  eqb_word i n = sym (ne_eqb (number s) (number t) (λ e. n (ap (λ (l : List ℕ). get_or l i 0) (words_inj s t hs ht e))))

  pub eqb_last : s.w0 ≡ t.w0 → s.w1 ≡ t.w1 → s.w2 ≡ t.w2 → eqb s.w3 t.w3 ≡ eqb (number s) (number t)
  unfolding number
  eqb_last p q r = go (ℕ_discrete s.w3 t.w3)
    where
      go : Dec (s.w3 ≡ t.w3) → eqb s.w3 t.w3 ≡ eqb (number s) (number t)
      go (yes e) = eq-eqb s.w3 t.w3 e ∙ sym (eq-eqb (number s) (number t) (ap value (λ i. p i ∷ q i ∷ r i ∷ e i ∷ [])))
      go (no n) = ne_eqb s.w3 t.w3 n ∙ eqb_word 3 n

  -- so they are equal where all their words are
  pub eqb_words : (eqb s.w0 t.w0 && (eqb s.w1 t.w1 && (eqb s.w2 t.w2 && eqb s.w3 t.w3))) ≡ eqb (number s) (number t)
  eqb_words = go (ℕ_discrete s.w0 t.w0) (ℕ_discrete s.w1 t.w1) (ℕ_discrete s.w2 t.w2)
    where
      go : Dec (s.w0 ≡ t.w0) → Dec (s.w1 ≡ t.w1) → Dec (s.w2 ≡ t.w2)
          → (eqb s.w0 t.w0 && (eqb s.w1 t.w1 && (eqb s.w2 t.w2 && eqb s.w3 t.w3))) ≡ eqb (number s) (number t)
      go (no n) f g = rw (ne_eqb s.w0 t.w0 n, eqb_word 0 n)
      go (yes e) (no n) g = rw (eq-eqb s.w0 t.w0 e, ne_eqb s.w1 t.w1 n, eqb_word 1 n)
      go (yes e) (yes f) (no n) = rw (eq-eqb s.w0 t.w0 e, eq-eqb s.w1 t.w1 f, ne_eqb s.w2 t.w2 n, eqb_word 2 n)
      go (yes e) (yes f) (yes g) = rw (eq-eqb s.w0 t.w0 e, eq-eqb s.w1 t.w1 f, eq-eqb s.w2 t.w2 g, eqb_last e f g)

-- the set with a number, by its four words
abbrev pub cells_of : ℕ → Cells
cells_of n = record { w0 = n % 2 ^ 64; w1 = n / 2 ^ 64 % 2 ^ 64; w2 = n / 2 ^ 64 / 2 ^ 64 % 2 ^ 64; w3 = n / 2 ^ 64 / 2 ^ 64 / 2 ^ 64 % 2 ^ 64 }

pub number_cells_of : (n : ℕ) → n < 2 ^ 256 → number (cells_of n) ≡ n
unfolding number words_of
number_cells_of n h = value_words_of n h

word_lt : (n : ℕ) → n % 2 ^ 64 < 2 ^ 64
word_lt n = omega arith

pub sound_cells_of : (n : ℕ) → Sound (cells_of n)
sound_cells_of n = record {
  s0 = word_lt n;
  s1 = word_lt (n / 2 ^ 64);
  s2 = word_lt (n / 2 ^ 64 / 2 ^ 64);
  s3 = word_lt (n / 2 ^ 64 / 2 ^ 64 / 2 ^ 64);
}

-- four words make a set
pub number_words : (w0 w1 w2 w3 : ℕ) → number (record { w0 = w0; w1 = w1; w2 = w2; w3 = w3 }) ≡ value (w0 ∷ w1 ∷ w2 ∷ w3 ∷ [])
unfolding number
number_words w0 w1 w2 w3 = refl

-- ---- one cell

-- a number past 255 is in no set, and adds nothing
past : (c : ℕ) → 4 ≤ c / 64 → 256 ≤ c
past c h = omega arith

pub has_cell_past : (s : Cells) → Sound s → (c : ℕ) → 4 ≤ c / 64 → false ≡ has_cell (number s) c
has_cell_past s h c i = sym (has_cell_false (number s) c (bit_high 256 (number s) c (number_lt s h) (past c i)))

-- a cell is looked up in its word
pub has_cell_word : (s : Cells) → Sound s → (c i : ℕ) → c / 64 ≡ i → eqb (get_or (words s) i 0 / 2 ^ (c % 64) % 2) 1 ≡ has_cell (number s) c
unfolding has_cell bit
has_cell_word s h c i e = ap (λ (n : ℕ). eqb n 1) (ap (λ (j : ℕ). bit (get_or (words s) j 0) (c % 64)) (sym e) ∙ sym (bit_number s h c))

-- `1 << k` as the machine has it
shl_one : (k : ℕ) → k < 64 → (1 * 2 ^ k) % 2 ^ 64 ≡ 2 ^ k
shl_one k h = shl_exact 1 k 64 (lit< tt) (omega arith) ∙ one-mul (2 ^ k)

-- a cell is added to its word by `|`: r has the words of s but word i, with the cell's bit set
module _ (s r : Cells) (hs : Sound s) (c i : ℕ) (hi : i < 4) (ei : c / 64 ≡ i)
    (er : words r ≡ set (words s) i (bit_or (get_or (words s) i 0) ((1 * 2 ^ (c % 64)) % 2 ^ 64))) where
  word : ℕ
  word = bit_or (get_or (words s) i 0) (2 ^ (c % 64))

  words_r : words r ≡ set (words s) i word
  unfolding word
  words_r = er ∙ ap (λ (b : ℕ). set (words s) i (bit_or (get_or (words s) i 0) b)) (shl_one (c % 64) (omega arith))

  at_word : get_or (words r) i 0 ≡ word
  at_word = ap (λ (l : List ℕ). get_or l i 0) words_r ∙ get_or-set_same (words s) i word 0 hi

  at_other : (j : ℕ) → (j ≡ i → ⊥) → get_or (words r) j 0 ≡ get_or (words s) j 0
  at_other j n = ap (λ (l : List ℕ). get_or l j 0) words_r ∙ get_or-set_other (words s) i j word 0 n

  small_r : Small (words r)
  unfolding word
  small_r j = go (ℕ_discrete j i)
    where
      go : Dec (j ≡ i) → get_or (words r) j 0 < 2 ^ 64
      go (no q) = subst (λ (n : ℕ). n < 2 ^ 64) (sym (at_other j q)) (sound_small s hs j)
      go (yes q) =
          let k : c % 64 < 64 = omega arith in
          subst (λ (n : ℕ). n < 2 ^ 64) (sym (ap (λ (m : ℕ). get_or (words r) m 0) q ∙ at_word))
          (or_lt 64 (get_or (words s) i 0) (2 ^ (c % 64)) (sound_small s hs i) (pow-lt k))

  sound_r : Sound r
  sound_r = record { s0 = small_r 0; s1 = small_r 1; s2 = small_r 2; s3 = small_r 3 }

  word_bit : (d : ℕ) → Dec (d / 64 ≡ i) → bit (get_or (words r) (d / 64) 0) (d % 64) ≡ bit (with_cell (number s) c) d
  unfolding word
  word_bit d (no q) =
      ap (λ (n : ℕ). bit n (d % 64)) (at_other (d / 64) q)
      ∙ sym (bit_number s hs d)
      ∙ sym (bit_with_cell_other (number s) c d (λ e. q (ap (λ (n : ℕ). n / 64) e ∙ ei)))
  word_bit d (yes q) =
      ap (λ (j : ℕ). bit (get_or (words r) j 0) (d % 64)) q
      ∙ ap (λ (n : ℕ). bit n (d % 64)) at_word
      ∙ bit_or_lem (get_or (words s) i 0) (2 ^ (c % 64)) (d % 64)
      ∙ go (ℕ_discrete d c)
    where
      go : Dec (d ≡ c) → max (bit (get_or (words s) i 0) (d % 64)) (bit (2 ^ (c % 64)) (d % 64)) ≡ bit (with_cell (number s) c) d
      go (yes e) =
          let small : c < 256 = omega arith in
          rw (e, bit_with_cell_same (number s) c small, bit_pow_same) (omega (arith, bit_le (get_or (words s) i 0) (c % 64)))
      go (no e) =
          let other : d % 64 ≡ c % 64 → ⊥ = λ m. e (omega arith) in
          rw (bit_with_cell_other (number s) c d e, bit_pow_other (c % 64) (d % 64) other, bit_number s hs d, q) (omega arith)

  pub number_set : number r ≡ with_cell (number s) c
  number_set =
      let small : c < 256 = omega arith in
      number_ext r (with_cell (number s) c) sound_r (with_cell_lt 256 (number s) c (number_lt s hs) small) (λ d h. word_bit d (ℕ_discrete (d / 64) i))

pub with_cell_none : (s : Cells) (c : ℕ) → 4 ≤ c / 64 → number s ≡ with_cell (number s) c
with_cell_none s c h = with_cell_past (number s) c (past c h)
