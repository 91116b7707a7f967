-- A set without the cells of a set within it: word by word, no word is above that of the other, and the words' differences hold the difference.
-- Rests on the laws of `cells`. Assumes nothing.
use mathlib.Core.Path.{◌≡◌, refl, sym, ap, ◌∙◌}
use Prim.Native.Nat.{ℕ, ◌+◌, ◌-◌, ◌*◌, ◌/◌, ◌%◌, ◌^◌, ◌≤◌, ◌<◌}
use native.Mathlib.Decide.{dec_lt}
use native.Mathlib.Omega.{arith}
use lib.ListN.{get_or}
use Rattle.cells.specs.declared.Cells.{Cells}
use Rattle.cells.specs.Set.{bit, value, words, number, Sound}
use Rattle.cells.specs.BitLaws.{Within, bit_high}
use Rattle.cells.specs.SetLaws.{within_le}
use Rattle.cells.specs.WordLaws.{sound_small, bit_number}

-- a bit of a word is a bit of the number
word_bit : (u : Cells) → Sound u → (i c : ℕ) → c < 64 → bit (get_or (words u) i 0) c ≡ bit (number u) (64 * i + c)
word_bit u h i c l =
    let a : (64 * i + c) / 64 ≡ i = omega arith in
    let d : (64 * i + c) % 64 ≡ c = omega arith in
    sym
    (bit_number u h (64 * i + c)
    ∙ ap (λ (j : ℕ). bit (get_or (words u) j 0) ((64 * i + c) % 64)) a
    ∙ ap (λ (j : ℕ). bit (get_or (words u) i 0) j) d)

module _ (s t : Cells) (hs : Sound s) (ht : Sound t) (w : Within (number s) (number t)) where
  -- no word of a set is above that word of a set that it is within
  pub word_le : (i : ℕ) → get_or (words s) i 0 ≤ get_or (words t) i 0
  word_le i = within_le (get_or (words s) i 0) (get_or (words t) i 0) (λ c. go c (dec_lt c 64))
    where
      go : (c : ℕ) → Dec (c < 64) → bit (get_or (words s) i 0) c ≤ bit (get_or (words t) i 0) c
      go c (yes l) = omega (arith, word_bit s hs i c l, word_bit t ht i c l, w (64 * i + c))
      go c (no l) =
          let none : bit (get_or (words s) i 0) c ≡ 0 = bit_high 64 (get_or (words s) i 0) c (sound_small s hs i) (omega arith) in
          omega arith

-- one word more in front of a difference
less_word : (w v n m k : ℕ) → w ≤ v → n + m ≡ k → (v - w + 2 ^ 64 * n) + (w + 2 ^ 64 * m) ≡ v + 2 ^ 64 * k
less_word w v n m k l e = omega arith

taken : (x y z : ℕ) → x + y ≡ z → x ≡ z - y
taken x y z e = omega arith

abbrev pub without : Cells → Cells → Cells
without t s = record { w0 = t.w0 - s.w0; w1 = t.w1 - s.w1; w2 = t.w2 - s.w2; w3 = t.w3 - s.w3 }

module _ (s t : Cells) (hs : Sound s) (ht : Sound t) (w : Within (number s) (number t)) where
  pub number_without : number (without t s) ≡ number t - number s
  unfolding number value
  number_without =
      taken (number (without t s)) (number s) (number t)
      (less_word s.w0 t.w0 _ _ _ (word_le s t hs ht w 0)
      (less_word s.w1 t.w1 _ _ _ (word_le s t hs ht w 1)
      (less_word s.w2 t.w2 _ _ _ (word_le s t hs ht w 2)
      (less_word s.w3 t.w3 0 0 0 (word_le s t hs ht w 3) refl))))
