-- Laws of numbers in bytes: how many bytes `big_endian` writes and which; that `number_at` reads them back, looks at its own bytes only, and is written back
-- as these; and both cut in two, by which the 16 bytes of a count are those of its high word and then of its low word. Rests on `Archive` and `Records`. Assumes
-- nothing.
use Rattle.std.specs.Prelude.{◌≡◌, refl, length, get_or, take, drop}
use Rattle.std.proofs.Math.Path.{sym, ap}
use Rattle.std.proofs.Common.{ap₂, ◌∙◌, subst, zero-add, add-zero, add-suc, add_assoc, pow-suc, mod-eq_of_lt, add-one, lit<, length-append, length-drop, get_or-append-add, get_or-drop, take-suc}
use mathlib.Core.List.{List, [], ◌∷◌, ◌++◌, append_assoc, append-nil}
use Prim.Native.Nat.{ℕ, zero, suc, ◌+◌, ◌-◌, ◌*◌, ◌/◌, ◌%◌, ◌^◌, ◌≤◌, ◌<◌}
use Rattle.std.proofs.Math.Nat.{pow-succ', one-le-pow, div-one, div-div-eq-div-mul}
use Rattle.std.proofs.Math.Decide.{ℕ_discrete}
use native.Mathlib.Omega.{arith}
use Rattle.std.proofs.Math.Arith.{digits_lt, digits_div, digits_mod, mod-mul}
use Rattle.std.proofs.Math.ListN.{get_or-append}
use Rattle.std.proofs.Math.Seq.{get_or_at}
use Rattle.cells.specs.Set.{value}
use Rattle.archive.specs.declared.Record.{Record}
use Rattle.archive.specs.Archive.{big_endian, number_at, count_held}
use Rattle.archive.specs.Records.{AreBytes}

-- ---- what is written

-- a number has so many bytes
pub length_big_endian : (k n : ℕ) → length (big_endian k n) ≡ k
unfolding big_endian
length_big_endian zero n = refl
length_big_endian (suc k) n =
    length-append (big_endian k (n / 256)) (n % 256 ∷ []) ∙ ap (λ (m : ℕ). m + 1) (length_big_endian k (n / 256)) ∙ add-one k

-- the last byte, and the bytes before it
module _ (k n i : ℕ) where
  last_byte : i ≡ k → get_or (big_endian (suc k) n) i 0 ≡ n / 256 ^ (suc k - 1 - i) % 256
  unfolding big_endian
  last_byte e =
      let z : suc k - 1 - i ≡ 0 = omega arith in
      get_or_at (big_endian k (n / 256)) (n % 256) [] 0 i (length_big_endian k (n / 256) ∙ sym e)
      ∙ ap (λ (m : ℕ). m % 256) (sym (ap (λ (p : ℕ). n / 256 ^ p) z ∙ div-one n))

  early_byte : i < k → get_or (big_endian k (n / 256)) i 0 ≡ n / 256 / 256 ^ (k - 1 - i) % 256
      → get_or (big_endian (suc k) n) i 0 ≡ n / 256 ^ (suc k - 1 - i) % 256
  unfolding big_endian
  early_byte h before =
      let s : suc k - 1 - i ≡ suc (k - 1 - i) = omega arith in
      let l = length_big_endian k (n / 256) in
      get_or-append (big_endian k (n / 256)) (n % 256 ∷ []) 0 i (omega (arith, l))
      ∙ before
      ∙ ap (λ (m : ℕ). m % 256) (div-div-eq-div-mul n 256 (256 ^ (k - 1 - i)) ∙ ap (λ (p : ℕ). n / p) (sym (ap (λ (p : ℕ). 256 ^ p) s ∙ pow-succ' 256 (k - 1 - i))))

  each_byte : i < suc k → (i < k → get_or (big_endian k (n / 256)) i 0 ≡ n / 256 / 256 ^ (k - 1 - i) % 256) → Dec (i ≡ k)
      → get_or (big_endian (suc k) n) i 0 ≡ n / 256 ^ (suc k - 1 - i) % 256
  each_byte h before (yes e) = last_byte e
  each_byte h before (no e) = let l : i < k = omega arith in early_byte l (before l)

-- and byte i of k is the digit of 256 ^ (k - 1 - i)
pub get_d_big_endian : (k n i : ℕ) → i < k → get_or (big_endian k n) i 0 ≡ n / 256 ^ (k - 1 - i) % 256
get_d_big_endian zero n i h = absurd (omega arith)
get_d_big_endian (suc k) n i h = each_byte k n i h (λ l. get_d_big_endian k (n / 256) i l) (ℕ_discrete i k)

-- ---- what is written are bytes

-- bytes behind bytes are bytes,
pub bytes_append : (xs ys : List ℕ) → AreBytes xs → AreBytes ys → AreBytes (xs ++ ys)
bytes_append [] ys f g i = g i
bytes_append (x ∷ xs) ys f g zero = f 0
bytes_append (x ∷ xs) ys f g (suc i) = bytes_append xs ys (λ j. f (suc j)) g i

-- and so are those of a number
pub bytes_big_endian : (k n : ℕ) → AreBytes (big_endian k n)
unfolding big_endian
bytes_big_endian zero n i = lit< tt
bytes_big_endian (suc k) n i = bytes_append (big_endian k (n / 256)) (n % 256 ∷ []) (bytes_big_endian k (n / 256)) last i
  where
    last : AreBytes (n % 256 ∷ [])
    last zero = omega arith
    last (suc i) = lit< tt

-- ---- a number cut in two

module _ (p high low : ℕ) where
  cut_div : (low + p * 256 * high) / 256 ≡ low / 256 + p * high
  cut_div = omega arith

  cut_mod : (low + p * 256 * high) % 256 ≡ low % 256
  cut_mod = omega arith

  cut_lt : low < p * 256 → low / 256 < p
  cut_lt h = omega arith

-- the high part's bytes stand first
pub big_endian_split : (j k high low : ℕ) → low < 256 ^ k → big_endian (j + k) (low + 256 ^ k * high) ≡ big_endian j high ++ big_endian k low
unfolding big_endian
big_endian_split j zero high low h =
    let e : low + 1 * high ≡ high = omega arith in ap₂ big_endian (add-zero j) e ∙ sym (append-nil (big_endian j high))
big_endian_split j (suc k) high low h =
    let whole : low + 256 ^ suc k * high ≡ low + 256 ^ k * 256 * high = ap (λ (p : ℕ). low + p * high) (pow-suc 256 k) in
    let less : low < 256 ^ k * 256 = subst (λ (p : ℕ). low < p) (pow-suc 256 k) h in
    ap₂ big_endian (add-suc j k) whole
    ∙ ap₂ (λ (m c : ℕ). big_endian (j + k) m ++ c ∷ []) (cut_div (256 ^ k) high low) (cut_mod (256 ^ k) high low)
    ∙ ap (λ (l : List ℕ). l ++ low % 256 ∷ []) (big_endian_split j k high (low / 256) (cut_lt (256 ^ k) high low less))
    ∙ append_assoc (big_endian j high) (big_endian k (low / 256)) (low % 256 ∷ [])

-- a count is that of its two words
pub count_words_lem : (r : Record) → count_held r ≡ r.low + 2 ^ 64 * r.high
unfolding count_held value
count_words_lem r = ap (λ (h : ℕ). r.low + 2 ^ 64 * h) (add-zero r.high)

-- the bytes of a count are those of its high word and then of its low word
pub count_bytes : (r : Record) → r.low < 2 ^ 64 → big_endian 16 (count_held r) ≡ big_endian 8 r.high ++ big_endian 8 r.low
count_bytes r h = ap (big_endian 16) (count_words_lem r) ∙ big_endian_split 8 8 r.high r.low h

-- ---- what is read

-- a number is read from its own bytes only
pub number_at_ext : (xs ys : List ℕ) (i j k : ℕ) → ((m : ℕ) → m < k → get_or xs (i + m) 0 ≡ get_or ys (j + m) 0) → number_at xs i k ≡ number_at ys j k
unfolding number_at
number_at_ext xs ys i j zero same = refl
number_at_ext xs ys i j (suc k) same =
    ap₂ (λ (n c : ℕ). n * 256 + c) (number_at_ext xs ys i j k (λ m h. same m (omega arith))) (same k (omega arith))

-- not from bytes in front,
pub number_at_append : (xs ys : List ℕ) (i k : ℕ) → number_at (xs ++ ys) (length xs + i) k ≡ number_at ys i k
number_at_append xs ys i k =
    number_at_ext (xs ++ ys) ys (length xs + i) i k
    (λ m h. ap (λ (p : ℕ). get_or (xs ++ ys) p 0) (add_assoc (length xs) i m) ∙ get_or-append-add xs ys (i + m) 0)

-- nor from bytes behind
pub number_at_front : (xs ys : List ℕ) (at k : ℕ) → at + k ≤ length xs → number_at (xs ++ ys) at k ≡ number_at xs at k
number_at_front xs ys at k h = number_at_ext (xs ++ ys) xs at at k (λ m l. get_or-append xs ys 0 (at + m) (omega arith))

-- where bytes are left out in front, the place is so much less
pub number_at_drop : (m : ℕ) (xs : List ℕ) (at k : ℕ) → number_at (drop m xs) at k ≡ number_at xs (m + at) k
number_at_drop m xs at k =
    number_at_ext (drop m xs) xs at (m + at) k (λ i h. get_or-drop m xs (at + i) 0 ∙ ap (λ (p : ℕ). get_or xs p 0) (sym (add_assoc m at i)))

-- k bytes are a number of k bytes
pub number_at_lt : (bytes : List ℕ) (at k : ℕ) → AreBytes bytes → number_at bytes at k < 256 ^ k
unfolding number_at
number_at_lt bytes at zero h = lit< tt
number_at_lt bytes at (suc k) h =
    subst (λ (p : ℕ). number_at bytes at k * 256 + get_or bytes (at + k) 0 < p) (sym (pow-suc 256 k)) (digits_lt (number_at_lt bytes at k h) (h (at + k)))

join : (a b c p : ℕ) → (a * p + b) * 256 + c ≡ a * (p * 256) + (b * 256 + c)
join a b c p = omega arith

-- the bytes cut in two
pub number_at_split : (bytes : List ℕ) (at j k : ℕ) → number_at bytes at (j + k) ≡ number_at bytes at j * 256 ^ k + number_at bytes (at + j) k
unfolding number_at
number_at_split bytes at j zero =
    let e : number_at bytes at j ≡ number_at bytes at j * 1 + 0 = omega arith in ap (number_at bytes at) (add-zero j) ∙ e
number_at_split bytes at j (suc k) =
    ap (number_at bytes at) (add-suc j k)
    ∙ ap₂ (λ (n p : ℕ). n * 256 + get_or bytes p 0) (number_at_split bytes at j k) (sym (add_assoc at j k))
    ∙ join (number_at bytes at j) (number_at bytes (at + j) k) (get_or bytes (at + j + k) 0) (256 ^ k)
    ∙ ap (λ (p : ℕ). number_at bytes at j * p + (number_at bytes (at + j) k * 256 + get_or bytes (at + j + k) 0)) (sym (pow-suc 256 k))

-- ---- what is written reads back, and what is read is written back

-- of a number that has more bytes the lowest are written
pub number_at_lowest : (k n : ℕ) → number_at (big_endian k n) 0 k ≡ n % 256 ^ k
unfolding big_endian number_at
number_at_lowest zero n = omega arith
number_at_lowest (suc k) n =
    let front : List ℕ = big_endian k (n / 256) in
    let l = length_big_endian k (n / 256) in
    ap₂ (λ (m c : ℕ). m * 256 + c)
    (number_at_front front (n % 256 ∷ []) 0 k (omega arith) ∙ number_at_lowest k (n / 256))
    (get_or_at front (n % 256) [] 0 (0 + k) (l ∙ sym (zero-add k)))
    ∙ sym (ap (λ (p : ℕ). n % p) (pow-suc 256 k) ∙ mod-mul n (one-le-pow k 256 (lit< tt)) (lit< tt))

-- a number of k bytes reads back
pub number_at_big_endian : (k n : ℕ) → n < 256 ^ k → number_at (big_endian k n) 0 k ≡ n
number_at_big_endian k n h = number_at_lowest k n ∙ mod-eq_of_lt h

-- also with bytes behind it,
pub number_at_here : (k n : ℕ) (behind : List ℕ) → n < 256 ^ k → number_at (big_endian k n ++ behind) 0 k ≡ n
number_at_here k n behind h =
    let l = length_big_endian k n in number_at_front (big_endian k n) behind 0 k (omega arith) ∙ number_at_big_endian k n h

-- and what stands behind it is read past it
pub number_at_past : (j n : ℕ) (behind : List ℕ) (at k : ℕ) → number_at (big_endian j n ++ behind) (j + at) k ≡ number_at behind at k
number_at_past j n behind at k =
    ap (λ (p : ℕ). number_at (big_endian j n ++ behind) (p + at) k) (sym (length_big_endian j n)) ∙ number_at_append (big_endian j n) behind at k

-- k bytes that are read are written back
pub big_endian_number_at : (bytes : List ℕ) (at k : ℕ) → AreBytes bytes → at + k ≤ length bytes → big_endian k (number_at bytes at k) ≡ take k (drop at bytes)
unfolding big_endian number_at
big_endian_number_at bytes at zero h l = refl
big_endian_number_at bytes at (suc k) h l =
    let n : ℕ = number_at bytes at k in
    let behind : length (drop at bytes) ≡ length bytes - at = length-drop at bytes in
    ap₂ (λ (m c : ℕ). big_endian k m ++ c ∷ []) (digits_div n (h (at + k))) (digits_mod n (h (at + k)))
    ∙ ap₂ (λ (l : List ℕ) (c : ℕ). l ++ c ∷ []) (big_endian_number_at bytes at k h (omega arith)) (sym (get_or-drop at bytes k 0))
    ∙ sym (take-suc (drop at bytes) k 0 (omega arith))
