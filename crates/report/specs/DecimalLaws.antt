-- Laws of decimal digits: how the digits of a number come one by one, and that they are what a reader means by them: each is a digit, the first is not
-- 0, read back they give the number, and a number below 10 ^ k has at most k, for k from 1 on. Rests on `Report`. Assumes nothing.
use Rattle.std.specs.Prelude.{◌≡◌, refl, List, [], ◌∷◌, ◌++◌, ℕ, zero, suc, ◌+◌, ◌-◌, ◌*◌, ◌/◌, ◌%◌, ◌^◌, ◌≤◌, ◌<◌, length, get_or}
use Rattle.std.proofs.Common.{sym, ap, ◌∙◌, pow-suc, arith, lt-ltb, le-ltb, length-append}
use Rattle.std.proofs.Math.Decide.{dec_lt}
use Rattle.report.specs.Report.{digits, decimal}

-- ---- one digit, and one digit more

digits_small : (k n : ℕ) → n < 10 → digits k n ≡ (48 + n) ∷ []
unfolding digits
digits_small zero n h = let e : n % 10 ≡ n = omega arith in rw e
digits_small (suc k) n h = rw (lt-ltb n 10 h)

digits_more : (k n : ℕ) → 10 ≤ n → digits (suc k) n ≡ digits k (n / 10) ++ (48 + n % 10) ∷ []
unfolding digits
digits_more k n h = rw (le-ltb n 10 h)

-- more than enough makes no difference
digits_enough : (k j n : ℕ) → n ≤ k → n ≤ j → digits k n ≡ digits j n
digits_enough zero j n h l = let a : n < 10 = omega arith in digits_small zero n a ∙ sym (digits_small j n a)
digits_enough (suc k) zero n h l = let a : n < 10 = omega arith in digits_small (suc k) n a ∙ sym (digits_small zero n a)
digits_enough (suc k) (suc j) n h l = go (dec_lt n 10) (λ a b. digits_enough k j (n / 10) a b)
  where
    go : Dec (n < 10) → (n / 10 ≤ k → n / 10 ≤ j → digits k (n / 10) ≡ digits j (n / 10)) → digits (suc k) n ≡ digits (suc j) n
    go (yes a) f = digits_small (suc k) n a ∙ sym (digits_small (suc j) n a)
    go (no a) f =
        let b : 10 ≤ n = omega arith in
        digits_more k n b ∙ ap (λ (d : List ℕ). d ++ (48 + n % 10) ∷ []) (f (omega arith) (omega arith)) ∙ sym (digits_more j n b)

pub decimal_small : (n : ℕ) → n < 10 → decimal n ≡ (48 + n) ∷ []
unfolding decimal
decimal_small n h = digits_small n n h

pub decimal_more : (n : ℕ) → 10 ≤ n → decimal n ≡ decimal (n / 10) ++ (48 + n % 10) ∷ []
unfolding decimal
decimal_more zero h = absurd (omega arith)
decimal_more (suc m) h =
    digits_more m (suc m) h
    ∙ ap (λ (d : List ℕ). d ++ (48 + suc m % 10) ∷ []) (digits_enough m (suc m / 10) (suc m / 10) (omega arith) (omega arith))

-- what holds of one digit, and of one digit more where it holds of the others, holds of the digits of every number
decimal_by : (P : ℕ → List ℕ → Type 0)
    → ((n : ℕ) → n < 10 → P n ((48 + n) ∷ []))
    → ((n : ℕ) → 10 ≤ n → P (n / 10) (decimal (n / 10)) → P n (decimal (n / 10) ++ (48 + n % 10) ∷ []))
    → (n : ℕ) → P n (decimal n)
decimal_by P one more n = below n n (omega arith)
  where
    step : (n : ℕ) → Dec (n < 10) → (10 ≤ n → P (n / 10) (decimal (n / 10))) → P n (decimal n)
    step n (yes a) f = rw (decimal_small n a) (one n a)
    step n (no a) f = let b : 10 ≤ n = omega arith in rw (decimal_more n b) (more n b (f b))

    below : (k n : ℕ) → n ≤ k → P n (decimal n)
    below zero n h = step n (dec_lt n 10) (λ b. absurd (omega arith))
    below (suc k) n h = step n (dec_lt n 10) (λ b. below k (n / 10) (omega arith))

-- ---- what a reader means by digits

-- the number that digits are read as, the highest first
unfoldable pub read_on : ℕ → List ℕ → ℕ
read_on a [] = a
read_on a (d ∷ ds) = read_on (10 * a + (d - 48)) ds

unfoldable pub value_of : List ℕ → ℕ
unfolding read_on
value_of ds = read_on 0 ds

read_on_snoc : (a : ℕ) (ds : List ℕ) (d : ℕ) → read_on a (ds ++ d ∷ []) ≡ 10 * read_on a ds + (d - 48)
unfolding read_on
read_on_snoc a [] d = refl
read_on_snoc a (c ∷ ds) d = read_on_snoc (10 * a + (c - 48)) ds d

pub decimal_value : (n : ℕ) → value_of (decimal n) ≡ n
unfolding read_on value_of
decimal_value n =
    decimal_by (λ n ds. value_of ds ≡ n) (λ n h. omega arith)
    (λ n h e. read_on_snoc 0 (decimal (n / 10)) (48 + n % 10) ∙ omega arith) n

-- every byte is a digit
abbrev pub Digits : List ℕ → Type 0
Digits ds = (i : ℕ) → i < length ds → (48 ≤ get_or ds i 0) × (get_or ds i 0 ≤ 57)

pub decimal_digits : (n : ℕ) → Digits (decimal n)
decimal_digits n = decimal_by (λ n ds. Digits ds) (λ n h. one n h) (λ n h e. more (decimal (n / 10)) (n % 10) (omega arith) e) n
  where
    one : (n : ℕ) → n < 10 → Digits ((48 + n) ∷ [])
    one n h zero l = (omega arith, omega arith)
    one n h (suc i) l = absurd (omega arith)

    more : (ds : List ℕ) (d : ℕ) → d < 10 → Digits ds → Digits (ds ++ (48 + d) ∷ [])
    more [] d h f i l = one d h i l
    more (c ∷ ds) d h f zero l = f 0 (omega arith)
    more (c ∷ ds) d h f (suc i) l = more ds d h (λ j m. f (suc j) (omega arith)) i (omega arith)

-- the first is not 0
pub decimal_front : (n : ℕ) → 1 ≤ n → 48 < get_or (decimal n) 0 0
decimal_front n h = decimal_by (λ n ds. 1 ≤ n → 48 < get_or ds 0 0) (λ n l p. omega arith) (λ n l f p. more (decimal (n / 10)) (48 + n % 10) (f (omega arith))) n h
  where
    more : (ds : List ℕ) (d : ℕ) → 48 < get_or ds 0 0 → 48 < get_or (ds ++ d ∷ []) 0 0
    more [] d h = absurd (omega arith)
    more (c ∷ ds) d h = h

-- below 10 ^ (k + 1) there are at most k + 1
pub decimal_length : (k n : ℕ) → n < 10 ^ suc k → length (decimal n) ≤ suc k
decimal_length zero n h = let a : n < 10 = omega (arith, pow-suc 10 0) in rw (decimal_small n a) (omega arith)
decimal_length (suc k) n h = go (dec_lt n 10) (λ l. decimal_length k (n / 10) l)
  where
    go : Dec (n < 10) → (n / 10 < 10 ^ suc k → length (decimal (n / 10)) ≤ suc k) → length (decimal n) ≤ suc (suc k)
    go (yes a) f = rw (decimal_small n a) (omega arith)
    go (no a) f =
        let b : 10 ≤ n = omega arith in
        let l : n / 10 < 10 ^ suc k = omega (arith, pow-suc 10 (suc k)) in
        let e : length (decimal (n / 10)) ≤ suc k = f l in
        rw (decimal_more n b) (omega (arith, length-append (decimal (n / 10)) ((48 + n % 10) ∷ [])))
