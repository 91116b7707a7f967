-- Laws of the bits of a number: a number is its bits (`bit_ext`), the bits of `&`, `|`, of a power of two, of a disjoint sum (`bit_add`),
-- of a number given by its bits (`bit_from_bits`), and of two blocks of bits one above the other. Rests on `lib.Bits` and `lib.Pow`.
-- Assumes nothing.
use Rattle.std.specs.Prelude.{◌≡◌, refl, ◌≢◌}
use Rattle.std.proofs.Common.{sym, ap, ap₂, ◌∙◌, div-one, one-mul, one-add, arith, shr-shr}
use Prim.Native.Nat.{ℕ, zero, suc, ◌+◌, ◌*◌, ◌/◌, ◌%◌, ◌^◌, ◌≤◌, ◌<◌, zero-le, suc-le-suc, min, max}
use Rattle.std.proofs.Math.Nat.{div_self, zero-div, pow-suc}
use Rattle.std.proofs.Math.Decide.{ℕ_discrete}
use Rattle.std.proofs.Math.Pow.{pow_pos, high}
use Rattle.std.specs.Int.Bits.{bit_and, bit_or, and_step, or_step, block_half, block_odd}
use Rattle.std.proofs.lemmas.Nat.{and_shr, or_shr}
use Rattle.cells.specs.Set.{bit, from_bits}

-- no cell is in both
abbrev pub Disjoint : ℕ → ℕ → Type 0
Disjoint n m = (c : ℕ) → bit n c + bit m c ≤ 1

-- every cell of n is in m
abbrev pub Within : ℕ → ℕ → Type 0
Within n m = (c : ℕ) → bit n c ≤ bit m c

-- ---- one bit at a time

pub bit_zero : (n : ℕ) → bit n 0 ≡ n % 2
unfolding bit
bit_zero n = ap (λ (m : ℕ). m % 2) (div-one n)

pub bit_suc : (n c : ℕ) → bit n (suc c) ≡ bit (n / 2) c
unfolding bit
bit_suc n c = ap (λ (m : ℕ). m % 2) (ap (λ (i : ℕ). n / 2 ^ i) (sym (one-add c)) ∙ sym (shr-shr n 1 c))

pub bit_le : (n c : ℕ) → bit n c ≤ 1
unfolding bit
bit_le n c = omega arith

pub zero_bit : (c : ℕ) → bit 0 c ≡ 0
unfolding bit
zero_bit c = ap (λ (m : ℕ). m % 2) (zero-div (2 ^ c))

-- ---- a number is its bits

pub half_lt : (k n : ℕ) → n < 2 ^ suc k → n / 2 < 2 ^ k
half_lt k n h = omega (arith, pow-suc 2 k)

pub bit_ext : (k n m : ℕ) → n < 2 ^ k → m < 2 ^ k → ((c : ℕ) → c < k → bit n c ≡ bit m c) → n ≡ m
bit_ext zero n m a b h = omega arith
bit_ext (suc k) n m a b h =
    let halves : n / 2 ≡ m / 2 = bit_ext k (n / 2) (m / 2) (half_lt k n a) (half_lt k m b) (λ c i. sym (bit_suc n c) ∙ h (suc c) (suc-le-suc i) ∙ bit_suc m c) in
    let last : n % 2 ≡ m % 2 = sym (bit_zero n) ∙ h 0 (suc-le-suc zero-le) ∙ bit_zero m in
    omega arith

-- a bit past a number's width is 0
pub bit_high : (k n c : ℕ) → n < 2 ^ k → k ≤ c → bit n c ≡ 0
bit_high zero n c h i = ap (λ (m : ℕ). bit m c) (omega arith) ∙ zero_bit c
bit_high (suc k) n zero h i = absurd (omega arith)
bit_high (suc k) n (suc c) h i = bit_suc n c ∙ bit_high k (n / 2) c (half_lt k n h) (omega arith)

-- ---- `&` and `|`

pub bit_and_lem : (n m c : ℕ) → bit (bit_and n m) c ≡ min (bit n c) (bit m c)
unfolding bit
bit_and_lem n m c = ap (λ (x : ℕ). x % 2) (and_shr n m c) ∙ low (n / 2 ^ c) (m / 2 ^ c)
  where
    low : (a b : ℕ) → bit_and a b % 2 ≡ min (a % 2) (b % 2)
    low a b = omega (arith, and_step a b)

pub bit_or_lem : (n m c : ℕ) → bit (bit_or n m) c ≡ max (bit n c) (bit m c)
unfolding bit
bit_or_lem n m c = ap (λ (x : ℕ). x % 2) (or_shr n m c) ∙ low (n / 2 ^ c) (m / 2 ^ c)
  where
    low : (a b : ℕ) → bit_or a b % 2 ≡ max (a % 2) (b % 2)
    low a b = omega (arith, or_step a b)

-- ---- a power of two has one bit

pub bit_pow_same : (c : ℕ) → bit (2 ^ c) c ≡ 1
unfolding bit
bit_pow_same c = rw (div_self (pow_pos c))

pub bit_pow_other : (c d : ℕ) → d ≢ c → bit (2 ^ c) d ≡ 0
bit_pow_other zero zero h = absurd (h refl)
bit_pow_other zero (suc d) h = bit_suc 1 d ∙ zero_bit d
bit_pow_other (suc c) zero h = bit_zero (2 ^ suc c) ∙ omega (arith, pow-suc 2 c)
bit_pow_other (suc c) (suc d) h =
    let half : 2 ^ suc c / 2 ≡ 2 ^ c = omega (arith, pow-suc 2 c) in
    bit_suc (2 ^ suc c) d ∙ ap (λ (m : ℕ). bit m d) half ∙ bit_pow_other c d (λ q. h (ap suc q))

-- ---- a sum of disjoint sets has their bits

half_disjoint : (n m : ℕ) → Disjoint n m → Disjoint (n / 2) (m / 2)
half_disjoint n m h c = omega (arith, h (suc c), bit_suc n c, bit_suc m c)

pub bit_add : (c n m : ℕ) → Disjoint n m → bit (n + m) c ≡ bit n c + bit m c
bit_add zero n m h = omega (arith, h 0, bit_zero n, bit_zero m, bit_zero (n + m))
bit_add (suc c) n m h =
    let halves : (n + m) / 2 ≡ n / 2 + m / 2 = omega (arith, h 0, bit_zero n, bit_zero m) in
    bit_suc (n + m) c
    ∙ ap (λ (x : ℕ). bit x c) halves
    ∙ bit_add c (n / 2) (m / 2) (half_disjoint n m h)
    ∙ ap₂ ◌+◌ (sym (bit_suc n c)) (sym (bit_suc m c))

pub add_lt : (k n m : ℕ) → n < 2 ^ k → m < 2 ^ k → Disjoint n m → n + m < 2 ^ k
add_lt zero n m a b h = omega arith
add_lt (suc k) n m a b h =
    let r : n / 2 + m / 2 < 2 ^ k = add_lt k (n / 2) (m / 2) (half_lt k n a) (half_lt k m b) (half_disjoint n m h) in
    omega (arith, h 0, bit_zero n, bit_zero m, pow-suc 2 k)

-- a set and a cell that is not in it are disjoint
pub disjoint_pow : (n c : ℕ) → bit n c ≡ 0 → Disjoint n (2 ^ c)
disjoint_pow n c e d = go (ℕ_discrete d c)
  where
    go : Dec (d ≡ c) → bit n d + bit (2 ^ c) d ≤ 1
    go (yes q) = rw q (omega (arith, bit_pow_same c))
    go (no q) = omega (arith, bit_pow_other c d q, bit_le n d)

-- ---- a number given by its bits

module _ (f : ℕ → ℕ) (digit : (c : ℕ) → f c ≤ 1) where
  pub from_bits_lt : (k : ℕ) → from_bits k f < 2 ^ k
  unfolding from_bits
  from_bits_lt zero = pow_pos 0
  from_bits_lt (suc k) = go (f k) (digit k) (from_bits_lt k)
    where
      go : (x : ℕ) → x ≤ 1 → from_bits k f < 2 ^ k → from_bits k f + x * 2 ^ k < 2 ^ suc k
      go zero i h = omega (arith, pow-suc 2 k)
      go (suc zero) i h = omega (arith, pow-suc 2 k)
      go (suc (suc x)) i h = absurd (omega arith)

  top_bit : (k x : ℕ) → x ≤ 1 → (c : ℕ) → bit (from_bits k f + x * 2 ^ k) c ≡ bit (from_bits k f) c + x * bit (2 ^ k) c
  top_bit k zero i c = let e : from_bits k f + 0 * 2 ^ k ≡ from_bits k f = omega arith in ap (λ (m : ℕ). bit m c) e ∙ omega arith
  top_bit k (suc zero) i c =
      ap (λ (m : ℕ). bit (from_bits k f + m) c) (one-mul (2 ^ k))
      ∙ bit_add c (from_bits k f) (2 ^ k) (disjoint_pow (from_bits k f) k (bit_high k (from_bits k f) k (from_bits_lt k) (omega arith)))
      ∙ omega arith
  top_bit k (suc (suc x)) i c = absurd (omega arith)

  pub bit_from_bits : (k c : ℕ) → c < k → bit (from_bits k f) c ≡ f c
  unfolding from_bits
  bit_from_bits zero c h = absurd (omega arith)
  bit_from_bits (suc k) c h = top_bit k (f k) (digit k) c ∙ go (ℕ_discrete c k) (bit_from_bits k c)
    where
      go : Dec (c ≡ k) → (c < k → bit (from_bits k f) c ≡ f c) → bit (from_bits k f) c + f k * bit (2 ^ k) c ≡ f c
      go (yes q) below =
          rw (q, bit_high k (from_bits k f) k (from_bits_lt k) (omega arith), bit_pow_same) (omega arith)
      go (no q) below = rw (bit_pow_other k c q) (omega (arith, below (omega arith)))

-- ---- two blocks: m above the k bits of n

pub bit_block_low : (k c n m : ℕ) → c < k → bit (m * 2 ^ k + n) c ≡ bit n c
bit_block_low zero c n m h = absurd (omega arith)
bit_block_low (suc k) zero n m h = bit_zero (m * 2 ^ suc k + n) ∙ block_odd m k n ∙ sym (bit_zero n)
bit_block_low (suc k) (suc c) n m h =
    bit_suc (m * 2 ^ suc k + n) c
    ∙ ap (λ (x : ℕ). bit x c) (block_half m k n)
    ∙ bit_block_low k c (n / 2) m (omega arith)
    ∙ sym (bit_suc n c)

pub bit_block_high : (k c n m : ℕ) → n < 2 ^ k → bit (m * 2 ^ k + n) (k + c) ≡ bit m c
unfolding bit
bit_block_high k c n m h = ap (λ (x : ℕ). x % 2) (sym (shr-shr (m * 2 ^ k + n) k c) ∙ ap (λ (x : ℕ). x / 2 ^ c) (high m k h))
