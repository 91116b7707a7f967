-- Laws of sets of cells: membership; the set of a test; a set within another; the bits and the size of a set with one cell more, of a union and of an intersection; when two
-- sets share a cell; how many cells a set has. Rests on `BitLaws`. Assumes nothing.
use Rattle.std.specs.Prelude.{◌≡◌, refl, ◌≢◌, ◌↔◌, Bool, true, false, cond, ◌||◌, eqb, ltb}
use Rattle.std.proofs.Common.{sym, ap, ◌∙◌, subst, one-mul, zero-mul, add-zero, lt-ltb, le-ltb, eq-eqb, ne_eqb, eqb-true, pow_pos}
use Rattle.std.proofs.Math.Bool.{So, or-true, or-false}
use Prim.Native.Nat.{ℕ, zero, suc, ◌+◌, ◌-◌, ◌*◌, ◌/◌, ◌^◌, ◌≤◌, ◌<◌, zero-le, min, max}
use Rattle.std.proofs.Math.Decide.{ℕ_discrete, dec_lt}
use native.Mathlib.Omega.{arith}
use Rattle.std.proofs.lemmas.Bool.{eqb-false, not-false}
use Rattle.std.proofs.Math.Pow.{pow-lt}
use Rattle.cells.specs.Set.{bit, has_cell, from_bits, set_of, with_cell, union_of, size_below, size}
use Rattle.cells.specs.Parts.{intersection_of, shares_cell}
use Rattle.cells.specs.BitLaws.{Disjoint, Within, bit_zero, bit_suc, bit_le, zero_bit, bit_ext, bit_high, bit_add, add_lt, bit_pow_same, bit_pow_other, disjoint_pow, from_bits_lt, bit_from_bits}

-- ---- membership

pub has_cell_iff : (n c : ℕ) → So (has_cell n c) ↔ (bit n c ≡ 1)
unfolding has_cell
has_cell_iff n c = (λ e. eqb-true (bit n c) 1 e, λ e. eq-eqb (bit n c) 1 e)

pub has_cell_false : (n c : ℕ) → bit n c ≡ 0 → has_cell n c ≡ false
unfolding has_cell
has_cell_false n c e = ne_eqb (bit n c) 1 (λ q. omega arith)

pub bit_free : (n c : ℕ) → has_cell n c ≡ false → bit n c ≡ 0
unfolding has_cell
bit_free n c e = let other = eqb-false (bit n c) 1 e in omega (arith, bit_le n c)

pub has_cell_none : (cell : ℕ) → has_cell 0 cell ≡ false
has_cell_none cell = has_cell_false 0 cell (zero_bit cell)

-- sets with the same cells are the same
pub has_cell_ext : (n m : ℕ) → n < 2 ^ 256 → m < 2 ^ 256 → ((c : ℕ) → c < 256 → has_cell n c ≡ has_cell m c) → n ≡ m
has_cell_ext n m hn hm h = bit_ext 256 n m hn hm (λ c i. go c (has_cell n c) refl (sym (h c i)))
  where
    go : (c : ℕ) (t : Bool) → has_cell n c ≡ t → has_cell m c ≡ has_cell n c → bit n c ≡ bit m c
    go c true e f = (has_cell_iff n c).0 e ∙ sym ((has_cell_iff m c).0 (f ∙ e))
    go c false e f = bit_free n c e ∙ sym (bit_free m c (f ∙ e))

-- ---- the set of the cells of which a test holds

pub digit : (t : Bool) → cond t 1 0 ≤ 1
digit true = omega arith
digit false = omega arith

-- a cell is in the set of those of which a test holds if the test holds of it
pub has_cell_set_of : (test : ℕ → Bool) (cell : ℕ) → cell < 256 → has_cell (set_of test) cell ≡ test cell
unfolding has_cell set_of
has_cell_set_of test cell h = ap (λ (n : ℕ). eqb n 1) (bit_from_bits (λ c. cond (test c) 1 0) (λ c. digit (test c)) 256 cell h) ∙ back (test cell)
  where
    back : (t : Bool) → eqb (cond t 1 0) 1 ≡ t
    back true = refl
    back false = refl

-- a set of tested cells is one of 256 cells
pub set_of_lt : (test : ℕ → Bool) → set_of test < 2 ^ 256
unfolding set_of
set_of_lt test = from_bits_lt (λ c. cond (test c) 1 0) (λ c. digit (test c)) 256

-- ---- a set within another: by its cells, and its number is no greater

pub within_iff : (n m : ℕ) → Within n m ↔ ((c : ℕ) → So (has_cell n c) → So (has_cell m c))
within_iff n m = (λ w c h. (has_cell_iff m c).1 (omega (arith, w c, (has_cell_iff n c).0 h, bit_le m c)), from)
  where
    from : ((c : ℕ) → So (has_cell n c) → So (has_cell m c)) → Within n m
    from onto c = go (ℕ_discrete (bit n c) 1)
      where
        go : Dec (bit n c ≡ 1) → bit n c ≤ bit m c
        go (yes e) = omega (arith, (has_cell_iff m c).0 (onto c ((has_cell_iff n c).1 e)))
        go (no e) = omega (arith, bit_le n c)

within_le_upto : (k n m : ℕ) → n ≤ k → Within n m → n ≤ m
within_le_upto zero n m h w = omega arith
within_le_upto (suc k) n m h w =
    let halves = within_le_upto k (n / 2) (m / 2) (omega arith) (λ c. omega (arith, w (suc c), bit_suc n c, bit_suc m c)) in
    omega (arith, w 0, bit_zero n, bit_zero m)

pub within_le : (n m : ℕ) → Within n m → n ≤ m
within_le n m w = within_le_upto n n m (omega arith) w

-- ---- one cell more

-- a new cell is added by `+`
pub with_cell_new : (n c : ℕ) → c < 256 → bit n c ≡ 0 → with_cell n c ≡ n + 2 ^ c
unfolding with_cell
with_cell_new n c h e = rw (lt-ltb c 256 h, e) (ap (λ (m : ℕ). n + m) (one-mul (2 ^ c)))

pub with_cell_old : (n c : ℕ) → bit n c ≡ 1 → with_cell n c ≡ n
unfolding with_cell
with_cell_old n c e = go (ltb c 256) (bit n c) e
  where
    go : (b : Bool) (x : ℕ) → x ≡ 1 → cond b (n + (1 - x) * 2 ^ c) n ≡ n
    go true x q = rw q (omega arith)
    go false x q = refl

pub with_cell_past : (n c : ℕ) → 256 ≤ c → n ≡ with_cell n c
unfolding with_cell
with_cell_past n c h = rw (le-ltb c 256 h)

pub bit_with_cell_same : (n c : ℕ) → c < 256 → bit (with_cell n c) c ≡ 1
bit_with_cell_same n c h = go (ℕ_discrete (bit n c) 1)
  where
    go : Dec (bit n c ≡ 1) → bit (with_cell n c) c ≡ 1
    go (yes e) = rw (with_cell_old n c e) e
    go (no e) =
        let z : bit n c ≡ 0 = omega (arith, bit_le n c) in
        rw (with_cell_new n c h z) (omega (arith, bit_add c n (2 ^ c) (disjoint_pow n c z), bit_pow_same c))

pub bit_with_cell_other : (n c d : ℕ) → d ≢ c → bit (with_cell n c) d ≡ bit n d
unfolding with_cell
bit_with_cell_other n c d h = go (ltb c 256)
  where
    sum : (x : ℕ) → bit n c ≡ x → x ≤ 1 → bit (n + (1 - x) * 2 ^ c) d ≡ bit n d
    sum zero e i =
        ap (λ (m : ℕ). bit (n + m) d) (one-mul (2 ^ c)) ∙ omega (arith, bit_add d n (2 ^ c) (disjoint_pow n c e), bit_pow_other c d h)
    sum (suc zero) e i = ap (λ (m : ℕ). bit (n + m) d) (zero-mul (2 ^ c)) ∙ ap (λ (m : ℕ). bit m d) (add-zero n)
    sum (suc (suc x)) e i = absurd (omega arith)

    go : (b : Bool) → bit (cond b (n + (1 - bit n c) * 2 ^ c) n) d ≡ bit n d
    go true = sum (bit n c) refl (bit_le n c)
    go false = refl

-- the cells of a set with one cell more
pub has_cell_with_cell : (n c d : ℕ) → c < 256 → has_cell (with_cell n c) d ≡ (has_cell n d || eqb c d)
unfolding has_cell
has_cell_with_cell n c d h = go (ℕ_discrete d c)
  where
    go : Dec (d ≡ c) → eqb (bit (with_cell n c) d) 1 ≡ (eqb (bit n d) 1 || eqb c d)
    go (yes e) =
        eq-eqb (bit (with_cell n c) d) 1 (ap (bit (with_cell n c)) e ∙ bit_with_cell_same n c h)
        ∙ sym (ap (λ t. eqb (bit n d) 1 || t) (eq-eqb c d (sym e)) ∙ or-true (eqb (bit n d) 1))
    go (no e) =
        ap (λ (x : ℕ). eqb x 1) (bit_with_cell_other n c d e)
        ∙ sym (ap (λ t. eqb (bit n d) 1 || t) (ne_eqb c d (λ q. e (sym q))) ∙ or-false (eqb (bit n d) 1))

pub with_cell_lt : (k n c : ℕ) → n < 2 ^ k → c < k → with_cell n c < 2 ^ k
unfolding with_cell
with_cell_lt k n c h i = go (ltb c 256)
  where
    sum : (x : ℕ) → bit n c ≡ x → x ≤ 1 → n + (1 - x) * 2 ^ c < 2 ^ k
    sum zero e j = rw (one-mul (2 ^ c)) (add_lt k n (2 ^ c) h (pow-lt i) (disjoint_pow n c e))
    sum (suc zero) e j = rw (zero-mul (2 ^ c), add-zero n) h
    sum (suc (suc x)) e j = absurd (omega arith)

    go : (b : Bool) → cond b (n + (1 - bit n c) * 2 ^ c) n < 2 ^ k
    go true = sum (bit n c) refl (bit_le n c)
    go false = h

-- ---- unions and intersections

module _ (n m : ℕ) where
  most : (c : ℕ) → max (bit n c) (bit m c) ≤ 1
  most c = omega (arith, bit_le n c, bit_le m c)

  least : (c : ℕ) → min (bit n c) (bit m c) ≤ 1
  least c = omega (arith, bit_le n c, bit_le m c)

  pub union_of_lt : union_of n m < 2 ^ 256
  unfolding union_of
  union_of_lt = from_bits_lt (λ c. max (bit n c) (bit m c)) most 256

  pub bit_union_of : (c : ℕ) → c < 256 → bit (union_of n m) c ≡ max (bit n c) (bit m c)
  unfolding union_of
  bit_union_of c h = bit_from_bits (λ d. max (bit n d) (bit m d)) most 256 c h

  pub has_cell_union_of : (c : ℕ) → c < 256 → has_cell (union_of n m) c ≡ (has_cell n c || has_cell m c)
  has_cell_union_of c h = go (has_cell n c) (has_cell m c) refl refl
    where
      go : (x y : Bool) → has_cell n c ≡ x → has_cell m c ≡ y → has_cell (union_of n m) c ≡ (x || y)
      go true y e f = (has_cell_iff (union_of n m) c).1 (omega (arith, bit_union_of c h, (has_cell_iff n c).0 e, bit_le m c))
      go false true e f = (has_cell_iff (union_of n m) c).1 (omega (arith, bit_union_of c h, (has_cell_iff m c).0 f, bit_le n c))
      go false false e f = has_cell_false (union_of n m) c (omega (arith, bit_union_of c h, bit_free n c e, bit_free m c f))

  pub intersection_of_lt : intersection_of n m < 2 ^ 256
  unfolding intersection_of
  intersection_of_lt = from_bits_lt (λ c. min (bit n c) (bit m c)) least 256

  pub bit_intersection_of : (c : ℕ) → c < 256 → bit (intersection_of n m) c ≡ min (bit n c) (bit m c)
  unfolding intersection_of
  bit_intersection_of c h = bit_from_bits (λ d. min (bit n d) (bit m d)) least 256 c h

  -- disjoint sets are joined by `+`
  pub union_of_disjoint : n < 2 ^ 256 → m < 2 ^ 256 → Disjoint n m → union_of n m ≡ n + m
  union_of_disjoint hn hm d =
      bit_ext 256 (union_of n m) (n + m) union_of_lt (add_lt 256 n m hn hm d)
      (λ c h. bit_union_of c h ∙ omega (arith, bit_add c n m d, d c))

  -- a set within another is taken from it by `-`
  rest : ℕ
  rest = from_bits 256 (λ c. bit m c - bit n c)

  rest_digit : (c : ℕ) → bit m c - bit n c ≤ 1
  rest_digit c = omega (arith, bit_le m c)

  bit_rest : m < 2 ^ 256 → (c : ℕ) → bit rest c ≡ bit m c - bit n c
  unfolding rest
  bit_rest hm c = go (dec_lt c 256)
    where
      go : Dec (c < 256) → bit (from_bits 256 (λ d. bit m d - bit n d)) c ≡ bit m c - bit n c
      go (yes h) = bit_from_bits (λ d. bit m d - bit n d) rest_digit 256 c h
      go (no h) =
          let past : 256 ≤ c = omega arith in
          bit_high 256 (from_bits 256 (λ d. bit m d - bit n d)) c (from_bits_lt (λ d. bit m d - bit n d) rest_digit 256) past ∙ omega (arith, bit_high 256 m c hm past)

  sub_rest : n < 2 ^ 256 → m < 2 ^ 256 → Within n m → m - n ≡ rest
  unfolding rest
  sub_rest hn hm w =
      let apart : Disjoint n rest = λ c. omega (arith, bit_rest hm c, bit_le m c, w c) in
      let small : rest < 2 ^ 256 = from_bits_lt (λ c. bit m c - bit n c) rest_digit 256 in
      let whole : n + rest ≡ m = bit_ext 256 (n + rest) m (add_lt 256 n rest hn small apart) hm (λ c h. bit_add c n rest apart ∙ omega (arith, bit_rest hm c, w c)) in
      minus m n rest whole
    where
      minus : (a b c : ℕ) → b + c ≡ a → a - b ≡ c
      minus a b c e = omega arith

  pub bit_sub : n < 2 ^ 256 → m < 2 ^ 256 → Within n m → (c : ℕ) → bit (m - n) c ≡ bit m c - bit n c
  bit_sub hn hm w c = ap (λ (x : ℕ). bit x c) (sub_rest hn hm w) ∙ bit_rest hm c

  -- ---- sharing a cell

  pub disjoint_intersection_of : Disjoint n m → intersection_of n m ≡ 0
  disjoint_intersection_of d =
      bit_ext 256 (intersection_of n m) 0 intersection_of_lt (pow_pos 256)
      (λ c h. bit_intersection_of c h ∙ omega (arith, d c, zero_bit c))

  pub intersection_of_disjoint : n < 2 ^ 256 → intersection_of n m ≡ 0 → Disjoint n m
  intersection_of_disjoint hn e c = go (dec_lt c 256)
    where
      go : Dec (c < 256) → bit n c + bit m c ≤ 1
      go (yes h) = omega (arith, sym (bit_intersection_of c h) ∙ ap (λ (x : ℕ). bit x c) e ∙ zero_bit c, bit_le n c, bit_le m c)
      go (no h) = omega (arith, bit_high 256 n c hn (omega arith), bit_le m c)

  pub shares_cell_false : Disjoint n m → shares_cell n m ≡ false
  unfolding shares_cell
  shares_cell_false d = rw (eq-eqb (intersection_of n m) 0 (disjoint_intersection_of d))

  pub shares_cell_disjoint : n < 2 ^ 256 → shares_cell n m ≡ false → Disjoint n m
  unfolding shares_cell
  shares_cell_disjoint hn e = intersection_of_disjoint hn (eqb-true (intersection_of n m) 0 (not-false (eqb (intersection_of n m) 0) e))

-- a cell that is in both
pub shares_cell_true : (n m c : ℕ) → c < 256 → bit n c ≡ 1 → bit m c ≡ 1 → shares_cell n m ≡ true
unfolding shares_cell
shares_cell_true n m c h a b =
    rw (ne_eqb (intersection_of n m) 0 (λ e. omega (arith, sym (bit_intersection_of n m c h) ∙ ap (λ (x : ℕ). bit x c) e ∙ zero_bit c)))

-- a set is within its unions, and the union with a set within it is the set itself
pub within_union : (n m : ℕ) → n < 2 ^ 256 → Within n (union_of n m)
within_union n m l c = go (dec_lt c 256)
  where
    go : Dec (c < 256) → bit n c ≤ bit (union_of n m) c
    go (yes h) = omega (arith, bit_union_of n m c h)
    go (no h) = let none : bit n c ≡ 0 = bit_high 256 n c l (omega arith) in omega arith

pub union_within : (n m : ℕ) → m < 2 ^ 256 → Within n m → union_of n m ≡ m
union_within n m l w = bit_ext 256 (union_of n m) m (union_of_lt n m) l (λ c h. bit_union_of n m c h ∙ omega (arith, w c))

-- ---- how many cells

pub size_below_le : (k n : ℕ) → size_below k n ≤ k
unfolding size_below
size_below_le zero n = zero-le
size_below_le (suc k) n = omega (arith, size_below_le k n, bit_le n k)

pub size_below_zero : (k : ℕ) → size_below k 0 ≡ 0
unfolding size_below
size_below_zero zero = refl
size_below_zero (suc k) = omega (arith, size_below_zero k, zero_bit k)

pub size_below_add : (k n m : ℕ) → Disjoint n m → size_below k (n + m) ≡ size_below k n + size_below k m
unfolding size_below
size_below_add zero n m d = refl
size_below_add (suc k) n m d = omega (arith, size_below_add k n m d, bit_add k n m d)

size_below_pow_none : (k c : ℕ) → k ≤ c → size_below k (2 ^ c) ≡ 0
unfolding size_below
size_below_pow_none zero c h = refl
size_below_pow_none (suc k) c h = omega (arith, size_below_pow_none k c (omega arith), bit_pow_other c k (λ e. omega arith))

pub size_below_pow : (k c : ℕ) → c < k → size_below k (2 ^ c) ≡ 1
unfolding size_below
size_below_pow zero c h = absurd (omega arith)
size_below_pow (suc k) c h = go (ℕ_discrete k c) (size_below_pow k c)
  where
    go : Dec (k ≡ c) → (c < k → size_below k (2 ^ c) ≡ 1) → size_below k (2 ^ c) + bit (2 ^ c) k ≡ 1
    go (yes e) below = omega (arith, size_below_pow_none k c (omega arith), subst (λ (x : ℕ). bit (2 ^ c) x ≡ 1) (sym e) (bit_pow_same c))
    go (no n) below = omega (arith, below (omega arith), bit_pow_other c k n)

-- the machine's count of ones
pub size_le : (n : ℕ) → size n ≤ 256
unfolding size
size_le n = size_below_le 256 n

pub size_zero : size 0 ≡ 0
unfolding size
size_zero = size_below_zero 256

-- the sizes of disjoint sets add up
pub size_add : (n m : ℕ) → Disjoint n m → size (n + m) ≡ size n + size m
unfolding size
size_add n m d = size_below_add 256 n m d

size_below_with_cell_new : (k n c : ℕ) → c < k → c < 256 → bit n c ≡ 0 → size_below k (with_cell n c) ≡ suc (size_below k n)
size_below_with_cell_new k n c i h e =
    ap (size_below k) (with_cell_new n c h e) ∙ omega (arith, size_below_add k n (2 ^ c) (disjoint_pow n c e), size_below_pow k c i)

pub size_with_cell_new : (n c : ℕ) → c < 256 → bit n c ≡ 0 → size (with_cell n c) ≡ suc (size n)
unfolding size
size_with_cell_new n c h e = size_below_with_cell_new 256 n c h h e

-- a set with no cell is 0
size_below_none : (n k c : ℕ) → c < k → size_below k n ≡ 0 → bit n c ≡ 0
unfolding size_below
size_below_none n zero c i q = absurd (omega arith)
size_below_none n (suc k) c i q = go (ℕ_discrete c k) (size_below_none n k c)
  where
    go : Dec (c ≡ k) → (c < k → size_below k n ≡ 0 → bit n c ≡ 0) → bit n c ≡ 0
    go (yes j) below = rw j (omega arith)
    go (no j) below = below (omega arith) (omega arith)

pub size_none : (n : ℕ) → n < 2 ^ 256 → size n ≡ 0 → n ≡ 0
unfolding size
size_none n h e = bit_ext 256 n 0 h (pow_pos 256) (λ c i. size_below_none n 256 c i e ∙ sym (zero_bit c))
