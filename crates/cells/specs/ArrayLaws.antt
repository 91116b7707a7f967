-- Laws of lists given by their elements, and of the two loops that make and test them: an array that is filled in order (`Filled`), and a test
-- of every number below n. Rests on `Lists`. Assumes nothing.
use Rattle.std.specs.Prelude.{◌≡◌, Bool, true, false, ◌&&◌, ◌||◌, length, get_or, set, replicate}
use Rattle.std.proofs.Math.Path.{refl, ap, ap₂}
use Rattle.std.proofs.Common.{sym, ◌∙◌, subst, add-zero, zero-add, mul-zero, mul-suc, add-one, length-append, length-set, ext_get_or, get_or-set_same, get_or-set_other}
use Rattle.std.proofs.Math.Bool.{So, and-false, or-true}
use Rattle.std.proofs.lemmas.Bool.{false≢true}
use mathlib.Core.List.{List, [], ◌∷◌, ◌++◌, flat_map}
use Prim.Native.Nat.{ℕ, zero, suc, ◌+◌, ◌-◌, ◌*◌, ◌≤◌, ◌<◌}
use Rattle.std.proofs.Math.Decide.{ℕ_discrete, dec_lt}
use native.Mathlib.Omega.{arith}
use Rattle.std.proofs.lemmas.List.{length-replicate, get_or-replicate}
use Rattle.std.proofs.Math.ListN.{get_or-append, get_or-eq_default}
use Rattle.cells.specs.Lists.{any, list_from, list_of, padded, all_below}

-- within a list the default makes no difference
pub get_d_any : {A : Type 0} (l : List A) (k : ℕ) (d e : A) → k < length l → get_or l k d ≡ get_or l k e
get_d_any [] k d e h = absurd (omega arith)
get_d_any (x ∷ l) zero d e h = refl
get_d_any (x ∷ l) (suc k) d e h = get_d_any l k d e (omega arith)

-- a list with one more: every other place is as it was
pub get_d_snoc : {A : Type 0} (xs : List A) (x d : A) (k : ℕ) → (k ≡ length xs → ⊥) → get_or (xs ++ x ∷ []) k d ≡ get_or xs k d
get_d_snoc xs x d k n = go (dec_lt k (length xs))
  where
    go : Dec (k < length xs) → get_or (xs ++ x ∷ []) k d ≡ get_or xs k d
    go (yes h) = get_or-append xs (x ∷ []) d k h
    go (no h) =
        let a : length (xs ++ x ∷ []) ≤ k = omega (arith, length-append xs (x ∷ [])) in
        let b : length xs ≤ k = omega arith in
        get_or-eq_default (xs ++ x ∷ []) d a ∙ sym (get_or-eq_default xs d b)

-- behind a list stands the next
pub get_d_append_add : {A : Type 0} (xs ys : List A) (k : ℕ) (d : A) → get_or (xs ++ ys) (length xs + k) d ≡ get_or ys k d
get_d_append_add [] ys k d = ap (λ (i : ℕ). get_or ys i d) (zero-add k)
get_d_append_add (x ∷ xs) ys k d =
    let e : length (x ∷ xs) + k ≡ suc (length xs + k) = omega arith in
    ap (λ (i : ℕ). get_or (x ∷ xs ++ ys) i d) e ∙ get_d_append_add xs ys k d

next_block : (m n w j l : ℕ) → m ≡ n + w → l ≡ w → m + j ≡ l + (n + j)
next_block m n w j l e h = omega arith

-- equally long lists one behind the other: place w * i + j is place j of list i
pub get_d_block : {A : Type 0} (w : ℕ) (f : A → List ℕ) → ((x : A) → length (f x) ≡ w) → (d : A) → ((j : ℕ) → get_or (f d) j 0 ≡ 0)
    → (xs : List A) (i j : ℕ) → j < w → get_or (flat_map f xs) (w * i + j) 0 ≡ get_or (f (get_or xs i d)) j 0
unfolding flat_map
get_d_block w f len d zeros [] i j h = sym (zeros j)
get_d_block w f len d zeros (x ∷ xs) zero j h =
    ap (λ (k : ℕ). get_or (f x ++ flat_map f xs) (k + j) 0) (mul-zero w) ∙ ap (λ (k : ℕ). get_or (f x ++ flat_map f xs) k 0) (zero-add j) ∙ get_or-append (f x) (flat_map f xs) 0 j (omega (arith, len x))
get_d_block w f len d zeros (x ∷ xs) (suc i) j h =
    ap (λ (k : ℕ). get_or (f x ++ flat_map f xs) k 0) (next_block (w * suc i) (w * i) w j (length (f x)) (mul-suc w i) (len x))
    ∙ get_d_append_add (f x) (flat_map f xs) (w * i + j) 0
    ∙ get_d_block w f len d zeros xs i j h

module _ {A : Type 0} where
  pub length_list_from : (f : ℕ → A) (i n : ℕ) → length (list_from f i n) ≡ n
  unfolding list_from
  length_list_from f i zero = refl
  length_list_from f i (suc n) = ap suc (length_list_from f (suc i) n)

  pub get_d_list_from : (f : ℕ → A) (i n k : ℕ) (d : A) → k < n → get_or (list_from f i n) k d ≡ f (i + k)
  unfolding list_from
  get_d_list_from f i zero k d h = absurd (omega arith)
  get_d_list_from f i (suc n) zero d h = ap f (sym (add-zero i))
  get_d_list_from f i (suc n) (suc k) d h = let e : suc i + k ≡ i + suc k = omega arith in get_d_list_from f (suc i) n k d (omega arith) ∙ ap f e

  pub list_from_ext : (f g : ℕ → A) (i n : ℕ) → ((k : ℕ) → i ≤ k → k < i + n → f k ≡ g k) → list_from f i n ≡ list_from g i n
  unfolding list_from
  list_from_ext f g i zero h = refl
  list_from_ext f g i (suc n) h = ap₂ ◌∷◌ (h i (omega arith) (omega arith)) (list_from_ext f g (suc i) n (λ k a b. h k (omega arith) (omega arith)))

  -- one more at the end
  pub list_from_snoc : (f : ℕ → A) (i n : ℕ) → list_from f i (suc n) ≡ list_from f i n ++ f (i + n) ∷ []
  unfolding list_from
  list_from_snoc f i zero = ap (λ (k : ℕ). f k ∷ []) (sym (add-zero i))
  list_from_snoc f i (suc n) =
      let e : suc i + n ≡ i + suc n = omega arith in
      ap (λ (l : List A). f i ∷ l) (list_from_snoc f (suc i) n ∙ ap (λ (k : ℕ). list_from f (suc i) n ++ f k ∷ []) e)

  pub length_list_of : (f : ℕ → A) (n : ℕ) → length (list_of f n) ≡ n
  unfolding list_of
  length_list_of f n = length_list_from f 0 n

  pub get_d_list_of : (f : ℕ → A) (n k : ℕ) (d : A) → k < n → get_or (list_of f n) k d ≡ f k
  unfolding list_of
  get_d_list_of f n k d h = get_d_list_from f 0 n k d h ∙ ap f (zero-add k)

  pub list_of_ext : (f g : ℕ → A) (n : ℕ) → ((k : ℕ) → k < n → f k ≡ g k) → list_of f n ≡ list_of g n
  unfolding list_of
  list_of_ext f g n h = list_from_ext f g 0 n (λ k a b. h k (omega arith))

  pub list_of_snoc : (f : ℕ → A) (n : ℕ) → list_of f (n + 1) ≡ list_of f n ++ f n ∷ []
  unfolding list_of
  list_of_snoc f n = ap (list_from f 0) (add-one n) ∙ list_from_snoc f 0 n ∙ ap (λ (k : ℕ). list_from f 0 n ++ f k ∷ []) (zero-add n)

  -- a list is what it has at its places
  pub list_of_eta : (d : A) (xs : List A) (f : ℕ → A) (n : ℕ) → length xs ≡ n → ((k : ℕ) → k < n → get_or xs k d ≡ f k) → xs ≡ list_of f n
  list_of_eta d xs f n e h =
      ext_get_or d xs (list_of f n) (e ∙ sym (length_list_of f n))
      (λ k i. let j : k < n = omega arith in h k j ∙ sym (get_d_list_of f n k d j))

  pub list_of_get_d : (d : A) (xs : List A) → list_of (λ k. get_or xs k d) (length xs) ≡ xs
  list_of_get_d d xs = sym (list_of_eta d xs (λ k. get_or xs k d) (length xs) refl (λ k h. refl))

  -- ---- an array of n elements that is filled in order: it has f's elements before the place j, and still g's from j on
  pub record Filled (d : A) (f g : ℕ → A) (n j : ℕ) (xs : List A) : Type 0 where
    pub long : length xs ≡ n
    pub done : (k : ℕ) → k < j → k < n → get_or xs k d ≡ f k
    pub left : (k : ℕ) → j ≤ k → k < n → get_or xs k d ≡ g k

  pub filled_start : (d : A) (f g : ℕ → A) (n j : ℕ) (xs : List A) → length xs ≡ n → ((k : ℕ) → k < n → get_or xs k d ≡ g k) → ((k : ℕ) → k < j → f k ≡ g k) → Filled d f g n j xs
  filled_start d f g n j xs e h s = record { long = e; done = λ k i l. h k l ∙ sym (s k i); left = λ k i l. h k l }

  pub filled_step : (d : A) (f g : ℕ → A) (n j : ℕ) (xs : List A) (v : A) → Filled d f g n j xs → j < n → v ≡ f j → Filled d f g n (j + 1) (set xs j v)
  filled_step d f g n j xs v h i e =
      record {
        long = length-set xs j v ∙ h.long;
        done = λ k a b. done k a b (ℕ_discrete k j);
        left = λ k a b. get_or-set_other xs j k v d (λ q. omega arith) ∙ h.left k (omega arith) b;
      }
    where
      done : (k : ℕ) → k < j + 1 → k < n → Dec (k ≡ j) → get_or (set xs j v) k d ≡ f k
      done k a b (yes q) = ap (λ (x : ℕ). get_or (set xs j v) x d) q ∙ get_or-set_same xs j v d (omega (arith, h.long)) ∙ e ∙ ap f (sym q)
      done k a b (no q) = get_or-set_other xs j k v d q ∙ h.done k (omega arith) b

  -- the same with the place told from a
  pub filled_step_from : (d : A) (f g : ℕ → A) (n a j : ℕ) (xs : List A) (v : A) → Filled d f g n (a + j) xs → a + j < n → v ≡ f (a + j) → Filled d f g n (a + (j + 1)) (set xs (a + j) v)
  filled_step_from d f g n a j xs v h i e = let q : a + j + 1 ≡ a + (j + 1) = omega arith in subst (λ (k : ℕ). Filled d f g n k (set xs (a + j) v)) q (filled_step d f g n (a + j) xs v h i e)

  pub filled_end : (d : A) (f g : ℕ → A) (n j : ℕ) (xs : List A) → Filled d f g n j xs → ((k : ℕ) → j ≤ k → k < n → g k ≡ f k) → xs ≡ list_of f n
  filled_end d f g n j xs h s = list_of_eta d xs f n h.long (λ k i. go k i (dec_lt k j))
    where
      go : (k : ℕ) → k < n → Dec (k < j) → get_or xs k d ≡ f k
      go k i (yes a) = h.done k a i
      go k i (no a) = let b : j ≤ k = omega arith in h.left k b i ∙ s k b i

-- an array of one value
pub replicate_list_of : {A : Type 0} (d : A) (n : ℕ) (v : A) → replicate n v ≡ list_of (λ k. v) n
replicate_list_of d n v = list_of_eta d (replicate n v) (λ k. v) n (length-replicate n v) (λ k h. get_or-replicate n k v d h)

-- ---- some element of a list given by its elements

module _ {A : Type 0} (p : A → Bool) (f : ℕ → A) where
  any_from : (i n k : ℕ) → k < n → p (f (i + k)) ≡ true → any p (list_from f i n) ≡ true
  unfolding any list_from
  any_from i zero k h e = absurd (omega arith)
  any_from i (suc n) zero h e = rw (sym (ap (λ (j : ℕ). p (f j)) (add-zero i)) ∙ e)
  any_from i (suc n) (suc k) h e =
      let q : suc i + k ≡ i + suc k = omega arith in
      ap (λ (b : Bool). p (f i) || b) (any_from (suc i) n k (omega arith) (ap (λ (j : ℕ). p (f j)) q ∙ e)) ∙ or-true (p (f i))

  none_from : (i n : ℕ) → ((k : ℕ) → k < n → p (f (i + k)) ≡ false) → any p (list_from f i n) ≡ false
  unfolding any list_from
  none_from i zero h = refl
  none_from i (suc n) h =
      rw (sym (ap (λ (j : ℕ). p (f j)) (add-zero i)) ∙ h 0 (omega arith))
      (none_from (suc i) n (λ k l. let q : suc i + k ≡ i + suc k = omega arith in ap (λ (j : ℕ). p (f j)) q ∙ h (suc k) (omega arith)))

  pub any_list_of : (n k : ℕ) → k < n → p (f k) ≡ true → any p (list_of f n) ≡ true
  unfolding list_of
  any_list_of n k h e = any_from 0 n k h (ap (λ (j : ℕ). p (f j)) (zero-add k) ∙ e)

  pub none_list_of : (n : ℕ) → ((k : ℕ) → k < n → p (f k) ≡ false) → any p (list_of f n) ≡ false
  unfolding list_of
  none_list_of n h = none_from 0 n (λ k l. ap (λ (j : ℕ). p (f j)) (zero-add k) ∙ h k l)

-- ---- a test of every number below n

pub all_below_none : (p : ℕ → Bool) → all_below p 0 ≡ true
unfolding all_below
all_below_none p = refl

pub all_below_more : (p : ℕ → Bool) (n : ℕ) → all_below p n ≡ true → p n ≡ true → all_below p (n + 1) ≡ true
unfolding all_below
all_below_more p n h e = ap (all_below p) (add-one n) ∙ rw (h, e)

pub all_below_fails : (p : ℕ → Bool) (n i : ℕ) → i < n → p i ≡ false → all_below p n ≡ false
unfolding all_below
all_below_fails p zero i h e = absurd (omega arith)
all_below_fails p (suc n) i h e = go (ℕ_discrete i n) (all_below_fails p n i)
  where
    go : Dec (i ≡ n) → (i < n → p i ≡ false → all_below p n ≡ false) → (all_below p n && p n) ≡ false
    go (yes q) below = rw (← q, e) (and-false (all_below p i))
    go (no q) below = rw (below (omega arith) e)

pub all_below_at : (p : ℕ → Bool) (n i : ℕ) → So (all_below p n) → i < n → So (p i)
all_below_at p n i h k = go (p i) refl
  where
    go : (b : Bool) → p i ≡ b → p i ≡ true
    go true e = e
    go false e = absurd (false≢true (sym (all_below_fails p n i k e) ∙ h))

pub all_below_all : (p : ℕ → Bool) (n : ℕ) → ((i : ℕ) → i < n → p i ≡ true) → all_below p n ≡ true
unfolding all_below
all_below_all p zero h = refl
all_below_all p (suc n) h = rw (all_below_all p n (λ i k. h i (omega arith)), h n (omega arith))

-- ---- numbers with zeros behind

pub length_padded : (ns : List ℕ) (count : ℕ) → length (padded ns count) ≡ count
unfolding padded
length_padded ns count = length_list_of (λ k. get_or ns k 0) count

pub get_d_padded : (ns : List ℕ) (count k : ℕ) → k < count → get_or (padded ns count) k 0 ≡ get_or ns k 0
unfolding padded
get_d_padded ns count k h = get_d_list_of (λ i. get_or ns i 0) count k 0 h

pub padded_none : (count k : ℕ) → get_or (padded [] count) k 0 ≡ 0
padded_none count k = go (dec_lt k count)
  where
    go : Dec (k < count) → get_or (padded [] count) k 0 ≡ 0
    go (yes h) = get_d_padded [] count k h
    go (no h) = get_or-eq_default (padded [] count) 0 (omega (arith, length_padded [] count))

-- numbers that there is room for, zeros behind
pub padded_room : (ns : List ℕ) (count : ℕ) → length ns ≤ count → padded ns count ≡ ns ++ replicate (count - length ns) 0
padded_room ns count h =
    let zeros : List ℕ = replicate (count - length ns) 0 in
    let long : length (ns ++ replicate (count - length ns) 0) ≡ count = simp (length-append, length-replicate) (omega arith) in
    let p = length_padded ns count in
    ext_get_or 0 (padded ns count) (ns ++ zeros) (p ∙ sym long)
    (λ i l. let less : i < count = omega arith in get_d_padded ns count i less ∙ go i less (dec_lt i (length ns)))
  where
    go : (i : ℕ) → i < count → Dec (i < length ns) → get_or ns i 0 ≡ get_or (ns ++ replicate (count - length ns) 0) i 0
    go i l (yes k) = sym (get_or-append ns (replicate (count - length ns) 0) 0 i k)
    go i l (no k) =
        let e : i ≡ length ns + (i - length ns) = omega arith in
        get_or-eq_default ns 0 (omega arith)
        ∙ sym (ap (λ (p : ℕ). get_or (ns ++ replicate (count - length ns) 0) p 0) e
        ∙ get_d_append_add ns (replicate (count - length ns) 0) (i - length ns) 0
        ∙ get_or-replicate (count - length ns) (i - length ns) 0 0 (omega arith))

-- no numbers are zeros
pub padded_empty : (count : ℕ) → padded [] count ≡ replicate count 0
unfolding padded
padded_empty count = list_of_ext {A = ℕ} (λ k. get_or [] k 0) (λ k. 0) count (λ k h. refl) ∙ sym (replicate_list_of 0 count 0)

-- a zero behind the last number says nothing
pub padded_zero : (ns : List ℕ) (count : ℕ) → padded (ns ++ 0 ∷ []) count ≡ padded ns count
unfolding padded
padded_zero ns count = list_of_ext (λ k. get_or (ns ++ 0 ∷ []) k 0) (λ k. get_or ns k 0) count (λ k h. same ns k)
  where
    same : (ns : List ℕ) (k : ℕ) → get_or (ns ++ 0 ∷ []) k 0 ≡ get_or ns k 0
    same [] zero = refl
    same [] (suc k) = refl
    same (n ∷ ns) zero = refl
    same (n ∷ ns) (suc k) = same ns k

-- a loop that writes numbers into lent words in order, from the first word to the last: before it,
pub padded_start : (f : ℕ → ℕ) (ws : List ℕ) → Filled 0 f (λ k. get_or ws k 0) (length ws) 0 ws
padded_start f ws = filled_start 0 f (λ k. get_or ws k 0) (length ws) 0 ws refl (λ k h. refl) (λ k h. absurd (omega arith))

-- and behind it
pub padded_end : (ns ws xs : List ℕ) (i : ℕ) → Filled 0 (λ k. get_or ns k 0) (λ k. get_or ws k 0) (length ws) i xs → length ws ≤ i → xs ≡ padded ns (length ws)
unfolding padded
padded_end ns ws xs i h e = filled_end 0 (λ k. get_or ns k 0) (λ k. get_or ws k 0) (length ws) i xs h (λ k a b. absurd (omega arith))

-- paths of 32 codes each, one behind the other
pub padded_block : (ps : List (List ℕ)) (i j : ℕ) → j < 32 → get_or (flat_map (λ (p : List ℕ). padded p 32) ps) (32 * i + j) 0 ≡ get_or (get_or ps i []) j 0
padded_block ps i j h =
    get_d_block 32 (λ (p : List ℕ). padded p 32) (λ p. length_padded p 32) [] (padded_none 32) ps i j h ∙ get_d_padded (get_or ps i []) 32 j h
