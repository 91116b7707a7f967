-- Laws of codes: the test of each, the image of a path, and paths as they are stored. Assumes nothing.
use Rattle.std.specs.Prelude.{◌≡◌, refl, Bool, ◌&&◌, cond, Result, Ok, Err, List, [], ◌∷◌, ◌++◌, map, ℕ, zero, suc, ◌+◌, ◌-◌, ◌≤◌, ◌<◌, ltb, length, get_or, take, drop, replicate}
use Rattle.std.specs.Array.{IsFromFnResult, IsFromFnResultFrom}
use Rattle.std.specs.Fn.{Called}
use Rattle.std.specs.List.{list_all}
use Rattle.std.specs.Result.{result_unwrap_or}
use Rattle.std.proofs.Common.{sym, ap, ap₂, ◌∙◌, subst, arith, lt-ltb, le-ltb, length-take-le, get_or-take}
use Rattle.std.proofs.Math.Decide.{dec_lt}
use Rattle.std.proofs.Math.ListN.{length-map, get_or-eq_default, get_or-map}
use Rattle.std.proofs.Math.Nat.{add-zero}
use Rattle.std.proofs.lemmas.List.{drop-replicate}
use denote.Param.Members.{Mut}
use Rattle.cells.specs.Lists.{list_of, padded}
use Rattle.cells.specs.ArrayLaws.{get_d_any, list_of_eta, list_of_ext, padded_room}
use Rattle.refusal.specs.declared.Refusal.{Refusal}
use Rattle.refusal.specs.Refusal.{refusal_number, answer_of}
use Rattle.refusal.specs.RefusalLaws.{given_inj, refused_given}
use Rattle.direction.specs.Direction.{on_code}
use Rattle.direction.specs.DirectionLaws.{on_code_past, on_code_given}
use Rattle.tile.specs.Path.{Path, codes_ok, tile_of}

-- ---- every code is one of 0 to 7

pub codes_ok_all : (path : Path) → list_all (λ code. ltb code 8) path ≡ codes_ok path
unfolding codes_ok
codes_ok_all [] = refl
codes_ok_all (code ∷ path) = ap (λ t. ltb code 8 && t) (codes_ok_all path)

-- ---- the image of a code

-- the code that is answered, or else the code itself
pub unwrap_or_on_code : (t : Result ℕ Refusal) (code f : ℕ) → answer_of t ≡ on_code code f → (8 ≤ code → f ≡ code) → result_unwrap_or t code ≡ f
unfolding on_code
unwrap_or_on_code t code f e past = go t (dec_lt code 8) e
  where
    go : (t : Result ℕ Refusal) → Dec (code < 8) → answer_of t ≡ on_code code f → result_unwrap_or t code ≡ f
    go (Ok other) (yes h) q = given_inj other f (q ∙ on_code_given code f h)
    go (Ok other) (no h) q = absurd (refused_given 5 other (on_code_past code f (omega arith) ∙ sym q))
    go (Err r) (yes h) q = absurd (refused_given (refusal_number r) f (q ∙ on_code_given code f h))
    go (Err r) (no h) q = sym (past (omega arith))

-- ---- an array that is made by a closure

-- an array that a closure fills that stays as it is, and answers h of each number
module _ {F B : Type 0} (g : Mut F (ℕ × Unit {0}) B) (f : F) (ys : List B) (h : ℕ → B) (d : B)
    (same : (x : ℕ) (y : B) (q : F) → Called g f (x, tt) y q → (q ≡ f) × (y ≡ h x)) where
  each_of : (n i : ℕ) (p : F) → p ≡ f → IsFromFnResultFrom g p ys i n → (k : ℕ) → k < n → get_or ys (i + k) d ≡ h (i + k)
  each_of zero i p e r k l = absurd (omega arith)
  each_of (suc n) i p e (q, y, at, called, rest) zero l =
      let s = same i y q (subst (λ (r : F). Called g r (i, tt) y q) e called) in
      rw (add-zero i) (at.1 d ∙ s.1)
  each_of (suc n) i p e (q, y, at, called, rest) (suc k) l =
      let s = same i y q (subst (λ (r : F). Called g r (i, tt) y q) e called) in
      let m : i + suc k ≡ (i + 1) + k = omega arith in
      rw m (each_of n (i + 1) q s.0 rest k (omega arith))

  pub made_of : (n : ℕ) → IsFromFnResult g f ys n → ys ≡ list_of h n
  made_of n r =
      list_of_eta d ys h n r.long
      (λ k l. let z : 0 + k ≡ k = omega arith in rw z at (each_of n 0 f refl r.each k l))

-- the image of a path, with zeros behind
pub image_codes : (f : ℕ → ℕ) (xs : List ℕ) (n : ℕ) → n ≤ length xs → list_of (λ k. cond (ltb k n) (f (get_or xs k 0)) 0) 32 ≡ list_of (λ k. get_or (map f (take n xs)) k 0) 32
image_codes f xs n h = list_of_ext (λ k. cond (ltb k n) (f (get_or xs k 0)) 0) (λ k. get_or (map f (take n xs)) k 0) 32 (λ k i. each k (dec_lt k n))
  where
    long : length (map f (take n xs)) ≡ n
    long = length-map (take n xs) f ∙ length-take-le n xs h

    each : (k : ℕ) → Dec (k < n) → cond (ltb k n) (f (get_or xs k 0)) 0 ≡ get_or (map f (take n xs)) k 0
    each k (yes l) =
        let j : k < length (map f (take n xs)) = omega (arith, long) in
        rw (lt-ltb k n l) (ap f (sym (get_or-take n xs k 0 l)) ∙ sym (get_or-map f (take n xs) k 0) ∙ get_d_any (map f (take n xs)) k (f 0) 0 j)
    each k (no l) =
        let m : n ≤ k = omega arith in
        let j : length (map f (take n xs)) ≤ k = omega (arith, long) in
        rw (le-ltb k n m) (sym (get_or-eq_default (map f (take n xs)) 0 j))

-- a tile that has a path's length and codes, with zeros behind, stores the path
pub stores : (p : Path) (n : ℕ) (codes : List ℕ) → n ≡ length p → codes ≡ list_of (λ k. get_or p k 0) 32 → record { len = n; codes = codes } ≡ tile_of p
unfolding tile_of padded
stores p n codes e q = λ i. record { len = e i; codes = q i }

-- the same, where the path is written over the first of 32 zeros
pub stores_over : (p : Path) (n : ℕ) (codes : List ℕ) → n ≡ length p → n ≤ 32 → codes ≡ p ++ drop n (replicate 32 0) → record { len = n; codes = codes } ≡ tile_of p
unfolding tile_of
stores_over p n codes e h q =
    let room : codes ≡ padded p 32 = q ∙ ap₂ (λ (k : ℕ) (zs : List ℕ). p ++ zs) e (drop-replicate n 32 0 ∙ ap (λ (k : ℕ). replicate (32 - k) 0) e) ∙ sym (padded_room p 32 (omega arith)) in
    λ i. record { len = e i; codes = room i }
