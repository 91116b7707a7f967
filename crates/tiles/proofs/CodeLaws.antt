-- Laws of codes: whether two paths are the same, parts of an array, one array laid over another, and which tile is a single one. Assumes nothing.
use Rattle.std.specs.Prelude.{◌≡◌, refl, Bool, true, false, ◌&&◌, List, [], ◌∷◌, ◌++◌, ℕ, ◌+◌, ◌-◌, ◌*◌, ◌≤◌, ◌<◌, eqb, leb, length, get_or, take, drop, MatchBool}
use Rattle.std.specs.List.{HoldsAt, AllWithin}
use Rattle.std.proofs.Common.{sym, ap, ◌∙◌, arith, lt-ltb, le-ltb, le-leb, eqb-true, eq-eqb, length-append, length-drop, length-take-le, get_or-take}
use Rattle.std.proofs.Math.Bool.{and-false}
use Rattle.std.proofs.Math.Decide.{dec_lt}
use Rattle.std.proofs.lemmas.Bool.{lt-leb, false≢true}
use Rattle.std.proofs.lemmas.List.{get_or-drop}
use Rattle.std.proofs.Math.ListN.{get_or-append}
use lib.Pointwise.{pointwise}
use Rattle.cells.specs.Lists.{list_of}
use Rattle.cells.specs.ArrayLaws.{list_of_eta, get_d_append_add}
use Rattle.tile.specs.Path.{Path}
use Rattle.tiles.specs.declared.Tiles.{Tiles}
use Rattle.tiles.specs.Paths.{same_path, overlay, contains_single, paths_in}
use Rattle.tiles.specs.StoredLaws.{contains_single_true, contains_single_false}

-- ---- two paths are the same

pub same_path_pointwise : (a b : Path) → pointwise eqb a b ≡ same_path a b
unfolding same_path
same_path_pointwise [] [] = refl
same_path_pointwise [] (d ∷ ds) = refl
same_path_pointwise (c ∷ cs) [] = refl
same_path_pointwise (c ∷ cs) (d ∷ ds) = ap (λ (t : Bool). eqb c d && t) (same_path_pointwise cs ds)

-- a part from a to a + n has n elements
pub add_sub : (a n : ℕ) → a + n - a ≡ n
add_sub a n = omega arith

-- ---- a part of 32 codes

pub part_is : (codes : List ℕ) (a : ℕ) → a + 32 ≤ length codes → take (a + 32 - a) (drop a codes) ≡ list_of (λ j. get_or codes (a + j) 0) 32
part_is codes a h =
    ap (λ (n : ℕ). take n (drop a codes)) (add_sub a 32)
    ∙ list_of_eta 0 (take 32 (drop a codes)) (λ j. get_or codes (a + j) 0) 32
    (length-take-le 32 (drop a codes) (omega (arith, length-drop a codes)))
    (λ k i. get_or-take 32 (drop a codes) k 0 i ∙ get_or-drop a codes k 0)

-- ---- one array laid over another

pub overlay_inside : (a : ℕ) (ds cs : List ℕ) (j : ℕ) → j < 32 → get_or ds j 0 ≡ overlay a ds cs (a + j)
unfolding overlay
overlay_inside a ds cs j h =
    let p : a ≤ a + j = omega arith in
    let q : a + j < a + 32 = omega arith in
    rw (le-leb a (a + j) p, lt-ltb (a + j) (a + 32) q) (ap (λ (k : ℕ). get_or ds k 0) (sym (add_sub a j)))

pub overlay_before : (a : ℕ) (ds cs : List ℕ) (k : ℕ) → k < a → overlay a ds cs k ≡ get_or cs k 0
unfolding overlay
overlay_before a ds cs k h = rw (lt-leb a k h)

pub overlay_behind : (a : ℕ) (ds cs : List ℕ) (k : ℕ) → a + 32 ≤ k → get_or cs k 0 ≡ overlay a ds cs k
unfolding overlay
overlay_behind a ds cs k h = rw (le-ltb k (a + 32) h, and-false (leb a k))

module _ (a : ℕ) (ds cs : List ℕ) (n : ℕ) (l : length ds ≡ 32) (h : a + 32 ≤ length cs) (e : length cs ≡ n) where
  long : length (take a cs) ≡ a
  long = length-take-le a cs (omega arith)

  each : (k : ℕ) → k < n → Dec (k < a) → Dec (k < a + 32) → get_or (take a cs ++ (ds ++ drop (a + 32) cs)) k 0 ≡ overlay a ds cs k
  each k i (yes b) c = get_or-append (take a cs) (ds ++ drop (a + 32) cs) 0 k (omega (arith, long)) ∙ get_or-take a cs k 0 b ∙ sym (overlay_before a ds cs k b)
  each k i (no b) (yes c) =
      let j : k ≡ length (take a cs) + (k - a) = omega (arith, long) in
      let m : k ≡ a + (k - a) = omega arith in
      ap (λ (x : ℕ). get_or (take a cs ++ (ds ++ drop (a + 32) cs)) x 0) j
      ∙ get_d_append_add (take a cs) (ds ++ drop (a + 32) cs) (k - a) 0
      ∙ get_or-append ds (drop (a + 32) cs) 0 (k - a) (omega arith)
      ∙ overlay_inside a ds cs (k - a) (omega arith)
      ∙ sym (ap (overlay a ds cs) m)
  each k i (no b) (no c) =
      let j : k ≡ length (take a cs) + (length ds + (k - (a + 32))) = omega (arith, long) in
      let m : a + 32 + (k - (a + 32)) ≡ k = omega arith in
      ap (λ (x : ℕ). get_or (take a cs ++ (ds ++ drop (a + 32) cs)) x 0) j
      ∙ get_d_append_add (take a cs) (ds ++ drop (a + 32) cs) (length ds + (k - (a + 32))) 0
      ∙ get_d_append_add ds (drop (a + 32) cs) (k - (a + 32)) 0
      ∙ get_or-drop (a + 32) cs (k - (a + 32)) 0
      ∙ ap (λ (x : ℕ). get_or cs x 0) m
      ∙ overlay_behind a ds cs k (omega arith)

  pub overlay_is : take a cs ++ (ds ++ drop (a + 32) cs) ≡ list_of (overlay a ds cs) n
  overlay_is =
      list_of_eta 0 (take a cs ++ (ds ++ drop (a + 32) cs)) (overlay a ds cs) n
      (omega (arith, long, length-append (take a cs) (ds ++ drop (a + 32) cs), length-append ds (drop (a + 32) cs), length-drop (a + 32) cs))
      (λ k i. each k i (dec_lt k a) (dec_lt k (a + 32)))

-- ---- a tile is a single one where its length is 0

module _ (ts : Tiles) (long : length ts.codes ≡ 2048) (lens : length ts.lens ≡ 64) (few : ts.count ≤ 64) where
  whole : length (take ts.count ts.lens) ≡ ts.count
  whole = length-take-le ts.count ts.lens (omega arith)

  pub single_cases : (r : Bool) → MatchBool r ((k : ℕ) × (k < length (take ts.count ts.lens)) × HoldsAt (λ y. eqb y 0 ≡ true) (take ts.count ts.lens) k) (AllWithin (λ y. eqb y 0 ≡ false) (take ts.count ts.lens) 0 (length (take ts.count ts.lens)))
      → r ≡ contains_single (paths_in ts)
  single_cases true (k, i, h) =
      let j : k < ts.count = omega (arith, whole) in
      sym (contains_single_true ts k j (sym (get_or-take ts.count ts.lens k 0 j) ∙ eqb-true (get_or (take ts.count ts.lens) k 0) 0 (h 0)))
  single_cases false h =
      sym (contains_single_false ts long few
      (λ k j e. absurd (false≢true (sym (h k 0 (omega arith) (omega (arith, whole))) ∙ eq-eqb (get_or (take ts.count ts.lens) k 0) 0 (get_or-take ts.count ts.lens k 0 j ∙ e)))))
