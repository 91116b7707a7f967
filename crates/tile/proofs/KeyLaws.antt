-- Laws of keys: a key has one position, a step of the key is a step of the position, so a path has as many cells as keys. Assumes nothing.
use mathlib.Core.Path.{◌≡◌, refl, sym, ap, ap₂, ◌∙◌}
use mathlib.Core.Bool.{Bool, true, false, ◌||◌, So}
use mathlib.Core.List.{List, [], ◌∷◌, map}
use Prim.Native.Nat.{ℕ, ◌+◌, ◌-◌, ◌/◌, ◌%◌, ◌≤◌, ◌<◌}
use native.Mathlib.Numerals.{add-one}
use native.Mathlib.Omega.{arith}
use borrow.Author.Tests.{eq-eqb, eqb-true}
use lib.Dec.{eqb, lit≤}
use lib.IntN.{ℤ, pos, negsuc, ◌+ℤ◌, +ℤ_assoc, +ℤ_comm, +ℤ_idr, +ℤ-neg_ℤ_cancel, pos-+ℤ-pos}
use Rattle.std.specs.List.{list_any}
use lib.ListN.{length, get_or, take, drop, set, length-map, get_or-eq_default}
use lib.Seq.{drop-cons, drop-length, take-suc-set}
use Rattle.cells.specs.Lists.{any, holds, add_new, add_firsts, firsts}
use Rattle.cells.specs.FirstsLaws.{firsts_map, so_eq}
use Rattle.tile.specs.declared.points.Keys.{Keys}
use Rattle.direction.specs.Direction.{Position, at, shift, same_position, step}
use Rattle.tile.specs.Path.{Path, codes_ok, points, cells, cell_count}
use Rattle.tile.specs.Inner.{keyed, key_step, keys_after, Near, keys_in}
use Rattle.direction.specs.PositionLaws.{same_position_iff, cancel}
use Rattle.direction.specs.DirectionLaws.{by_code}
use Rattle.tile.specs.PathLaws.{codes_ok_cons}

-- ---- a key has one position

pub keyed_inj : (k m : ℕ) → keyed k ≡ keyed m → k ≡ m
keyed_inj k m e =
    let r : pos (k / 100) ≡ pos (m / 100) = cancel (pos (k / 100)) (pos (m / 100)) (negsuc 49) (ap (λ (p : Position). p.row) e) in
    let c : pos (k % 100) ≡ pos (m % 100) = cancel (pos (k % 100)) (pos (m % 100)) (negsuc 49) (ap (λ (p : Position). p.col) e) in
    let a : k / 100 ≡ m / 100 = cc in
    let b : k % 100 ≡ m % 100 = cc in
    omega arith

pub keyed_same : (k m : ℕ) → same_position (keyed k) (keyed m) ≡ eqb k m
keyed_same k m =
    so_eq (same_position (keyed k) (keyed m)) (eqb k m)
    (λ h. eq-eqb k m (keyed_inj k m ((same_position_iff (keyed k) (keyed m)).0 h)))
    (λ h. (same_position_iff (keyed k) (keyed m)).1 (ap keyed (eqb-true k m h)))

-- ---- a step of the key is a step of the position

same_int_lem : (a : ℕ) → pos a +ℤ negsuc 49 ≡ (pos a +ℤ negsuc 49) +ℤ pos 0
same_int_lem a = sym (+ℤ_idr (pos a +ℤ negsuc 49))

move_int : (x d : ℤ) → (x +ℤ d) +ℤ negsuc 49 ≡ (x +ℤ negsuc 49) +ℤ d
move_int x d = +ℤ_assoc x d (negsuc 49) ∙ ap (λ (y : ℤ). x +ℤ y) (+ℤ_comm d (negsuc 49)) ∙ sym (+ℤ_assoc x (negsuc 49) d)

more_int : (a b : ℕ) → b ≡ a + 1 → pos b +ℤ negsuc 49 ≡ (pos a +ℤ negsuc 49) +ℤ pos 1
more_int a b e = ap (λ (n : ℕ). pos n +ℤ negsuc 49) e ∙ ap (λ (x : ℤ). x +ℤ negsuc 49) (sym (pos-+ℤ-pos a 1)) ∙ move_int (pos a) (pos 1)

less_int : (a b : ℕ) → a ≡ b + 1 → pos b +ℤ negsuc 49 ≡ (pos a +ℤ negsuc 49) +ℤ negsuc 0
less_int a b e =
    let back : pos a +ℤ negsuc 0 ≡ pos b = ap (λ (n : ℕ). pos n +ℤ negsuc 0) e ∙ ap (λ (x : ℤ). x +ℤ negsuc 0) (sym (pos-+ℤ-pos b 1)) ∙ +ℤ-neg_ℤ_cancel (pos b) (pos 1) in
    ap (λ (x : ℤ). x +ℤ negsuc 49) (sym back) ∙ move_int (pos a) (negsuc 0)

stay_int : (a b : ℕ) → a ≡ b → pos b +ℤ negsuc 49 ≡ (pos a +ℤ negsuc 49) +ℤ pos 0
stay_int a b e = ap (λ (n : ℕ). pos n +ℤ negsuc 49) (sym e) ∙ same_int_lem a

-- away from the edges
abbrev Away : ℕ → Type 0
Away k = (1 ≤ k / 100) × (1 ≤ k % 100) × (k % 100 ≤ 98)

pub keyed_step : (c : ℕ) → c < 8 → (k : ℕ) → Away k → keyed (k + key_step c - 101) ≡ shift (keyed k) (step c)
unfolding key_step step
keyed_step =
    by_code (λ c. c < 8 → (k : ℕ) → Away k → keyed (k + key_step c - 101) ≡ shift (keyed k) (step c))
    (λ _ k h. let m : ℕ = k + 1 - 101 in let r : k / 100 ≡ m / 100 + 1 = omega arith in let c : k % 100 ≡ m % 100 = omega arith in ap₂ at (less_int (k / 100) (m / 100) r) (stay_int (k % 100) (m % 100) c))
    (λ _ k h. let m : ℕ = k + 201 - 101 in let r : m / 100 ≡ k / 100 + 1 = omega arith in let c : k % 100 ≡ m % 100 = omega arith in ap₂ at (more_int (k / 100) (m / 100) r) (stay_int (k % 100) (m % 100) c))
    (λ _ k h. let m : ℕ = k + 100 - 101 in let r : k / 100 ≡ m / 100 = omega arith in let c : k % 100 ≡ m % 100 + 1 = omega arith in ap₂ at (stay_int (k / 100) (m / 100) r) (less_int (k % 100) (m % 100) c))
    (λ _ k h. let m : ℕ = k + 102 - 101 in let r : k / 100 ≡ m / 100 = omega arith in let c : m % 100 ≡ k % 100 + 1 = omega arith in ap₂ at (stay_int (k / 100) (m / 100) r) (more_int (k % 100) (m % 100) c))
    (λ _ k h. let m : ℕ = k + 0 - 101 in let r : k / 100 ≡ m / 100 + 1 = omega arith in let c : k % 100 ≡ m % 100 + 1 = omega arith in ap₂ at (less_int (k / 100) (m / 100) r) (less_int (k % 100) (m % 100) c))
    (λ _ k h. let m : ℕ = k + 2 - 101 in let r : k / 100 ≡ m / 100 + 1 = omega arith in let c : m % 100 ≡ k % 100 + 1 = omega arith in ap₂ at (less_int (k / 100) (m / 100) r) (more_int (k % 100) (m % 100) c))
    (λ _ k h. let m : ℕ = k + 202 - 101 in let r : m / 100 ≡ k / 100 + 1 = omega arith in let c : m % 100 ≡ k % 100 + 1 = omega arith in ap₂ at (more_int (k / 100) (m / 100) r) (more_int (k % 100) (m % 100) c))
    (λ _ k h. let m : ℕ = k + 200 - 101 in let r : m / 100 ≡ k / 100 + 1 = omega arith in let c : k % 100 ≡ m % 100 + 1 = omega arith in ap₂ at (more_int (k / 100) (m / 100) r) (less_int (k % 100) (m % 100) c))
    (λ c h i. absurd (omega arith))

-- a step stays near, and away from the edges
pub near_first : Near 0 5050
near_first = record { up = lit≤ tt; down = lit≤ tt; left = lit≤ tt; right = lit≤ tt }

pub near_away : (i k : ℕ) → Near i k → i < 32 → Away k
near_away i k n h = (omega arith, omega arith, omega arith)

pub near_step : (c : ℕ) → c < 8 → (i k : ℕ) → Near i k → i < 32 → Near (i + 1) (k + key_step c - 101)
unfolding key_step
near_step =
    by_code (λ c. c < 8 → (i k : ℕ) → Near i k → i < 32 → Near (i + 1) (k + key_step c - 101))
    (λ _ i k n h. record { up = omega arith; down = omega arith; left = omega arith; right = omega arith })
    (λ _ i k n h. record { up = omega arith; down = omega arith; left = omega arith; right = omega arith })
    (λ _ i k n h. record { up = omega arith; down = omega arith; left = omega arith; right = omega arith })
    (λ _ i k n h. record { up = omega arith; down = omega arith; left = omega arith; right = omega arith })
    (λ _ i k n h. record { up = omega arith; down = omega arith; left = omega arith; right = omega arith })
    (λ _ i k n h. record { up = omega arith; down = omega arith; left = omega arith; right = omega arith })
    (λ _ i k n h. record { up = omega arith; down = omega arith; left = omega arith; right = omega arith })
    (λ _ i k n h. record { up = omega arith; down = omega arith; left = omega arith; right = omega arith })
    (λ c h j. absurd (omega arith))

-- ---- as many cells as keys

pub keys_after_points : (path : Path) (i k : ℕ) → So (codes_ok path) → Near i k → i + length path ≤ 32 → points (keyed k) path ≡ map keyed (k ∷ keys_after k path)
unfolding points keys_after
keys_after_points [] i k ok n h = refl
keys_after_points (code ∷ path) i k ok n h =
    let o = codes_ok_cons code path ok in
    let j : i < 32 = omega arith in
    ap (λ (l : List Position). keyed k ∷ l)
    (ap (λ (p : Position). points p path) (sym (keyed_step code o.0 k (near_away i k n j)))
    ∙ keys_after_points path (i + 1) (k + key_step code - 101) o.1 (near_step code o.0 i k n j) (omega arith))

pub cell_count_keys : (path : Path) → So (codes_ok path) → length path ≤ 32 → length (add_firsts eqb (5050 ∷ []) (keys_after 5050 path)) ≡ cell_count path
unfolding cell_count cells firsts
cell_count_keys path ok h =
    sym (ap (λ (l : List Position). length (firsts same_position l)) (keys_after_points path 0 5050 ok near_first (omega arith))
    ∙ ap length (firsts_map eqb same_position keyed keyed_same (5050 ∷ keys_after 5050 path))
    ∙ length-map (firsts eqb (5050 ∷ keys_after 5050 path)) keyed)

-- ---- the loops

-- the keys that are left, one by one
pub add_firsts_step : (path : Path) (i k : ℕ) (ks : List ℕ) → i < length path
    → add_firsts eqb ks (keys_after k (drop i path)) ≡ add_firsts eqb (add_new eqb ks (k + key_step (get_or path i 0) - 101)) (keys_after (k + key_step (get_or path i 0) - 101) (drop (i + 1) path))
unfolding add_firsts keys_after
add_firsts_step path i k ks h = rw (add-one, drop-cons path i 0 h)

pub add_firsts_end : (path : Path) (i k : ℕ) (ks : List ℕ) → length path ≤ i → i ≤ length path → add_firsts eqb ks (keys_after k (drop i path)) ≡ ks
unfolding add_firsts keys_after
add_firsts_end path i k ks h j = let e : i ≡ length path = omega arith in rw (e, drop-length path)

-- a new key is stored behind the keys that were seen
holds_list_any : (ks : List ℕ) (k : ℕ) → list_any (λ y. eqb y k) ks ≡ holds eqb ks k
unfolding holds any
holds_list_any [] k = refl
holds_list_any (y ∷ ks) k = ap (λ t. eqb y k || t) (holds_list_any ks k)

pub keys_in_new : (s : Keys) (k : ℕ) → s.n < length s.keys → list_any (λ y. eqb y k) (keys_in s) ≡ false → keys_in (record { n = s.n + 1; keys = set s.keys s.n k }) ≡ add_new eqb (keys_in s) k
unfolding add_new
keys_in_new s k h n = ap (λ (j : ℕ). take j (set s.keys s.n k)) (add-one s.n) ∙ take-suc-set s.keys s.n k h ∙ rw (sym (holds_list_any (keys_in s) k) ∙ n)

pub keys_in_old : (s : Keys) (k : ℕ) → list_any (λ y. eqb y k) (keys_in s) ≡ true → keys_in s ≡ add_new eqb (keys_in s) k
unfolding add_new
keys_in_old s k e = rw (sym (holds_list_any (keys_in s) k) ∙ e)
