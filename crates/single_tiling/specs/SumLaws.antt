-- Laws of sums of the tiles' numbers of cells: where a board has a tiling, the number of its free cells is such a sum; and the table in which all sums
-- up to a number are marked. Rests on `TilingLaws` and cells' `MemberLaws`. Assumes nothing.
use Rattle.std.specs.Prelude.{◌≡◌, refl, ◌⊎◌, Bool, true, false, ◌&&◌, ℕ, ◌+◌, ◌-◌, ◌^◌, ◌≤◌, ◌<◌, leb, length, get_or, set}
use Rattle.std.proofs.Common.{sym, ap, ◌∙◌, subst, inl, inr, ⊎_elim, arith, le-leb, get_or-set_same, get_or-set_other}
use Rattle.std.proofs.Math.Bool.{So, and-eq-true_iff}
use Rattle.std.proofs.lemmas.Bool.{false≢true}
use mathlib.Core.List.Memᴰ.{cases_cons}
use mathlib.Core.List.Memᴰ.{cast}
use mathlib.Core.List.Memᴰ.{head as here}
use mathlib.Core.List.Memᴰ.{map as mem-map}
use mathlib.Core.List.Memᴰ.{not-nil}
use mathlib.Core.List.Memᴰ.{of_map}
use mathlib.Core.List.Memᴰ.{tail as there}
use mathlib.Core.List.{List, [], ◌∷◌, map, Memᴰ as Mem}
use Rattle.std.proofs.Math.Decide.{ℕ_discrete}
use Rattle.cells.specs.Lists.{list_of, any}
use Rattle.cells.specs.ArrayLaws.{length_list_of}
use Rattle.cells.specs.FirstsLaws.{any_true}
use Rattle.cells.specs.MemberLaws.{mem_place, mem_list_of}
use Rattle.tiles.specs.declared.Tiles.{Tiles}
use Rattle.tile.specs.Path.{Path, cell_count}
use Rattle.tiles.specs.Paths.{path_at, paths_in}
use Rattle.rectangle.specs.Board.{Board, board_at, marks, free_count, is_full, valid}
use Rattle.children.specs.Children.{children_at}
use Rattle.covers.specs.Counts.{Steps, ChildSequence, sum_of}
use Rattle.expansion.specs.Boards.{From}
use Rattle.expansion.proofs.SettingLaws.{start_at_lem, start_ok}
use Rattle.single_tiling.specs.SingleTiling.{IsTiling}
use Rattle.single_tiling.specs.Inner.{IsSum}
use Rattle.single_tiling.specs.TilingLaws.{full_zero, child_from, child_tile}

-- ---- sums

sum_none : (sizes : List ℕ) (n : ℕ) → n ≡ 0 → IsSum sizes n
unfolding sum_of
sum_none sizes n e = record { terms = []; from = λ a m. absurd (not-nil m); total = sym e }

sum_more : (sizes : List ℕ) (a n k : ℕ) → Mem a sizes → IsSum sizes n → n + a ≡ k → IsSum sizes k
unfolding sum_of
sum_more sizes a n k m s e = record {
  terms = a ∷ s.terms;
  from = λ c i. ⊎_elim (λ q. cast q m) (s.from c) (cases_cons i);
  total = omega (arith, s.total);
}

-- a sum is 0, or one of the sizes more than a sum
sum_step : (sizes : List ℕ) (n : ℕ) → ((a : ℕ) → Mem a sizes → 0 < a) → IsSum sizes n
    → (n ≡ 0) ⊎ ((a : ℕ) × Mem a sizes × (a ≤ n) × (0 < a) × IsSum sizes (n - a))
unfolding sum_of
sum_step sizes n pos s = go s.terms s.from s.total
  where
    go : (terms : List ℕ) → ((a : ℕ) → Mem a terms → Mem a sizes) → sum_of (λ a. a) terms ≡ n
        → (n ≡ 0) ⊎ ((a : ℕ) × Mem a sizes × (a ≤ n) × (0 < a) × IsSum sizes (n - a))
    go [] from total = inl (sym total)
    go (a ∷ rest) from total =
        let m = from a (here refl) in
        inr (a, m, omega arith, pos a m, record { terms = rest; from = λ c i. from c (there i); total = omega arith })

-- ---- the free cells of a board that has a tiling

module _ (b : Board) (good : So (valid b)) (paths : List Path) where
  steps_sum : (last n : ℕ) (xs : List ℕ) → So (is_full (board_at b last)) → From b n → Steps (λ s t. Mem t (children_at b paths s)) n xs last
      → IsSum (map cell_count paths) (free_count (board_at b n))
  steps_sum last n [] full ok w = sum_none (map cell_count paths) (free_count (board_at b n)) (ap (λ (k : ℕ). free_count (board_at b k)) w ∙ full_zero (board_at b last) full)
  steps_sum last n (x ∷ xs) full ok w =
      let t = child_tile b good paths n x ok w.0 in
      sum_more (map cell_count paths) (cell_count t.0) (free_count (board_at b x)) (free_count (board_at b n)) (mem-map cell_count t.1)
      (steps_sum last x xs full (child_from b good paths n x ok w.0) w.1) t.2

  sequence_sum : b.fixed < 2 ^ 256 → b.laid < 2 ^ 256 → (last : ℕ) (xs : List ℕ) → So (is_full (board_at b last)) → ChildSequence (children_at b paths) (marks b) last xs
      → IsSum (map cell_count paths) (free_count b)
  sequence_sum fixed_lt laid_lt last [] full s = absurd s
  sequence_sum fixed_lt laid_lt last (x ∷ xs) full s =
      subst (λ (d : Board). IsSum (map cell_count paths) (free_count d)) (ap (board_at b) s.0 ∙ start_at_lem b paths good fixed_lt laid_lt)
      (steps_sum last x xs full (subst (From b) (sym s.0) (start_ok b paths good fixed_lt laid_lt)) s.1)

-- they are a sum of the tiles' numbers of cells
pub tiling_sum : (b : Board) → So (valid b) → b.fixed < 2 ^ 256 → b.laid < 2 ^ 256 → (paths : List Path) (xs : List ℕ) → IsTiling b paths xs
    → IsSum (map cell_count paths) (free_count b)
tiling_sum b good fixed_lt laid_lt paths xs t = sequence_sum b good paths fixed_lt laid_lt t.last xs t.full t.sequence

-- ---- the table: every sum below m is marked

abbrev pub Marked : List ℕ → ℕ → List Bool → Type 0
Marked sizes m table = (k : ℕ) → k < m → IsSum sizes k → get_or table k false ≡ true

pub marked_start : (sizes : List ℕ) (table : List Bool) → get_or table 0 false ≡ true → Marked sizes 1 table
marked_start sizes table e k h s = let z : k ≡ 0 = omega arith in ap (λ (i : ℕ). get_or table i false) z ∙ e

pub marked_set : (sizes : List ℕ) (table : List Bool) (m : ℕ) → Marked sizes m table → m < length table → Marked sizes (m + 1) (set table m true)
marked_set sizes table m marked l k h s = go (ℕ_discrete k m)
  where
    go : Dec (k ≡ m) → get_or (set table m true) k false ≡ true
    go (yes e) = ap (λ (i : ℕ). get_or (set table m true) i false) e ∙ get_or-set_same table m true false l
    go (no n) = get_or-set_other table m k true false n ∙ marked k (omega arith) s

-- one that is none of the sizes more than a marked number is no sum
pub no_sum : (sizes : List ℕ) (table : List Bool) (m : ℕ) → ((a : ℕ) → Mem a sizes → 0 < a) → Marked sizes m table → 0 < m
    → any (λ a. leb a m && get_or table (m - a) false) sizes ≡ false → IsSum sizes m → ⊥
no_sum sizes table m pos marked more none s = ⊎_elim (λ z. absurd (omega arith)) never (sum_step sizes m pos s)
  where
    test : ℕ → Bool
    test a = leb a m && get_or table (m - a) false

    never : (a : ℕ) × Mem a sizes × (a ≤ m) × (0 < a) × IsSum sizes (m - a) → ⊥
    never r =
        let a = r.0 in
        let one = marked (m - a) (omega (arith, r.2, r.3)) r.4 in
        let hit : test a ≡ true = (and-eq-true_iff (leb a m) (get_or table (m - a) false)).1 (le-leb a m r.2, one) in
        false≢true (sym none ∙ any_true test sizes a r.1 hit)

pub marked_skip : (sizes : List ℕ) (table : List Bool) (m : ℕ) → ((a : ℕ) → Mem a sizes → 0 < a) → Marked sizes m table → 0 < m
    → any (λ a. leb a m && get_or table (m - a) false) sizes ≡ false → Marked sizes (m + 1) table
marked_skip sizes table m pos marked more none k h s = go (ℕ_discrete k m)
  where
    go : Dec (k ≡ m) → get_or table k false ≡ true
    go (yes e) = absurd (no_sum sizes table m pos marked more none (subst (IsSum sizes) e s))
    go (no n) = marked k (omega arith) s

pub marked_end : (sizes : List ℕ) (table : List Bool) (m n : ℕ) → Marked sizes m table → n < m → IsSum sizes n → get_or table n false ≡ true
marked_end sizes table m n marked h s = marked n h s

-- ---- the sizes: an array that has each tile's number of cells

pub sizes_listed : (ts : Tiles) (sizes : List ℕ) → ((i : ℕ) → i < ts.count → get_or sizes i 0 ≡ cell_count (get_or (paths_in ts) i []))
    → (a : ℕ) → Mem a (map cell_count (paths_in ts)) → Mem a (list_of (λ i. get_or sizes i 0) ts.count)
sizes_listed ts sizes filled a m =
    let r = of_map cell_count (paths_in ts) m in
    let s = mem_place (paths_in ts) r.0 [] r.1 in
    let h : s.0 < ts.count = omega (arith, s.1, length_list_of (path_at ts.lens ts.codes) ts.count) in
    (mem_list_of (λ i. get_or sizes i 0) ts.count a).1 (s.0, h, sym r.2 ∙ ap cell_count (sym s.2) ∙ sym (filled s.0 h))
