-- The steps of the functions of `sums`: the number of cells of a tile of some accepted tiles is told, an array of such numbers is
-- filled, and the table in which the sums are marked. Rests on `Inner`, `SumLaws` and on the laws of `cells`,
-- `refusal` and `tile`. Assumes nothing.
use Rattle.std.specs.Prelude.{Err, Ok, IsOk, Result}
use mathlib.Core.Path.{◌≡◌, refl, sym, ap, ◌∙◌, subst}
use mathlib.Core.Bool.{Bool, true, false, ◌&&◌}
use mathlib.Core.List.{List, [], map, Memᴰ as Mem}
use Prim.Native.Nat.{ℕ, ◌+◌, ◌-◌, ◌≤◌, ◌<◌}
use native.Mathlib.Decide.{ℕ_discrete}
use native.Mathlib.Omega.{arith}
use lib.Dec.{leb}
use lib.ListN.{length, get_or, set, take, length-set}
use lib.Seq.{get_or-set_same, get_or-set_other}
use Rattle.std.proofs.Common.{length-take-le}
use Rattle.std.proofs.lemmas.List.{get_or-take}
use Rattle.cells.specs.Lists.{list_of, any}
use Rattle.cells.specs.ArrayLaws.{get_d_list_of, list_of_eta}
use Rattle.cells.specs.MemberLaws.{mem_list_of}
use Rattle.refusal.specs.declared.Refusal.{Refusal}
use Rattle.refusal.specs.Refusal.{map_answer, answer_of}
use Rattle.tile.specs.declared.Tile.{Tile}
use Rattle.tiles.specs.declared.Tiles.{Tiles}
use Rattle.tile.specs.Path.{cell_count, read_tile}
use Rattle.tiles.specs.Paths.{path_at, paths_in, tile_at}
use Rattle.tile.specs.PathLaws.{cell_count_pos}
use Rattle.tiles.specs.ReadLaws.{tile_count_is, tile_count_refused}
use Rattle.single_tiling.specs.Inner.{Read, IsSum}
use Rattle.single_tiling.specs.SumLaws.{Marked, marked_set, no_sum, marked_end, sizes_listed}

-- ---- the number of cells of a tile

module _ (ts : Tiles) (ok : Read ts) (i : ℕ) (h : i < ts.count)
    (t : Tile) (at : t ≡ tile_at ts i) (a : Result ℕ Refusal) (e : answer_of a ≡ map_answer cell_count (read_tile t)) where
  pub count_is : (n : ℕ) → a ≡ Ok n → n ≡ cell_count (get_or (paths_in ts) i [])
  count_is n q =
      tile_count_is ts ok.1 ok.2 i h t at a e n q ∙ ap cell_count (sym (get_d_list_of (path_at ts.lens ts.codes) ts.count i [] h))

  pub count_ok : IsOk a
  count_ok = go a refl
    where
      go : (x : Result ℕ Refusal) → a ≡ x → IsOk x
      go (Ok n) q = refl
      go (Err q) r = absurd (tile_count_refused ts ok.1 ok.2 i h t at a e q r)

-- ---- `cell_counts`: an array that has f's numbers below i

pub fill_more : (f : ℕ → ℕ) (xs : List ℕ) (i v : ℕ) → ((k : ℕ) → k < i → get_or xs k 0 ≡ f k) → i < length xs → v ≡ f i
    → (k : ℕ) → k < i + 1 → get_or (set xs i v) k 0 ≡ f k
fill_more f xs i v done l e k h = go (ℕ_discrete k i)
  where
    go : Dec (k ≡ i) → get_or (set xs i v) k 0 ≡ f k
    go (yes q) = ap (λ (j : ℕ). get_or (set xs i v) j 0) q ∙ get_or-set_same xs i v 0 l ∙ e ∙ ap f (sym q)
    go (no q) = get_or-set_other xs i k v 0 q ∙ done k (omega arith)

-- ---- `is_sum`: the table of the sums of some sizes

module _ (sizes : List ℕ) (table table' : List Bool) (m : ℕ) (long : length table ≡ 257) (marked : Marked sizes m table) where
  -- the test of m is put down at m
  pub table_next : ((a : ℕ) → Mem a sizes → 0 < a) → 0 < m → m < 257 → (t : Bool) → t ≡ any (λ a. leb a m && get_or table (m - a) false) sizes → table' ≡ set table m t
      → (length table' ≡ 257) × Marked sizes (m + 1) table'
  table_next pos more l t told e =
      subst (λ (ts : List Bool). (length ts ≡ 257) × Marked sizes (m + 1) ts) (sym e) (length-set table m t ∙ long, go t told)
    where
      go : (t : Bool) → t ≡ any (λ a. leb a m && get_or table (m - a) false) sizes → Marked sizes (m + 1) (set table m t)
      go true told = marked_set sizes table m marked (omega arith)
      go false told = λ k h s. at k h s (ℕ_discrete k m)
        where
          at : (k : ℕ) → k < m + 1 → IsSum sizes k → Dec (k ≡ m) → get_or (set table m false) k false ≡ true
          at k h s (yes q) = absurd (no_sum sizes table m pos marked more (sym told) (subst (IsSum sizes) q s))
          at k h s (no q) = get_or-set_other table m k false false q ∙ marked k (omega arith) s

-- an array that has each tile's number of cells
module _ (ts : Tiles) (sizes : List ℕ) (filled : (i : ℕ) → i < ts.count → get_or sizes i 0 ≡ cell_count (get_or (paths_in ts) i [])) where
  -- the part of it that is lent
  pub sizes_part : ts.count ≤ length sizes → take ts.count sizes ≡ list_of (λ i. get_or sizes i 0) ts.count
  sizes_part h =
      list_of_eta 0 (take ts.count sizes) (λ i. get_or sizes i 0) ts.count (length-take-le ts.count sizes h) (λ k l. get_or-take ts.count sizes k 0 l)

  pub listed_positive : (a : ℕ) → Mem a (list_of (λ i. get_or sizes i 0) ts.count) → 0 < a
  listed_positive a m =
      let r = (mem_list_of (λ i. get_or sizes i 0) ts.count a).0 m in
      subst (λ (n : ℕ). 0 < n) (sym (r.2 ∙ filled r.0 r.1)) (cell_count_pos (get_or (paths_in ts) r.0 []))

  -- the test of m by the lent part
  pub sum_next : (table table' : List Bool) (m : ℕ) → (length table ≡ 257) × Marked (list_of (λ i. get_or sizes i 0) ts.count) m table → ts.count ≤ length sizes
      → 0 < m → m < 257 → (t : Bool) → t ≡ any (λ a. leb a m && get_or table (m - a) false) (take ts.count sizes) → table' ≡ set table m t
      → (length table' ≡ 257) × Marked (list_of (λ i. get_or sizes i 0) ts.count) (m + 1) table'
  sum_next table table' m inv long more l t told e =
      table_next (list_of (λ i. get_or sizes i 0) ts.count) table table' m inv.0 inv.1 listed_positive more l t
      (told ∙ ap (any (λ a. leb a m && get_or table (m - a) false)) (sizes_part long)) e

  pub sum_found : (table : List Bool) (m n : ℕ) → Marked (list_of (λ i. get_or sizes i 0) ts.count) m table → n < m
      → IsSum (map cell_count (paths_in ts)) n → get_or table n false ≡ true
  sum_found table m n marked h s =
      marked_end (list_of (λ i. get_or sizes i 0) ts.count) table m n marked h
      (record { terms = s.terms; from = λ a i. sizes_listed ts sizes filled a (s.from a i); total = s.total })
