-- Laws of the test of the tiles' cells: the first tile's number, and each tile's compared with it. Assumes nothing.
use mathlib.Core.Path.{◌≡◌, refl, sym, ap, ◌∙◌}
use mathlib.Core.Bool.{Bool, true, false, not}
use Prim.Native.Nat.{ℕ, zero, suc, ◌<◌}
use native.Mathlib.Omega.{arith}
use borrow.Author.Tests.{eq-eqb, ne_eqb}
use lib.Dec.{eqb}
use Rattle.cells.specs.Lists.{list_of}
use Rattle.cells.specs.ArrayLaws.{any_list_of, none_list_of}
use Rattle.tiles.specs.declared.Tiles.{Tiles}
use Rattle.tile.specs.Path.{Path, cell_count}
use Rattle.tiles.specs.Paths.{shared_count, equal_counts, path_at, paths_in}

-- ---- the first tile

shared_list_of : (f : ℕ → Path) (n : ℕ) → (n ≡ 0 → ⊥) → cell_count (f 0) ≡ shared_count (list_of f n)
unfolding list_of shared_count
shared_list_of f zero h = absurd (h refl)
shared_list_of f (suc n) h = refl

shared_nothing : (f : ℕ → Path) (n : ℕ) → n ≡ 0 → 0 ≡ shared_count (list_of f n)
unfolding list_of shared_count
shared_nothing f zero h = refl
shared_nothing f (suc n) h = absurd (omega arith)

module _ (ts : Tiles) where
  pub shared_count_none : ts.count ≡ 0 → 0 ≡ shared_count (paths_in ts)
  shared_count_none h = shared_nothing (path_at ts.lens ts.codes) ts.count h

  pub shared_count_first : (ts.count ≡ 0 → ⊥) → cell_count (path_at ts.lens ts.codes 0) ≡ shared_count (paths_in ts)
  shared_count_first h = shared_list_of (path_at ts.lens ts.codes) ts.count h

  -- ---- the others; n is the first tile's number

  module _ (n : ℕ) (e : n ≡ shared_count (paths_in ts)) where
    abbrev unlike : Path → Bool
    unlike path = not (eqb (cell_count path) (shared_count (paths_in ts)))

    pub equal_counts_fails : (i : ℕ) → i < ts.count → (cell_count (path_at ts.lens ts.codes i) ≡ n → ⊥) → equal_counts (paths_in ts) ≡ false
    unfolding equal_counts
    equal_counts_fails i h q =
        ap not (any_list_of unlike (path_at ts.lens ts.codes) ts.count i h
        (ap not (ne_eqb (cell_count (path_at ts.lens ts.codes i)) (shared_count (paths_in ts)) (λ k. q (k ∙ sym e)))))

    pub equal_counts_all : ((i : ℕ) → i < ts.count → cell_count (path_at ts.lens ts.codes i) ≡ n) → equal_counts (paths_in ts) ≡ true
    unfolding equal_counts
    equal_counts_all h =
        ap not (none_list_of unlike (path_at ts.lens ts.codes) ts.count
        (λ i k. ap not (eq-eqb (cell_count (path_at ts.lens ts.codes i)) (shared_count (paths_in ts)) (h i k ∙ e))))
