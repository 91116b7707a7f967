-- Laws of tiles that all cover equally many cells: the test tells them (`equal_counts_iff`), their shared number is each tile's, and what
-- `read_equal_tiles` gives is stored paths that all cover equally many. Rests on `Paths` and `ReadLaws`. Assumes nothing.
use Rattle.std.specs.Prelude.{◌≡◌, ◌↔◌, Bool, ℕ, ◌≤◌}
use Rattle.std.proofs.Math.Path.{refl, sym, ap}
use Rattle.std.proofs.Common.{◌∙◌}
use Rattle.std.proofs.Math.Bool.{true, false, So, not}
use Rattle.std.proofs.lemmas.Bool.{false≢true}
use mathlib.Core.List.Memᴰ.{head as here}
use mathlib.Core.List.{List, [], ◌∷◌, Memᴰ as Mem}
use borrow.Author.Tests.{eqb-true, eqb-false, not-true}
use Rattle.std.proofs.Math.Dec.{eqb}
use Rattle.cells.specs.Lists.{any}
use Rattle.cells.specs.FirstsLaws.{any_true, any_some}
use Rattle.tiles.specs.declared.Tiles.{Tiles}
use Rattle.refusal.specs.Refusal.{Answer, refused, given, refusal_of, value_or}
use Rattle.tile.specs.Path.{Path, cell_count}
use Rattle.tiles.specs.Paths.{EqualCounts, shared_count, equal_counts, paths_in, read_tiles, read_equal_tiles}
use Rattle.refusal.specs.RefusalLaws.{clash, refused_given}
use Rattle.tiles.specs.ReadLaws.{read_tiles_sound}

-- ---- equally many cells

-- where all tiles cover equally many cells, each covers as many as the first
pub shared_count_mem : (paths : List Path) → EqualCounts paths → (path : Path) → Mem path paths → cell_count path ≡ shared_count paths
unfolding shared_count
shared_count_mem [] h path m = elim m [ ]
shared_count_mem (first ∷ paths) h path m = h path first m (here refl)

module _ (paths : List Path) where
  abbrev other : Path → Bool
  other path = not (eqb (cell_count path) (shared_count paths))

  -- the test holds where each tile covers as many cells as the first
  equal_counts_same : equal_counts paths ≡ true → (path : Path) → Mem path paths → cell_count path ≡ shared_count paths
  unfolding equal_counts
  equal_counts_same h path m = go (eqb (cell_count path) (shared_count paths)) refl
    where
      go : (b : Bool) → eqb (cell_count path) (shared_count paths) ≡ b → cell_count path ≡ shared_count paths
      go true e = eqb-true (cell_count path) (shared_count paths) e
      go false e = absurd (false≢true (sym (not-true (any other paths) h) ∙ any_true other paths path m (ap not e)))

  same_equal_counts : ((path : Path) → Mem path paths → cell_count path ≡ shared_count paths) → equal_counts paths ≡ true
  unfolding equal_counts
  same_equal_counts h = go (any other paths) refl
    where
      go : (b : Bool) → any other paths ≡ b → not (any other paths) ≡ true
      go false e = ap not e
      go true e =
          let r = any_some other paths e in
          absurd (eqb-false (cell_count r.0) (shared_count paths) (not-true (eqb (cell_count r.0) (shared_count paths)) r.2) (h r.0 r.1))

-- the test tells whether all tiles cover equally many cells
pub equal_counts_iff : (paths : List Path) → So (equal_counts paths) ↔ EqualCounts paths
equal_counts_iff paths = (
  λ h s t m n. equal_counts_same paths h s m ∙ sym (equal_counts_same paths h t n),
  λ h. same_equal_counts paths (shared_count_mem paths h),
)

-- ---- tiles that all cover equally many cells are read

module _ (ts : Tiles) where
  pub read_equal_tiles_refused : (n : ℕ) → read_tiles ts ≡ refused n → read_equal_tiles ts ≡ refused n
  unfolding read_equal_tiles
  read_equal_tiles_refused n e = rw e

  pub read_equal_tiles_equal : (paths : List Path) → read_tiles ts ≡ given paths → equal_counts paths ≡ true → read_equal_tiles ts ≡ given paths
  unfolding read_equal_tiles
  read_equal_tiles_equal paths e q = rw (e, q)

  pub read_equal_tiles_unequal : (paths : List Path) → read_tiles ts ≡ given paths → equal_counts paths ≡ false → read_equal_tiles ts ≡ refused 7
  unfolding read_equal_tiles
  read_equal_tiles_unequal paths e q = rw (e, q)

  -- what is given is the stored paths, and all cover equally many cells
  pub read_equal_tiles_given : (paths : List Path) → read_equal_tiles ts ≡ given paths
      → (read_tiles ts ≡ given paths) × (paths ≡ paths_in ts) × (ts.count ≤ 64) × EqualCounts paths
  unfolding refusal_of value_or
  read_equal_tiles_given paths e = go (read_tiles ts) refl
    where
      accepted : 0 ≡ refusal_of (read_equal_tiles ts)
      accepted = sym (ap refusal_of e)

      equal : (read : List Path) → read_tiles ts ≡ given read
          → (b : Bool) → equal_counts read ≡ b
          → (read_tiles ts ≡ given paths) × (paths ≡ paths_in ts) × (ts.count ≤ 64) × EqualCounts paths
      equal read r false q = absurd (clash (read_equal_tiles ts) (read_equal_tiles_unequal read r q) accepted)
      equal read r true q =
          let same : read ≡ paths = ap (value_or []) (sym (read_equal_tiles_equal read r q) ∙ e) in
          let r' : read_tiles ts ≡ given paths = r ∙ ap given same in
          let s = read_tiles_sound ts paths r' in
          (r', s.2, s.0, (equal_counts_iff paths).0 (sym (ap equal_counts same) ∙ q))

      go : (a : Answer (List Path)) → read_tiles ts ≡ a → (read_tiles ts ≡ given paths) × (paths ≡ paths_in ts) × (ts.count ≤ 64) × EqualCounts paths
      go (given read) r = equal read r (equal_counts read) refl
      go (refused n) r = absurd (refused_given n paths (sym (read_equal_tiles_refused n r) ∙ e))
