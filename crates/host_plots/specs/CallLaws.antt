-- Laws of the shapes of a tile with its orbit and of what a plot file is read into, cause by cause. Rests on `Calls`. Assumes nothing.
use Rattle.std.specs.Prelude.{◌≡◌, ℕ, ◌≤◌, ◌<◌}
use borrow.Author.Tests.{eq-eqb, ne_eqb, le-leb, lt-leb}
use Rattle.host_plots.specs.Calls.{orbit_shape, file_shape}

-- ---- a tile and its orbit

module _ (tile tiles answer : ℕ) where
  pub orbit_tile : (tile ≡ 33 → ⊥) → 5 ≡ orbit_shape tile tiles answer
  unfolding orbit_shape
  orbit_tile n = rw (ne_eqb tile 33 n)

  pub orbit_tiles : tile ≡ 33 → tiles < 264 → 8 ≡ orbit_shape tile tiles answer
  unfolding orbit_shape
  orbit_tiles e l = rw (eq-eqb tile 33 e, lt-leb 264 tiles l)

  pub orbit_answer : tile ≡ 33 → 264 ≤ tiles → answer < 1 → 8 ≡ orbit_shape tile tiles answer
  unfolding orbit_shape
  orbit_answer e l a = rw (eq-eqb tile 33 e, le-leb 264 tiles l, lt-leb 1 answer a)

  pub orbit_right : tile ≡ 33 → 264 ≤ tiles → 1 ≤ answer → 0 ≡ orbit_shape tile tiles answer
  unfolding orbit_shape
  orbit_right e l a = rw (eq-eqb tile 33 e, le-leb 264 tiles l, le-leb 1 answer a)

-- ---- what a plot file is read into

module _ (board tiles answer : ℕ) where
  pub file_board : board < 10 → 8 ≡ file_shape board tiles answer
  unfolding file_shape
  file_board l = rw (lt-leb 10 board l)

  pub file_tiles : 10 ≤ board → tiles < 2112 → 8 ≡ file_shape board tiles answer
  unfolding file_shape
  file_tiles b l = rw (le-leb 10 board b, lt-leb 2112 tiles l)

  pub file_answer : 10 ≤ board → 2112 ≤ tiles → answer < 1 → 8 ≡ file_shape board tiles answer
  unfolding file_shape
  file_answer b t l = rw (le-leb 10 board b, le-leb 2112 tiles t, lt-leb 1 answer l)

  pub file_right : 10 ≤ board → 2112 ≤ tiles → 1 ≤ answer → 0 ≡ file_shape board tiles answer
  unfolding file_shape
  file_right b t a = rw (le-leb 10 board b, le-leb 2112 tiles t, le-leb 1 answer a)
