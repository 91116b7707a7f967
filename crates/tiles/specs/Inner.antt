-- Inner definitions: what the contracts of private functions and the loops' invariants say. No public contract cites them; `Storable`
-- serves theorems too.
-- Assumes nothing.
use Rattle.std.specs.Prelude.{◌≡◌, ℕ, ◌≤◌, length, get_or}
use Rattle.std.proofs.Math.Bool.{So}
use mathlib.Core.List.{List, [], Memᴰ as Mem}
use Rattle.tiles.specs.declared.Tiles.{Tiles}
use Rattle.tile.specs.Path.{Path, codes_ok}
use Rattle.tiles.specs.Paths.{paths_in, tiles_of}

-- paths that can be stored
abbrev pub Storable : List Path → Type 0
Storable ps = (p : Path) → Mem p ps → (length p ≤ 32) × So (codes_ok p)

-- tiles that are stored with zeros behind
pub record Clean (ts : Tiles) : Type 0 where
  pub few : ts.count ≤ 64
  pub short : (i : ℕ) → get_or ts.lens i 0 ≤ 32
  pub is : ts ≡ tiles_of (paths_in ts)

-- no path passes 32 codes
abbrev pub Short : List Path → Type 0
Short ps = (i : ℕ) → length (get_or ps i []) ≤ 32
