-- Inner definitions: what the contracts of private functions and the loops' invariants say. No public contract cites them.
-- Assumes nothing.
use Rattle.std.specs.Prelude.{◌≡◌, List, [], ◌∷◌, ℕ, ◌+◌, ◌-◌, ◌/◌, ◌%◌, ◌≤◌, pos, negsuc, ◌+ℤ◌, get_or, take}
use Rattle.tile.specs.declared.Tile.{Tile}
use Rattle.tile.specs.declared.points.Keys.{Keys}
use Rattle.direction.specs.Direction.{Position, at}
use Rattle.tile.specs.Path.{Path, path_in, tile_of}

-- ---- stored tiles

-- a tile that is stored with zeros behind
pub record CleanTile (t : Tile) : Type 0 where
  pub short : t.len ≤ 32
  pub is : t ≡ tile_of (path_in t)

-- ---- keys of positions

-- the position of a key
abbrev pub keyed : ℕ → Position
keyed k = at (pos (k / 100) +ℤ negsuc 49) (pos (k % 100) +ℤ negsuc 49)

-- what a step adds to a key, with 101 more
unfoldable pub key_step : ℕ → ℕ
key_step code = get_or (1 ∷ 201 ∷ 100 ∷ 102 ∷ 0 ∷ 2 ∷ 202 ∷ 200 ∷ []) code 101

-- the keys of the points after the first
unfoldable pub keys_after : ℕ → Path → List ℕ
keys_after k [] = []
keys_after k (code ∷ path) = (k + key_step code - 101) ∷ keys_after (k + key_step code - 101) path

-- a key whose position is at most i rows and i columns from the first
pub record Near (i k : ℕ) : Type 0 where
  pub up : 50 ≤ k / 100 + i
  pub down : k / 100 ≤ 50 + i
  pub left : 50 ≤ k % 100 + i
  pub right : k % 100 ≤ 50 + i

-- the keys that the code has seen
abbrev pub keys_in : Keys → List ℕ
keys_in s = take s.n s.keys
