-- Definitions: what the bytes of tiles that a host hands in stand for, and what is written into those that it lends: 33 bytes a tile, its length and 32 codes.
-- Assumes nothing.
use Rattle.std.specs.Prelude.{cond, ℕ, ◌+◌, ◌-◌, ◌*◌, ◌/◌, ◌%◌, eqb, length, get_or}
use mathlib.Core.List.{List, flat_map, ◌∷◌}
use Rattle.cells.specs.Lists.{list_of, padded}
use Rattle.tile.specs.declared.Tile.{Tile}
use Rattle.tiles.specs.declared.Tiles.{Tiles}
use Rattle.tile.specs.Path.{Path}

-- ---- bytes that are handed in

-- one tile
abbrev pub tile_in : List ℕ → Tile
tile_in bytes = record { len = get_or bytes 0 0; codes = list_of (λ j. get_or bytes (1 + j) 0) 32 }

-- several: the struct has room for 64 tiles; where more are handed in its count says so, which is refusal 6
abbrev pub tiles_in : List ℕ → Tiles
tiles_in bytes =
    record {
      count = length bytes / 33;
      lens = list_of (λ i. get_or bytes (33 * i) 0) 64;
      codes = list_of (λ k. get_or bytes (33 * (k / 32) + (1 + k % 32)) 0) 2048;
    }

-- ---- bytes that are lent

-- so many bytes that hold some tiles, each its length and 32 codes, zeros behind a path and behind the last tile
unfoldable pub bytes_for : List Path → ℕ → List ℕ
unfolding flat_map padded
bytes_for paths count = padded (flat_map (λ p. length p ∷ padded p 32) paths) count

-- ---- the bytes of a struct, whatever it holds. Of tiles that are stored with zeros behind they are `bytes_for` of those tiles (`stored_bytes`)

-- byte k of lengths and codes, 0 behind them; of a length that is no byte the low byte
unfoldable pub stored_byte : List ℕ → List ℕ → ℕ → ℕ
stored_byte lens codes k = cond (eqb (k % 33) 0) (get_or lens (k / 33) 0 % 256) (get_or codes (32 * (k / 33) + (k % 33 - 1)) 0)

-- so many bytes of the lengths and codes of a struct
unfoldable pub struct_bytes : Tiles → ℕ → List ℕ
unfolding stored_byte list_of
struct_bytes ts count = list_of (stored_byte ts.lens ts.codes) count
