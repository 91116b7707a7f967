-- Structs of tiles whose fields are told one by one. Rests on `TileBytes`. Assumes nothing.
use Rattle.std.specs.Prelude.{◌≡◌, List, ℕ, ◌+◌, ◌*◌, ◌/◌, ◌%◌, length, get_or}
use Rattle.cells.specs.Lists.{list_of}
use Rattle.tile.specs.declared.Tile.{Tile}
use Rattle.tiles.specs.declared.Tiles.{Tiles}
use Rattle.host_tiles.specs.TileBytes.{tile_in, tiles_in}

pub tiles_made : (bytes lens codes : List ℕ)
    → lens ≡ list_of (λ i. get_or bytes (33 * i) 0) 64 → codes ≡ list_of (λ k. get_or bytes (33 * (k / 32) + (1 + k % 32)) 0) 2048
    → ◌≡◌ {A = Tiles} record { count = length bytes / 33; lens = lens; codes = codes } (tiles_in bytes)
tiles_made bytes lens codes p q = rw (p, q)

pub tile_made : (bytes codes : List ℕ) {k : ℕ}
    → k ≡ get_or bytes 0 0 → codes ≡ list_of (λ j. get_or bytes (1 + j) 0) 32
    → ◌≡◌ {A = Tile} record { len = k; codes = codes } (tile_in bytes)
tile_made bytes codes p q = rw (p, q)
