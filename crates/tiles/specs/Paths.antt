-- Definitions: tiles together, as a list of paths: whether a single tile is among them, equal numbers of cells, the orbit of a tile; and what the struct
-- `Tiles` of the code stands for, a count, 64 lengths and 2,048 codes, 32 for each tile, any numbers: `read_tiles` gives the paths, or 01's refusal, and
-- `tiles_of` stores paths. Reading what was stored gives it back (`read_tiles_tiles_of`). Assumes nothing.
use Rattle.std.specs.Prelude.{Result}
use Rattle.refusal.specs.declared.Refusal.{Refusal}
use Rattle.std.specs.Prelude.{◌≡◌, Bool, true, false, not, ◌&&◌, cond, ℕ, zero, suc, ◌+◌, ◌-◌, ◌*◌, eqb, leb, ltb, length, get_or, take, drop, set}
use mathlib.Core.List.{List, [], ◌∷◌, ◌++◌, Memᴰ as Mem, flat_map, map}
use Rattle.cells.specs.Lists.{any, firsts, list_of, all_below, padded}
use Rattle.direction.specs.declared.Axis.TheVariants as A
use Rattle.tile.specs.Path.{Path, cell_count, is_single, rotated, reflected, is_path}
use Rattle.tile.specs.declared.Tile.{Tile}
use Rattle.tiles.specs.declared.Tiles.{Tiles}
use Rattle.refusal.specs.Refusal.{Answer, refused, given, bind_answer, map_answer, answer_of}

-- whether one of the tiles is a single tile
unfoldable pub contains_single : List Path → Bool
unfolding is_single any
contains_single paths = any is_single paths

-- ---- demand 3's condition on all tiles

-- "tiles that all cover equally many cells"
abbrev pub EqualCounts : List Path → Type 0
EqualCounts tiles = (s t : Path) → Mem s tiles → Mem t tiles → cell_count s ≡ cell_count t

-- the number of cells that each tile covers, where all cover equally many: the first tile's, 0 with no tiles
unfoldable pub shared_count : List Path → ℕ
unfolding cell_count
shared_count [] = 0
shared_count (path ∷ paths) = cell_count path

-- whether all tiles cover equally many cells
unfoldable pub equal_counts : List Path → Bool
unfolding cell_count shared_count any
equal_counts tiles = not (any (λ path. not (eqb (cell_count path) (shared_count tiles))) tiles)

-- ---- the orbit

-- the tile and its first k - 1 clockwise turns
unfoldable pub turns : ℕ → Path → List Path
unfolding rotated
turns zero path = []
turns (suc k) path = path ∷ turns k (rotated path)

-- whether two paths have the same codes
unfoldable pub same_path : Path → Path → Bool
same_path [] [] = true
same_path [] (d ∷ ds) = false
same_path (c ∷ cs) [] = false
same_path (c ∷ cs) (d ∷ ds) = eqb c d && same_path cs ds

-- the eight images of a tile: the tile, its three clockwise turns, its Horizontal reflection and that one's turns
unfoldable pub images : Path → List Path
unfolding turns reflected
images path = turns 4 path ++ turns 4 (reflected A.Horizontal path)

-- 01: "An orbit is the tile, its three clockwise turns, its Horizontal reflection and that one's turns, first appearances kept"
unfoldable pub orbit : Path → List Path
unfolding images same_path firsts
orbit path = firsts same_path (images path)

-- ---- a list of tiles

-- the path of tile i, of the lengths and the codes
abbrev pub path_at : List ℕ → List ℕ → ℕ → Path
path_at lens codes i = take (get_or lens i 0) (drop (32 * i) codes)

-- whether tile i is a path; a length over 32, which its 32 codes do not have, is none
unfoldable pub sound_at : List ℕ → List ℕ → ℕ → Bool
unfolding is_path
sound_at lens codes i = leb (get_or lens i 0) 32 && is_path (path_at lens codes i)

-- the paths of the tiles
abbrev pub paths_in : Tiles → List Path
paths_in ts = list_of (path_at ts.lens ts.codes) ts.count

-- 01: refusal 6 for "over 64 tiles", then 5 for "a path over 32 or a code over 7"
unfoldable pub read_tiles : Tiles → Answer (List Path)
unfolding sound_at list_of all_below
read_tiles ts =
    cond (leb ts.count 64) (cond (all_below (sound_at ts.lens ts.codes) ts.count) (given (paths_in ts)) (refused 5)) (refused 6)

-- 01: refusals 6 and 5, then 7, "two tiles with different numbers of cells"
unfoldable pub read_equal_tiles : Tiles → Answer (List Path)
unfolding read_tiles bind_answer equal_counts
read_equal_tiles ts = bind_answer (read_tiles ts) (λ paths. cond (equal_counts paths) (given paths) (refused 7))

-- paths as they are stored
unfoldable pub tiles_of : List Path → Tiles
unfolding flat_map padded
tiles_of ps = record { count = length ps; lens = padded (map length ps) 64; codes = padded (flat_map (λ p. padded p 32) ps) 2048 }

-- ---- one tile more, and one tile of them

-- the 32 codes of ds at the places from a on, and those of cs elsewhere
unfoldable pub overlay : ℕ → List ℕ → List ℕ → ℕ → ℕ
overlay a ds cs k = cond (leb a k && ltb k (a + 32)) (get_or ds (k - a) 0) (get_or cs k 0)

-- the struct with a tile's length and codes behind those of the others (`with_tile_tiles_of` says what it stores)
abbrev pub appended : Tiles → Tile → Tiles
appended ts t =
    record {
      count = ts.count + 1;
      lens = set ts.lens ts.count t.len;
      codes = list_of (overlay (32 * ts.count) t.codes ts.codes) 2048;
    }

-- refusal 6 for a 65th tile
unfoldable pub with_tile : Tiles → Tile → Answer Tiles
unfolding list_of overlay
with_tile ts t = cond (ltb ts.count 64) (given (appended ts t)) (refused 6)

-- tile i as the struct has it, with zeros for the tiles from 64 on (`tile_at_tiles_of` says which tile it is)
unfoldable pub tile_at : Tiles → ℕ → Tile
unfolding list_of
tile_at ts i = record { len = get_or ts.lens i 0; codes = list_of (λ j. get_or ts.codes (32 * i + j) 0) 32 }

-- ---- the answers of the code

-- made tiles: the paths stored, or the refusal
abbrev pub MakesTiles : Answer (List Path) → Result Tiles Refusal → Type 0
MakesTiles a r = answer_of r ≡ map_answer tiles_of a

-- tiles with one more, likewise
abbrev pub AddsTile : Tiles → Tile → Result Tiles Refusal → Type 0
AddsTile ts t r = answer_of r ≡ with_tile ts t
