-- Examples of the definitions, by computation. Codes: 0 Up, 1 Down, 2 Left, 3 Right, 4 UpLeft, 5 UpRight, 6 DownRight, 7 DownLeft.
use Rattle.std.specs.Prelude.{◌≡◌, refl, Ok, Err, Bool, true, false, List, [], ◌∷◌, ◌++◌, map, length, replicate, take}
use Rattle.refusal.specs.Refusal.{refused, given, map_answer, refusal_of, value_or, answer_of}
use Rattle.refusal.specs.declared.Refusal.TheVariants as R
use Rattle.tiles.specs.declared.Tiles.{Tiles}
use Rattle.direction.specs.Direction.{step, rotate, reflect}
use Rattle.tile.specs.Path.{Path, l_path, t_path, tile_of}
use Rattle.tiles.specs.Paths.{shared_count, equal_counts, same_path, images, orbit, read_tiles, read_equal_tiles, tiles_of, overlay, with_tile, tile_at, MakesTiles, AddsTile, contains_single}

-- ---- equally many cells: Right covers 2 cells and Right, Right covers 3; UpLeft and Left cover 2 each
right_unequal : equal_counts ((3 ∷ []) ∷ (3 ∷ 3 ∷ []) ∷ []) ≡ false
unfolding equal_counts step
right_unequal = refl

-- the same where the first covers more; no tiles are equal, and cover 0
long_unequal : equal_counts ((3 ∷ 3 ∷ []) ∷ (3 ∷ []) ∷ []) ≡ false
unfolding equal_counts step
long_unequal = refl

none_equal : (equal_counts [] ≡ true) × (shared_count [] ≡ 0)
unfolding equal_counts shared_count
none_equal = (refl, refl)

left_equal : equal_counts ((4 ∷ []) ∷ (2 ∷ []) ∷ []) ≡ true
unfolding equal_counts step
left_equal = refl

left_shared : shared_count ((4 ∷ []) ∷ (2 ∷ []) ∷ []) ≡ 2
unfolding shared_count step
left_shared = refl

-- ---- orbits: of Right, 4 tiles; of `l_tile(2)` and of `t_tile(1)`, 8 each

-- the same codes, another code, a path that goes on
same_paths : same_path (3 ∷ 2 ∷ []) (3 ∷ 2 ∷ []) ∷ same_path (3 ∷ 2 ∷ []) (3 ∷ 1 ∷ []) ∷ same_path (3 ∷ []) (3 ∷ 2 ∷ []) ∷ same_path (3 ∷ 2 ∷ []) (3 ∷ []) ∷ [] ≡ true ∷ false ∷ false ∷ false ∷ []
unfolding same_path
same_paths = refl

-- eight images, equal ones too
eight_images : images (3 ∷ []) ≡ (3 ∷ []) ∷ (1 ∷ []) ∷ (2 ∷ []) ∷ (0 ∷ []) ∷ (3 ∷ []) ∷ (1 ∷ []) ∷ (2 ∷ []) ∷ (0 ∷ []) ∷ []
unfolding images rotate reflect
eight_images = refl

orbit_right : orbit (3 ∷ []) ≡ (3 ∷ []) ∷ (1 ∷ []) ∷ (2 ∷ []) ∷ (0 ∷ []) ∷ []
unfolding orbit rotate reflect
orbit_right = refl

orbit_l : orbit (l_path 2)
    ≡ (2 ∷ 0 ∷ []) ∷ (0 ∷ 3 ∷ []) ∷ (3 ∷ 1 ∷ []) ∷ (1 ∷ 2 ∷ []) ∷ (2 ∷ 1 ∷ []) ∷ (0 ∷ 2 ∷ []) ∷ (3 ∷ 0 ∷ []) ∷ (1 ∷ 3 ∷ []) ∷ []
unfolding orbit l_path rotate reflect
orbit_l = refl

orbit_t : orbit (t_path 1)
    ≡ (3 ∷ 0 ∷ 6 ∷ []) ∷ (1 ∷ 3 ∷ 7 ∷ []) ∷ (2 ∷ 1 ∷ 4 ∷ []) ∷ (0 ∷ 2 ∷ 5 ∷ []) ∷ (3 ∷ 1 ∷ 5 ∷ []) ∷ (1 ∷ 2 ∷ 6 ∷ []) ∷ (2 ∷ 0 ∷ 7 ∷ []) ∷ (0 ∷ 3 ∷ 4 ∷ []) ∷ []
unfolding orbit t_path rotate reflect
orbit_t = refl

-- ---- stored and read

-- 6 comes before 5: too many tiles, and a length over 32
both_faults : read_tiles (record { count = 65; lens = 33 ∷ []; codes = [] }) ≡ refused 6
unfolding read_tiles
both_faults = refl

-- 64 tiles, and a path of 32 codes, are read; a length that is not there is 0
most_tiles : read_tiles (record { count = 64; lens = []; codes = 5 ∷ [] }) ≡ given (replicate 64 [])
unfolding read_tiles
most_tiles = refl

longest_path : read_tiles (record { count = 1; lens = 32 ∷ []; codes = replicate 32 7 }) ≡ given (replicate 32 7 ∷ [])
unfolding read_tiles
longest_path = refl

-- 32 codes a tile, as many of them as its length says, whatever stands behind
two_paths : read_tiles (record { count = 2; lens = 8 ∷ 1 ∷ []; codes = 1 ∷ replicate 7 0 ++ replicate 24 9 ++ 2 ∷ 9 ∷ [] }) ≡ given ((1 ∷ replicate 7 0) ∷ (2 ∷ []) ∷ [])
unfolding read_tiles
two_paths = refl

-- a code over 7, of the second tile
bad_code : read_tiles (record { count = 2; lens = 1 ∷ 1 ∷ []; codes = replicate 32 0 ++ 8 ∷ [] }) ≡ refused 5
unfolding read_tiles
bad_code = refl

-- the struct has 64 lengths and 2,048 codes
struct_room : (length (tiles_of []).lens ≡ 64) × (length (tiles_of []).codes ≡ 2048)
unfolding tiles_of
struct_room = (refl, refl)

bad_length : read_tiles (record { count = 1; lens = 33 ∷ []; codes = [] }) ≡ refused 5
unfolding read_tiles
bad_length = refl

stored_unequal : read_equal_tiles (tiles_of ((3 ∷ []) ∷ (3 ∷ 3 ∷ []) ∷ [])) ≡ refused 7
unfolding read_equal_tiles tiles_of step
stored_unequal = refl

stored_orbit : read_tiles (tiles_of (orbit (3 ∷ []))) ≡ given ((3 ∷ []) ∷ (1 ∷ []) ∷ (2 ∷ []) ∷ (0 ∷ []) ∷ [])
unfolding read_tiles tiles_of orbit rotate reflect
stored_orbit = refl

-- ---- one tile more, and one tile of them

abbrev two : List Path
two = (3 ∷ []) ∷ (2 ∷ 1 ∷ []) ∷ []

-- a second tile behind the first: two tiles, 2,048 codes in all, the lengths, and the codes from 0 and from 32 on
second_added : map_answer (λ (ts : Tiles). ts.count ∷ length ts.codes ∷ take 3 ts.lens ++ take 35 ts.codes) (with_tile (tiles_of ((3 ∷ []) ∷ [])) (tile_of (2 ∷ 1 ∷ [])))
    ≡ given (2 ∷ 2048 ∷ 1 ∷ 2 ∷ 0 ∷ 3 ∷ replicate 31 0 ++ 2 ∷ 1 ∷ 0 ∷ [])
unfolding map_answer with_tile tiles_of tile_of
second_added = refl

-- the 32 codes at the places from 2 on, and the others elsewhere; 0 where there is none
overlaid : map (overlay 2 (7 ∷ 6 ∷ []) (replicate 40 1)) (1 ∷ 2 ∷ 3 ∷ 4 ∷ 33 ∷ 34 ∷ 40 ∷ []) ≡ 1 ∷ 7 ∷ 6 ∷ 0 ∷ 0 ∷ 1 ∷ 0 ∷ []
unfolding overlay
overlaid = refl

-- a 64th tile is added; refusal 6 for a 65th
last_added : map (λ n. refusal_of (with_tile (record { count = n; lens = []; codes = [] }) (tile_of []))) (63 ∷ 64 ∷ []) ≡ 0 ∷ 6 ∷ []
unfolding with_tile refusal_of
last_added = refl

-- the second tile; and one that is not there
second_told : (tile_at (tiles_of two) 1 ≡ tile_of (2 ∷ 1 ∷ [])) × (tile_at (record { count = 0; lens = []; codes = [] }) 0 ≡ tile_of [])
unfolding tile_at tiles_of tile_of
second_told = (refl, refl)

-- ---- the answers of the code

-- a refusal gives no tiles
made_refused : MakesTiles (refused 5) (Err R.BadTile)
unfolding map_answer
made_refused = refl

-- neither does a 65th tile
added_refused : AddsTile (record { count = 64; lens = []; codes = [] }) (tile_of []) (Err R.TooManyTiles)
unfolding with_tile
added_refused = refl

-- a single tile is among them, or none
singles : (contains_single ((3 ∷ []) ∷ [] ∷ []) ≡ true) × (contains_single ((3 ∷ []) ∷ []) ≡ false)
    × (answer_of {A = Bool} (Ok true) ≡ given true) × (answer_of {A = Bool} (Err R.TooManyTiles) ≡ refused 6)
unfolding contains_single
singles = (refl, refl, refl, refl)
