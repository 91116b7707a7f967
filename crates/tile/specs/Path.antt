-- Definitions: a tile is a path, a list of direction codes. Its points, its cells and its symmetries; the condition that demand 3 puts on each tile; the paths
-- of the Rust's `l_tile` and `t_tile`; and what the struct `Tile` of the code stands for, a length and 32 codes, any numbers: `read_tile` gives the path, or
-- 01's refusal, and `tile_of` stores a path. Reading what was stored gives it back (`read_tile_tile_of`). Assumes nothing.
use Rattle.std.specs.Prelude.{Result}
use Rattle.refusal.specs.declared.Refusal.{Refusal}
use Rattle.std.specs.Prelude.{◌≡◌, Bool, true, false, ◌&&◌, cond, ℕ, ◌-◌, ◌≤◌, ◌<◌, leb, ltb, length, replicate, take}
use mathlib.Core.List.{List, [], ◌∷◌, ◌++◌, map, Memᴰ as Mem}
use Rattle.cells.specs.Lists.{firsts, padded}
use Rattle.direction.specs.declared.Axis.{Axis}
use Rattle.direction.specs.Direction.{Position, origin, shift, same_position, step, rotate, reflect}
use Rattle.tile.specs.declared.Tile.{Tile}
use Rattle.refusal.specs.Refusal.{Answer, refused, given, map_answer, answer_of}

-- a list of direction codes
abbrev pub Path : Type 0
Path = List ℕ

-- every code is one of 0 to 7
unfoldable pub codes_ok : Path → Bool
codes_ok [] = true
codes_ok (code ∷ path) = ltb code 8 && codes_ok path

-- 01: "A tile is a path of 0 to 32 directions"; refusal 5 is for "a path over 32 or a code over 7"
unfoldable pub is_path : List ℕ → Bool
unfolding codes_ok
is_path codes = leb (length codes) 32 && codes_ok codes

-- ---- points and cells

-- the points of a path that starts at p: p, and where each step leads
unfoldable pub points : Position → Path → List Position
points p [] = p ∷ []
points p (code ∷ path) = p ∷ points (shift p (step code)) path

-- 01: "Its cells are the distinct cells of the path; a path may cross itself". Here of the path from the origin on; from
-- another position on they are these, shifted (`cells_shift`)
unfoldable pub cells : Path → List Position
unfolding points same_position firsts
cells path = firsts same_position (points origin path)

-- the number of cells of a tile
unfoldable pub cell_count : Path → ℕ
unfolding cells
cell_count path = length (cells path)

-- 01: "A single tile is the empty path"
unfoldable pub is_single : Path → Bool
is_single [] = true
is_single (code ∷ path) = false

-- ---- demand 3's condition on each tile

-- two positions share an edge: one is a step Up, Down, Left or Right from the other
abbrev pub Beside : Position → Position → Type 0
Beside p q = (code : ℕ) × (code < 4) × (q ≡ shift p (step code))

-- "every cell of a tile of two or more cells shares an edge with another cell of that tile"
abbrev pub EdgeJoined : Path → Type 0
EdgeJoined path = 2 ≤ cell_count path → (p : Position) → Mem p (cells path) → (q : Position) × Mem q (cells path) × Beside p q

-- ---- symmetries

-- the tile turned by 90 degrees clockwise
unfoldable pub rotated : Path → Path
rotated path = map rotate path

-- the tile reflected about an axis
unfoldable pub reflected : Axis → Path → Path
reflected axis path = map (reflect axis) path

-- ---- the paths of the Rust's `l_tile` and `t_tile`

-- Left and then Up
unfoldable pub l_path : ℕ → Path
l_path n = 2 ∷ replicate (n - 1) 0

-- Right, Up, DownRight and on to the right
unfoldable pub t_path : ℕ → Path
t_path n = replicate n 3 ++ 0 ∷ 6 ∷ replicate (n - 1) 3

-- ---- paths and tiles

-- the path of a tile: its first codes, as many as its length says
abbrev pub path_in : Tile → Path
path_in t = take t.len t.codes

-- a path that is handed in as a list of codes; 01: refusal 5 for "a path over 32 or a code over 7"
unfoldable pub read_path : List ℕ → Answer Path
unfolding is_path
read_path codes = cond (is_path codes) (given codes) (refused 5)

-- the same of a tile; a length over 32, which the 32 codes do not have, is a path over 32
unfoldable pub read_tile : Tile → Answer Path
unfolding read_path
read_tile t = cond (leb t.len 32) (read_path (path_in t)) (refused 5)

-- a path as it is stored
unfoldable pub tile_of : Path → Tile
unfolding padded
tile_of p = record { len = length p; codes = padded p 32 }

-- ---- the answers of the code

-- a made tile: the path stored, or the refusal
abbrev pub MakesTile : Answer Path → Result Tile Refusal → Type 0
MakesTile a r = answer_of r ≡ map_answer tile_of a

-- ---- the Rust's `l_tile` and `t_tile`

-- a tile of a length: refusal 5 where the Rust panics, at length 0, and where the path would pass 32 codes
unfoldable pub of_length : ℕ → Path → Answer Path
of_length n p = cond (ltb 0 n && leb (length p) 32) (given p) (refused 5)

-- `l_tile`
unfoldable pub l_tile : ℕ → Answer Path
unfolding of_length l_path
l_tile n = of_length n (l_path n)

-- `t_tile`
unfoldable pub t_tile : ℕ → Answer Path
unfolding of_length t_path
t_tile n = of_length n (t_path n)
