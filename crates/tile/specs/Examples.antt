-- Examples of the definitions, by computation. Codes: 0 Up, 1 Down, 2 Left, 3 Right, 4 UpLeft, 5 UpRight, 6 DownRight, 7 DownLeft.
use Rattle.std.specs.Prelude.{◌≡◌, refl, Ok, Err, true, false, [], ◌∷◌, map, ℕ, ◌≤◌, pos, negsuc, length, replicate}
use Rattle.std.proofs.Common.{arith}
use Rattle.direction.specs.declared.Axis.TheVariants as A
use Rattle.refusal.specs.Refusal.{refused, given, map_answer, answer_of}
use Rattle.refusal.specs.declared.Refusal.TheVariants as R
use Rattle.direction.specs.Direction.{at, origin, step, opposite, rotate, reflect, on_code, offset_answer}
use Rattle.tile.specs.Path.{Path, is_path, points, cells, cell_count, is_single, EdgeJoined, t_path, read_tile, tile_of, MakesTile, l_tile, t_tile}
use Rattle.tile.specs.EdgeTest.{edge_joined, edge_joined_iff}

-- ---- directions

-- Up, Down, Left, Right, UpLeft, UpRight, DownRight, DownLeft: row step and column step
eight_steps : map step (0 ∷ 1 ∷ 2 ∷ 3 ∷ 4 ∷ 5 ∷ 6 ∷ 7 ∷ [])
    ≡ at (negsuc 0) (pos 0) ∷ at (pos 1) (pos 0) ∷ at (pos 0) (negsuc 0) ∷ at (pos 0) (pos 1) ∷ at (negsuc 0) (negsuc 0) ∷ at (negsuc 0) (pos 1) ∷ at (pos 1) (pos 1) ∷ at (pos 1) (negsuc 0) ∷ []
unfolding step
eight_steps = refl

up_left : step 4 ≡ at (negsuc 0) (negsuc 0)
unfolding step
up_left = refl

no_code : on_code 8 (step 8) ≡ refused 5
unfolding on_code
no_code = refl

-- code 7 is the last; a code that is none has no step and no image
codes : (on_code {A = ℕ} 7 3 ≡ given 3) × (step 8 ≡ origin) × (opposite 8 ≡ 8) × (rotate 8 ≡ 8) × (reflect A.Vertical 8 ≡ 8)
unfolding on_code step opposite rotate reflect
codes = (refl, refl, refl, refl, refl)

turned_up_left : rotate 4 ≡ 5
unfolding rotate
turned_up_left = refl

-- the two reflections of UpLeft: DownLeft and UpRight
reflected_rows : reflect A.Horizontal 4 ≡ 7
unfolding reflect
reflected_rows = refl

reflected_cols : reflect A.Vertical 4 ≡ 5
unfolding reflect
reflected_cols = refl

-- ---- paths: 32 codes and code 7 are one, 33 codes and code 8 are none

longest : is_path (replicate 32 0) ≡ true
unfolding is_path
longest = refl

too_long : is_path (replicate 33 0) ≡ false
unfolding is_path
too_long = refl

last_code : is_path (7 ∷ []) ≡ true
unfolding is_path
last_code = refl

code_eight : is_path (0 ∷ 8 ∷ []) ≡ false
unfolding is_path
code_eight = refl

-- ---- cells: Right, Down, Left, Up comes back to where it began, so that five points are four cells

square : Path
square = 3 ∷ 1 ∷ 2 ∷ 0 ∷ []

square_points : points origin square ≡ origin ∷ at (pos 0) (pos 1) ∷ at (pos 1) (pos 1) ∷ at (pos 1) (pos 0) ∷ origin ∷ []
unfolding points step square
square_points = refl

square_cells : cells square ≡ origin ∷ at (pos 0) (pos 1) ∷ at (pos 1) (pos 1) ∷ at (pos 1) (pos 0) ∷ []
unfolding cells step square
square_cells = refl

-- Right, Right, Down, Left, Up, Up crosses itself at its second point: seven points, six cells
crossing : Path
crossing = 3 ∷ 3 ∷ 1 ∷ 2 ∷ 0 ∷ 0 ∷ []

crossing_points : length (points origin crossing) ≡ 7
unfolding points step crossing
crossing_points = refl

crossing_cells : cells crossing ≡ origin ∷ at (pos 0) (pos 1) ∷ at (pos 0) (pos 2) ∷ at (pos 1) (pos 2) ∷ at (pos 1) (pos 1) ∷ at (negsuc 0) (pos 1) ∷ []
unfolding cells step crossing
crossing_cells = refl

-- Right and Left cover as many cells as Right alone
there_and_back : cell_count (3 ∷ 2 ∷ []) ≡ 2
unfolding cell_count step
there_and_back = refl

-- "A single tile is the empty path"
singles : (is_single [] ≡ true) × (is_single (3 ∷ []) ≡ false)
unfolding is_single
singles = (refl, refl)

-- ---- the Rust's tiles

l_two : l_tile 2 ≡ given (2 ∷ 0 ∷ [])
unfolding l_tile
l_two = refl

-- on to the top; and the longest path, of 32 codes
l_more : (l_tile 3 ≡ given (2 ∷ 0 ∷ 0 ∷ [])) × (l_tile 32 ≡ given (2 ∷ replicate 31 0))
unfolding l_tile
l_more = (refl, refl)

l_none : l_tile 0 ≡ refused 5
unfolding l_tile
l_none = refl

l_long : l_tile 33 ≡ refused 5
unfolding l_tile
l_long = refl

t_one : t_tile 1 ≡ given (3 ∷ 0 ∷ 6 ∷ [])
unfolding t_tile
t_one = refl

-- on to the right
t_two : t_tile 2 ≡ given (3 ∷ 3 ∷ 0 ∷ 6 ∷ 3 ∷ [])
unfolding t_tile
t_two = refl

t_long : t_tile 16 ≡ refused 5
unfolding t_tile
t_long = refl

-- ---- edge-joined is about cells and not about steps: the T has a diagonal step and is; a diagonal pair is not

t_joined : EdgeJoined (t_path 1)
unfolding edge_joined cell_count t_path step
t_joined = (edge_joined_iff (t_path 1)).0 refl

-- a single tile is, since it has no second cell
single_joined : EdgeJoined []
unfolding cell_count
single_joined h p m = let few : 2 ≤ 1 = h in absurd (omega (arith, few))

diagonal_not_joined : edge_joined (4 ∷ []) ≡ false
unfolding edge_joined cell_count step
diagonal_not_joined = refl

-- ---- stored and read

stored_right : read_tile (tile_of (3 ∷ [])) ≡ given (3 ∷ [])
unfolding read_tile tile_of
stored_right = refl

stored_nine : read_tile (tile_of (9 ∷ [])) ≡ refused 5
unfolding read_tile tile_of
stored_nine = refl

-- 32 codes are stored, zeros behind the path
stored_codes : tile_of (3 ∷ 7 ∷ []) ≡ record { len = 2; codes = 3 ∷ 7 ∷ replicate 30 0 }
unfolding tile_of
stored_codes = refl

-- 32 codes are read
longest_read : read_tile (record { len = 32; codes = replicate 32 7 }) ≡ given (replicate 32 7)
unfolding read_tile
longest_read = refl

-- a length over 32 is refused, though the 32 codes are a path
length_over : read_tile (record { len = 33; codes = replicate 32 0 }) ≡ refused 5
unfolding read_tile
length_over = refl

-- ---- the answers of the code

-- a tile that is made
made : MakesTile (l_tile 2) (Ok (tile_of (2 ∷ 0 ∷ [])))
unfolding l_tile map_answer
made = refl

-- the refusal's number
made_refused : MakesTile (l_tile 0) (Err R.BadTile)
unfolding l_tile map_answer
made_refused = refl

-- an offset, a code or a number, or the refusal's number
answers : (offset_answer (Ok (pos 1, negsuc 0)) ≡ given (at (pos 1) (negsuc 0))) × (offset_answer (Err R.BadTile) ≡ refused 5)
    × (answer_of {A = ℕ} (Ok 3) ≡ given 3) × (answer_of {A = ℕ} (Err R.BadTile) ≡ refused 5)
answers = (refl, refl, refl, refl)
