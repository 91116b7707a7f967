-- The definitions compute: the children of small boards, and what `place_tile` answers. Assumes nothing.
use Rattle.std.specs.Prelude.{Err, Ok}
use Rattle.std.specs.Prelude.{◌≡◌, refl, true, false, List, [], ◌∷◌, ℕ, ◌+◌, ◌-◌, ◌*◌, ◌^◌}
use Rattle.cells.specs.declared.Cells.{Cells}
use Rattle.cells.specs.Set.{number}
use Rattle.cells.specs.Lists.{words_for}
use Rattle.board.specs.Board.{of_marks}
use Rattle.refusal.specs.Refusal.{refused, given, map_answer, value_or}
use Rattle.refusal.specs.declared.Refusal.TheVariants as R
use Rattle.direction.specs.Direction.{step, rotate, reflect}
use Rattle.tiles.specs.declared.Tiles.{Tiles}
use Rattle.tile.specs.Path.{Path}
use Rattle.tiles.specs.Paths.{orbit, tiles_of}
use Rattle.rectangle.specs.Board.{Board}
use Rattle.children.specs.Children.{pruned, children, place_tile, PlacesTiles}

-- boards of a width and a height with fixed and laid marks
abbrev board : ℕ → ℕ → ℕ → ℕ → Board
board w h fixed laid = record { width = w; height = h; fixed = fixed; laid = laid }

-- ---- children

-- dominoes: the orbit of Right
abbrev dominoes : List Path
dominoes = orbit (3 ∷ [])

-- on 2 by 2: both cells of the upper row, both of the left column
two_by_two_lem : children (board 2 2 0 0) dominoes ≡ 3 ∷ (1 + 2 ^ 16) ∷ []
unfolding children orbit rotate reflect
two_by_two_lem = refl

-- Left and Right cover the same cells: one piece, one child
left_right : children (board 2 1 0 0) ((2 ∷ []) ∷ (3 ∷ []) ∷ []) ≡ 3 ∷ []
unfolding children
left_right = refl

-- the middle of 3 by 3 alone is free: dominoes are pruned; with a single tile beside them there is one child
abbrev ring : ℕ
ring = 7 + 5 * 2 ^ 16 + 7 * 2 ^ 32

pruned_ring : (pruned (board 3 3 0 ring) dominoes ≡ true) × (children (board 3 3 0 ring) ([] ∷ dominoes) ≡ (ring + 2 ^ 17) ∷ [])
unfolding children pruned orbit rotate reflect
pruned_ring = (refl, refl)

-- fixed marks do not prune: the same cells fixed leave none to dominoes, which do not fit, and one child to a single tile
fixed_ring : (pruned (board 3 3 ring 0) dominoes ≡ false) × (children (board 3 3 ring 0) dominoes ≡ []) × (children (board 3 3 ring 0) ([] ∷ []) ≡ (ring + 2 ^ 17) ∷ [])
unfolding children pruned orbit rotate reflect
fixed_ring = (refl, refl, refl)

-- "for path points 0 to k": Right Right with points 0, 1 and 2 on (0, 2), above the laid mark of a marked lower row
abbrev lower : ℕ
lower = 31 * 2 ^ 16

point_order : children (board 5 2 (lower - 2 ^ 18) (2 ^ 18)) ((3 ∷ 3 ∷ []) ∷ []) ≡ (28 + lower) ∷ (14 + lower) ∷ (7 + lower) ∷ []
unfolding children
point_order = refl

-- ---- `place_tile`

-- eight words hold the two children
room : place_tile (board 2 2 0 0) (tiles_of dominoes) 8 ≡ given (3 ∷ 65537 ∷ [])
unfolding place_tile tiles_of orbit rotate reflect
room = refl

-- seven words hold one board: refusal 8 for "more children than the output holds"
no_room : place_tile (board 2 2 0 0) (tiles_of dominoes) 7 ≡ refused 8
unfolding place_tile tiles_of orbit rotate reflect
no_room = refl

-- so many tiles, the first of them the code 9
abbrev nines : ℕ → Tiles
nines n = record { count = n; lens = 1 ∷ []; codes = 9 ∷ [] }

-- "Refusals: 4", then "6, over 64 tiles", then "5, a path over 32 or a code over 7": the first cause decides
refusals : place_tile (board 2 2 0 4) (nines 65) 0 ∷ place_tile (board 2 2 0 0) (nines 65) 0 ∷ place_tile (board 2 2 0 0) (nines 1) 0 ∷ [] ≡ refused 4 ∷ refused 6 ∷ refused 5 ∷ []
unfolding place_tile
refusals = refl

-- "On success words behind the last child are zero"
output : words_for (3 ∷ 65537 ∷ []) 10 ≡ 3 ∷ 0 ∷ 0 ∷ 0 ∷ 65537 ∷ 0 ∷ 0 ∷ 0 ∷ 0 ∷ 0 ∷ []
unfolding words_for
output = refl

-- the one tile Right, and a set of no cells
right : Tiles
right = tiles_of ((3 ∷ []) ∷ [])

no_cells : Cells
no_cells = record { w0 = 0; w1 = 0; w2 = 0; w3 = 0 }

-- what `place_tile` leaves in words that held 7: one child of 2 by 1, zeros behind
left : PlacesTiles (of_marks 2 1 no_cells no_cells) right (7 ∷ 7 ∷ 7 ∷ 7 ∷ 7 ∷ []) (3 ∷ 0 ∷ 0 ∷ 0 ∷ 0 ∷ []) (Ok 1)
unfolding place_tile words_for map_answer value_or number right tiles_of no_cells step
left = record { answer = refl; words = refl }

-- after refusal 8 zeros
left_refused : PlacesTiles (of_marks 2 1 no_cells no_cells) right (7 ∷ 7 ∷ 7 ∷ []) (0 ∷ 0 ∷ 0 ∷ []) (Err R.NoRoom)
unfolding place_tile words_for map_answer value_or number right tiles_of no_cells step
left_refused = record { answer = refl; words = refl }
