-- Laws of paths: a path from elsewhere has its points shifted; a symmetry of the plane takes points to points, so the number of cells and being
-- edge-joined are kept; a tile has one cell exactly if its path is empty; turns and reflections are the symmetries of a square, and keep a path's
-- length and codes. Rests on direction's `PositionLaws` and `DirectionLaws`. Assumes nothing.
use Rattle.std.specs.Prelude.{◌≡◌, ◌↔◌, false, ℕ, zero, suc, ◌≤◌, ◌<◌, ltb, get_or}
use Rattle.std.proofs.Math.Path.{refl, sym, ap}
use Rattle.std.proofs.Common.{ap₂, ◌∙◌, subst, arith, ltb-true, lt-ltb}
use Rattle.std.proofs.Math.Bool.{So, and-eq-true_iff}
use mathlib.Core.List.Memᴰ.{head as here}
use mathlib.Core.List.Memᴰ.{map as mem-map}
use mathlib.Core.List.Memᴰ.{of_map}
use mathlib.Core.List.{List, [], ◌∷◌, map, Memᴰ as Mem}
use Rattle.std.proofs.Math.ListN.{length, length-map}
use Rattle.cells.specs.Lists.{holds, add_new, add_firsts, firsts}
use Rattle.cells.specs.FirstsLaws.{firsts_map, length_add_firsts, mem_firsts}
use Rattle.direction.specs.declared.Axis.TheVariants as A
use Rattle.direction.specs.Direction.{Position, origin, shift, same_position, step, rotate, reflect}
use Rattle.direction.specs.PositionLaws.{quarter_turn, mirror_rows, same_position_map, shift_shift, shift_inj, shift_origin, turn_inj, turn_shift, mirror_rows_inj, mirror_rows_shift, same_position_iff}
use Rattle.tile.specs.Path.{Path, codes_ok, points, cells, cell_count, EdgeJoined, rotated, reflected}
use Rattle.direction.specs.DirectionLaws.{by_code, step_rotate, step_reflect, rotate_edge, reflect_edge, rotate_four, reflect_reflect, reflect_rotate, reflect_vertical, rotate_lt, reflect_lt}
use Rattle.cells.specs.MemberLaws.{mem_place}
use Rattle.direction.specs.declared.Axis.{Axis}

-- ---- a path from elsewhere

pub points_shift : (d p : Position) (path : Path) → points (shift p d) path ≡ map (λ q. shift q d) (points p path)
unfolding points
points_shift d p [] = refl
points_shift d p (code ∷ path) =
    ap (λ (l : List Position). shift p d ∷ l) (ap (λ (q : Position). points q path) (shift_shift p d (step code)) ∙ points_shift d (shift p (step code)) path)

-- two placings of a tile differ by a shift, and have as many cells
pub cells_shift : (d : Position) (path : Path) → firsts same_position (points d path) ≡ map (λ q. shift q d) (cells path)
unfolding cells
cells_shift d path =
    ap (λ (p : Position). firsts same_position (points p path)) (sym (shift_origin d))
    ∙ ap (firsts same_position) (points_shift d origin path)
    ∙ firsts_map same_position same_position (λ q. shift q d) (same_position_map (λ q. shift q d) (shift_inj d)) (points origin path)

-- ---- a symmetry of the plane, F, and of the codes, f

pub record Symmetry (f : ℕ → ℕ) (F : Position → Position) : Type 0 where
  pub fixes : F origin ≡ origin
  pub adds : (p d : Position) → F (shift p d) ≡ shift (F p) (F d)
  pub one : (p q : Position) → F p ≡ F q → p ≡ q
  pub steps : (c : ℕ) → step (f c) ≡ F (step c)
  pub edges : (c : ℕ) → c < 4 → f c < 4

pub rotate_symmetry : Symmetry rotate quarter_turn
rotate_symmetry = record { fixes = refl; adds = turn_shift; one = turn_inj; steps = step_rotate; edges = rotate_edge }

pub reflect_symmetry : Symmetry (reflect A.Horizontal) mirror_rows
reflect_symmetry = record { fixes = refl; adds = mirror_rows_shift; one = mirror_rows_inj; steps = step_reflect A.Horizontal; edges = reflect_edge A.Horizontal }

module _ (f : ℕ → ℕ) (F : Position → Position) (s : Symmetry f F) where
  points_map : (p : Position) (path : Path) → points (F p) (map f path) ≡ map F (points p path)
  unfolding points
  points_map p [] = refl
  points_map p (code ∷ path) =
      ap (λ (l : List Position). F p ∷ l)
      (ap (λ (q : Position). points q (map f path)) (ap (shift (F p)) (s.steps code) ∙ sym (s.adds p (step code))) ∙ points_map (shift p (step code)) path)

  pub cells_map : (path : Path) → cells (map f path) ≡ map F (cells path)
  unfolding cells
  cells_map path =
      ap (λ (p : Position). firsts same_position (points p (map f path))) (sym s.fixes)
      ∙ ap (firsts same_position) (points_map origin path)
      ∙ firsts_map same_position same_position F (same_position_map F s.one) (points origin path)

  pub cell_count_map : (path : Path) → cell_count (map f path) ≡ cell_count path
  unfolding cell_count
  cell_count_map path = ap length (cells_map path) ∙ length-map (cells path) F

  pub edge_joined_map : (path : Path) → EdgeJoined path → EdgeJoined (map f path)
  edge_joined_map path h two p m =
      let back = of_map F (cells path) (subst (Mem p) (cells_map path) m) in
      let other = h (subst (λ (n : ℕ). 2 ≤ n) (cell_count_map path) two) back.0 back.1 in
      let beside = other.2 in (
        F other.0,
        subst (Mem (F other.0)) (sym (cells_map path)) (mem-map F other.1),
        (
          f beside.0,
          s.edges beside.0 beside.1,
          ap F beside.2 ∙ s.adds back.0 (step beside.0) ∙ ap₂ shift back.2 (sym (s.steps beside.0)),
        ),
      )

-- ---- one cell exactly if the path is empty

pub cell_count_empty : cell_count [] ≡ 1
unfolding cell_count
cell_count_empty = refl

points_first : (p : Position) (path : Path) → (rest : List Position) × (points p path ≡ p ∷ rest)
unfolding points
points_first p [] = ([], refl)
points_first p (code ∷ path) = (points (shift p (step code)) path, refl)

-- a step leads to another cell
step_moves : (c : ℕ) → c < 8 → holds same_position (origin ∷ []) (shift origin (step c)) ≡ false
unfolding step holds same_position
step_moves =
    by_code (λ c. c < 8 → holds same_position (origin ∷ []) (shift origin (step c)) ≡ false)
    (λ _. refl) (λ _. refl) (λ _. refl) (λ _. refl) (λ _. refl) (λ _. refl) (λ _. refl) (λ _. refl) (λ c h i. absurd (omega arith))

pub cell_count_more : (code : ℕ) (path : Path) → code < 8 → 2 ≤ cell_count (code ∷ path)
unfolding cell_count points firsts
cell_count_more code path h =
    let q : Position = shift origin (step code) in
    let rest = points_first q path in
    subst (λ (l : List Position). 2 ≤ length (add_firsts same_position (origin ∷ []) l)) (sym rest.1)
    (subst (λ (l : List Position). 2 ≤ length (add_firsts same_position l rest.0)) (sym (two q (step_moves code h)))
    (length_add_firsts same_position (origin ∷ q ∷ []) rest.0).0)
  where
    two : (q : Position) → holds same_position (origin ∷ []) q ≡ false → add_new same_position (origin ∷ []) q ≡ origin ∷ q ∷ []
    two q e = rw e

pub codes_ok_cons : (code : ℕ) (path : Path) → So (codes_ok (code ∷ path)) → (code < 8) × So (codes_ok path)
unfolding codes_ok
codes_ok_cons code path h = let both = (and-eq-true_iff (ltb code 8) (codes_ok path)).0 h in (ltb-true code 8 both.0, both.1)

-- a path's code at a place is one of 0 to 7
pub codes_ok_at : (path : Path) (i : ℕ) → So (codes_ok path) → i < length path → get_or path i 0 < 8
codes_ok_at [] i ok h = absurd (omega arith)
codes_ok_at (code ∷ path) zero ok h = (codes_ok_cons code path ok).0
codes_ok_at (code ∷ path) (suc i) ok h = codes_ok_at path i (codes_ok_cons code path ok).1 (omega arith)

pub one_cell_iff : (path : Path) → So (codes_ok path) → (cell_count path ≡ 1) ↔ (path ≡ [])
one_cell_iff [] h = (λ e. refl, λ e. cell_count_empty)
one_cell_iff (code ∷ path) h =
    (λ e. absurd (omega (arith, cell_count_more code path (codes_ok_cons code path h).0)), λ e. ap cell_count e ∙ cell_count_empty)

-- ---- a tile has a cell, the origin

points_origin : (path : Path) → Mem origin (points origin path)
unfolding points
points_origin [] = here refl
points_origin (code ∷ path) = here refl

pub cells_origin : (path : Path) → Mem origin (cells path)
unfolding cells
cells_origin path = (mem_firsts same_position same_position_iff (points origin path) origin).1 (points_origin path)

pub cell_count_pos : (path : Path) → 0 < cell_count path
unfolding cell_count
cell_count_pos path = let r = mem_place (cells path) origin origin (cells_origin path) in omega (arith, r.1)

-- ---- the symmetries of a square, on paths

pub rotated_four : (p : Path) → rotated (rotated (rotated (rotated p))) ≡ p
unfolding rotated
rotated_four [] = refl
rotated_four (c ∷ p) = ap₂ ◌∷◌ (rotate_four c) (rotated_four p)

pub reflected_reflected : (p : Path) → reflected A.Horizontal (reflected A.Horizontal p) ≡ p
unfolding reflected
reflected_reflected [] = refl
reflected_reflected (c ∷ p) = ap₂ ◌∷◌ (reflect_reflect c) (reflected_reflected p)

pub reflected_vertical : (p : Path) → reflected A.Vertical p ≡ rotated (rotated (reflected A.Horizontal p))
unfolding reflected rotated
reflected_vertical [] = refl
reflected_vertical (c ∷ p) = ap₂ ◌∷◌ (reflect_vertical c) (reflected_vertical p)

turn_back : (p : Path) → rotated (reflected A.Horizontal (rotated p)) ≡ reflected A.Horizontal p
unfolding reflected rotated
turn_back [] = refl
turn_back (c ∷ p) = ap₂ ◌∷◌ (reflect_rotate c) (turn_back p)

pub reflected_rotated : (p : Path) → reflected A.Horizontal (rotated p) ≡ rotated (rotated (rotated (reflected A.Horizontal p)))
reflected_rotated p = sym (rotated_four (reflected A.Horizontal (rotated p))) ∙ ap (λ (q : Path). rotated (rotated (rotated q))) (turn_back p)

-- ---- a path moved is as long, and of codes 0 to 7

pub length_rotated : (p : Path) → length (rotated p) ≡ length p
unfolding rotated
length_rotated p = length-map p rotate

pub length_reflected : (axis : Axis) (p : Path) → length (reflected axis p) ≡ length p
unfolding reflected
length_reflected axis p = length-map p (reflect axis)

codes_ok_map : (f : ℕ → ℕ) → ((c : ℕ) → c < 8 → f c < 8) → (p : Path) → So (codes_ok p) → So (codes_ok (map f p))
unfolding codes_ok
codes_ok_map f h [] e = refl
codes_ok_map f h (c ∷ p) e =
    let k = codes_ok_cons c p e in
    (and-eq-true_iff (ltb (f c) 8) (codes_ok (map f p))).1 (lt-ltb (f c) 8 (h c k.0), codes_ok_map f h p k.1)

pub codes_ok_rotated : (p : Path) → So (codes_ok p) → So (codes_ok (rotated p))
unfolding rotated
codes_ok_rotated = codes_ok_map rotate rotate_lt

pub codes_ok_reflected : (axis : Axis) (p : Path) → So (codes_ok p) → So (codes_ok (reflected axis p))
unfolding reflected
codes_ok_reflected axis = codes_ok_map (reflect axis) (reflect_lt axis)
