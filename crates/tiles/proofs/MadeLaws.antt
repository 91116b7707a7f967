-- Laws of the calls that make tiles: when made tiles are those that `MakesTiles` asks for; and the loop that collects an orbit, with the tiles that
-- `tile` makes for it. Rests on `StoredLaws`, `OrbitLaws` and the laws of one tile. Assumes nothing.
use mathlib.Core.Path.{◌≡◌, refl, sym, ap, ap₂, ◌∙◌, subst}
use mathlib.Core.Bool.{Bool, true, false, So}
use mathlib.Core.List.Memᴰ.{head as here}
use mathlib.Core.List.Memᴰ.{tail as there}
use mathlib.Core.List.{List, [], ◌∷◌, ◌++◌, Memᴰ as Mem}
use Prim.Native.Nat.{ℕ, suc, ◌+◌, ◌-◌, ◌≤◌, ◌<◌}
use native.Mathlib.Nat.{add-zero}
use native.Mathlib.Decide.{ℕ_discrete}
use native.Mathlib.Omega.{arith}
use lib.ListN.{length, get_or}
use lib.Seq.{get_or-append-add}
use Rattle.cells.specs.Lists.{holds, add_new, add_firsts, firsts}
use Rattle.cells.specs.FirstsLaws.{add_new_old, add_new_new, add_firsts_append, length_add_firsts}
use Rattle.cells.specs.ArrayLaws.{length_list_of, get_d_snoc}
use Rattle.tile.specs.declared.Tile.{Tile}
use Rattle.refusal.specs.declared.Refusal.{Refusal}
use Rattle.refusal.specs.RefusalLaws.{given_inj, is_ok_given}
use Rattle.std.specs.Prelude.{Result, Ok, IsOk}
use Rattle.tiles.specs.declared.Tiles.{Tiles}
use Rattle.direction.specs.declared.Axis.TheVariants as A
use Rattle.refusal.specs.Refusal.{Answer, given, map_answer, answer_of}
use Rattle.tile.specs.Path.{Path, codes_ok, rotated, reflected, path_in, read_tile, tile_of, MakesTile}
use Rattle.tiles.specs.Paths.{turns, same_path, orbit, path_at, paths_in, tiles_of}
use Rattle.tile.specs.Inner.{CleanTile}
use Rattle.tiles.specs.Inner.{Clean, Short}
use Rattle.tiles.specs.OrbitLaws.{length_turns, turns_all}
use Rattle.tile.specs.PathLaws.{length_rotated, length_reflected, codes_ok_rotated, codes_ok_reflected}
use Rattle.tile.specs.StoredLaws.{read_tile_given, path_in_tile_of, clean_tile_of, length_path_in}
use Rattle.tiles.specs.StoredLaws.{paths_in_tiles_of, clean_tiles_of, count_tiles_of, short_paths_in}

-- ---- the orbit is collected

short_add_new : (ps : List Path) (p : Path) → Short ps → length p ≤ 32 → Short (add_new same_path ps p)
short_add_new ps p s h = go (holds same_path ps p) refl
  where
    more : Short (ps ++ p ∷ [])
    more i = step (ℕ_discrete i (length ps))
      where
        step : Dec (i ≡ length ps) → length (get_or (ps ++ p ∷ []) i []) ≤ 32
        step (yes e) = subst (λ (q : Path). length q ≤ 32) (sym (ap (λ (j : ℕ). get_or (ps ++ p ∷ []) j []) (e ∙ sym (add-zero (length ps))) ∙ get_or-append-add ps (p ∷ []) 0 [])) h
        step (no e) = subst (λ (q : Path). length q ≤ 32) (sym (get_d_snoc ps p [] i e)) (s i)

    go : (b : Bool) → holds same_path ps p ≡ b → Short (add_new same_path ps p)
    go true e = subst Short (sym (add_new_old same_path ps p e)) s
    go false e = subst Short (sym (add_new_new same_path ps p e)) more

length_add_new_le : (ps : List Path) (p : Path) → length (add_new same_path ps p) ≤ length ps + 1
unfolding add_firsts
length_add_new_le ps p = (length_add_firsts same_path ps (p ∷ [])).1

-- a tile that is made of a path is made, and stores it
module _ (a : Answer Path) (p : Path) (e : a ≡ given p) (r : Result Tile Refusal) (m : MakesTile a r) where
  made : answer_of r ≡ given (tile_of p)
  unfolding map_answer
  made = m ∙ ap (map_answer tile_of) e

  pub made_is_ok : IsOk r
  made_is_ok = is_ok_given r (tile_of p) made

  pub made_is : (t : Tile) → r ≡ Ok t → t ≡ tile_of p
  made_is t q = given_inj t (tile_of p) (sym (ap answer_of q) ∙ made)

-- the image of an accepted tile's path
pub image_given : (f : Path → Path) (t : Tile) → t.len ≤ 32 → So (codes_ok (path_in t)) → map_answer f (read_tile t) ≡ given (f (path_in t))
unfolding map_answer
image_given f t h ok = ap (map_answer f) (read_tile_given t h ok)

-- after i turns: what is collected, the tile that is next, and that what is left comes to the same
pub record Collected (ps : List Path) (p : Path) (i : ℕ) (out : Tiles) (next : Tile) : Type 0 where
  pub clean : Clean out
  pub clean_tile : CleanTile next
  pub ok : So (codes_ok (path_in next))
  pub few : out.count ≤ 4 + i
  pub left : add_firsts same_path ps (turns 4 p) ≡ add_firsts same_path (paths_in out) (turns (4 - i) (path_in next))

pub collected_start : (out : Tiles) (next : Tile) → Clean out → CleanTile next → So (codes_ok (path_in next)) → out.count ≤ 4 → Collected (paths_in out) (path_in next) 0 out next
collected_start out next c d k h = record { clean = c; clean_tile = d; ok = k; few = omega arith; left = refl }

turns_more : (ps : List Path) (p : Path) (i : ℕ) → i < 4 → add_firsts same_path ps (turns (4 - i) p) ≡ add_firsts same_path (add_new same_path ps p) (turns (4 - (i + 1)) (rotated p))
unfolding turns add_firsts
turns_more ps p i h = let e : 4 - i ≡ suc (4 - (i + 1)) = omega arith in ap (λ (k : ℕ). add_firsts same_path ps (turns k p)) e

pub collected_step : (ps : List Path) (p : Path) (i : ℕ) (out out' : Tiles) (next turned : Tile) (made : Result Tile Refusal) → Collected ps p i out next → i < 4
    → out' ≡ tiles_of (add_new same_path (paths_in out) (path_in next)) → MakesTile (map_answer rotated (read_tile next)) made → made ≡ Ok turned → Collected ps p (i + 1) out' turned
collected_step ps p i out out' next turned made c h e m u =
    let q = made_is _ (rotated (path_in next)) (image_given rotated next c.clean_tile.short c.ok) made m turned u in
    let short : length (path_in next) ≤ 32 = omega (arith, length_path_in next, c.clean_tile.short) in
    let all = short_add_new (paths_in out) (path_in next) (short_paths_in out c.clean) short in
    let long = length_add_new_le (paths_in out) (path_in next) in
    let count = length_list_of (path_at out.lens out.codes) out.count in
    let few = c.few in
    let room : length (rotated (path_in next)) ≤ 32 = omega (arith, length_rotated (path_in next)) in
    let path : path_in turned ≡ rotated (path_in next) = ap path_in q ∙ path_in_tile_of (rotated (path_in next)) room in
    record {
      clean = subst Clean (sym e) (clean_tiles_of (add_new same_path (paths_in out) (path_in next)) all (omega arith));
      clean_tile = subst CleanTile (sym q) (clean_tile_of (rotated (path_in next)) room);
      ok = subst (λ (r : Path). So (codes_ok r)) (sym path) (codes_ok_rotated (path_in next) c.ok);
      few = subst (λ (ts : Tiles). ts.count ≤ 4 + (i + 1)) (sym e) (subst (λ (n : ℕ). n ≤ 4 + (i + 1)) (sym (count_tiles_of (add_new same_path (paths_in out) (path_in next)))) (omega arith));
      left = c.left
          ∙ turns_more (paths_in out) (path_in next) i h
          ∙ ap₂ (λ (l : List Path) (r : Path). add_firsts same_path l (turns (4 - (i + 1)) r))
          (sym (ap paths_in e ∙ paths_in_tiles_of (add_new same_path (paths_in out) (path_in next)) all (omega arith)))
          (sym path);
    }

pub collected_end : (ps : List Path) (p : Path) (i : ℕ) (out : Tiles) (next : Tile) → Collected ps p i out next → 4 ≤ i → out ≡ tiles_of (add_firsts same_path ps (turns 4 p))
unfolding turns add_firsts
collected_end ps p i out next c h =
    let e : 4 - i ≡ 0 = omega arith in
    c.clean.is ∙ ap tiles_of (sym (c.left ∙ ap (λ (k : ℕ). add_firsts same_path (paths_in out) (turns k (path_in next))) e))

short_add_firsts : (ps qs : List Path) → Short ps → ((q : Path) → Mem q qs → length q ≤ 32) → Short (add_firsts same_path ps qs)
unfolding add_firsts
short_add_firsts ps [] s h = s
short_add_firsts ps (q ∷ qs) s h = short_add_firsts (add_new same_path ps q) qs (short_add_new ps q s (h q (here refl))) (λ x m. h x (there m))

short_none : Short []
short_none i = omega arith

-- the tile's own turns, and then those of its reflection, both moved from the path p
module _ (p : Path) (short : length p ≤ 32) (ok : So (codes_ok p)) (none : Tiles) (en : none ≡ tiles_of []) (first : Tile) (ef : first ≡ tile_of p) where
  pub orbit_starts : Clean none × CleanTile first × So (codes_ok (path_in first)) × (none.count ≤ 4)
  orbit_starts = (
    subst Clean (sym en) (clean_tiles_of [] short_none (omega arith)),
    subst CleanTile (sym ef) (clean_tile_of p short),
    subst (λ (q : Path). So (codes_ok q)) (sym (ap path_in ef ∙ path_in_tile_of p short)) ok,
    subst (λ (ts : Tiles). ts.count ≤ 4) (sym en) (subst (λ (n : ℕ). n ≤ 4) (sym (count_tiles_of [])) (omega arith)),
  )

  half_paths : List Path
  half_paths = add_firsts same_path [] (turns 4 p)

  half_short : Short half_paths
  unfolding half_paths
  half_short = short_add_firsts [] (turns 4 p) short_none (λ q m. turns_all (λ x. length x ≤ 32) (λ x h. subst (λ (n : ℕ). n ≤ 32) (sym (length_rotated x)) h) 4 p short q m)

  half_few : length half_paths ≤ 4
  unfolding half_paths
  half_few = omega (arith, (length_add_firsts same_path [] (turns 4 p)).1, length_turns 4 p)

  module _ (half : Tiles) (eh : half ≡ tiles_of (add_firsts same_path (paths_in none) (turns 4 (path_in first)))) (mirror : Tile) (em : mirror ≡ tile_of (reflected A.Horizontal p)) where
    half_is : half ≡ tiles_of half_paths
    unfolding half_paths
    half_is =
        eh ∙ ap₂ (λ (l : List Path) (q : Path). tiles_of (add_firsts same_path l (turns 4 q))) (ap paths_in en ∙ paths_in_tiles_of [] short_none (omega arith)) (ap path_in ef ∙ path_in_tile_of p short)

    mirror_short : length (reflected A.Horizontal p) ≤ 32
    mirror_short = subst (λ (n : ℕ). n ≤ 32) (sym (length_reflected A.Horizontal p)) short

    mirror_path : path_in mirror ≡ reflected A.Horizontal p
    mirror_path = ap path_in em ∙ path_in_tile_of (reflected A.Horizontal p) mirror_short

    pub orbit_goes_on : Clean half × CleanTile mirror × So (codes_ok (path_in mirror)) × (half.count ≤ 4)
    orbit_goes_on = (
      subst Clean (sym half_is) (clean_tiles_of half_paths half_short (omega (arith, half_few))),
      subst CleanTile (sym em) (clean_tile_of (reflected A.Horizontal p) mirror_short),
      subst (λ (q : Path). So (codes_ok q)) (sym mirror_path) (codes_ok_reflected A.Horizontal p ok),
      subst (λ (ts : Tiles). ts.count ≤ 4) (sym half_is) (subst (λ (n : ℕ). n ≤ 4) (sym (count_tiles_of half_paths)) half_few),
    )

    pub orbit_is : tiles_of (add_firsts same_path (paths_in half) (turns 4 (path_in mirror))) ≡ tiles_of (orbit p)
    unfolding orbit firsts half_paths
    orbit_is =
        ap₂ (λ (l : List Path) (q : Path). tiles_of (add_firsts same_path l (turns 4 q)))
        (ap paths_in half_is ∙ paths_in_tiles_of half_paths half_short (omega (arith, half_few)))
        mirror_path
        ∙ ap tiles_of (sym (add_firsts_append same_path [] (turns 4 p) (turns 4 (reflected A.Horizontal p))))

-- ---- made tiles

pub makes_tiles : (a : Answer (List Path)) (r : Tiles) (ps : List Path) → a ≡ given ps → r ≡ tiles_of ps → given r ≡ map_answer tiles_of a
unfolding map_answer
makes_tiles a r ps e t = ap given t ∙ sym (ap (map_answer tiles_of) e)
