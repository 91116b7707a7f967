-- Laws of tiles that are put together: one tile behind some others; the tile or the orbit that a record stands for; and the loop that puts some
-- tiles behind others. Rests on the laws of stored tiles and of orbits. Assumes nothing.
use mathlib.Core.Path.{◌≡◌, refl, sym, ap, ◌∙◌, subst}
use mathlib.Core.Bool.{Bool, true, false, So}
use mathlib.Core.List.Memᴰ
use mathlib.Core.List.{List, [], ◌∷◌, ◌++◌, append_assoc, append-nil, Memᴰ as Mem}
use Prim.Native.Nat.{ℕ, suc, ◌+◌, ◌≤◌, ◌<◌}
use native.Mathlib.Decide.{ℕ_discrete, dec_lt}
use native.Mathlib.Omega.{arith}
use lib.ListN.{length, get_or, take, length-take, length-append, get_or-eq_default}
use lib.Seq.{take-suc, take_all, get_or-append_seam}
use Rattle.cells.specs.ArrayLaws.{length_list_of, get_d_snoc}
use Rattle.cells.specs.FirstsLaws.{mem_get_d}
use Rattle.tile.specs.declared.Tile.{Tile}
use Rattle.tiles.specs.declared.Tiles.{Tiles}
use Rattle.std.specs.Prelude.{Result, Ok, IsOk}
use Rattle.refusal.specs.declared.Refusal.{Refusal}
use Rattle.refusal.specs.Refusal.{given, map_answer, answer_of}
use Rattle.refusal.specs.RefusalLaws.{given_inj, is_ok_given}
use Rattle.tile.specs.Path.{Path, codes_ok, path_in, read_tile, tile_of}
use Rattle.tiles.specs.Paths.{orbit, path_at, paths_in, tiles_of, appended, tile_at, MakesTiles, AddsTile}
use Rattle.tile.specs.Inner.{CleanTile}
use Rattle.tiles.specs.Inner.{Clean, Short}
use Rattle.tiles.specs.OrbitLaws.{orbit_length_le, orbit_length_path}
use Rattle.tile.specs.StoredLaws.{path_in_tile_of, clean_tile_of, read_tile_given}
use Rattle.tiles.specs.StoredLaws.{paths_in_tiles_of, clean_tiles_of, with_tile_given, appended_clean, tile_at_tiles_of, short_paths_in}
use Rattle.plot_file.specs.Inner.{tiles_for}

-- ---- short paths

short_all : (ps : List Path) → ((p : Path) → Mem p ps → length p ≤ 32) → Short ps
short_all ps h i = go (dec_lt i (length ps))
  where
    go : Dec (i < length ps) → length (get_or ps i []) ≤ 32
    go (yes k) = h (get_or ps i []) (mem_get_d ps i [] k)
    go (no k) = let past : length ps ≤ i = omega arith in subst (λ (q : Path). length q ≤ 32) (sym (get_or-eq_default ps [] past)) (omega arith)

short_snoc : (ps : List Path) (p : Path) → Short ps → length p ≤ 32 → Short (ps ++ p ∷ [])
short_snoc ps p s h i = go (ℕ_discrete i (length ps))
  where
    go : Dec (i ≡ length ps) → length (get_or (ps ++ p ∷ []) i []) ≤ 32
    go (yes e) = subst (λ (q : Path). length q ≤ 32) (sym (ap (λ (j : ℕ). get_or (ps ++ p ∷ []) j []) e ∙ get_or-append_seam ps p [] [])) h
    go (no e) = subst (λ (q : Path). length q ≤ 32) (sym (get_d_snoc ps p [] i e)) (s i)

pub count_is : (ts : Tiles) → length (paths_in ts) ≡ ts.count
count_is ts = length_list_of (path_at ts.lens ts.codes) ts.count

-- ---- no tiles

pub no_paths : (ts : Tiles) → ts.count ≤ 0 → paths_in ts ≡ []
no_paths ts h = length_none (paths_in ts) (omega (arith, count_is ts))
  where
    length_none : (ps : List Path) → length ps ≡ 0 → ps ≡ []
    length_none [] e = refl
    length_none (p ∷ ps) e = absurd (omega arith)

none_short : Short []
none_short i = omega arith

pub none_clean : (ts : Tiles) → ts ≡ tiles_of [] → Clean ts
none_clean ts e = subst Clean (sym e) (clean_tiles_of [] none_short (omega arith))

pub none_paths : (ts : Tiles) → ts ≡ tiles_of [] → paths_in ts ≡ []
none_paths ts e = ap paths_in e ∙ paths_in_tiles_of [] none_short (omega arith)

-- ---- one tile more

module _ (ts : Tiles) (t : Tile) (r : Result Tiles Refusal) (c : Clean ts) (d : CleanTile t) (h : ts.count < 64) (a : AddsTile ts t r) where
  pub adds_ok : IsOk r
  adds_ok = is_ok_given r (appended ts t) (a ∙ with_tile_given ts t h)

  pub adds_one : (all : Tiles) → r ≡ Ok all → all ≡ tiles_of (paths_in ts ++ path_in t ∷ [])
  adds_one all e = given_inj all (appended ts t) (sym (ap answer_of e) ∙ a ∙ with_tile_given ts t h) ∙ appended_clean ts t c d h

-- ---- what a record stands for

module _ (none : Tiles) (t : Tile) (r : Result Tiles Refusal) (d : CleanTile t) (e : none ≡ tiles_of []) (a : AddsTile none t r) where
  none_room : none.count < 64
  none_room = omega (arith, ap length (none_paths none e), count_is none)

  pub alone_ok : IsOk r
  alone_ok = adds_ok none t r (none_clean none e) d none_room a

  pub tile_alone : (all : Tiles) → r ≡ Ok all → all ≡ tiles_of (path_in t ∷ [])
  tile_alone all is = adds_one none t r (none_clean none e) d none_room a all is ∙ ap (λ (ps : List Path). tiles_of (ps ++ path_in t ∷ [])) (none_paths none e)

module _ (t : Tile) (r : Result Tiles Refusal) (d : CleanTile t) (ok : So (codes_ok (path_in t))) (m : MakesTiles (map_answer orbit (read_tile t)) r) where
  orbit_given : answer_of r ≡ given (tiles_of (orbit (path_in t)))
  unfolding map_answer
  orbit_given = m ∙ ap (λ a. map_answer tiles_of (map_answer orbit a)) (read_tile_given t d.short ok)

  pub orbit_ok : IsOk r
  orbit_ok = is_ok_given r (tiles_of (orbit (path_in t))) orbit_given

  pub tile_orbit : (all : Tiles) → r ≡ Ok all → all ≡ tiles_of (orbit (path_in t))
  tile_orbit all e = given_inj all (tiles_of (orbit (path_in t))) (sym (ap answer_of e) ∙ orbit_given)

module _ (whole : Bool) (p : Path) (h : length p ≤ 32) where
  for_short : Short (tiles_for whole p)
  for_short = go whole
    where
      go : (b : Bool) → Short (tiles_for b p)
      go true = short_all (orbit p) (λ q m. subst (λ (n : ℕ). n ≤ 32) (sym (orbit_length_path p q m)) h)
      go false = short_all (p ∷ []) (λ q m. subst (λ (x : Path). length x ≤ 32) (sym (Memᴰ.eq_of_singleton m)) h)

  for_few : length (tiles_for whole p) ≤ 64
  for_few = go whole
    where
      go : (b : Bool) → length (tiles_for b p) ≤ 64
      go true = omega (arith, orbit_length_le p)
      go false = omega arith

  pub for_clean : (ts : Tiles) → ts ≡ tiles_of (tiles_for whole p) → Clean ts
  for_clean ts e = subst Clean (sym e) (clean_tiles_of (tiles_for whole p) for_short for_few)

  pub for_paths : (ts : Tiles) → ts ≡ tiles_of (tiles_for whole p) → paths_in ts ≡ tiles_for whole p
  for_paths ts e = ap paths_in e ∙ paths_in_tiles_of (tiles_for whole p) for_short for_few

-- ---- tiles behind others

-- after i tiles: they stand behind the others
pub record Joined (tiles others : Tiles) (i : ℕ) (all : Tiles) : Type 0 where
  pub clean : Clean all
  pub paths : paths_in all ≡ paths_in tiles ++ take i (paths_in others)

module _ (tiles others : Tiles) where
  pub joined_start : Clean tiles → Joined tiles others 0 tiles
  joined_start c = record { clean = c; paths = sym (append-nil (paths_in tiles)) }

  module _ (i : ℕ) (all : Tiles) (j : Joined tiles others i all) where
    pub joined_count : all.count ≤ tiles.count + i
    joined_count =
        let e = ap length j.paths in
        omega (arith, count_is all, count_is tiles, length-append (paths_in tiles) (take i (paths_in others)), length-take i (paths_in others))

    pub joined_end : others.count ≤ i → Clean all × (paths_in all ≡ paths_in tiles ++ paths_in others)
    joined_end h =
        let k : length (paths_in others) ≤ i = omega (arith, count_is others) in
        (j.clean, j.paths ∙ ap (λ (l : List Path). paths_in tiles ++ l) (take_all i (paths_in others) k))

    module _ (c : Clean others) (in-others : i < others.count) (t : Tile) (is : t ≡ tile_at others i) where
      next : Path
      next = get_or (paths_in others) i []

      stored : t ≡ tile_of next
      unfolding next
      stored =
          let few = c.few in
          is ∙ ap (λ (ts : Tiles). tile_at ts i) c.is ∙ tile_at_tiles_of (paths_in others) i (omega arith)

      next_short : length next ≤ 32
      unfolding next
      next_short = short_paths_in others c i

      pub next_clean : CleanTile t
      next_clean = subst CleanTile (sym stored) (clean_tile_of next next_short)

      pub joined_step : tiles.count + others.count ≤ 64 → (more : Tiles) → more ≡ tiles_of (paths_in all ++ path_in t ∷ []) → Joined tiles others (i + 1) more
      unfolding next
      joined_step few more e =
          let path : path_in t ≡ next = ap path_in stored ∙ path_in_tile_of next next_short in
          let q : more ≡ tiles_of (paths_in all ++ next ∷ []) = e ∙ ap (λ (p : Path). tiles_of (paths_in all ++ p ∷ [])) path in
          let short = short_snoc (paths_in all) next (short_paths_in all j.clean) next_short in
          let room : length (paths_in all ++ next ∷ []) ≤ 64 = omega (arith, joined_count, count_is all, length-append (paths_in all) (next ∷ [])) in
          let one : suc i ≡ i + 1 = omega arith in
          record {
            clean = subst Clean (sym q) (clean_tiles_of (paths_in all ++ next ∷ []) short room);
            paths = ap paths_in q
                ∙ paths_in_tiles_of (paths_in all ++ next ∷ []) short room
                ∙ ap (λ (l : List Path). l ++ next ∷ []) j.paths
                ∙ append_assoc (paths_in tiles) (take i (paths_in others)) (next ∷ [])
                ∙ ap (λ (l : List Path). paths_in tiles ++ l) (sym (take-suc (paths_in others) i [] (omega (arith, count_is others))) ∙ ap (λ (n : ℕ). take n (paths_in others)) one);
          }
