-- Laws of reading tiles: what `read_tiles` answers, that what it gives is stored paths in range, and that each of the tiles is read as its path and
-- its cells are counted. Rests on `Paths`, the laws of one tile and the laws of arrays. Assumes nothing.
use Rattle.std.specs.Prelude.{◌≡◌, Result, Ok, Err, IsOk, Bool, true, false, ℕ, ◌+◌, ◌*◌, ◌≤◌, ◌<◌, leb, length, get_or, take, drop}
use Rattle.std.proofs.Math.Path.{refl, sym, ap}
use Rattle.std.proofs.Common.{◌∙◌, subst, arith, le-leb, leb-true, length-take, length-drop, ext_get_or, get_or-take, get_or-drop, length-take-le}
use Rattle.std.proofs.Math.Bool.{So, and-eq-true_iff}
use mathlib.Core.List.{List, [], Memᴰ as Mem}
use Rattle.std.proofs.Math.Decide.{dec_lt}
use Rattle.std.proofs.lemmas.Bool.{lt-leb}
use Rattle.cells.specs.Lists.{list_of, all_below}
use Rattle.cells.specs.ArrayLaws.{length_list_of, get_d_list_of, all_below_at}
use Rattle.tile.specs.declared.Tile.{Tile}
use Rattle.tiles.specs.declared.Tiles.{Tiles}
use Rattle.refusal.specs.Refusal.{refused, given, refusal_of, value_or, refusal_number, map_answer, answer_of}
use Rattle.tile.specs.Path.{Path, codes_ok, cell_count, is_path, path_in, read_tile}
use Rattle.tiles.specs.Paths.{path_at, sound_at, paths_in, read_tiles, tile_at}
use Rattle.tiles.specs.Inner.{Storable}
use Rattle.refusal.specs.RefusalLaws.{clash, refused_given, given_inj, is_ok_given}
use Rattle.cells.specs.MemberLaws.{mem_list_of}
use Rattle.refusal.specs.declared.Refusal.{Refusal}
use Rattle.tile.specs.StoredLaws.{is_path_good, is_path_is, read_tile_given}

-- ---- a sound tile

-- a sound tile has a path in range
pub sound_at_path : (lens codes : List ℕ) (i : ℕ) → So (sound_at lens codes i) → (get_or lens i 0 ≤ 32) × So (codes_ok (path_at lens codes i))
unfolding sound_at
sound_at_path lens codes i h =
    let both = (and-eq-true_iff (leb (get_or lens i 0) 32) (is_path (path_at lens codes i))).0 h in
    (leb-true (get_or lens i 0) 32 both.0, (is_path_is (path_at lens codes i) both.1).1)

-- a path in range is sound
pub sound_path : (lens codes : List ℕ) (i : ℕ) (p : Path) → get_or lens i 0 ≡ length p → path_at lens codes i ≡ p → length p ≤ 32 → So (codes_ok p) → sound_at lens codes i ≡ true
unfolding sound_at
sound_path lens codes i p e q h ok = let k : get_or lens i 0 ≤ 32 = omega arith in rw (le-leb (get_or lens i 0) 32 k, q) (is_path_good p h ok)

-- ---- tiles are read

module _ (ts : Tiles) where
  pub read_tiles_given : ts.count ≤ 64 → all_below (sound_at ts.lens ts.codes) ts.count ≡ true → read_tiles ts ≡ given (paths_in ts)
  unfolding read_tiles
  read_tiles_given h e = rw (le-leb ts.count 64 h, e)

  pub read_tiles_many : 64 < ts.count → read_tiles ts ≡ refused 6
  unfolding read_tiles
  read_tiles_many h = rw (lt-leb ts.count 64 h)

  pub read_tiles_unsound : ts.count ≤ 64 → all_below (sound_at ts.lens ts.codes) ts.count ≡ false → read_tiles ts ≡ refused 5
  unfolding read_tiles
  read_tiles_unsound h e = rw (le-leb ts.count 64 h, e)

  pub read_tiles_accepted : 0 ≡ refusal_of (read_tiles ts) → (ts.count ≤ 64) × (read_tiles ts ≡ given (paths_in ts))
  read_tiles_accepted z = go (dec_lt 64 ts.count) (all_below (sound_at ts.lens ts.codes) ts.count) refl
    where
      go : Dec (64 < ts.count) → (b : Bool) → all_below (sound_at ts.lens ts.codes) ts.count ≡ b → (ts.count ≤ 64) × (read_tiles ts ≡ given (paths_in ts))
      go (yes h) b e = absurd (clash (read_tiles ts) (read_tiles_many h) z)
      go (no h) true e = let k : ts.count ≤ 64 = omega arith in (k, read_tiles_given k e)
      go (no h) false e = let k : ts.count ≤ 64 = omega arith in absurd (clash (read_tiles ts) (read_tiles_unsound k e) z)

-- every tile is sound
abbrev pub AllSound : Tiles → Type 0
AllSound ts = So (all_below (sound_at ts.lens ts.codes) ts.count)

module _ (ts : Tiles) (paths : List Path) where
  -- what is given is the stored paths, and every tile is sound
  pub read_tiles_sound : read_tiles ts ≡ given paths → (ts.count ≤ 64) × AllSound ts × (paths ≡ paths_in ts)
  unfolding refusal_of value_or
  read_tiles_sound e = go (dec_lt 64 ts.count) (all_below (sound_at ts.lens ts.codes) ts.count) refl
    where
      accepted : 0 ≡ refusal_of (read_tiles ts)
      accepted = sym (ap refusal_of e)

      go : Dec (64 < ts.count)
          → (b : Bool) → all_below (sound_at ts.lens ts.codes) ts.count ≡ b
          → (ts.count ≤ 64) × AllSound ts × (paths ≡ paths_in ts)
      go (yes h) b q = absurd (clash (read_tiles ts) (read_tiles_many ts h) accepted)
      go (no h) false q = let k : ts.count ≤ 64 = omega arith in absurd (clash (read_tiles ts) (read_tiles_unsound ts k q) accepted)
      go (no h) true q = let k : ts.count ≤ 64 = omega arith in (k, q, ap (value_or []) (sym e ∙ read_tiles_given ts k q))

  -- what is given can be stored
  pub read_tiles_storable : read_tiles ts ≡ given paths → Storable paths × (length paths ≤ 64)
  read_tiles_storable e =
      let r = read_tiles_sound e in
      let few = r.0 in
      let long : length (paths_in ts) ≡ ts.count = length_list_of (path_at ts.lens ts.codes) ts.count in (
        λ path m. each path (subst (Mem path) r.2 m) r.1,
        subst (λ (l : List Path). length l ≤ 64) (sym r.2) (omega arith),
      )
    where
      each : (path : Path) → Mem path (paths_in ts) → AllSound ts → (length path ≤ 32) × So (codes_ok path)
      each path m all =
          let p = (mem_list_of (path_at ts.lens ts.codes) ts.count path).0 m in
          let i = p.0 in
          let sound = sound_at_path ts.lens ts.codes i (all_below_at (sound_at ts.lens ts.codes) ts.count i all p.1) in
          let taken = length-take (get_or ts.lens i 0) (drop (32 * i) ts.codes) in
          let short : length (path_at ts.lens ts.codes i) ≤ 32 = omega (arith, taken, sound.0) in
          subst (λ (q : Path). (length q ≤ 32) × So (codes_ok q)) (sym p.2) (short, sound.1)

-- each of the tiles that are read is a path in range
pub sound_tile : (ts : Tiles) → read_tiles ts ≡ given (paths_in ts)
    → (i : ℕ) → i < ts.count → (get_or ts.lens i 0 ≤ 32) × So (codes_ok (path_at ts.lens ts.codes i))
sound_tile ts e i h =
    let all = (read_tiles_sound ts (paths_in ts) e).1 in
    sound_at_path ts.lens ts.codes i (all_below_at (sound_at ts.lens ts.codes) ts.count i all h)

-- ---- one tile of accepted tiles

-- a part of 32 codes has the same first codes
part_take : (codes : List ℕ) (from n : ℕ) → n ≤ 32 → from + 32 ≤ length codes → take n (list_of (λ j. get_or codes (from + j) 0) 32) ≡ take n (drop from codes)
part_take codes from n h l = ext_get_or 0 (take n (list_of part 32)) (take n (drop from codes)) (long ∙ sym long') each
  where
    part : ℕ → ℕ
    part j = get_or codes (from + j) 0

    long : length (take n (list_of part 32)) ≡ n
    long = length-take-le n (list_of part 32) (omega (arith, length_list_of part 32))

    long' : length (take n (drop from codes)) ≡ n
    long' = length-take-le n (drop from codes) (omega (arith, length-drop from codes))

    each : (k : ℕ) → k < length (take n (list_of part 32)) → get_or (take n (list_of part 32)) k 0 ≡ get_or (take n (drop from codes)) k 0
    each k i =
        let s : k < n = omega (arith, long) in
        let b : k < 32 = omega arith in
        get_or-take n (list_of part 32) k 0 s ∙ get_d_list_of part 32 k 0 b ∙ sym (get_or-take n (drop from codes) k 0 s ∙ get_or-drop from codes k 0)

len_tile_at : (ts : Tiles) (i : ℕ) → (tile_at ts i).len ≡ get_or ts.lens i 0
unfolding tile_at
len_tile_at ts i = refl

path_tile_at : (ts : Tiles) (i : ℕ) → 32 * i + 32 ≤ length ts.codes → get_or ts.lens i 0 ≤ 32 → path_in (tile_at ts i) ≡ path_at ts.lens ts.codes i
unfolding tile_at
path_tile_at ts i h l = part_take ts.codes (32 * i) (get_or ts.lens i 0) l h

module _ (ts : Tiles) (long : length ts.codes ≡ 2048) (ok : read_tiles ts ≡ given (paths_in ts)) (i : ℕ) (h : i < ts.count) where
  -- it is read as its path
  pub read_tile_tile_at : read_tile (tile_at ts i) ≡ given (path_at ts.lens ts.codes i)
  read_tile_tile_at =
      let few = (read_tiles_sound ts (paths_in ts) ok).0 in
      let sound = sound_tile ts ok i h in
      let is = path_tile_at ts i (omega arith) sound.0 in
      read_tile_given (tile_at ts i) (subst (λ (n : ℕ). n ≤ 32) (sym (len_tile_at ts i)) sound.0) (ap codes_ok is ∙ sound.1) ∙ ap given is

  -- and its cells are counted
  module _ (t : Tile) (at : t ≡ tile_at ts i) (a : Result ℕ Refusal) (e : answer_of a ≡ map_answer cell_count (read_tile t)) where
    tile_count : answer_of a ≡ given (cell_count (path_at ts.lens ts.codes i))
    unfolding map_answer
    tile_count = e ∙ ap (map_answer cell_count) (ap read_tile at ∙ read_tile_tile_at)

    pub tile_count_is : (n : ℕ) → a ≡ Ok n → n ≡ cell_count (path_at ts.lens ts.codes i)
    tile_count_is n q = given_inj n (cell_count (path_at ts.lens ts.codes i)) (sym (ap answer_of q) ∙ tile_count)

    pub tile_count_refused : (q : Refusal) → a ≡ Err q → ⊥
    tile_count_refused q s = refused_given (refusal_number q) (cell_count (path_at ts.lens ts.codes i)) (sym (ap answer_of s) ∙ tile_count)

    pub tile_count_ok : IsOk a
    tile_count_ok = is_ok_given a (cell_count (path_at ts.lens ts.codes i)) tile_count
