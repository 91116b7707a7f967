-- Laws of stored tiles: what is stored can be read back; a collection with one tile more, and one tile of it; a single tile among them is told by the
-- lengths; an orbit is stored so that every call accepts it. Rests on `Paths`, `ReadLaws`, `OrbitLaws` and the laws of arrays. Assumes nothing.
use Rattle.std.specs.Prelude.{◌≡◌, refl, true, false, leb, drop, set}
use Rattle.std.proofs.Math.Path.{sym, ap}
use Rattle.std.proofs.Common.{ap₂, ◌∙◌, subst, arith, lt-ltb, le-ltb, le-leb, length-take, length-append, length-set, get_or-take, get_or-drop, get_or-set_same, get_or-set_other}
use Rattle.std.proofs.Math.Bool.{So, and-false}
use mathlib.Core.List.{List, [], ◌∷◌, ◌++◌, map, flat_map}
use Prim.Native.Nat.{ℕ, zero, suc, ◌+◌, ◌-◌, ◌*◌, ◌/◌, ◌%◌, ◌≤◌, ◌<◌}
use Rattle.std.proofs.Math.Decide.{ℕ_discrete, dec_lt}
use Rattle.std.proofs.lemmas.Bool.{lt-leb}
use Rattle.std.proofs.Math.ListN.{length, get_or, take, length-drop, get_or-eq_default}
use Rattle.std.proofs.Math.Seq.{ext_get_or, length-take-le, get_or-append_seam}
use Rattle.cells.specs.Lists.{list_of, padded, all_below}
use Rattle.cells.specs.ArrayLaws.{padded_block, length_list_of, get_d_list_of, list_of_ext, list_of_eta, list_of_get_d, any_list_of, none_list_of, all_below_all, get_d_snoc}
use Rattle.cells.specs.FirstsLaws.{mem_get_d}
use Rattle.tile.specs.declared.Tile.{Tile}
use Rattle.tiles.specs.declared.Tiles.{Tiles}
use Rattle.refusal.specs.Refusal.{refused, given}
use Rattle.tile.specs.Path.{Path, codes_ok, is_single, path_in, tile_of}
use Rattle.tiles.specs.Paths.{contains_single, orbit, path_at, sound_at, paths_in, read_tiles, tiles_of, overlay, appended, with_tile, tile_at}
use Rattle.tiles.specs.Inner.{Storable, Clean, Short}
use Rattle.tile.specs.Inner.{CleanTile}
use Rattle.tiles.specs.OrbitLaws.{orbit_length_le, orbit_length_path, orbit_codes_ok}
use Rattle.tiles.specs.ReadLaws.{sound_path, read_tiles_given}

-- ---- a list of tiles

-- tiles as they are stored, by the places of their lengths and codes
unfoldable pub tiles_at : List Path → Tiles
unfolding list_of
tiles_at ps = record { count = length ps; lens = list_of (λ i. length (get_or ps i [])) 64; codes = list_of (λ k. get_or (get_or ps (k / 32) []) (k % 32) 0) 2048 }

pub tiles_of_at : (ps : List Path) → tiles_of ps ≡ tiles_at ps
unfolding tiles_of tiles_at
tiles_of_at ps =
    λ m. record {
      count = length ps;
      lens = list_of_ext (λ i. get_or (map length ps) i 0) (λ i. length (get_or ps i [])) 64 (λ i h. lens_at ps i) m;
      codes = list_of_ext (λ k. get_or (flat_map (λ (p : Path). padded p 32) ps) k 0) (λ k. get_or (get_or ps (k / 32) []) (k % 32) 0) 2048 (λ k h. code_at k) m;
    }
  where
    lens_at : (qs : List Path) (i : ℕ) → get_or (map length qs) i 0 ≡ length (get_or qs i [])
    lens_at [] i = refl
    lens_at (q ∷ qs) zero = refl
    lens_at (q ∷ qs) (suc i) = lens_at qs i

    code_at : (k : ℕ) → get_or (flat_map (λ (p : Path). padded p 32) ps) k 0 ≡ get_or (get_or ps (k / 32) []) (k % 32) 0
    code_at k =
        let e : 32 * (k / 32) + k % 32 ≡ k = omega arith in
        ap (λ (i : ℕ). get_or (flat_map (λ (p : Path). padded p 32) ps) i 0) (sym e) ∙ padded_block ps (k / 32) (k % 32) (omega arith)

pub count_tiles_of : (ps : List Path) → (tiles_of ps).count ≡ length ps
unfolding tiles_of
count_tiles_of ps = refl

lens_tiles_of : (ps : List Path) → (tiles_of ps).lens ≡ list_of (λ i. length (get_or ps i [])) 64
unfolding tiles_at
lens_tiles_of ps = ap (λ (ts : Tiles). ts.lens) (tiles_of_at ps)

module _ (ps : List Path) (short : Short ps) where
  len_of : ℕ → ℕ
  len_of i = length (get_or ps i [])

  code_of : ℕ → ℕ
  code_of k = get_or (get_or ps (k / 32) []) (k % 32) 0

  pub path_at_tiles_of : (i : ℕ) → i < 64 → path_at (tiles_of ps).lens (tiles_of ps).codes i ≡ get_or ps i []
  unfolding tiles_at len_of code_of
  path_at_tiles_of i h =
      ap (λ (ts : Tiles). path_at ts.lens ts.codes i) (tiles_of_at ps)
      ∙ ap (λ (n : ℕ). take n (drop (32 * i) (list_of code_of 2048))) (get_d_list_of len_of 64 i 0 h) ∙ ext_get_or 0 (take (len_of i) (drop (32 * i) (list_of code_of 2048))) (get_or ps i []) long each
    where
      long : length (take (len_of i) (drop (32 * i) (list_of code_of 2048))) ≡ length (get_or ps i [])
      long = length-take-le (len_of i) (drop (32 * i) (list_of code_of 2048)) (omega (arith, short i, length-drop (32 * i) (list_of code_of 2048), length_list_of code_of 2048))

      each : (k : ℕ) → k < length (take (len_of i) (drop (32 * i) (list_of code_of 2048))) → get_or (take (len_of i) (drop (32 * i) (list_of code_of 2048))) k 0 ≡ get_or (get_or ps i []) k 0
      each k j =
          let s : k < len_of i = omega (arith, long) in
          let b : k < 32 = omega (arith, short i) in
          let q : (32 * i + k) / 32 ≡ i = omega arith in
          let r : (32 * i + k) % 32 ≡ k = omega arith in
          get_or-take (len_of i) (drop (32 * i) (list_of code_of 2048)) k 0 s
          ∙ get_or-drop (32 * i) (list_of code_of 2048) k 0
          ∙ get_d_list_of code_of 2048 (32 * i + k) 0 (omega arith)
          ∙ ap₂ (λ (a b : ℕ). get_or (get_or ps a []) b 0) q r

  pub paths_in_tiles_of : length ps ≤ 64 → paths_in (tiles_of ps) ≡ ps
  paths_in_tiles_of few =
      ap (list_of (path_at (tiles_of ps).lens (tiles_of ps).codes)) (count_tiles_of ps) ∙ list_of_ext (path_at (tiles_of ps).lens (tiles_of ps).codes) (λ i. get_or ps i []) (length ps) (λ i h. path_at_tiles_of i (omega arith)) ∙ list_of_get_d [] ps

  pub clean_tiles_of : length ps ≤ 64 → Clean (tiles_of ps)
  clean_tiles_of few =
      record {
        few = subst (λ (n : ℕ). n ≤ 64) (sym (count_tiles_of ps)) few;
        short = λ i. lens_short i (dec_lt i 64);
        is = ap tiles_of (sym (paths_in_tiles_of few));
      }
    where
      lens_short : (i : ℕ) → Dec (i < 64) → get_or (tiles_of ps).lens i 0 ≤ 32
      lens_short i d = subst (λ (l : List ℕ). get_or l i 0 ≤ 32) (sym (lens_tiles_of ps)) (go d)
        where
          go : Dec (i < 64) → get_or (list_of (λ j. length (get_or ps j [])) 64) i 0 ≤ 32
          go (yes h) = subst (λ (n : ℕ). n ≤ 32) (sym (get_d_list_of (λ j. length (get_or ps j [])) 64 i 0 h)) (short i)
          go (no h) =
              let past : length (list_of (λ j. length (get_or ps j [])) 64) ≤ i = omega (arith, length_list_of (λ j. length (get_or ps j [])) 64) in
              subst (λ (n : ℕ). n ≤ 32) (sym (get_or-eq_default (list_of (λ j. length (get_or ps j [])) 64) 0 past)) (omega arith)

-- a single tile among the tiles, told by the lengths
pub contains_single_true : (ts : Tiles) (i : ℕ) → i < ts.count → get_or ts.lens i 0 ≡ 0 → contains_single (paths_in ts) ≡ true
unfolding contains_single
contains_single_true ts i h e =
    any_list_of is_single (path_at ts.lens ts.codes) ts.count i h (ap (λ (n : ℕ). is_single (take n (drop (32 * i) ts.codes))) e)

pub contains_single_false : (ts : Tiles) → length ts.codes ≡ 2048 → ts.count ≤ 64 → ((i : ℕ) → i < ts.count → get_or ts.lens i 0 ≡ 0 → ⊥) → contains_single (paths_in ts) ≡ false
unfolding contains_single
contains_single_false ts long few h =
    none_list_of is_single (path_at ts.lens ts.codes) ts.count
    (λ i k. more (get_or ts.lens i 0) (drop (32 * i) ts.codes) (h i k) (λ e. omega (arith, length-drop (32 * i) ts.codes, ap length e)))
  where
    more : (n : ℕ) (xs : List ℕ) → (n ≡ 0 → ⊥) → (xs ≡ [] → ⊥) → is_single (take n xs) ≡ false
    more zero xs a b = absurd (a refl)
    more (suc n) [] a b = absurd (b refl)
    more (suc n) (x ∷ xs) a b = refl

-- ---- one tile more

module _ (ts : Tiles) (t : Tile) where
  pub with_tile_given : ts.count < 64 → with_tile ts t ≡ given (appended ts t)
  unfolding with_tile
  with_tile_given h = rw (lt-ltb ts.count 64 h)

  pub with_tile_many : 64 ≤ ts.count → with_tile ts t ≡ refused 6
  unfolding with_tile
  with_tile_many h = rw (le-ltb ts.count 64 h)

module _ (ps : List Path) (p : Path) (few : length ps < 64) where
  lens_snoc : set (list_of (λ i. length (get_or ps i [])) 64) (length ps) (length p) ≡ list_of (λ i. length (get_or (ps ++ p ∷ []) i [])) 64
  lens_snoc =
      list_of_eta 0 (set (list_of f 64) (length ps) (length p)) g 64 (length-set (list_of f 64) (length ps) (length p) ∙ length_list_of f 64) (λ k h. go k h (ℕ_discrete k (length ps)))
    where
      f : ℕ → ℕ
      f i = length (get_or ps i [])

      g : ℕ → ℕ
      g i = length (get_or (ps ++ p ∷ []) i [])

      go : (k : ℕ) → k < 64 → Dec (k ≡ length ps) → get_or (set (list_of f 64) (length ps) (length p)) k 0 ≡ g k
      go k h (yes e) =
          ap (λ (j : ℕ). get_or (set (list_of f 64) (length ps) (length p)) j 0) e
          ∙ get_or-set_same (list_of f 64) (length ps) (length p) 0 (omega (arith, length_list_of f 64))
          ∙ sym (ap g e ∙ ap length (get_or-append_seam ps p [] []))
      go k h (no e) =
          get_or-set_other (list_of f 64) (length ps) k (length p) 0 e ∙ get_d_list_of f 64 k 0 h ∙ ap length (sym (get_d_snoc ps p [] k e))

  codes_snoc : list_of (overlay (32 * length ps) (list_of (λ k. get_or p k 0) 32) (list_of (λ k. get_or (get_or ps (k / 32) []) (k % 32) 0) 2048)) 2048
      ≡ list_of (λ k. get_or (get_or (ps ++ p ∷ []) (k / 32) []) (k % 32) 0) 2048
  unfolding overlay
  codes_snoc = list_of_ext (overlay (32 * length ps) (list_of own 32) (list_of f 2048)) g 2048 (λ k h. go k h (ℕ_discrete (k / 32) (length ps)))
    where
      own : ℕ → ℕ
      own k = get_or p k 0

      f : ℕ → ℕ
      f k = get_or (get_or ps (k / 32) []) (k % 32) 0

      g : ℕ → ℕ
      g k = get_or (get_or (ps ++ p ∷ []) (k / 32) []) (k % 32) 0

      outside : (k : ℕ) → k < 2048 → (k / 32 ≡ length ps → ⊥) → Dec (k < 32 * length ps) → overlay (32 * length ps) (list_of own 32) (list_of f 2048) k ≡ g k
      outside k h e d = test d ∙ get_d_list_of f 2048 k 0 h ∙ ap (λ (q : Path). get_or q (k % 32) 0) (sym (get_d_snoc ps p [] (k / 32) e))
        where
          test : Dec (k < 32 * length ps) → overlay (32 * length ps) (list_of own 32) (list_of f 2048) k ≡ get_or (list_of f 2048) k 0
          test (yes i) = rw (lt-leb (32 * length ps) k i)
          test (no i) = let j : 32 * length ps + 32 ≤ k = omega arith in rw (le-ltb k (32 * length ps + 32) j, and-false (leb (32 * length ps) k))

      go : (k : ℕ) → k < 2048 → Dec (k / 32 ≡ length ps) → overlay (32 * length ps) (list_of own 32) (list_of f 2048) k ≡ g k
      go k h (yes e) =
          let a : 32 * length ps ≤ k = omega arith in
          let b : k < 32 * length ps + 32 = omega arith in
          let c : k - 32 * length ps ≡ k % 32 = omega arith in
          let d : k % 32 < 32 = omega arith in
          rw (le-leb (32 * length ps) k a, lt-ltb k (32 * length ps + 32) b)
          (ap (λ (j : ℕ). get_or (list_of own 32) j 0) c ∙ get_d_list_of own 32 (k % 32) 0 d
          ∙ sym (ap (λ (j : ℕ). get_or (get_or (ps ++ p ∷ []) j []) (k % 32) 0) e ∙ ap (λ (q : Path). get_or q (k % 32) 0) (get_or-append_seam ps p [] [])))
      go k h (no e) = outside k h e (dec_lt k (32 * length ps))

  pub appended_tiles_of : appended (tiles_of ps) (tile_of p) ≡ tiles_of (ps ++ p ∷ [])
  unfolding tiles_at tile_of
  appended_tiles_of =
      let n : length ps + 1 ≡ length (ps ++ p ∷ []) = sym (length-append ps (p ∷ [])) in
      let e : appended (tiles_at ps) (tile_of p) ≡ tiles_at (ps ++ p ∷ []) = λ i. record { count = n i; lens = lens_snoc i; codes = codes_snoc i } in
      ap (λ (ts : Tiles). appended ts (tile_of p)) (tiles_of_at ps) ∙ e ∙ sym (tiles_of_at (ps ++ p ∷ []))

  pub with_tile_tiles_of : with_tile (tiles_of ps) (tile_of p) ≡ given (tiles_of (ps ++ p ∷ []))
  with_tile_tiles_of =
      with_tile_given (tiles_of ps) (tile_of p) (subst (λ (n : ℕ). n < 64) (sym (count_tiles_of ps)) few) ∙ ap given appended_tiles_of

-- zeros store no tiles
pub stores_none : (lens codes : List ℕ) → lens ≡ list_of (λ i. 0) 64 → codes ≡ list_of (λ k. 0) 2048 → record { count = 0; lens = lens; codes = codes } ≡ tiles_of []
unfolding tiles_at
stores_none lens codes e q =
    let k : record { count = 0; lens = lens; codes = codes } ≡ tiles_at [] = λ i. record { count = 0; lens = e i; codes = q i } in k ∙ sym (tiles_of_at [])

-- ---- one tile of them

-- a tile with the length and the codes of tile i
pub tile_at_is : (ts : Tiles) (i : ℕ) (codes : List ℕ) → codes ≡ list_of (λ j. get_or ts.codes (32 * i + j) 0) 32 → record { len = get_or ts.lens i 0; codes = codes } ≡ tile_at ts i
unfolding tile_at
tile_at_is ts i codes e = λ k. record { len = get_or ts.lens i 0; codes = e k }

-- past all tiles there is the single tile
pub tile_at_past : (ts : Tiles) (i : ℕ) → length ts.lens ≤ i → length ts.codes ≤ 32 * i → tile_of [] ≡ tile_at ts i
unfolding tile_at tile_of
tile_at_past ts i h k = λ m. record { len = sym (get_or-eq_default ts.lens 0 h) m; codes = list_of_ext (λ j. 0) (λ j. get_or ts.codes (32 * i + j) 0) 32 zero_at m }
  where
    zero_at : (j : ℕ) → j < 32 → 0 ≡ get_or ts.codes (32 * i + j) 0
    zero_at j l = let past : length ts.codes ≤ 32 * i + j = omega arith in sym (get_or-eq_default ts.codes 0 past)

pub tile_at_tiles_of : (ps : List Path) (i : ℕ) → i < 64 → tile_at (tiles_of ps) i ≡ tile_of (get_or ps i [])
unfolding tile_at tiles_at tile_of
tile_at_tiles_of ps i h =
    let e : tile_at (tiles_at ps) i ≡ tile_of (get_or ps i []) = λ m. record { len = get_d_list_of (λ j. length (get_or ps j [])) 64 i 0 h m; codes = codes m } in
    ap (λ (ts : Tiles). tile_at ts i) (tiles_of_at ps) ∙ e
  where
    code : ℕ → ℕ
    code k = get_or (get_or ps (k / 32) []) (k % 32) 0

    at : (j : ℕ) → j < 32 → get_or (list_of code 2048) (32 * i + j) 0 ≡ get_or (get_or ps i []) j 0
    at j l =
        let q : (32 * i + j) / 32 ≡ i = omega arith in
        let r : (32 * i + j) % 32 ≡ j = omega arith in
        get_d_list_of code 2048 (32 * i + j) 0 (omega arith) ∙ ap₂ (λ (a b : ℕ). get_or (get_or ps a []) b 0) q r

    codes : list_of (λ j. get_or (list_of code 2048) (32 * i + j) 0) 32 ≡ list_of (λ j. get_or (get_or ps i []) j 0) 32
    codes = list_of_ext (λ j. get_or (list_of code 2048) (32 * i + j) 0) (λ j. get_or (get_or ps i []) j 0) 32 at

-- ---- clean tiles

pub short_paths_in : (ts : Tiles) → Clean ts → Short (paths_in ts)
short_paths_in ts c i = go (dec_lt i ts.count)
  where
    f : ℕ → Path
    f = path_at ts.lens ts.codes

    go : Dec (i < ts.count) → length (get_or (paths_in ts) i []) ≤ 32
    go (yes h) =
        subst (λ (q : Path). length q ≤ 32) (sym (get_d_list_of f ts.count i [] h))
        (omega (arith, length-take (get_or ts.lens i 0) (drop (32 * i) ts.codes), c.short i))
    go (no h) =
        let past : length (paths_in ts) ≤ i = omega (arith, length_list_of f ts.count) in
        subst (λ (q : Path). length q ≤ 32) (sym (get_or-eq_default (paths_in ts) [] past)) (omega arith)

pub appended_clean : (ts : Tiles) (t : Tile) → Clean ts → CleanTile t → ts.count < 64 → appended ts t ≡ tiles_of (paths_in ts ++ path_in t ∷ [])
appended_clean ts t c d h =
    ap₂ appended c.is d.is ∙ appended_tiles_of (paths_in ts) (path_in t) (subst (λ (n : ℕ). n < 64) (sym (length_list_of (path_at ts.lens ts.codes) ts.count)) h)

-- ---- what is stored is read back

-- what can be stored is short
pub storable_short : (ps : List Path) → Storable ps → Short ps
storable_short ps h i = go (dec_lt i (length ps))
  where
    go : Dec (i < length ps) → length (get_or ps i []) ≤ 32
    go (yes k) = (h (get_or ps i []) (mem_get_d ps i [] k)).0
    go (no k) = let past : length ps ≤ i = omega arith in subst (λ (q : Path). length q ≤ 32) (sym (get_or-eq_default ps [] past)) (omega arith)

pub read_tiles_tiles_of : (ps : List Path) → length ps ≤ 64 → Storable ps → read_tiles (tiles_of ps) ≡ given ps
read_tiles_tiles_of ps few h =
    let short = storable_short ps h in
    read_tiles_given (tiles_of ps) (subst (λ (n : ℕ). n ≤ 64) (sym (count_tiles_of ps)) few)
    (ap (all_below (sound_at (tiles_of ps).lens (tiles_of ps).codes)) (count_tiles_of ps)
    ∙ all_below_all (sound_at (tiles_of ps).lens (tiles_of ps).codes) (length ps) (λ i k. sound i k short))
    ∙ ap given (paths_in_tiles_of ps short few)
  where
    sound : (i : ℕ) → i < length ps → Short ps → sound_at (tiles_of ps).lens (tiles_of ps).codes i ≡ true
    sound i k short =
        let j : i < 64 = omega arith in
        let own = h (get_or ps i []) (mem_get_d ps i [] k) in
        sound_path (tiles_of ps).lens (tiles_of ps).codes i (get_or ps i [])
        (ap (λ (l : List ℕ). get_or l i 0) (lens_tiles_of ps) ∙ get_d_list_of (λ j. length (get_or ps j [])) 64 i 0 j)
        (path_at_tiles_of ps short i j) own.0 own.1

-- an orbit is stored so that every call accepts it
pub read_tiles_orbit : (p : Path) → length p ≤ 32 → So (codes_ok p) → read_tiles (tiles_of (orbit p)) ≡ given (orbit p)
read_tiles_orbit p h ok =
    read_tiles_tiles_of (orbit p) (omega (arith, orbit_length_le p))
    (λ q m. (subst (λ (n : ℕ). n ≤ 32) (sym (orbit_length_path p q m)) h, orbit_codes_ok p q ok m))
