-- Laws of the bytes of tiles: byte by byte of a struct, and that the bytes of tiles that are stored with zeros behind are those of the tiles. Rests on
-- `TileBytes`, cells' `ArrayLaws` and tiles' `StoredLaws`. Assumes nothing.
use Rattle.std.specs.Prelude.{◌≡◌, Bool}
use Rattle.std.proofs.Math.Path.{refl, sym, ap}
use Rattle.std.proofs.Common.{ap₂, ◌∙◌}
use Rattle.std.proofs.Math.Bool.{true, false, cond}
use mathlib.Core.List.Memᴰ.{not-nil}
use mathlib.Core.List.{List, [], ◌∷◌, flat_map}
use Prim.Native.Nat.{ℕ, zero, suc, ◌+◌, ◌-◌, ◌*◌, ◌/◌, ◌%◌, ◌≤◌, ◌<◌}
use Rattle.std.proofs.Math.Decide.{dec_lt}
use native.Mathlib.Omega.{arith}
use Rattle.std.proofs.Math.Dec.{eqb}
use Rattle.std.proofs.Math.ListN.{length, get_or, get_or-eq_default}
use borrow.Author.Tests.{eqb-false, eq-eqb, ne_eqb}
use Rattle.cells.specs.Lists.{list_of, padded}
use Rattle.cells.specs.ArrayLaws.{list_of_ext, get_d_list_of, length_list_of, padded_none, get_d_padded, get_d_block, length_padded}
use Rattle.tiles.specs.declared.Tiles.{Tiles}
use Rattle.tile.specs.Path.{Path}
use Rattle.tiles.specs.Inner.{Storable, Short}
use Rattle.tiles.specs.Paths.{tiles_of}
use Rattle.tiles.specs.StoredLaws.{storable_short, tiles_at, tiles_of_at}
use Rattle.host_tiles.specs.TileBytes.{bytes_for, stored_byte, struct_bytes}

-- ---- byte by byte

module _ (lens codes : List ℕ) (k : ℕ) where
  pub stored_past : length lens ≡ 64 → length codes ≡ 2048 → 63 < k / 33 → 0 ≡ stored_byte lens codes k
  unfolding stored_byte
  stored_past l c h = go (eqb (k % 33) 0)
    where
      go : (b : Bool) → 0 ≡ cond b (get_or lens (k / 33) 0 % 256) (get_or codes (32 * (k / 33) + (k % 33 - 1)) 0)
      go true = let a : length lens ≤ k / 33 = omega arith in sym (ap (λ (n : ℕ). n % 256) (get_or-eq_default lens 0 a))
      go false = let a : length codes ≤ 32 * (k / 33) + (k % 33 - 1) = omega arith in sym (get_or-eq_default codes 0 a)

  pub stored_length : k % 33 ≡ 0 → get_or lens (k / 33) 0 % 256 ≡ stored_byte lens codes k
  unfolding stored_byte
  stored_length e = rw (eq-eqb (k % 33) 0 e)

  pub stored_code : (k % 33 ≡ 0 → ⊥) → get_or codes (32 * (k / 33) + (k % 33 - 1)) 0 ≡ stored_byte lens codes k
  unfolding stored_byte
  stored_code e = rw (ne_eqb (k % 33) 0 e)

-- ---- the bytes of tiles, by their places

-- byte k of some tiles, 0 behind a path and behind the last tile
unfoldable pub byte_of : List Path → ℕ → ℕ
byte_of paths k = cond (eqb (k % 33) 0) (length (get_or paths (k / 33) [])) (get_or (get_or paths (k / 33) []) (k % 33 - 1) 0)

pub bytes_for_at : (paths : List Path) (count : ℕ) → bytes_for paths count ≡ list_of (byte_of paths) count
unfolding bytes_for padded byte_of
bytes_for_at paths count = list_of_ext (λ k. get_or (flat_map bytes paths) k 0) (byte_of paths) count (λ k h. byte_at k)
  where
    bytes : Path → List ℕ
    bytes p = length p ∷ padded p 32

    zeros : (j : ℕ) → get_or (bytes []) j 0 ≡ 0
    zeros zero = refl
    zeros (suc j) = padded_none 32 j

    byte : (p : Path) (j : ℕ) → j < 33 → get_or (bytes p) j 0 ≡ cond (eqb j 0) (length p) (get_or p (j - 1) 0)
    byte p zero h = refl
    byte p (suc j) h =
        let e : suc j - 1 ≡ j = omega arith in
        rw (ne_eqb (suc j) 0 (λ q. omega arith), e) (get_d_padded p 32 j (omega arith))

    byte_at : (k : ℕ) → get_or (flat_map bytes paths) k 0 ≡ byte_of paths k
    byte_at k =
        let e : 33 * (k / 33) + k % 33 ≡ k = omega arith in
        ap (λ (i : ℕ). get_or (flat_map bytes paths) i 0) (sym e)
        ∙ get_d_block 33 bytes (λ p. ap suc (length_padded p 32)) [] zeros paths (k / 33) (k % 33) (omega arith)
        ∙ byte (get_or paths (k / 33) []) (k % 33) (omega arith)

-- ---- tiles that are stored with zeros behind

module _ (ps : List Path) (few : length ps ≤ 64) (short : Short ps) where
  lens_at : (t : ℕ) → get_or (tiles_of ps).lens t 0 % 256 ≡ length (get_or ps t [])
  unfolding tiles_at
  lens_at t = ap (λ (ts : Tiles). get_or ts.lens t 0 % 256) (tiles_of_at ps) ∙ go (dec_lt t 64)
    where
      low : (n : ℕ) → n ≤ 32 → n % 256 ≡ n
      low n h = omega arith

      go : Dec (t < 64) → get_or (list_of (λ i. length (get_or ps i [])) 64) t 0 % 256 ≡ length (get_or ps t [])
      go (yes h) = ap (λ (n : ℕ). n % 256) (get_d_list_of (λ i. length (get_or ps i [])) 64 t 0 h) ∙ low (length (get_or ps t [])) (short t)
      go (no h) =
          let a : length (list_of (λ i. length (get_or ps i [])) 64) ≤ t = omega (arith, length_list_of (λ i. length (get_or ps i [])) 64) in
          let b : length ps ≤ t = omega arith in
          ap (λ (n : ℕ). n % 256) (get_or-eq_default (list_of (λ i. length (get_or ps i [])) 64) 0 a) ∙ ap length (sym (get_or-eq_default ps [] b))

  codes_at : (t q : ℕ) → q < 32 → get_or (tiles_of ps).codes (32 * t + q) 0 ≡ get_or (get_or ps t []) q 0
  unfolding tiles_at
  codes_at t q l = ap (λ (ts : Tiles). get_or ts.codes (32 * t + q) 0) (tiles_of_at ps) ∙ go (dec_lt t 64)
    where
      code : ℕ → ℕ
      code k = get_or (get_or ps (k / 32) []) (k % 32) 0

      go : Dec (t < 64) → get_or (list_of code 2048) (32 * t + q) 0 ≡ get_or (get_or ps t []) q 0
      go (yes h) =
          let a : (32 * t + q) / 32 ≡ t = omega arith in
          let b : (32 * t + q) % 32 ≡ q = omega arith in
          get_d_list_of code 2048 (32 * t + q) 0 (omega arith) ∙ ap₂ (λ (i j : ℕ). get_or (get_or ps i []) j 0) a b
      go (no h) =
          let a : length (list_of code 2048) ≤ 32 * t + q = omega (arith, length_list_of code 2048) in
          let b : length ps ≤ t = omega arith in
          get_or-eq_default (list_of code 2048) 0 a ∙ ap (λ (p : Path). get_or p q 0) (sym (get_or-eq_default ps [] b))

  stored_byte_lem : (k : ℕ) → stored_byte (tiles_of ps).lens (tiles_of ps).codes k ≡ byte_of ps k
  unfolding stored_byte byte_of
  stored_byte_lem k = go (eqb (k % 33) 0) refl
    where
      go : (b : Bool) → eqb (k % 33) 0 ≡ b → cond b (get_or (tiles_of ps).lens (k / 33) 0 % 256) (get_or (tiles_of ps).codes (32 * (k / 33) + (k % 33 - 1)) 0) ≡ cond b (length (get_or ps (k / 33) [])) (get_or (get_or ps (k / 33) []) (k % 33 - 1) 0)
      go true e = lens_at (k / 33)
      go false e = let n : k % 33 ≡ 0 → ⊥ = eqb-false (k % 33) 0 e in codes_at (k / 33) (k % 33 - 1) (omega arith)

-- the bytes of tiles that are stored with zeros behind are those of the tiles
pub stored_bytes : (ts : Tiles) (ps : List Path) → length ps ≤ 64 → Storable ps → ts ≡ tiles_of ps → (count : ℕ) → struct_bytes ts count ≡ bytes_for ps count
unfolding struct_bytes
stored_bytes ts ps few fine e count =
    ap (λ (x : Tiles). list_of (stored_byte x.lens x.codes) count) e
    ∙ list_of_ext (stored_byte (tiles_of ps).lens (tiles_of ps).codes) (byte_of ps) count (λ k h. stored_byte_lem ps few (storable_short ps fine) k)
    ∙ sym (bytes_for_at ps count)

pub none_storable : Storable []
none_storable p m = absurd (not-nil m)

-- the bytes of no tiles
pub none_bytes : (ts : Tiles) → ts ≡ tiles_of [] → (count : ℕ) → struct_bytes ts count ≡ bytes_for [] count
none_bytes ts e count = stored_bytes ts [] (omega arith) none_storable e count
