-- Laws of paths and stored tiles: the test of a path tells what `read_path` and `read_tile` answer, and what is stored is read back. Rests on `Path`
-- and the laws of arrays. Assumes nothing.
use Rattle.std.specs.Prelude.{Err, Ok, Result, ⊤}
use Rattle.std.specs.Prelude.{◌≡◌, refl, Bool, true, false, List, ◌⊎◌, ℕ, ◌≤◌, ◌<◌, leb, get_or, take}
use Rattle.std.proofs.Common.{sym, ap, ◌∙◌, inl, inr, arith, le-leb, leb-true, length-take, ext_get_or, get_or-take, length-take-le}
use Rattle.std.proofs.Math.Path.{subst}
use Rattle.std.proofs.Math.Bool.{So, and-false, and-eq-true_iff}
use Rattle.std.proofs.Math.Decide.{dec_lt}
use Rattle.std.proofs.lemmas.Bool.{lt-leb}
use Rattle.std.proofs.Math.ListN.{length}
use Rattle.cells.specs.Lists.{list_of}
use Rattle.cells.specs.ArrayLaws.{length_list_of, get_d_list_of}
use Rattle.tile.specs.declared.Tile.{Tile}
use Rattle.refusal.specs.declared.Refusal.{Refusal}
use Rattle.refusal.specs.Refusal.{refused, given, refusal_number, refusal_of, verdict_number}
use Rattle.tile.specs.Path.{Path, codes_ok, is_path, path_in, read_tile, read_path, tile_of}
use Rattle.tile.specs.Inner.{CleanTile}
use Rattle.refusal.specs.RefusalLaws.{clash, refused_of, given_inj, Refuses, refuses_one, refuses_cond}

-- ---- some codes are a path

module _ (codes : List ℕ) where
  pub is_path_good : length codes ≤ 32 → So (codes_ok codes) → is_path codes ≡ true
  unfolding is_path
  is_path_good h ok = rw (le-leb (length codes) 32 h, ok)

  pub is_path_long : 32 < length codes → is_path codes ≡ false
  unfolding is_path
  is_path_long h = rw (lt-leb (length codes) 32 h)

  is_path_codes : codes_ok codes ≡ false → is_path codes ≡ false
  unfolding is_path
  is_path_codes e = rw (e, and-false (leb (length codes) 32))

  -- at most 32 codes: their values decide
  pub is_path_short : length codes ≤ 32 → is_path codes ≡ codes_ok codes
  unfolding is_path
  is_path_short h = rw (le-leb (length codes) 32 h)

  pub is_path_is : So (is_path codes) → (length codes ≤ 32) × So (codes_ok codes)
  unfolding is_path
  is_path_is h = let both = (and-eq-true_iff (leb (length codes) 32) (codes_ok codes)).0 h in (leb-true (length codes) 32 both.0, both.1)

-- ---- a path is read

module _ (p : List ℕ) where
  pub read_path_path : is_path p ≡ true → read_path p ≡ given p
  unfolding read_path
  read_path_path e = rw e

  pub read_path_other : is_path p ≡ false → read_path p ≡ refused 5
  unfolding read_path
  read_path_other e = rw e

  pub read_path_given : length p ≤ 32 → So (codes_ok p) → read_path p ≡ given p
  read_path_given h ok = read_path_path (is_path_good p h ok)

  pub read_path_codes : codes_ok p ≡ false → read_path p ≡ refused 5
  read_path_codes e = read_path_other (is_path_codes p e)

  -- a path is read as it is, or refused by 5
  read_path_cases : ((read_path p ≡ given p) × So (is_path p)) ⊎ (read_path p ≡ refused 5)
  read_path_cases = go (is_path p) refl
    where
      go : (b : Bool) → is_path p ≡ b → ((read_path p ≡ given p) × So (is_path p)) ⊎ (read_path p ≡ refused 5)
      go true e = inl (read_path_path e, e)
      go false e = inr (read_path_other e)

  pub read_path_is : (q : List ℕ) → read_path p ≡ given q → (q ≡ p) × (length p ≤ 32) × So (codes_ok p)
  read_path_is q e = go read_path_cases
    where
      go : ((read_path p ≡ given p) × So (is_path p)) ⊎ (read_path p ≡ refused 5) → (q ≡ p) × (length p ≤ 32) × So (codes_ok p)
      go (inl (k, h)) = let same : q ≡ p = cc in let both = is_path_is p h in (same, both.0, both.1)
      go (inr k) = let z : ◌≡◌ {A = ℕ} 0 1 = cc in absurd (omega arith)

  -- an accepted path is one
  pub read_path_accepted : 0 ≡ refusal_of (read_path p) → (length p ≤ 32) × So (codes_ok p)
  read_path_accepted z = go read_path_cases
    where
      go : ((read_path p ≡ given p) × So (is_path p)) ⊎ (read_path p ≡ refused 5) → (length p ≤ 32) × So (codes_ok p)
      go (inl (k, h)) = is_path_is p h
      go (inr k) = absurd (clash (read_path p) k z)

  pub read_path_refused : (n : ℕ) → read_path p ≡ refused n → n ≡ 5
  read_path_refused n e = go read_path_cases
    where
      go : ((read_path p ≡ given p) × So (is_path p)) ⊎ (read_path p ≡ refused 5) → n ≡ 5
      go (inl (k, h)) = cc
      go (inr k) = cc

  pub read_path_refuses : (In : ℕ → Type 0) → In 5 → Refuses In (read_path p)
  read_path_refuses In h n e = subst In (sym (read_path_refused n e)) h

-- ---- a tile is read

pub length_path_in : (t : Tile) → length (path_in t) ≤ t.len
length_path_in t = omega (arith, length-take t.len t.codes)

module _ (t : Tile) where
  -- a length of at most 32: the tile's path is read
  pub read_tile_short : t.len ≤ 32 → read_tile t ≡ read_path (path_in t)
  unfolding read_tile
  read_tile_short h = rw (le-leb t.len 32 h)

  pub read_tile_given : t.len ≤ 32 → codes_ok (path_in t) ≡ true → read_tile t ≡ given (path_in t)
  read_tile_given h e = read_tile_short h ∙ read_path_given (path_in t) (omega (arith, length_path_in t)) e

  pub read_tile_long : 32 < t.len → read_tile t ≡ refused 5
  unfolding read_tile
  read_tile_long h = rw (lt-leb t.len 32 h)

  read_tile_codes : codes_ok (path_in t) ≡ false → read_tile t ≡ refused 5
  read_tile_codes e = go (dec_lt 32 t.len)
    where
      go : Dec (32 < t.len) → read_tile t ≡ refused 5
      go (yes h) = read_tile_long h
      go (no h) = read_tile_short (omega arith) ∙ read_path_codes (path_in t) e

  -- an accepted tile is a path
  pub read_tile_accepted : 0 ≡ refusal_of (read_tile t) → (t.len ≤ 32) × (codes_ok (path_in t) ≡ true)
  read_tile_accepted z = go (dec_lt 32 t.len) (codes_ok (path_in t)) refl
    where
      none : read_tile t ≡ refused 5 → ⊥
      none e = clash (read_tile t) e z

      go : Dec (32 < t.len) → (b : Bool) → codes_ok (path_in t) ≡ b → (t.len ≤ 32) × (codes_ok (path_in t) ≡ true)
      go (yes h) b e = absurd (none (read_tile_long h))
      go (no h) true e = (omega arith, e)
      go (no h) false e = absurd (none (read_tile_codes e))

  -- what is read is a path of at most 32 codes
  pub read_tile_is : (p : Path) → read_tile t ≡ given p → (length p ≤ 32) × So (codes_ok p)
  unfolding refusal_of
  read_tile_is p e =
      let ok = read_tile_accepted (sym (ap refusal_of e)) in
      let is : p ≡ path_in t = given_inj p (path_in t) (sym e ∙ read_tile_given ok.0 ok.1) in
      (subst (λ (q : Path). length q ≤ 32) (sym is) (omega (arith, length_path_in t, ok.0)), subst (λ (q : Path). So (codes_ok q)) (sym is) ok.1)

-- a tile is refused by 5 only
pub read_tile_refuses : (t : Tile) (In : ℕ → Type 0) → In 5 → Refuses In (read_tile t)
unfolding read_tile
read_tile_refuses t In h = refuses_cond In (leb t.len 32) (read_path (path_in t)) (refused 5) (read_path_refuses (path_in t) In h) (refuses_one In 5 h)

pub read_tile_refused : (t : Tile) (q : Refusal) → refusal_number q ≡ refusal_of (read_tile t) → read_tile t ≡ refused 5
read_tile_refused t q e = let r = refused_of (read_tile t) q e in r ∙ ap refused (read_tile_refuses t (λ n. n ≡ 5) refl (refusal_number q) r)

-- what the test of a tile tells: its verdict v has the refusal's number
module _ (t : Tile) (v : (Result ⊤ Refusal)) (e : verdict_number v ≡ refusal_of (read_tile t)) where
  pub check_accepted : v ≡ (Ok tt) → (t.len ≤ 32) × (codes_ok (path_in t) ≡ true)
  check_accepted q = read_tile_accepted t (sym (ap verdict_number q) ∙ e)

  pub check_refused : (r : Refusal) → v ≡ Err r → read_tile t ≡ refused 5
  check_refused r q = read_tile_refused t r (sym (ap verdict_number q) ∙ e)

-- ---- what is stored is read back

pub path_in_tile_of : (p : Path) → length p ≤ 32 → path_in (tile_of p) ≡ p
unfolding tile_of
path_in_tile_of p h =
    let f : ℕ → ℕ = λ k. get_or p k 0 in
    let e : length (take (length p) (list_of f 32)) ≡ length p = length-take-le (length p) (list_of f 32) (omega (arith, length_list_of f 32)) in
    ext_get_or 0 (take (length p) (list_of f 32)) p e
    (λ k i. get_or-take (length p) (list_of f 32) k 0 (omega arith) ∙ get_d_list_of f 32 k 0 (omega arith))

pub clean_tile_of : (p : Path) → length p ≤ 32 → CleanTile (tile_of p)
unfolding tile_of
clean_tile_of p h = record { short = h; is = ap tile_of (sym (path_in_tile_of p h)) }

len_tile_of : (p : Path) → (tile_of p).len ≡ length p
unfolding tile_of
len_tile_of p = refl

pub read_tile_tile_of : (p : Path) → length p ≤ 32 → So (codes_ok p) → read_tile (tile_of p) ≡ given p
read_tile_tile_of p h ok =
    let same = path_in_tile_of p h in
    read_tile_given (tile_of p) (subst (λ (n : ℕ). n ≤ 32) (sym (len_tile_of p)) h) (ap codes_ok same ∙ ok) ∙ ap given same
