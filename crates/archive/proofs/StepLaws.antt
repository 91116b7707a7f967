-- Laws of reading record by record: what a whole record is; fuel that is enough is enough (`records_enough`); what is read where nothing is left, where a whole record stands, and where a
-- broken one does. Rests on `Archive`. Assumes nothing.
use Rattle.std.specs.Prelude.{◌≡◌, refl, ◌↔◌, Bool, true, false, ◌&&◌, List, [], ◌∷◌, ℕ, zero, suc, ◌-◌, ◌≤◌, ◌<◌, eqb, leb, length, take, drop}
use Rattle.std.proofs.Common.{sym, ap, ◌∙◌, arith, length-drop, eq-eqb, ne_eqb, eqb-true, leb-true, le-leb}
use Rattle.cells.specs.Lists.{ascii}
use Rattle.archive.specs.declared.Record.{Record}
use Rattle.archive.specs.Archive.{Outcome, answered, refused_at, map_outcome, record_in, is_whole, records_from}

-- the records from a place on, with fuel for all bytes
abbrev pub read_from : ℕ → List ℕ → Outcome (List Record)
read_from place bytes = records_from (length bytes) place bytes

both : (a b : Bool) → (a && b) ≡ true → (a ≡ true) × (b ≡ true)
both true b e = (refl, e)
both false b e = let z : ◌≡◌ {A = ℕ} 0 1 = cc in absurd (omega arith)

-- bytes begin with a record exactly if they are as many as it has, and begin with its mark
pub whole_iff : (bytes : List ℕ) → (is_whole bytes ≡ true) ↔ ((24 ≤ length bytes) × (take 2 bytes ≡ ascii "TY"))
unfolding is_whole ascii
whole_iff bytes = (there bytes, λ h. back bytes h.0 h.1)
  where
    there : (bytes : List ℕ) → is_whole bytes ≡ true → (24 ≤ length bytes) × (take 2 bytes ≡ ascii "TY")
    there [] e = absurd (let z : ◌≡◌ {A = ℕ} 0 1 = cc in omega arith)
    there (a ∷ []) e = absurd (let z : ◌≡◌ {A = ℕ} 0 1 = cc in omega arith)
    there (a ∷ b ∷ bytes) e =
        let r = both (leb 24 (length (a ∷ b ∷ bytes))) _ e in
        let s = both (eqb a 84) (eqb b 89) r.1 in
        let p : a ≡ 84 = eqb-true a 84 s.0 in
        let q : b ≡ 89 = eqb-true b 89 s.1 in
        (leb-true 24 (length (a ∷ b ∷ bytes)) r.0, cc)

    back : (bytes : List ℕ) → 24 ≤ length bytes → take 2 bytes ≡ ascii "TY" → is_whole bytes ≡ true
    back [] h e = absurd (omega arith)
    back (a ∷ []) h e = absurd (omega arith)
    back (a ∷ b ∷ bytes) h e =
        let p : a ≡ 84 = cc in
        let q : b ≡ 89 = cc in
        rw (le-leb 24 (length (a ∷ b ∷ bytes)) h, eq-eqb a 84 p, eq-eqb b 89 q)

-- so bytes that are shorter than a record do not hold one
pub whole_long : (bytes : List ℕ) → is_whole bytes ≡ true → 24 ≤ length bytes
whole_long bytes e = ((whole_iff bytes).0 e).0

-- no byte is left
pub records_none : (n place : ℕ) (bytes : List ℕ) → length bytes ≡ 0 → records_from n place bytes ≡ answered []
unfolding records_from
records_none zero place bytes e = refl
records_none (suc n) place bytes e = rw (eq-eqb (length bytes) 0 e)

-- a broken record
pub records_broken : (n place : ℕ) (bytes : List ℕ) → 0 < length bytes → is_whole bytes ≡ false → records_from (suc n) place bytes ≡ refused_at 13 place
unfolding records_from
records_broken n place bytes h e = rw (ne_eqb (length bytes) 0 (λ z. omega arith), e)

-- a whole record
pub records_whole : (n place : ℕ) (bytes : List ℕ) → is_whole bytes ≡ true
    → records_from (suc n) place bytes ≡ map_outcome (λ rs. record_in bytes ∷ rs) (records_from n (suc place) (drop 24 bytes))
unfolding records_from
records_whole n place bytes e = let l = whole_long bytes e in rw (ne_eqb (length bytes) 0 (λ z. omega (arith, l)), e)

-- as many records as there are bytes are enough
module _ (n m place : ℕ) (bytes : List ℕ) where
  enough_broken : (k : ℕ) → length bytes ≡ k → is_whole bytes ≡ false → records_from (suc n) place bytes ≡ records_from (suc m) place bytes
  enough_broken zero l e = records_none (suc n) place bytes l ∙ sym (records_none (suc m) place bytes l)
  enough_broken (suc k) l e = records_broken n place bytes (omega arith) e ∙ sym (records_broken m place bytes (omega arith) e)

  enough_more : length bytes ≤ suc n → length bytes ≤ suc m
      → (length (drop 24 bytes) ≤ n → length (drop 24 bytes) ≤ m → records_from n (suc place) (drop 24 bytes) ≡ records_from m (suc place) (drop 24 bytes))
      → (b : Bool) → is_whole bytes ≡ b → records_from (suc n) place bytes ≡ records_from (suc m) place bytes
  enough_more h g behind true e =
      let l = whole_long bytes e in
      let d : length (drop 24 bytes) ≡ length bytes - 24 = length-drop 24 bytes in
      records_whole n place bytes e
      ∙ ap (map_outcome (λ (rs : List Record). record_in bytes ∷ rs)) (behind (omega (arith, l, d)) (omega (arith, l, d)))
      ∙ sym (records_whole m place bytes e)
  enough_more h g behind false e = enough_broken (length bytes) refl e

pub records_enough : (n m place : ℕ) (bytes : List ℕ) → length bytes ≤ n → length bytes ≤ m → records_from n place bytes ≡ records_from m place bytes
records_enough zero m place bytes h g = records_none zero place bytes (omega arith) ∙ sym (records_none m place bytes (omega arith))
records_enough (suc n) zero place bytes h g = records_none (suc n) place bytes (omega arith) ∙ sym (records_none zero place bytes (omega arith))
records_enough (suc n) (suc m) place bytes h g = enough_more n m place bytes h g (λ h g. records_enough n m (suc place) (drop 24 bytes) h g) (is_whole bytes) refl

-- ---- the same with fuel for all bytes

pub read_none : (place : ℕ) (bytes : List ℕ) → length bytes ≡ 0 → read_from place bytes ≡ answered []
read_none place bytes e = records_none (length bytes) place bytes e

pub read_broken : (place : ℕ) (bytes : List ℕ) → 0 < length bytes → is_whole bytes ≡ false → read_from place bytes ≡ refused_at 13 place
read_broken place bytes h e = records_enough (length bytes) (suc (length bytes)) place bytes (omega arith) (omega arith) ∙ records_broken (length bytes) place bytes h e

pub read_whole : (place : ℕ) (bytes : List ℕ) → is_whole bytes ≡ true
    → read_from place bytes ≡ map_outcome (λ rs. record_in bytes ∷ rs) (read_from (suc place) (drop 24 bytes))
read_whole place bytes e =
    let d : length (drop 24 bytes) ≡ length bytes - 24 = length-drop 24 bytes in
    records_enough (length bytes) (suc (length bytes)) place bytes (omega arith) (omega arith)
    ∙ records_whole (length bytes) place bytes e
    ∙ ap (map_outcome (λ (rs : List Record). record_in bytes ∷ rs)) (records_enough (length bytes) (length (drop 24 bytes)) (suc place) (drop 24 bytes) (omega (arith, d)) (omega arith))
