-- Laws of files: a record that was written reads back; a file in front of other bytes is read before them, so that a file of records is read as these, and one record
-- more behind a sound file is read behind the others; a sound file is the file of its records, and of one list only; what `write_record` leaves. Rests on `PlaceLaws`,
-- `OutcomeLaws`, `ByteLaws`, `StepLaws` and `BrokenLaws`. Assumes nothing.
use Rattle.std.specs.Prelude.{◌≡◌, ◌↔◌, ◌⊎◌, Bool, cond, ◌&&◌, ℕ, zero, suc, ◌+◌, ◌-◌, ◌*◌, ◌^◌, ◌≤◌, ◌<◌, get_or, take, drop, replicate}
use Rattle.std.proofs.Math.Path.{refl, sym, ap, ap₂}
use Rattle.std.proofs.Common.{◌∙◌, subst, ⊎_elim, add-zero, le_of_eq, arith, lit<, take-append-drop, drop_of_length-le, get_or-drop, take-add, take_at, drop-drop, le-leb, leb-true, leb-false}
use Rattle.std.proofs.Math.Logic.{inl, inr}
use Rattle.std.proofs.Math.Bool.{true, false}
use mathlib.Core.List.Memᴰ.{cases_cons}
use mathlib.Core.List.Memᴰ.{head as here}
use mathlib.Core.List.Memᴰ.{not-nil}
use mathlib.Core.List.Memᴰ.{tail as there}
use mathlib.Core.List.{List, [], ◌∷◌, ◌++◌, flat_map, append_assoc}
use Rattle.std.proofs.Math.Dec.{eqb, leb}
use Rattle.std.proofs.Math.ListN.{length, length-append, get_or-append}
use Rattle.std.proofs.lemmas.List.{drop-append-le}
use Rattle.cells.specs.Lists.{padded, ascii}
use Rattle.cells.specs.ArrayLaws.{padded_room, padded_empty}
use Rattle.archive.specs.declared.Record.{Record}
use Rattle.archive.specs.Archive.{Outcome, answered, refused_at, refused_by, map_outcome, outcome_number, handed_back, LeavesOutcome, big_endian, number_at, count_held, record_bytes, record_size, record_in, is_whole, records_of, record_at, write_record}
use Rattle.archive.specs.Records.{archive_of, AreBytes, InRange, AllInRange}
use Rattle.archive.proofs.ByteLaws.{count_words_lem, count_bytes, number_at_append, number_at_front, number_at_lt, number_at_split, number_at_big_endian, number_at_here, number_at_past, big_endian_number_at, bytes_append, bytes_big_endian}
use Rattle.archive.specs.PlaceLaws.{at_seam}
use Rattle.archive.proofs.BrokenLaws.{record_answers}
use Rattle.archive.specs.OutcomeLaws.{map_map, answered_refused_at}
use Rattle.archive.proofs.StepLaws.{whole_iff, read_from, whole_long, read_none, read_broken, read_whole}

-- ---- a record that was written

-- a record has 24 bytes
pub record_size_lem : (r : Record) → length (record_bytes r) ≡ record_size
unfolding record_bytes ascii
record_size_lem r = refl

-- they are a whole record,
pub whole_record : (r : Record) → is_whole (record_bytes r) ≡ true
unfolding is_whole record_bytes ascii
whole_record r = refl

-- in this order: mark, id, year, revision, high word and low word
record_parts : (r : Record) → r.low < 2 ^ 64
    → record_bytes r ≡ ascii "TY" ++ (big_endian 2 r.id ++ (big_endian 2 r.year ++ (big_endian 2 r.revision ++ (big_endian 8 r.high ++ big_endian 8 r.low))))
unfolding record_bytes
record_parts r h = rw (count_bytes r h) (simp append_assoc)

module _ (i y v h l : ℕ) where
  parts : List ℕ
  parts = ascii "TY" ++ (big_endian 2 i ++ (big_endian 2 y ++ (big_endian 2 v ++ (big_endian 8 h ++ big_endian 8 l))))

  part_id : i < 2 ^ 16 → number_at parts 2 2 ≡ i
  unfolding parts ascii
  part_id f = number_at_append (ascii "TY") _ 0 2 ∙ number_at_here 2 i _ f

  part_year : y < 2 ^ 16 → number_at parts 4 2 ≡ y
  unfolding parts ascii
  part_year f = number_at_append (ascii "TY") _ 2 2 ∙ number_at_past 2 i _ 0 2 ∙ number_at_here 2 y _ f

  part_revision : v < 2 ^ 16 → number_at parts 6 2 ≡ v
  unfolding parts ascii
  part_revision f = number_at_append (ascii "TY") _ 4 2 ∙ number_at_past 2 i _ 2 2 ∙ number_at_past 2 y _ 0 2 ∙ number_at_here 2 v _ f

  part_high : h < 2 ^ 64 → number_at parts 8 8 ≡ h
  unfolding parts ascii
  part_high f =
      number_at_append (ascii "TY") _ 6 8 ∙ number_at_past 2 i _ 4 8 ∙ number_at_past 2 y _ 2 8 ∙ number_at_past 2 v _ 0 8 ∙ number_at_here 8 h _ f

  part_low : l < 2 ^ 64 → number_at parts 16 8 ≡ l
  unfolding parts ascii
  part_low f =
      number_at_append (ascii "TY") _ 14 8 ∙ number_at_past 2 i _ 12 8 ∙ number_at_past 2 y _ 10 8 ∙ number_at_past 2 v _ 8 8 ∙ number_at_past 8 h _ 0 8 ∙ number_at_big_endian 8 l f

-- and each field reads back
pub record_back : (r : Record) → InRange r → record_in (record_bytes r) ≡ r
unfolding record_in parts
record_back r f = ap record_in (record_parts r f.low) ∙ (λ k. record {
  id = part_id r.id r.year r.revision r.high r.low f.id k;
  year = part_year r.id r.year r.revision r.high r.low f.year k;
  revision = part_revision r.id r.year r.revision r.high r.low f.revision k;
  low = part_low r.id r.year r.revision r.high r.low f.low k;
  high = part_high r.id r.year r.revision r.high r.low f.high k;
})

-- the 16 bytes of a count are the number of its two words
pub count_read : (bytes : List ℕ) → count_held (record_in bytes) ≡ number_at bytes 8 16
unfolding record_in
count_read bytes = count_words_lem (record_in bytes) ∙ swap (number_at bytes 16 8) (number_at bytes 8 8) (2 ^ 64) ∙ sym (number_at_split bytes 8 8 8)
  where
    swap : (a b p : ℕ) → a + p * b ≡ b * p + a
    swap a b p = omega arith

-- ---- a whole record is the record that is read

take_parts : (at n m : ℕ) (bytes : List ℕ) → take n (drop at bytes) ++ take m (drop (at + n) bytes) ≡ take (n + m) (drop at bytes)
take_parts at n m bytes = sym (take-add n m (drop at bytes) ∙ ap (λ (l : List ℕ). take n (drop at bytes) ++ take m l) (drop-drop n at bytes))

fields : (r : Record) (a b c d e : List ℕ) → ascii "TY" ≡ a → big_endian 2 r.id ≡ b → big_endian 2 r.year ≡ c → big_endian 2 r.revision ≡ d
    → big_endian 16 (count_held r) ≡ e → record_bytes r ≡ a ++ b ++ c ++ d ++ e
unfolding record_bytes
fields r a b c d e p q s t u = λ k. p k ++ q k ++ s k ++ t k ++ u k

-- the first 24 bytes are written back
pub whole_back : (bytes : List ℕ) → AreBytes bytes → is_whole bytes ≡ true → record_bytes (record_in bytes) ≡ take 24 bytes
unfolding record_in
whole_back bytes f e =
    let l = whole_long bytes e in
    fields (record_in bytes) (take 2 bytes) (take 2 (drop 2 bytes)) (take 2 (drop 4 bytes)) (take 2 (drop 6 bytes)) (take 16 (drop 8 bytes))
    (sym ((whole_iff bytes).0 e).1)
    (big_endian_number_at bytes 2 2 f (omega arith))
    (big_endian_number_at bytes 4 2 f (omega arith))
    (big_endian_number_at bytes 6 2 f (omega arith))
    (ap (big_endian 16) (count_read bytes) ∙ big_endian_number_at bytes 8 16 f (omega arith))
    ∙ ap (λ (l : List ℕ). l ++ take 2 (drop 4 bytes) ++ take 2 (drop 6 bytes) ++ take 16 (drop 8 bytes)) (take_parts 0 2 2 bytes)
    ∙ ap (λ (l : List ℕ). l ++ take 2 (drop 6 bytes) ++ take 16 (drop 8 bytes)) (take_parts 0 4 2 bytes)
    ∙ ap (λ (l : List ℕ). l ++ take 16 (drop 8 bytes)) (take_parts 0 6 2 bytes)
    ∙ take_parts 0 8 16 bytes

-- and its fields have their bits
pub whole_range : (bytes : List ℕ) → AreBytes bytes → InRange (record_in bytes)
unfolding record_in
whole_range bytes f = record {
  id = number_at_lt bytes 2 2 f;
  year = number_at_lt bytes 4 2 f;
  revision = number_at_lt bytes 6 2 f;
  low = number_at_lt bytes 16 8 f;
  high = number_at_lt bytes 8 8 f;
}

-- ---- bytes behind a whole record do not change it

module _ (bytes behind : List ℕ) (whole : is_whole bytes ≡ true) where
  -- it is whole,
  pub whole_front : is_whole (bytes ++ behind) ≡ true
  unfolding is_whole
  whole_front =
      let l = whole_long bytes whole in
      ap (λ (b : Bool). b && (eqb (get_or (bytes ++ behind) 0 0) 84 && eqb (get_or (bytes ++ behind) 1 0) 89))
      (le-leb 24 (length (bytes ++ behind)) (omega (arith, length-append bytes behind)) ∙ sym (le-leb 24 (length bytes) l))
      ∙ ap₂ (λ (t y : ℕ). leb 24 (length bytes) && (eqb t 84 && eqb y 89))
      (get_or-append bytes behind 0 0 (omega arith)) (get_or-append bytes behind 0 1 (omega arith))
      ∙ whole

  -- and reads the same
  pub record_front : record_in (bytes ++ behind) ≡ record_in bytes
  unfolding record_in
  record_front =
      let l = whole_long bytes whole in
      let at : (a k : ℕ) → a + k ≤ length bytes → number_at (bytes ++ behind) a k ≡ number_at bytes a k = number_at_front bytes behind in
      λ k. record {
        id = at 2 2 (omega arith) k;
        year = at 4 2 (omega arith) k;
        revision = at 6 2 (omega arith) k;
        low = at 16 8 (omega arith) k;
        high = at 8 8 (omega arith) k;
      }

-- ---- what is read, record by record

-- what an outcome was before a record was put in front of it
map_nil : (r : Record) (o : Outcome (List Record)) → map_outcome (λ rs. r ∷ rs) o ≡ answered [] → ⊥
unfolding map_outcome
map_nil r (answered rs) e = let z : ◌≡◌ {A = ℕ} 0 1 = cc in omega arith
map_nil r (refused_at n place) e = let z : ◌≡◌ {A = ℕ} 0 1 = cc in omega arith
map_nil r (refused_by n) e = let z : ◌≡◌ {A = ℕ} 0 1 = cc in omega arith

map_cons : (r s : Record) (ss : List Record) (o : Outcome (List Record)) → map_outcome (λ rs. r ∷ rs) o ≡ answered (s ∷ ss) → (r ≡ s) × (o ≡ answered ss)
unfolding map_outcome
map_cons r s ss (answered rs) e = (cc, cc)
map_cons r s ss (refused_at n place) e = let z : ◌≡◌ {A = ℕ} 0 1 = cc in absurd (omega arith)
map_cons r s ss (refused_by n) e = let z : ◌≡◌ {A = ℕ} 0 1 = cc in absurd (omega arith)

map_same : {A : Type 0} (o : Outcome A) → map_outcome (λ a. a) o ≡ o
unfolding map_outcome
map_same (answered a) = refl
map_same (refused_at n place) = refl
map_same (refused_by n) = refl

no_bytes : (bytes : List ℕ) → length bytes ≡ 0 → bytes ≡ []
no_bytes [] e = refl
no_bytes (b ∷ bytes) e = absurd (omega arith)

module _ (place : ℕ) (bytes : List ℕ) where
  -- bytes that are not a whole record are read as some records only where there are none
  read_rest : (rs : List Record) → read_from place bytes ≡ answered rs → is_whole bytes ≡ false → (n : ℕ) → length bytes ≡ n → (bytes ≡ []) × (rs ≡ [])
  read_rest rs e b zero l = let z = read_none place bytes l in (no_bytes bytes l, cc)
  read_rest rs e b (suc n) l = absurd (answered_refused_at rs 13 place (sym e ∙ read_broken place bytes (omega arith) b))

  -- no record is read from no byte only
  pub read_nil : read_from place bytes ≡ answered [] → bytes ≡ []
  read_nil e = go (is_whole bytes) refl
    where
      go : (b : Bool) → is_whole bytes ≡ b → bytes ≡ []
      go true b = absurd (map_nil (record_in bytes) (read_from (suc place) (drop 24 bytes)) (sym (read_whole place bytes b) ∙ e))
      go false b = (read_rest [] e b (length bytes) refl).0

  -- a first record is a whole one, and the others are read behind it
  pub read_cons : (r : Record) (rs : List Record) → read_from place bytes ≡ answered (r ∷ rs)
      → (is_whole bytes ≡ true) × (record_in bytes ≡ r) × (read_from (suc place) (drop 24 bytes) ≡ answered rs)
  read_cons r rs e = go (is_whole bytes) refl
    where
      go : (b : Bool) → is_whole bytes ≡ b → (is_whole bytes ≡ true) × (record_in bytes ≡ r) × (read_from (suc place) (drop 24 bytes) ≡ answered rs)
      go true b =
          let m = map_cons (record_in bytes) r rs (read_from (suc place) (drop 24 bytes)) (sym (read_whole place bytes b) ∙ e) in
          (b, m.0, m.1)
      go false b = let n = (read_rest (r ∷ rs) e b (length bytes) refl).1 in let z : ◌≡◌ {A = ℕ} 0 1 = cc in absurd (omega arith)

-- ---- a sound file in front

-- it is read before the bytes behind it
pub read_append : (rs : List Record) (place : ℕ) (file behind : List ℕ) → read_from place file ≡ answered rs
    → read_from place (file ++ behind) ≡ map_outcome (λ ss. rs ++ ss) (read_from (place + length rs) behind)
read_append [] place file behind e =
    ap (λ (l : List ℕ). read_from place (l ++ behind)) (read_nil place file e)
    ∙ ap (λ (p : ℕ). read_from p behind) (sym (add-zero place))
    ∙ sym (map_same (read_from (place + 0) behind))
read_append (r ∷ rs) place file behind e =
    let c = read_cons place file r rs e in
    let l = whole_long file c.0 in
    let far : suc place + length rs ≡ place + suc (length rs) = omega arith in
    read_whole place (file ++ behind) (whole_front file behind c.0)
    ∙ ap₂ (λ (s : Record) (l : List ℕ). map_outcome (λ ss. s ∷ ss) (read_from (suc place) l)) (record_front file behind c.0 ∙ c.1) (drop-append-le 24 file behind l)
    ∙ ap (map_outcome (λ (ss : List Record). r ∷ ss)) (read_append rs (suc place) (drop 24 file) behind c.2)
    ∙ map_map (λ (ss : List Record). r ∷ ss) (λ (ss : List Record). rs ++ ss) (read_from (suc place + length rs) behind)
    ∙ ap (λ (p : ℕ). map_outcome (λ (ss : List Record). r ∷ rs ++ ss) (read_from p behind)) far

-- one record
pub read_record : (place : ℕ) (r : Record) → InRange r → read_from place (record_bytes r) ≡ answered (r ∷ [])
unfolding map_outcome
read_record place r f =
    read_whole place (record_bytes r) (whole_record r)
    ∙ ap₂ (λ (s : Record) (l : List ℕ). map_outcome (λ ss. s ∷ ss) (read_from (suc place) l)) (record_back r f) none_left
    ∙ ap (map_outcome (λ (ss : List Record). r ∷ ss)) (read_none (suc place) [] refl)
  where
    none_left : drop 24 (record_bytes r) ≡ []
    none_left = drop_of_length-le (record_bytes r) (le_of_eq (record_size_lem r))

-- one record more behind a sound file
pub append_reads : (file : List ℕ) (rs : List Record) → records_of file ≡ answered rs → (r : Record) → InRange r → records_of (file ++ record_bytes r) ≡ answered (rs ++ r ∷ [])
unfolding records_of map_outcome
append_reads file rs e r f = read_append rs 0 file (record_bytes r) e ∙ ap (map_outcome (λ (ss : List Record). rs ++ ss)) (read_record (0 + length rs) r f)

-- ---- files of records

-- a file of records from any place on
read_archive : (place : ℕ) (rs : List Record) → AllInRange rs → read_from place (archive_of rs) ≡ answered rs
unfolding archive_of flat_map map_outcome
read_archive place [] f = read_none place [] refl
read_archive place (r ∷ rs) f =
    read_append (r ∷ []) place (record_bytes r) (archive_of rs) (read_record place r (f r (here refl)))
    ∙ ap (map_outcome (λ (ss : List Record). r ∷ ss)) (read_archive (place + 1) rs (λ s m. f s (there m)))

-- a file of records is read as these
pub file_reads_back : (rs : List Record) → AllInRange rs → records_of (archive_of rs) ≡ answered rs
unfolding records_of
file_reads_back rs f = read_archive 0 rs f

range_cons : (r : Record) (rs : List Record) → InRange r → AllInRange rs → AllInRange (r ∷ rs)
range_cons r rs f g s m = ⊎_elim (λ e. subst InRange (sym e) f) (g s) (cases_cons m)

-- and so is every record in it
pub record_reads_back : (before : List Record) (r : Record) (behind : List Record) → AllInRange before → InRange r → AllInRange behind
    → record_at (archive_of before ++ record_bytes r ++ archive_of behind) (length before) ≡ answered r
unfolding records_of archive_of flat_map map_outcome
record_reads_back before r behind f g h = (record_answers (archive_of before ++ record_bytes r ++ archive_of behind) (length before) r).1 (before ++ r ∷ behind, reads, at_seam before r behind)
  where
    reads : records_of (archive_of before ++ record_bytes r ++ archive_of behind) ≡ answered (before ++ r ∷ behind)
    reads =
        ap records_of (append_assoc (archive_of before) (record_bytes r) (archive_of behind))
        ∙ read_append before 0 (archive_of before) (archive_of (r ∷ behind)) (read_archive 0 before f)
        ∙ ap (map_outcome (λ (ss : List Record). before ++ ss)) (read_archive (0 + length before) (r ∷ behind) (range_cons r behind g h))

-- its numbers are bytes
bytes_mark : AreBytes (ascii "TY")
unfolding ascii
bytes_mark zero = lit< tt
bytes_mark (suc zero) = lit< tt
bytes_mark (suc (suc i)) = lit< tt

bytes_record : (r : Record) → AreBytes (record_bytes r)
unfolding record_bytes
bytes_record r =
    let fields = bytes_append (ascii "TY" ++ big_endian 2 r.id) (big_endian 2 r.year) (bytes_append (ascii "TY") (big_endian 2 r.id) bytes_mark (bytes_big_endian 2 r.id)) (bytes_big_endian 2 r.year) in
    bytes_append (ascii "TY" ++ big_endian 2 r.id ++ big_endian 2 r.year ++ big_endian 2 r.revision) (big_endian 16 (count_held r))
    (bytes_append (ascii "TY" ++ big_endian 2 r.id ++ big_endian 2 r.year) (big_endian 2 r.revision) fields (bytes_big_endian 2 r.revision))
    (bytes_big_endian 16 (count_held r))

pub bytes_archive : (rs : List Record) → AreBytes (archive_of rs)
unfolding archive_of flat_map
bytes_archive [] i = lit< tt
bytes_archive (r ∷ rs) i = bytes_append (record_bytes r) (archive_of rs) (bytes_record r) (bytes_archive rs) i

-- a file that is read is the file of its records
read_archive_of : (rs : List Record) (place : ℕ) (file : List ℕ) → AreBytes file → read_from place file ≡ answered rs → (file ≡ archive_of rs) × AllInRange rs
unfolding archive_of flat_map
read_archive_of [] place file f e = (read_nil place file e, λ r m. absurd (not-nil m))
read_archive_of (r ∷ rs) place file f e =
    let c = read_cons place file r rs e in
    let behind : AreBytes (drop 24 file) = λ i. subst (λ (b : ℕ). b < 256) (sym (get_or-drop 24 file i 0)) (f (24 + i)) in
    let b = read_archive_of rs (suc place) (drop 24 file) behind c.2 in (
      sym (take-append-drop 24 file) ∙ ap₂ ◌++◌ (sym (whole_back file f c.0) ∙ ap record_bytes c.1) b.0,
      range_cons r rs (subst InRange c.1 (whole_range file f)) b.1,
    )

-- a file of bytes is sound exactly if it is the file of its records
pub sound_iff : (file : List ℕ) → AreBytes file → (rs : List Record) → (records_of file ≡ answered rs) ↔ ((file ≡ archive_of rs) × AllInRange rs)
unfolding records_of
sound_iff file f rs = (read_archive_of rs 0 file f, λ h. ap records_of h.0 ∙ file_reads_back rs h.1)

-- and it is so of one list only
pub one_reading : (rs ss : List Record) → AllInRange rs → AllInRange ss → archive_of rs ≡ archive_of ss → rs ≡ ss
one_reading rs ss f g e = let a = file_reads_back rs f in let b = file_reads_back ss g in cc

-- ---- what `write_record` leaves

module _ (r : Record) (old new : List ℕ) (n : ℕ) (written : LeavesOutcome (write_record r (length old)) old new n) where
  -- the two ways that it ends
  write_ends : ((24 ≤ length old) × (n ≡ 0) × (new ≡ padded (record_bytes r) (length old))) ⊎ ((length old < 24) × (n ≡ 8) × (new ≡ padded [] (length old)))
  unfolding write_record outcome_number handed_back
  write_ends = go (leb 24 (length old)) refl written.number written.words
    where
      go : (b : Bool) → leb 24 (length old) ≡ b → n ≡ outcome_number (cond b (answered (record_bytes r)) (refused_by 8))
          → new ≡ padded (handed_back (cond b (answered (record_bytes r)) (refused_by 8))) (length old)
          → ((24 ≤ length old) × (n ≡ 0) × (new ≡ padded (record_bytes r) (length old))) ⊎ ((length old < 24) × (n ≡ 8) × (new ≡ padded [] (length old)))
      go true e p q = inl (leb-true 24 (length old) e, p, q)
      go false e p q = inr (leb-false 24 (length old) e, p, q)

  -- it is accepted exactly if there is room
  pub write_accepted : (n ≡ 0) ↔ (record_size ≤ length old)
  write_accepted = (λ e. ⊎_elim (λ a. a.0) (λ a. absurd (omega (arith, a.1))) write_ends, λ h. ⊎_elim (λ a. a.1) (λ a. absurd (omega (arith, a.0))) write_ends)

  -- then the record's bytes are left, zeros behind
  pub written_bytes : n ≡ 0 → new ≡ record_bytes r ++ replicate (length old - record_size) 0
  written_bytes e = ⊎_elim room (λ a. absurd (omega (arith, a.1))) write_ends
    where
      room : (24 ≤ length old) × (n ≡ 0) × (new ≡ padded (record_bytes r) (length old)) → new ≡ record_bytes r ++ replicate (length old - 24) 0
      room a =
          let s = record_size_lem r in
          a.2
          ∙ padded_room (record_bytes r) (length old) (omega (arith, a.0))
          ∙ ap (λ (k : ℕ). record_bytes r ++ replicate (length old - k) 0) s

  -- of which the first 24 are a file that holds that record alone
  pub written_reads_back : InRange r → n ≡ 0 → records_of (take record_size new) ≡ answered (r ∷ [])
  unfolding records_of
  written_reads_back f e =
      ap (λ (l : List ℕ). records_of (take 24 l)) (written_bytes e)
      ∙ ap records_of (take_at (record_bytes r) (replicate (length old - 24) 0) 24 (record_size_lem r))
      ∙ read_record 0 r f

  -- else it is refused by 8, and the output is left zero
  pub write_refused : (n ≡ 0 → ⊥) → (n ≡ 8) × (new ≡ replicate (length old) 0)
  write_refused h = ⊎_elim (λ a. absurd (h a.1)) (λ a. (a.1, a.2 ∙ padded_empty (length old))) write_ends
