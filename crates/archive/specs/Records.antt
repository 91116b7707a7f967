-- Definitions for the theorems: the file of a list of records; a broken record, and the current record of an id, in words; and which numbers bytes and fields have.
-- What stands in quotation marks is 02's, of request 1. Assumes nothing.
use Rattle.std.specs.Prelude.{◌≡◌, ◌⊎◌, ℕ, ◌+◌, ◌*◌, ◌^◌, ◌≤◌, ◌<◌, length, get_or, take, drop, Some}
use mathlib.Core.List.{List, flat_map, Memᴰ as Mem}
use Rattle.std.specs.List.{slice_get}
use Rattle.cells.specs.Lists.{ascii}
use Rattle.archive.specs.declared.Record.{Record}
use Rattle.archive.specs.Archive.{record_bytes, record_size}

-- ---- files

-- the file of a list of records, one behind the other
unfoldable pub archive_of : List Record → List ℕ
unfolding record_bytes flat_map
archive_of rs = flat_map record_bytes rs

-- every number of a file is a byte
abbrev pub AreBytes : List ℕ → Type 0
AreBytes file = (i : ℕ) → get_or file i 0 < 256

-- the fields of a record have their bits: "plot id (2 bytes), survey year (2), revision (2), count (16 bytes […] as two 64-bit words"
pub record InRange (r : Record) : Type 0 where
  pub id : r.id < 2 ^ 16
  pub year : r.year < 2 ^ 16
  pub revision : r.revision < 2 ^ 16
  pub low : r.low < 2 ^ 64
  pub high : r.high < 2 ^ 64

abbrev pub AllInRange : List Record → Type 0
AllInRange rs = (r : Record) → Mem r rs → InRange r

-- ---- broken records

-- a record begins at a place of the file, where it has a byte,
abbrev pub Begins : List ℕ → ℕ → Type 0
Begins file place = record_size * place < length file

-- it is broken: "a mark isn't TY or a record is cut short"
abbrev pub IsBroken : List ℕ → ℕ → Type 0
unfolding ascii
IsBroken file place = (length file < record_size * place + record_size) ⊎ (take 2 (drop (record_size * place) file) ≡ ascii "TY" → ⊥)

-- ---- the current record: "the one with the highest year, then the highest revision, then the last in the file"

-- the record at a place of the list is of the id; no record of the id has a higher year, or the same year and a higher revision; and none behind it has the
-- same year and revision
pub record IsCurrent (id : ℕ) (rs : List Record) (place : ℕ) (r : Record) : Type 0 where
  pub there : slice_get rs place ≡ Some r
  pub of_id : r.id ≡ id
  pub year : (p : ℕ) (s : Record) → slice_get rs p ≡ Some s → s.id ≡ id → s.year ≤ r.year
  pub revision : (p : ℕ) (s : Record) → slice_get rs p ≡ Some s → s.id ≡ id → s.year ≡ r.year → s.revision ≤ r.revision
  pub last : (p : ℕ) (s : Record) → slice_get rs p ≡ Some s → s.id ≡ id → s.year ≡ r.year → s.revision ≡ r.revision → p ≤ place

-- year and revision of a record are not below those of another
abbrev pub NotBelow : Record → Record → Type 0
NotBelow r s = (s.year < r.year) ⊎ ((s.year ≡ r.year) × (s.revision ≤ r.revision))
