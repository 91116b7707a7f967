-- The theorems about archive files: what was written reads back, a file of records has one reading, which place 13 tells, which record counts, and what one record
-- more changes. Each is said here in words and proved in `FileLaws`, `BrokenLaws`, `CurrentLaws` or `AppendLaws`. The reader is `records_of` of `Archive`; files of records,
-- broken records and the current record in words are those of `Records`. Assumes nothing.
use Rattle.std.specs.Prelude.{◌≡◌, ◌↔◌, ◌⊎◌, ℕ, ◌-◌, ◌≤◌, ◌<◌, length, take, replicate, Some}
use mathlib.Core.List.{List, [], ◌∷◌, ◌++◌, Memᴰ as Mem}
use Rattle.std.specs.List.{slice_get}
use Rattle.archive.specs.declared.Record.{Record}
use Rattle.archive.specs.Archive.{answered, refused_at, refused_by, LeavesOutcome, number_at, count_held, record_bytes, record_size, record_in, records_of, count_records, record_at, current_record, write_record}
use Rattle.archive.specs.Records.{archive_of, AreBytes, InRange, AllInRange, Begins, IsBroken, IsCurrent, NotBelow}
use Rattle.archive.proofs.FileLaws as File
use Rattle.archive.proofs.BrokenLaws as Broken
use Rattle.archive.proofs.CurrentLaws as Current
use Rattle.archive.proofs.AppendLaws as Append

-- ---- 1. "What was written must read back with each field the same"

-- A file of records is read as these records, and so is every record in it, whatever stands before and behind it.
pub file_reads_back : (rs : List Record) → AllInRange rs → records_of (archive_of rs) ≡ answered rs
file_reads_back = File.file_reads_back

pub record_reads_back : (before : List Record) (r : Record) (behind : List Record) → AllInRange before → InRange r → AllInRange behind
    → record_at (archive_of before ++ record_bytes r ++ archive_of behind) (length before) ≡ answered r
record_reads_back = File.record_reads_back

-- A record has `record_size` bytes, and the 16 bytes of its count are the number of its two words.
pub record_size_lem : (r : Record) → length (record_bytes r) ≡ record_size
record_size_lem = File.record_size_lem

pub count_read : (bytes : List ℕ) → count_held (record_in bytes) ≡ number_at bytes 8 16
count_read = File.count_read

-- What `write_record` leaves: it is accepted exactly if there is room, and then the first bytes of the output are a file that holds that record alone; elsewhere the output is
-- zero.
module _ (r : Record) (old new : List ℕ) (n : ℕ) (written : LeavesOutcome (write_record r (length old)) old new n) where
  pub write_accepted : (n ≡ 0) ↔ (record_size ≤ length old)
  write_accepted = File.write_accepted r old new n written

  pub written_bytes : n ≡ 0 → new ≡ record_bytes r ++ replicate (length old - record_size) 0
  written_bytes = File.written_bytes r old new n written

  pub written_reads_back : InRange r → n ≡ 0 → records_of (take record_size new) ≡ answered (r ∷ [])
  written_reads_back = File.written_reads_back r old new n written

  pub write_refused : (n ≡ 0 → ⊥) → (n ≡ 8) × (new ≡ replicate (length old) 0)
  write_refused = File.write_refused r old new n written

-- ---- 2. "a file of records has one reading"

-- A file of bytes is sound exactly if it is the file of a list of records, which is then its reading,
pub sound_iff : (file : List ℕ) → AreBytes file → (rs : List Record) → (records_of file ≡ answered rs) ↔ ((file ≡ archive_of rs) × AllInRange rs)
sound_iff = File.sound_iff

-- and it is so of one list only.
pub one_reading : (rs ss : List Record) → AllInRange rs → AllInRange ss → archive_of rs ≡ archive_of ss → rs ≡ ss
one_reading = File.one_reading

-- (The file of any records has bytes only.)
pub archive_bytes : (rs : List Record) → AreBytes (archive_of rs)
archive_bytes = File.bytes_archive

-- ---- 3. 13, "handed back with the place of the earliest such record"

-- A file is read, or its refusal is 13; the place is that of a broken record, and none before it is broken.
pub sound_or_broken : (file : List ℕ) → ((rs : List Record) × (records_of file ≡ answered rs)) ⊎ ((place : ℕ) × (records_of file ≡ refused_at 13 place))
sound_or_broken = Broken.sound_or_broken

pub broken_iff : (file : List ℕ) (place : ℕ)
    → (records_of file ≡ refused_at 13 place) ↔ (Begins file place × IsBroken file place × ((p : ℕ) → p < place → IsBroken file p → ⊥))
broken_iff = Broken.broken_iff

-- Every reading call is refused by 13 where the file is, and then only, with that place.
pub count_refused : (file : List ℕ) (place : ℕ) → (count_records file ≡ refused_at 13 place) ↔ (records_of file ≡ refused_at 13 place)
count_refused = Broken.count_refused

pub record_refused : (file : List ℕ) (at place : ℕ) → (record_at file at ≡ refused_at 13 place) ↔ (records_of file ≡ refused_at 13 place)
record_refused = Broken.record_refused

pub current_refused : (file : List ℕ) (id place : ℕ) → (current_record file id ≡ refused_at 13 place) ↔ (records_of file ≡ refused_at 13 place)
current_refused = Broken.current_refused

-- Else the number of records is given, and a record or 14.
pub record_told : (file : List ℕ) (place : ℕ)
    → ((r : Record) × (record_at file place ≡ answered r)) ⊎ (((p : ℕ) × (record_at file place ≡ refused_at 13 p)) ⊎ (record_at file place ≡ refused_by 14))
record_told = Broken.record_told

pub current_told : (file : List ℕ) (id : ℕ)
    → ((r : Record) × (current_record file id ≡ answered r)) ⊎ (((p : ℕ) × (current_record file id ≡ refused_at 13 p)) ⊎ (current_record file id ≡ refused_by 14))
current_told = Broken.current_told

-- Number and record are those of the records that are read.
pub count_answers : (file : List ℕ) (n : ℕ) → (count_records file ≡ answered n) ↔ ((rs : List Record) × (records_of file ≡ answered rs) × (length rs ≡ n))
count_answers = Broken.count_answers

pub record_answers : (file : List ℕ) (place : ℕ) (r : Record)
    → (record_at file place ≡ answered r) ↔ ((rs : List Record) × (records_of file ≡ answered rs) × (slice_get rs place ≡ Some r))
record_answers = Broken.record_answers

-- "14 when a sound file has no record of the id or at the place, after 13"
pub record_absent : (file : List ℕ) (place : ℕ) → (record_at file place ≡ refused_by 14) ↔ ((rs : List Record) × (records_of file ≡ answered rs) × (length rs ≤ place))
record_absent = Broken.record_absent

pub current_absent : (file : List ℕ) (id : ℕ)
    → (current_record file id ≡ refused_by 14) ↔ ((rs : List Record) × (records_of file ≡ answered rs) × ((r : Record) → Mem r rs → r.id ≡ id → ⊥))
current_absent = Current.current_absent

-- ---- 4. "the current record is the one with the highest year, then the highest revision, then the last in the file"

-- The record that is given is the current one in words,
pub current_iff : (file : List ℕ) (id : ℕ) (r : Record)
    → (current_record file id ≡ answered r) ↔ ((rs : List Record) × (place : ℕ) × (records_of file ≡ answered rs) × IsCurrent id rs place r)
current_iff = Current.current_iff

-- of which there is at most one place.
pub current_once : (id : ℕ) (rs : List Record) (p q : ℕ) (r s : Record) → IsCurrent id rs p r → IsCurrent id rs q s → (p ≡ q) × (r ≡ s)
current_once = Current.current_once

-- ---- 5. A record appended to a sound file

module _ (file : List ℕ) (rs : List Record) (sound : records_of file ≡ answered rs) (r : Record) (fits : InRange r) where
  abbrev pub longer : List ℕ
  longer = file ++ record_bytes r

  -- It stands behind the others,
  pub append_reads : records_of longer ≡ answered (rs ++ r ∷ [])
  append_reads = File.append_reads file rs sound r fits

  -- changes no earlier place,
  pub append_earlier : (place : ℕ) → place < length rs → record_at longer place ≡ record_at file place
  append_earlier = Append.append_earlier file rs sound r longer append_reads

  pub append_last : record_at longer (length rs) ≡ answered r
  append_last = Append.append_last file rs sound r longer append_reads

  -- nor the current record of another id,
  pub append_other : (id : ℕ) → (r.id ≡ id → ⊥) → current_record longer id ≡ current_record file id
  append_other = Append.append_other file rs sound r longer append_reads

  -- and is current exactly if its year and revision are not below those of the former current record, if there is one;
  pub append_current : IsCurrent r.id (rs ++ r ∷ []) (length rs) r ↔ ((c : Record) → current_record file r.id ≡ answered c → NotBelow r c)
  append_current = Append.append_current file rs sound r longer append_reads

  -- so that it is what is given then,
  pub append_given : ((c : Record) → current_record file r.id ≡ answered c → NotBelow r c) → current_record longer r.id ≡ answered r
  append_given h = (current_iff longer r.id r).1 (rs ++ r ∷ [], length rs, append_reads, append_current.1 h)

  -- and else the former one.
  pub append_below : (c : Record) → current_record file r.id ≡ answered c → (NotBelow r c → ⊥) → current_record longer r.id ≡ answered c
  append_below = Append.append_below file rs sound r longer append_reads
