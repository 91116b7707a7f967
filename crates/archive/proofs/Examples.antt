-- The definitions by computation: numbers in bytes, a record's bytes, files that are sound and broken, which record counts, and the calls. Assumes nothing.
use Rattle.std.specs.Prelude.{◌≡◌, refl, List, [], ◌∷◌, ◌++◌, map, ℕ, ◌+◌, ◌-◌, ◌*◌, ◌^◌, take, drop, None, Some, Ok, Err}
use Rattle.std.proofs.Common.{arith}
use Rattle.cells.specs.Lists.{ascii}
use Rattle.archive.specs.declared.Record.{Record}
use Rattle.archive.specs.declared.RecordError.TheVariants.{Broken, Absent}
use Rattle.archive.specs.Archive.{big_endian, number_at, count_held, record_bytes, record_in, Outcome, answered, refused_at, refused_by, map_outcome, bind_outcome, outcome_number, handed_back, records_of, current_among, count_records, record_at, current_record, write_record, record_count_answer, record_answer}
use Rattle.archive.specs.Records.{archive_of, InRange}

-- ---- numbers in bytes

-- highest byte first, of so many bytes, and no more of the number than they hold
numbers : (big_endian 2 258 ≡ 1 ∷ 2 ∷ []) × (big_endian 3 258 ≡ 0 ∷ 1 ∷ 2 ∷ []) × (big_endian 1 258 ≡ 2 ∷ []) × (big_endian 0 258 ≡ [])
unfolding big_endian
numbers = (refl, refl, refl, refl)

-- from a place on, zeros behind the bytes
numbers_at : (number_at (9 ∷ 1 ∷ 2 ∷ 7 ∷ []) 1 2 ≡ 258) × (number_at (9 ∷ 1 ∷ 2 ∷ 7 ∷ []) 1 3 ≡ 66055) × (number_at (9 ∷ 1 ∷ 2 ∷ 7 ∷ []) 1 0 ≡ 0) × (number_at (9 ∷ 1 ∷ []) 1 2 ≡ 256)
unfolding number_at
numbers_at = (refl, refl, refl, refl)

-- ---- a record

-- plot 258 of the year 2026, revision 772, with the count 2 ^ 64 * 3 + 5
abbrev first : Record
first = record { id = 258; year = 2026; revision = 772; low = 5; high = 3 }

first_count : count_held first ≡ 3 * 2 ^ 64 + 5
unfolding count_held
first_count = refl

-- T, Y, and the fields in their order, the count's high word first
first_bytes : record_bytes first ≡ 84 ∷ 89 ∷ 1 ∷ 2 ∷ 7 ∷ 234 ∷ 3 ∷ 4 ∷ 0 ∷ 0 ∷ 0 ∷ 0 ∷ 0 ∷ 0 ∷ 0 ∷ 3 ∷ 0 ∷ 0 ∷ 0 ∷ 0 ∷ 0 ∷ 0 ∷ 0 ∷ 5 ∷ []
unfolding record_bytes
first_bytes = refl

first_read : record_in (record_bytes first) ≡ first
unfolding record_in record_bytes
first_read = refl

-- every field at its limit
abbrev last : Record
last = record { id = 2 ^ 16 - 1; year = 2 ^ 16 - 1; revision = 2 ^ 16 - 1; low = 2 ^ 64 - 1; high = 2 ^ 64 - 1 }

last_bytes : record_bytes last ≡ ascii "TY" ++ big_endian 22 (256 ^ 22 - 1)
unfolding record_bytes
last_bytes = refl

last_fits : InRange last
last_fits = record { id = omega arith; year = omega arith; revision = omega arith; low = omega arith; high = omega arith }

last_read : record_in (record_bytes last) ≡ last
unfolding record_in record_bytes
last_read = refl

-- ---- sound and broken files

-- the bytes of both
abbrev two : List ℕ
two = archive_of (first ∷ last ∷ [])

sound : (records_of [] ≡ answered []) × (records_of (archive_of (first ∷ [])) ≡ answered (first ∷ [])) × (records_of two ≡ answered (first ∷ last ∷ []))
unfolding records_of archive_of
sound = (refl, refl, refl)

-- a mark cut after T, another byte, a record cut by one byte, one byte left over, and a second record cut by one are cut records
cut : map records_of (take 1 two ∷ (7 ∷ []) ∷ take 23 two ∷ take 25 two ∷ take 47 two ∷ []) ≡ refused_at 13 0 ∷ refused_at 13 0 ∷ refused_at 13 0 ∷ refused_at 13 1 ∷ refused_at 13 1 ∷ []
unfolding records_of archive_of
cut = refl

-- a mark of which one letter is another, and of two broken records the earlier
abbrev broken : List ℕ
broken = 84 ∷ 90 ∷ drop 2 (record_bytes first)

marks : map records_of ((broken ++ record_bytes last) ∷ (record_bytes last ++ broken) ∷ (83 ∷ drop 1 two) ∷ (85 ∷ drop 1 two) ∷ (84 ∷ 88 ∷ drop 2 two) ∷ (record_bytes first ++ broken ++ broken) ∷ (two ++ broken ++ 84 ∷ []) ∷ [])
    ≡ refused_at 13 0 ∷ refused_at 13 1 ∷ refused_at 13 0 ∷ refused_at 13 0 ∷ refused_at 13 0 ∷ refused_at 13 1 ∷ refused_at 13 2 ∷ []
unfolding records_of archive_of record_bytes
marks = refl

-- ---- which record counts

-- a record of plot 1, by year, revision and count
abbrev entry : ℕ → ℕ → ℕ → Record
entry year revision count = record { id = 1; year = year; revision = revision; low = count; high = 0 }

-- the highest year, whatever its revision; then the highest revision; then the last
current_by_year : (current_among 1 None (entry 2026 1 7 ∷ entry 2025 9 8 ∷ []) ≡ Some (entry 2026 1 7)) × (current_among 1 None (entry 2025 9 8 ∷ entry 2026 1 7 ∷ []) ≡ Some (entry 2026 1 7))
unfolding current_among
current_by_year = (refl, refl)

current_by_revision : (current_among 1 None (entry 2026 2 7 ∷ entry 2026 1 8 ∷ []) ≡ Some (entry 2026 2 7)) × (current_among 1 None (entry 2026 1 8 ∷ entry 2026 2 7 ∷ []) ≡ Some (entry 2026 2 7))
unfolding current_among
current_by_revision = (refl, refl)

current_last : current_among 1 None (entry 2026 1 7 ∷ entry 2026 1 8 ∷ first ∷ []) ≡ Some (entry 2026 1 8)
unfolding current_among
current_last = refl

-- of the id alone
current_of_id : (current_among 258 None (entry 2027 1 7 ∷ first ∷ entry 2028 1 8 ∷ []) ≡ Some first) × (current_among 2 None (entry 2027 1 7 ∷ first ∷ []) ≡ None)
unfolding current_among
current_of_id = (refl, refl)

-- ---- the calls

counted : map count_records ([] ∷ two ∷ take 30 two ∷ []) ≡ answered 0 ∷ answered 2 ∷ refused_at 13 1 ∷ []
unfolding count_records archive_of
counted = refl

-- places from 0 on; the whole file is judged first, and then the place, any number
found : map (record_at two) (0 ∷ 1 ∷ 2 ∷ (2 ^ 64 - 1) ∷ []) ≡ answered first ∷ answered last ∷ refused_by 14 ∷ refused_by 14 ∷ []
unfolding record_at archive_of
found = refl

found_in_broken : map (record_at (record_bytes first ++ broken)) (0 ∷ 1 ∷ 2 ∷ []) ≡ refused_at 13 1 ∷ refused_at 13 1 ∷ refused_at 13 1 ∷ []
unfolding record_at record_bytes
found_in_broken = refl

current : map (current_record two) (258 ∷ 65535 ∷ 0 ∷ []) ≡ answered first ∷ answered last ∷ refused_by 14 ∷ []
unfolding current_record archive_of
current = refl

current_in_broken : map (current_record (record_bytes first ++ broken)) (258 ∷ 0 ∷ []) ≡ refused_at 13 1 ∷ refused_at 13 1 ∷ []
unfolding current_record record_bytes
current_in_broken = refl

written : map (write_record first) (0 ∷ 23 ∷ 24 ∷ 25 ∷ []) ≡ refused_by 8 ∷ refused_by 8 ∷ answered (record_bytes first) ∷ answered (record_bytes first) ∷ []
unfolding write_record
written = refl

-- a refusal stays what it is, a value is put through and answered to
mapped : map (map_outcome (λ n. n + 1)) (answered 7 ∷ refused_at 13 4 ∷ refused_by 14 ∷ []) ≡ answered 8 ∷ refused_at 13 4 ∷ refused_by 14 ∷ []
unfolding map_outcome
mapped = refl

bound : map (λ (a : Outcome ℕ). bind_outcome a (λ n. answered (2 * n))) (answered 7 ∷ refused_at 13 4 ∷ refused_by 14 ∷ []) ≡ answered 14 ∷ refused_at 13 4 ∷ refused_by 14 ∷ []
unfolding bind_outcome
bound = refl

-- numbers, and what is handed back
numbers_told : map (outcome_number {A = List ℕ}) (answered (6 ∷ []) ∷ refused_at 13 4 ∷ refused_by 14 ∷ []) ≡ 0 ∷ 13 ∷ 14 ∷ []
unfolding outcome_number
numbers_told = refl

handed_back_lem : map handed_back (answered (6 ∷ 7 ∷ []) ∷ refused_at 13 4 ∷ refused_by 14 ∷ []) ≡ (6 ∷ 7 ∷ []) ∷ (4 ∷ []) ∷ [] ∷ []
unfolding handed_back
handed_back_lem = refl

-- the answers of the code
code_counts : map record_count_answer (Ok 3 ∷ Err (record { place = 4 }) ∷ []) ≡ answered 3 ∷ refused_at 13 4 ∷ []
code_counts = refl

code_records : map record_answer (Ok first ∷ Err (Broken 4) ∷ Err Absent ∷ []) ≡ answered first ∷ refused_at 13 4 ∷ refused_by 14 ∷ []
code_records = refl
