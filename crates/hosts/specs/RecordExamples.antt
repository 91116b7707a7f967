-- That the conditions of `RecordTheorems` can be met: a record is written, the empty file is counted, and the record's bytes are appended; the words that the four calls
-- leave then are worked out. Rests on `RecordTheorems`. Assumes nothing.
use Rattle.std.specs.Prelude.{◌≡◌, refl, List, [], ◌∷◌, ◌++◌, ℕ, length, take, replicate}
use Rattle.std.proofs.Common.{inl, arith}
use Rattle.cells.specs.Lists.{padded}
use Rattle.archive.specs.Archive.{record_bytes, record_size, outcome_number, handed_back, LeavesOutcome, write_record}
use Rattle.archive.specs.Records.{InRange}
use Rattle.host_records.specs.Calls.{record_for, records_counted, record_found, current_found}
use Rattle.hosts.specs.RecordTheorems as Theorems

-- plot 7, the survey of 2026, revision 1, and a count of two words
fits : InRange (record_for 7 2026 1 5 3)
fits = record { id = omega arith; year = omega arith; revision = omega arith; low = omega arith; high = omega arith }

-- its five words
abbrev five : List ℕ
five = 7 ∷ 2026 ∷ 1 ∷ 5 ∷ 3 ∷ []

-- an output of 25 bytes that are not zero
abbrev out : List ℕ
out = replicate 25 9

abbrev out' : List ℕ
out' = record_bytes (record_for 7 2026 1 5 3) ++ 0 ∷ []

written : LeavesOutcome (write_record (record_for 7 2026 1 5 3) (length out)) out out' 0
unfolding write_record record_bytes outcome_number handed_back padded
written = record { number = refl; words = refl }

-- the empty file, and two answer words
counted : LeavesOutcome (records_counted [] 2) (9 ∷ 9 ∷ []) (0 ∷ 0 ∷ []) 0
unfolding records_counted outcome_number handed_back padded
counted = record { number = refl; words = refl }

-- the record at place 0 of the longer file, and the current one of plot 7, which there was none of before
found : LeavesOutcome (record_found ([] ++ take record_size out') 0 5) (replicate 5 9) five 0
unfolding record_found record_bytes outcome_number handed_back padded
found = record { number = refl; words = refl }

former : LeavesOutcome (current_found [] 7 5) (replicate 5 9) (replicate 5 0) 14
unfolding current_found outcome_number handed_back padded
former = record { number = refl; words = refl }

current : LeavesOutcome (current_found ([] ++ take record_size out') 7 5) (replicate 5 9) five 0
unfolding current_found record_bytes outcome_number handed_back padded
current = record { number = refl; words = refl }

-- the theorems of them
found_told : take 5 five ≡ five
found_told = (Theorems.appended_found 7 2026 1 5 3 fits out out' written [] (9 ∷ 9 ∷ []) (0 ∷ 0 ∷ []) counted (replicate 5 9) _ 0 found (omega arith)).1

current_told : take 5 five ≡ five
current_told =
    (Theorems.appended_current 7 2026 1 5 3 fits out out' written [] (9 ∷ 9 ∷ []) (0 ∷ 0 ∷ []) counted (replicate 5 9) _ _ 14 0 (omega arith) former current (inl refl)).1
