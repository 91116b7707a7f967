-- What the exported functions of the archive mean for a host: the theorem page. When 0 is returned, what is left after a refusal, and that what one call writes the
-- others read. What each function returns and leaves, for every input, is `LeavesOutcome` of `write_record` or of a definition of `Calls` of `host_records`, and each
-- statement here is of calls of which it holds. What files are to their records is on the page `Theorems` of `archive`. Rests on `RecordLaws` and that page. Assumes nothing.
use Rattle.std.specs.Prelude.{◌≡◌, ◌↔◌, ◌⊎◌, List, [], ◌∷◌, ◌++◌, ℕ, ◌+◌, ◌-◌, ◌≤◌, ◌<◌, length, get_or, take, replicate}
use Rattle.archive.specs.declared.Record.{Record}
use Rattle.archive.specs.Archive.{answered, refused_at, refused_by, LeavesOutcome, record_size, records_of, record_at, current_record, write_record}
use Rattle.archive.specs.Records.{InRange}
use Rattle.archive.proofs.Theorems as Archive
use Rattle.host_records.specs.Calls.{record_for, record_words, records_counted, record_found, current_found}
use Rattle.hosts.specs.RecordLaws as Laws

-- ---- 1. 0 is returned exactly if nothing is refused, and the answer words are then those of the call below, zeros behind

-- `cuttings_write_record`: the output has room; what stands in it then, and that it is zero after 8, say `written_bytes` and `write_refused` of `archive`.
pub write_record_returns : (r : Record) (out out' : List ℕ) (n : ℕ) → LeavesOutcome (write_record r (length out)) out out' n → (n ≡ 0) ↔ (record_size ≤ length out)
write_record_returns = Archive.write_accepted

-- `cuttings_count_records`: the file is sound, and there is an answer word, which holds the number of its records.
pub count_records_returns : (file answer answer' : List ℕ) (n : ℕ) → LeavesOutcome (records_counted file (length answer)) answer answer' n
    → (n ≡ 0) ↔ ((1 ≤ length answer) × (rs : List Record) × (records_of file ≡ answered rs) × (answer' ≡ length rs ∷ replicate (length answer - 1) 0))
count_records_returns = Laws.count_records_returns

-- `cuttings_record_at`: there is a record at the place,
pub record_at_returns : (file : List ℕ) (place : ℕ) (answer answer' : List ℕ) (n : ℕ) → LeavesOutcome (record_found file place (length answer)) answer answer' n
    → (n ≡ 0) ↔ ((5 ≤ length answer) × (r : Record) × (record_at file place ≡ answered r) × (answer' ≡ record_words r ++ replicate (length answer - 5) 0))
record_at_returns = Laws.record_at_returns

-- and `cuttings_current_record`: there is one of the id.
pub current_record_returns : (file : List ℕ) (id : ℕ) (answer answer' : List ℕ) (n : ℕ) → LeavesOutcome (current_found file id (length answer)) answer answer' n
    → (n ≡ 0) ↔ ((5 ≤ length answer) × (r : Record) × (current_record file id ≡ answered r) × (answer' ≡ record_words r ++ replicate (length answer - 5) 0))
current_record_returns = Laws.current_record_returns

-- ---- 2. After 13 the first answer word is the place of the earliest broken record and the others are zero; after another refusal all are zero. 13 and 14 are told
-- only where the answer has enough words, 14 only of a sound file.

pub count_records_refused : (file answer answer' : List ℕ) (n : ℕ) → LeavesOutcome (records_counted file (length answer)) answer answer' n → 0 < n
    → ((n ≡ 8) × (length answer < 1) × (answer' ≡ replicate (length answer) 0))
    ⊎ ((n ≡ 13) × (1 ≤ length answer) × (place : ℕ) × (records_of file ≡ refused_at 13 place) × (answer' ≡ place ∷ replicate (length answer - 1) 0))
count_records_refused = Laws.count_records_refused

pub record_at_refused : (file : List ℕ) (place : ℕ) (answer answer' : List ℕ) (n : ℕ) → LeavesOutcome (record_found file place (length answer)) answer answer' n → 0 < n
    → ((n ≡ 8) × (length answer < 5) × (answer' ≡ replicate (length answer) 0))
    ⊎ (((n ≡ 13) × (5 ≤ length answer) × (broken : ℕ) × (records_of file ≡ refused_at 13 broken) × (answer' ≡ broken ∷ replicate (length answer - 1) 0))
    ⊎ ((n ≡ 14) × (5 ≤ length answer) × (record_at file place ≡ refused_by 14) × (answer' ≡ replicate (length answer) 0)))
record_at_refused = Laws.record_at_refused

pub current_record_refused : (file : List ℕ) (id : ℕ) (answer answer' : List ℕ) (n : ℕ) → LeavesOutcome (current_found file id (length answer)) answer answer' n → 0 < n
    → ((n ≡ 8) × (length answer < 5) × (answer' ≡ replicate (length answer) 0))
    ⊎ (((n ≡ 13) × (5 ≤ length answer) × (broken : ℕ) × (records_of file ≡ refused_at 13 broken) × (answer' ≡ broken ∷ replicate (length answer - 1) 0))
    ⊎ ((n ≡ 14) × (5 ≤ length answer) × (current_record file id ≡ refused_by 14) × (answer' ≡ replicate (length answer) 0)))
current_record_refused = Laws.current_record_refused

-- ---- 3. What one call writes the others read

-- `cuttings_write_record` is called with five numbers of their bits and returns 0, and its 24 bytes are appended to a file, of which `cuttings_count_records` returned 0.
module _ (id year revision low high : ℕ) (fits : InRange (record_for id year revision low high))
    (out out' : List ℕ) (written : LeavesOutcome (write_record (record_for id year revision low high) (length out)) out out' 0)
    (file count count' : List ℕ) (counted : LeavesOutcome (records_counted file (length count)) count count' 0) where
  abbrev pub longer : List ℕ
  longer = file ++ take record_size out'

  -- The file then has one record more,
  pub appended_counted : (answer answer' : List ℕ) (n : ℕ) → LeavesOutcome (records_counted longer (length answer)) answer answer' n → 1 ≤ length answer
      → (n ≡ 0) × (get_or answer' 0 0 ≡ get_or count' 0 0 + 1)
  appended_counted = Laws.appended_counted (record_for id year revision low high) fits out out' written file count count' counted

  -- at the place that was their number it has the five numbers,
  pub appended_found : (answer answer' : List ℕ) (n : ℕ) → LeavesOutcome (record_found longer (get_or count' 0 0) (length answer)) answer answer' n → 5 ≤ length answer
      → (n ≡ 0) × (take 5 answer' ≡ id ∷ year ∷ revision ∷ low ∷ high ∷ [])
  appended_found = Laws.appended_found (record_for id year revision low high) fits out out' written file count count' counted

  -- at every earlier place what it had,
  pub appended_earlier : (place : ℕ) → place < get_or count' 0 0 → (answer before behind : List ℕ) (m n : ℕ)
      → LeavesOutcome (record_found file place (length answer)) answer before m → LeavesOutcome (record_found longer place (length answer)) answer behind n → (m ≡ n) × (before ≡ behind)
  appended_earlier = Laws.appended_earlier (record_for id year revision low high) fits out out' written file count count' counted

  -- `cuttings_current_record` of every other id gives what it gave,
  pub appended_other : (other : ℕ) → (id ≡ other → ⊥) → (answer before behind : List ℕ) (m n : ℕ)
      → LeavesOutcome (current_found file other (length answer)) answer before m → LeavesOutcome (current_found longer other (length answer)) answer behind n → (m ≡ n) × (before ≡ behind)
  appended_other = Laws.appended_other (record_for id year revision low high) fits out out' written file count count' counted

  -- and that of the id gives the five numbers where it gave none before, or one whose year and revision are not higher,
  module _ (answer before behind : List ℕ) (m n : ℕ) (five : 5 ≤ length answer)
      (former : LeavesOutcome (current_found file id (length answer)) answer before m) (now : LeavesOutcome (current_found longer id (length answer)) answer behind n) where
    pub appended_current : ((m ≡ 14) ⊎ ((m ≡ 0) × ((get_or before 1 0 < year) ⊎ ((get_or before 1 0 ≡ year) × (get_or before 2 0 ≤ revision)))))
        → (n ≡ 0) × (take 5 behind ≡ id ∷ year ∷ revision ∷ low ∷ high ∷ [])
    appended_current = Laws.appended_current (record_for id year revision low high) fits out out' written file count count' counted answer before behind m n five former now

    -- and else what it gave before.
    pub appended_below : m ≡ 0 → (((get_or before 1 0 < year) ⊎ ((get_or before 1 0 ≡ year) × (get_or before 2 0 ≤ revision))) → ⊥) → (n ≡ 0) × (behind ≡ before)
    appended_below = Laws.appended_below (record_for id year revision low high) fits out out' written file count count' counted answer before behind m n five former now
