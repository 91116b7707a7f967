-- Definitions: the archive file, which is a run of records, each with a count; how it is read, and which record of a plot counts; what the calls answer. What
-- stands in quotation marks is 02's, of request 1. Refusals are tried in the order written: 13 of the whole file, then 14. Assumes nothing.
use Rattle.std.specs.Prelude.{◌≡◌, Bool, cond, ◌&&◌, ◌||◌, List, [], ◌∷◌, ◌++◌, ℕ, zero, suc, ◌+◌, ◌*◌, ◌/◌, ◌%◌, eqb, leb, ltb, length, get_or, drop, Option, None, Some, Result, Ok, Err}
use Rattle.std.specs.List.{slice_get}
use Rattle.cells.specs.Set.{value}
use Rattle.cells.specs.Lists.{padded, ascii}
use Rattle.archive.specs.declared.Record.{Record}
use Rattle.archive.specs.declared.BrokenRecord.{BrokenRecord}
use Rattle.archive.specs.declared.RecordError.{RecordError}
use Rattle.archive.specs.declared.RecordError.TheVariants.{Broken, Absent}

-- ---- numbers in bytes: "each number in the file highest byte first"

-- so many bytes of a number
unfoldable pub big_endian : ℕ → ℕ → List ℕ
big_endian zero n = []
big_endian (suc k) n = big_endian k (n / 256) ++ n % 256 ∷ []

-- the number in so many bytes from a place on
unfoldable pub number_at : List ℕ → ℕ → ℕ → ℕ
number_at bytes at zero = 0
number_at bytes at (suc k) = number_at bytes at k * 256 + get_or bytes (at + k) 0

-- ---- a record: "mark TY, plot id (2 bytes), survey year (2), revision (2), count (16 bytes, taken and given by the calls as two 64-bit words, low word first)"

-- the count of a record
unfoldable pub count_held : Record → ℕ
unfolding value
count_held r = value (r.low ∷ r.high ∷ [])

-- its bytes
unfoldable pub record_bytes : Record → List ℕ
unfolding ascii big_endian count_held
record_bytes r = ascii "TY" ++ big_endian 2 r.id ++ big_endian 2 r.year ++ big_endian 2 r.revision ++ big_endian 16 (count_held r)

-- how many these are
abbrev pub record_size : ℕ
record_size = 24

-- the record that some bytes begin with; of the 16 bytes of its count the high word's stand first
unfoldable pub record_in : List ℕ → Record
unfolding number_at
record_in bytes =
    record { id = number_at bytes 2 2; year = number_at bytes 4 2; revision = number_at bytes 6 2; low = number_at bytes 16 8; high = number_at bytes 8 8 }

-- whether bytes begin with a record: its mark is TY, and it is not cut short
unfoldable pub is_whole : List ℕ → Bool
unfolding ascii
is_whole bytes = leb record_size (length bytes) && (eqb (get_or bytes 0 0) (get_or (ascii "TY") 0 0) && eqb (get_or bytes 1 0) (get_or (ascii "TY") 1 0))

-- ---- what a call answers

-- a value; or refused, by 02's number, "handed back with the place of the earliest such record" or with nothing
pub data Outcome (A : Type 0) : Type 0 where
  answered : A → Outcome A
  refused_at : ℕ → ℕ → Outcome A
  refused_by : ℕ → Outcome A

-- the value put through f
unfoldable pub map_outcome : {A B : Type 0} → (A → B) → Outcome A → Outcome B
map_outcome f (answered a) = answered (f a)
map_outcome f (refused_at n place) = refused_at n place
map_outcome f (refused_by n) = refused_by n

-- what f answers to the value
unfoldable pub bind_outcome : {A B : Type 0} → Outcome A → (A → Outcome B) → Outcome B
bind_outcome (answered a) f = f a
bind_outcome (refused_at n place) f = refused_at n place
bind_outcome (refused_by n) f = refused_by n

-- the refusal's number, 0 for none
unfoldable pub outcome_number : {A : Type 0} → Outcome A → ℕ
outcome_number (answered a) = 0
outcome_number (refused_at n place) = n
outcome_number (refused_by n) = n

-- what is handed back in words, of an outcome that is some words: with 13 the place, with another refusal nothing
unfoldable pub handed_back : Outcome (List ℕ) → List ℕ
handed_back (answered ns) = ns
handed_back (refused_at n place) = place ∷ []
handed_back (refused_by n) = []

-- the number that is told and what is left in lent words or bytes: what is handed back, zeros behind
pub record LeavesOutcome (a : Outcome (List ℕ)) (old new : List ℕ) (r : ℕ) : Type 0 where
  pub number : r ≡ outcome_number a
  pub words : new ≡ padded (handed_back a) (length old)

-- "14 when a sound file has no record of the id or at the place"
unfoldable pub or_absent : Option Record → Outcome Record
or_absent None = refused_by 14
or_absent (Some r) = answered r

-- ---- the reading of a file

-- the records from a place on, at most n of them: "13 when a mark isn't TY or a record is cut short, handed back with the place of the earliest such record".
-- A record has a byte or more, so that as many records as there are bytes are enough (`records_enough`)
unfoldable pub records_from : ℕ → ℕ → List ℕ → Outcome (List Record)
unfolding is_whole record_in map_outcome
records_from zero place bytes = answered []
records_from (suc n) place bytes =
    cond (eqb (length bytes) 0) (answered [])
    (cond (is_whole bytes) (map_outcome (λ rs. record_in bytes ∷ rs) (records_from n (suc place) (drop record_size bytes))) (refused_at 13 place))

-- the records of a file, places "counted from 0"
unfoldable pub records_of : List ℕ → Outcome (List Record)
unfolding records_from
records_of file = records_from (length file) 0 file

-- ---- "which one counts"

-- whether a record counts rather than one that stands before it in the file: "the highest year, then the highest revision, then the last in the file"
unfoldable pub replaces : Record → Record → Bool
replaces r before = ltb before.year r.year || (eqb before.year r.year && leb before.revision r.revision)

-- which one of an id counts, of the one that did and a record behind it
unfoldable pub current_of : ℕ → Option Record → Record → Option Record
unfolding replaces
current_of id None r = cond (eqb r.id id) (Some r) None
current_of id (Some before) r = cond (eqb r.id id && replaces r before) (Some r) (Some before)

-- the same with all records of a list behind it
unfoldable pub current_among : ℕ → Option Record → List Record → Option Record
unfolding current_of
current_among id before [] = before
current_among id before (r ∷ rs) = current_among id (current_of id before r) rs

-- ---- the calls

-- `count_records`: "how many records a file holds"
unfoldable pub count_records : List ℕ → Outcome ℕ
unfolding records_of map_outcome
count_records file = map_outcome length (records_of file)

-- `record_at`: "the record at a given place, counted from 0"
unfoldable pub record_at : List ℕ → ℕ → Outcome Record
unfolding records_of bind_outcome or_absent
record_at file place = bind_outcome (records_of file) (λ rs. or_absent (slice_get rs place))

-- `current_record`: "the current record of an id"
unfoldable pub current_record : List ℕ → ℕ → Outcome Record
unfolding records_of bind_outcome or_absent current_among
current_record file id = bind_outcome (records_of file) (λ rs. or_absent (current_among id None rs))

-- `write_record` with so many bytes lent: "An output too short for the record is 8 and is left zero"
unfoldable pub write_record : Record → ℕ → Outcome (List ℕ)
unfolding record_bytes
write_record r room = cond (leb record_size room) (answered (record_bytes r)) (refused_by 8)

-- ---- the answers of the code

-- a number of records, or 13 with the place
abbrev pub record_count_answer : Result ℕ BrokenRecord → Outcome ℕ
record_count_answer (Ok n) = answered n
record_count_answer (Err broken) = refused_at 13 broken.place

-- a record, 13 with the place, or 14
abbrev pub record_answer : Result Record RecordError → Outcome Record
record_answer (Ok r) = answered r
record_answer (Err (Broken place)) = refused_at 13 place
record_answer (Err Absent) = refused_by 14
