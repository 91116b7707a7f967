-- Definitions: what the four calls of the archive over a host's words return, and what they leave in the lent words, for every input: `LeavesOutcome` of what each
-- answers (`cuttings_write_record` answers `write_record` of the record of its five numbers). 0 or the number of the refusal is returned; with 13 the first answer word is the place
-- of the earliest broken record. Assumes nothing.
use Rattle.std.specs.Prelude.{cond, List, [], ◌∷◌, ℕ, leb}
use Rattle.archive.specs.declared.Record.{Record}
use Rattle.archive.specs.Archive.{Outcome, refused_by, map_outcome, count_records, record_at, current_record}

-- the record of five numbers
abbrev pub record_for : ℕ → ℕ → ℕ → ℕ → ℕ → Record
record_for id year revision low high = record { id = id; year = year; revision = revision; low = low; high = high }

-- its words: id, year, revision, and the count, low and high
abbrev pub record_words : Record → List ℕ
record_words r = r.id ∷ r.year ∷ r.revision ∷ r.low ∷ r.high ∷ []

-- 8, fewer answer words than the call has, before the call's own causes
unfoldable pub unless_short : {A : Type 0} → ℕ → ℕ → Outcome A → Outcome A
unless_short needed words a = cond (leb needed words) a (refused_by 8)

-- what `cuttings_count_records` answers, with so many answer words lent
unfoldable pub records_counted : List ℕ → ℕ → Outcome (List ℕ)
unfolding unless_short map_outcome count_records
records_counted file words = unless_short 1 words (map_outcome (λ n. n ∷ []) (count_records file))

-- what `cuttings_record_at` answers
unfoldable pub record_found : List ℕ → ℕ → ℕ → Outcome (List ℕ)
unfolding unless_short map_outcome record_at
record_found file place words = unless_short 5 words (map_outcome record_words (record_at file place))

-- what `cuttings_current_record` answers
unfoldable pub current_found : List ℕ → ℕ → ℕ → Outcome (List ℕ)
unfolding unless_short map_outcome current_record
current_found file id words = unless_short 5 words (map_outcome record_words (current_record file id))
