-- What is told of an outcome and left in a host's words: values, places and refusals, and the calls. Rests on `Calls`, `CallLaws`, archive's `Archive` and cells' `ArrayLaws`.
-- Assumes nothing.
use Rattle.std.specs.Prelude.{◌≡◌, refl, Result, Ok, Err, ⊤, List, [], ◌∷◌, ℕ, ◌≤◌, ◌<◌, length, replicate}
use Rattle.std.proofs.Common.{sym, ap, ◌∙◌}
use Rattle.cells.specs.ArrayLaws.{padded_empty}
use Rattle.cells.specs.Lists.{padded}
use Rattle.refusal.specs.declared.Refusal.{Refusal}
use Rattle.refusal.specs.Refusal.{refusal_number, verdict_number}
use Rattle.archive.specs.declared.Record.{Record}
use Rattle.archive.specs.declared.BrokenRecord.{BrokenRecord}
use Rattle.archive.specs.declared.RecordError.{RecordError}
use Rattle.archive.specs.declared.RecordError.TheVariants.{Broken, Absent}
use Rattle.archive.specs.Archive.{Outcome, answered, refused_at, refused_by, map_outcome, outcome_number, handed_back, LeavesOutcome, count_records, record_at, current_record, record_count_answer, record_answer}
use Rattle.host_records.specs.Calls.{record_words, records_counted, record_found, current_found}
use Rattle.host_records.specs.CallLaws.{leaves_as, unless_short_lem, unless_enough}

-- ---- values, places and refusals

module _ (old new : List ℕ) where
  pub leaves_value : (ns : List ℕ) → new ≡ padded ns (length old) → LeavesOutcome (answered ns) old new 0
  unfolding outcome_number handed_back
  leaves_value ns e = record { number = refl; words = e }

  pub leaves_place : (place r : ℕ) → r ≡ 13 → new ≡ padded (place ∷ []) (length old) → LeavesOutcome (refused_at 13 place) old new r
  unfolding outcome_number handed_back
  leaves_place place r n e = record { number = n; words = e }

  pub leaves_refusal : (q : Refusal) (r : ℕ) → r ≡ refusal_number q → new ≡ replicate (length old) 0 → LeavesOutcome (refused_by (refusal_number q)) old new r
  unfolding outcome_number handed_back
  leaves_refusal q r n e = record { number = n; words = e ∙ sym (padded_empty (length old)) }

-- ---- a record, or why there is none

module _ (found : Result Record RecordError) (old new : List ℕ) where
  pub found_broken : (place r : ℕ) → found ≡ Err (Broken place) → LeavesOutcome (refused_at 13 place) old new r → LeavesOutcome (map_outcome record_words (record_answer found)) old new r
  unfolding map_outcome
  found_broken place r is = leaves_as old new (refused_at 13 place) (map_outcome record_words (record_answer found)) r (ap (λ (f : Result Record RecordError). map_outcome record_words (record_answer f)) (sym is))

  pub found_absent : (r : ℕ) → found ≡ Err Absent → LeavesOutcome (refused_by 14) old new r → LeavesOutcome (map_outcome record_words (record_answer found)) old new r
  unfolding map_outcome
  found_absent r is = leaves_as old new (refused_by 14) (map_outcome record_words (record_answer found)) r (ap (λ (f : Result Record RecordError). map_outcome record_words (record_answer f)) (sym is))

-- ---- the calls

-- `write_record`: the number of the verdict
module _ (a : Outcome (List ℕ)) (old new : List ℕ) (v : Result ⊤ Refusal) (left : LeavesOutcome a old new (verdict_number v)) where
  pub written_accepted : v ≡ Ok tt → LeavesOutcome a old new 0
  written_accepted is = record { number = ap verdict_number (sym is) ∙ left.number; words = left.words }

  pub written_refused : (q : Refusal) (r : ℕ) → v ≡ Err q → r ≡ refusal_number q → LeavesOutcome a old new r
  written_refused q r is n = record { number = n ∙ ap verdict_number (sym is) ∙ left.number; words = left.words }

-- the others, where the answer has enough words
module _ (file old new : List ℕ) (r : ℕ) where
  pub counted : (o : Outcome ℕ) → 1 ≤ length old → o ≡ count_records file
      → LeavesOutcome (map_outcome (λ n. n ∷ []) o) old new r → LeavesOutcome (records_counted file (length old)) old new r
  unfolding records_counted map_outcome
  counted o h e =
      leaves_as old new (map_outcome (λ (k : ℕ). k ∷ []) o) (records_counted file (length old)) r
      (ap (map_outcome (λ (k : ℕ). k ∷ [])) e ∙ unless_enough 1 (length old) (map_outcome (λ (k : ℕ). k ∷ []) (count_records file)) h)

  pub counted_short : length old < 1 → LeavesOutcome (refused_by 8) old new r → LeavesOutcome (records_counted file (length old)) old new r
  unfolding records_counted
  counted_short h = leaves_as old new (refused_by 8) (records_counted file (length old)) r (unless_short_lem 1 (length old) (map_outcome (λ (k : ℕ). k ∷ []) (count_records file)) h)

  module _ (found : Result Record RecordError) where
    pub at_found : (place : ℕ) → 5 ≤ length old → record_answer found ≡ record_at file place
        → LeavesOutcome (map_outcome record_words (record_answer found)) old new r → LeavesOutcome (record_found file place (length old)) old new r
    unfolding record_found
    at_found place h e =
        leaves_as old new (map_outcome record_words (record_answer found)) (record_found file place (length old)) r
        (ap (map_outcome record_words) e ∙ unless_enough 5 (length old) (map_outcome record_words (record_at file place)) h)

    pub current_found_lem : (id : ℕ) → 5 ≤ length old → record_answer found ≡ current_record file id
        → LeavesOutcome (map_outcome record_words (record_answer found)) old new r → LeavesOutcome (current_found file id (length old)) old new r
    unfolding current_found
    current_found_lem id h e =
        leaves_as old new (map_outcome record_words (record_answer found)) (current_found file id (length old)) r
        (ap (map_outcome record_words) e ∙ unless_enough 5 (length old) (map_outcome record_words (current_record file id)) h)

  pub at_short : (place : ℕ) → length old < 5 → LeavesOutcome (refused_by 8) old new r → LeavesOutcome (record_found file place (length old)) old new r
  unfolding record_found
  at_short place h = leaves_as old new (refused_by 8) (record_found file place (length old)) r (unless_short_lem 5 (length old) (map_outcome record_words (record_at file place)) h)

  pub current_short : (id : ℕ) → length old < 5 → LeavesOutcome (refused_by 8) old new r → LeavesOutcome (current_found file id (length old)) old new r
  unfolding current_found
  current_short id h = leaves_as old new (refused_by 8) (current_found file id (length old)) r (unless_short_lem 5 (length old) (map_outcome record_words (current_record file id)) h)
