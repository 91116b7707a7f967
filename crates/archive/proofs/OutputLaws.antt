-- What is written into lent bytes: the bytes of a record, part by part, and zeros behind. Rests on `Archive` and `ByteLaws`. Assumes nothing.
use Rattle.std.specs.Prelude.{◌≡◌, refl, List, [], ◌++◌, ℕ, ◌^◌, ◌≤◌, ◌<◌, length, replicate}
use Rattle.std.proofs.Common.{sym, ap, ap₂, ◌∙◌, subst, le-leb}
use Rattle.std.proofs.lemmas.Bool.{lt-leb}
use Rattle.std.proofs.Math.Nat.{div-div-eq-div-mul}
use Rattle.std.specs.Int.{w16, w64, to_be_bytes}
use Rattle.cells.specs.Lists.{padded, ascii}
use Rattle.cells.specs.ArrayLaws.{padded_empty}
use Rattle.archive.specs.declared.Record.{Record}
use Rattle.archive.specs.Archive.{big_endian, count_held, record_bytes, Outcome, answered, refused_by, outcome_number, handed_back, LeavesOutcome, write_record}
use Rattle.archive.proofs.ByteLaws.{count_bytes}

-- ---- the parts of a record's bytes

word_bytes : (n : ℕ) → to_be_bytes w64 n ≡ big_endian 8 n
unfolding big_endian
word_bytes n = simp div-div-eq-div-mul refl

pub record_parts : (r : Record) → r.low < 2 ^ 64
    → ascii "TY" ++ to_be_bytes w16 r.id ++ to_be_bytes w16 r.year ++ to_be_bytes w16 r.revision ++ to_be_bytes w64 r.high ++ to_be_bytes w64 r.low ≡ record_bytes r
unfolding record_bytes big_endian
record_parts r small =
    ap₂ (λ (h l : List ℕ). ascii "TY" ++ big_endian 2 r.id ++ big_endian 2 r.year ++ big_endian 2 r.revision ++ h ++ l) (word_bytes r.high) (word_bytes r.low)
    ∙ ap (λ (count : List ℕ). ascii "TY" ++ big_endian 2 r.id ++ big_endian 2 r.year ++ big_endian 2 r.revision ++ count) (sym (count_bytes r small))

-- ---- the call

module _ (r : Record) (old new : List ℕ) where
  pub write_short : length old < 24 → new ≡ replicate (length old) 0 → LeavesOutcome (write_record r (length old)) old new 8
  unfolding write_record outcome_number handed_back
  write_short h e = subst (λ (a : Outcome (List ℕ)). LeavesOutcome a old new 8) (sym short) (record { number = refl; words = e ∙ sym (padded_empty (length old)) })
    where
      short : write_record r (length old) ≡ refused_by 8
      short = rw (lt-leb 24 (length old) h)

  pub write_whole : 24 ≤ length old → new ≡ padded (record_bytes r) (length old) → LeavesOutcome (write_record r (length old)) old new 0
  unfolding write_record outcome_number handed_back
  write_whole h e = subst (λ (a : Outcome (List ℕ)). LeavesOutcome a old new 0) (sym whole) (record { number = refl; words = e })
    where
      whole : write_record r (length old) ≡ answered (record_bytes r)
      whole = rw (le-leb 24 (length old) h)
