-- The loops over the records of a file: what is still to be read; and the record at a place. Rests on `Archive`, `StepLaws` and `BrokenLaws`. Assumes nothing.
use Rattle.std.specs.Prelude.{◌≡◌, refl, Bool, true, false, cond, ◌&&◌, ◌||◌, eqb, ltb, leb, List, [], ◌∷◌, ℕ, zero, suc, ◌+◌, ◌*◌, ◌≤◌, ◌<◌, length, drop, Option, None, Some, Result, Ok, Err}
use Rattle.std.proofs.Common.{sym, Less, Equal, Greater, ap, ◌∙◌, arith, add-one, add-zero, zero-add, length-drop, drop-drop, eq-eqb, ne_eqb, le-leb, lt-ltb}
use Rattle.std.proofs.lemmas.Bool.{lt-leb, le-ltb}
use Rattle.std.proofs.Math.Decide.{ℕ_discrete, dec_lt}
use Rattle.std.specs.Ordering.{is_some_and, nat_cmp, partial_le, partial_ordering_then, is_le}
use Rattle.std.specs.List.{slice_get}
use Rattle.std.specs.Option.{ok_or}
use Rattle.archive.specs.declared.Record.{Record}
use Rattle.archive.specs.declared.BrokenRecord.{BrokenRecord}
use Rattle.archive.specs.declared.RecordError.{RecordError}
use Rattle.archive.specs.declared.RecordError.TheVariants.{Broken, Absent}
use Rattle.std.specs.Result.{IsErrAnd}
use Rattle.archive.specs.Archive.{Outcome, answered, refused_at, refused_by, map_outcome, bind_outcome, or_absent, record_in, is_whole, records_of, replaces, current_of, current_among, count_records, record_at, current_record, record_answer}
use Rattle.archive.proofs.FileLaws.{read_cons}
use Rattle.archive.proofs.BrokenLaws.{count_answers, record_answers, count_refused, record_refused, record_absent}
use Rattle.archive.proofs.StepLaws.{read_from, whole_long, read_none, read_broken, read_whole}

-- ---- which record counts

-- two pairs of numbers are compared as their first ones are, and as their second ones where these are equal
leb_tests : (m n : ℕ) → (ltb m n || eqb m n) ≡ leb m n
leb_tests m n = go (dec_lt m n) (ℕ_discrete m n)
  where
    go : Dec (m < n) → Dec (m ≡ n) → (ltb m n || eqb m n) ≡ leb m n
    go (yes h) e = rw (lt-ltb m n h, le-leb m n (omega arith))
    go (no h) (yes e) = rw (le-ltb m n (omega arith), eq-eqb m n e, le-leb m n (omega arith))
    go (no h) (no e) = rw (le-ltb m n (omega arith), ne_eqb m n e, lt-leb m n (omega arith))

pair_tests : (a b c d : Bool) → is_some_and is_le (partial_ordering_then (Some (cond a Less (cond b Equal Greater))) (Some (cond c Less (cond d Equal Greater)))) ≡ (a || (b && (c || d)))
pair_tests true b c d = refl
pair_tests false true true d = refl
pair_tests false true false true = refl
pair_tests false true false false = refl
pair_tests false false c d = refl

pub replaces_pair : (r before : Record)
    → partial_le (λ (x y : ℕ × ℕ). partial_ordering_then (Some (nat_cmp x.0 y.0)) (Some (nat_cmp x.1 y.1))) (before.year, before.revision) (r.year, r.revision) ≡ replaces r before
unfolding replaces
replaces_pair r before =
    pair_tests (ltb before.year r.year) (eqb before.year r.year) (ltb before.revision r.revision) (eqb before.revision r.revision)
    ∙ ap (λ (t : Bool). ltb before.year r.year || (eqb before.year r.year && t)) (leb_tests before.revision r.revision)

-- ---- reading on, record by record

module _ {A : Type 0} (rest : List Record → Outcome A) where
  -- a record more that is read
  pub bind_map : (f : List Record → List Record) (a : Outcome (List Record)) → bind_outcome (map_outcome f a) rest ≡ bind_outcome a (λ rs. rest (f rs))
  unfolding bind_outcome map_outcome
  bind_map f (answered rs) = refl
  bind_map f (refused_at n place) = refl
  bind_map f (refused_by n) = refl

-- what is still to be done in another way
bind_ext : {A : Type 0} (f g : List Record → Outcome A) → ((rs : List Record) → f rs ≡ g rs) → (a : Outcome (List Record)) → bind_outcome a f ≡ bind_outcome a g
unfolding bind_outcome
bind_ext f g same (answered rs) = same rs
bind_ext f g same (refused_at n place) = refl
bind_ext f g same (refused_by n) = refl

-- what is answered, by the bytes that are still to be read from a place on, where `rest` answers to their records
abbrev pub Ahead : {A : Type 0} → Outcome A → (List Record → Outcome A) → ℕ → List ℕ → Type 0
Ahead all rest place bytes = all ≡ bind_outcome (read_from place bytes) rest

module _ {A : Type 0} (all : Outcome A) (rest : List Record → Outcome A) (place : ℕ) (bytes : List ℕ) (ahead : Ahead all rest place bytes) where
  -- a broken record ends the reading,
  pub ahead_broken : 0 < length bytes → is_whole bytes ≡ false → refused_at 13 place ≡ all
  unfolding bind_outcome
  ahead_broken h e = sym (ahead ∙ ap (λ (a : Outcome (List Record)). bind_outcome a rest) (read_broken place bytes h e))

  -- what a whole one makes of the answer is read of the rest,
  pub ahead_step : (next : List Record → Outcome A) → ((rs : List Record) → rest (record_in bytes ∷ rs) ≡ next rs) → is_whole bytes ≡ true
      → Ahead all next (place + 1) (drop 24 bytes)
  ahead_step next same e =
      ahead
      ∙ ap (λ (a : Outcome (List Record)). bind_outcome a rest) (read_whole place bytes e)
      ∙ bind_map rest (λ rs. record_in bytes ∷ rs) (read_from (suc place) (drop 24 bytes))
      ∙ ap (λ (p : ℕ). bind_outcome (read_from p (drop 24 bytes)) (λ rs. rest (record_in bytes ∷ rs))) (sym (add-one place))
      ∙ bind_ext (λ rs. rest (record_in bytes ∷ rs)) next same (read_from (place + 1) (drop 24 bytes))

  -- and at the end nothing is left
  pub ahead_end : length bytes ≡ 0 → rest [] ≡ all
  unfolding bind_outcome
  ahead_end h = sym (ahead ∙ ap (λ (a : Outcome (List Record)). bind_outcome a rest) (read_none place bytes h))

-- ---- the two loops

-- the record that counts, or that there is none
told : (current : Option Record) → record_answer (ok_or current Absent) ≡ or_absent current
unfolding or_absent
told None = refl
told (Some r) = refl

module _ (file : List ℕ) where
  -- what is left to count
  abbrev pub to_count : ℕ → List Record → Outcome ℕ
  to_count place rs = answered (place + length rs)

  pub count_start : Ahead (count_records file) (to_count 0) 0 file
  unfolding count_records records_of map_outcome bind_outcome
  count_start = counted (records_of file)
    where
      counted : (a : Outcome (List Record)) → map_outcome length a ≡ bind_outcome a (to_count 0)
      counted (answered rs) = ap answered (sym (zero-add (length rs)))
      counted (refused_at n place) = refl
      counted (refused_by n) = refl

  module _ (place : ℕ) (bytes : List ℕ) (ahead : Ahead (count_records file) (to_count place) place bytes) where
    pub count_step : is_whole bytes ≡ true → Ahead (count_records file) (to_count (place + 1)) (place + 1) (drop 24 bytes)
    count_step e = ahead_step (count_records file) (to_count place) place bytes ahead (to_count (place + 1)) (λ rs. ap answered (one_more place (length rs))) e
      where
        one_more : (p n : ℕ) → p + suc n ≡ p + 1 + n
        one_more p n = omega arith

    pub count_end : length bytes ≡ 0 → answered place ≡ count_records file
    count_end h = ap answered (sym (add-zero place)) ∙ ahead_end (count_records file) (to_count place) place bytes ahead h

  module _ (id : ℕ) where
    -- what is left to be compared
    abbrev pub to_compare : Option Record → List Record → Outcome Record
    to_compare current rs = or_absent (current_among id current rs)

    pub current_start : Ahead (current_record file id) (to_compare None) 0 file
    unfolding current_record records_of
    current_start = refl

    module _ (current : Option Record) (place : ℕ) (bytes : List ℕ) (ahead : Ahead (current_record file id) (to_compare current) place bytes) where
      pub current_step : (next : Option Record) → next ≡ current_of id current (record_in bytes) → is_whole bytes ≡ true
          → Ahead (current_record file id) (to_compare next) (place + 1) (drop 24 bytes)
      unfolding current_among
      current_step next e w =
          ahead_step (current_record file id) (to_compare current) place bytes ahead (to_compare next)
          (λ rs. ap (λ (o : Option Record). or_absent (current_among id o rs)) (sym e)) w

      pub current_end : length bytes ≡ 0 → record_answer (ok_or current Absent) ≡ current_record file id
      unfolding current_among
      current_end h = told current ∙ ahead_end (current_record file id) (to_compare current) place bytes ahead h

-- ---- the record at a place

elem_read : (rs : List Record) (place : ℕ) (bytes : List ℕ) (p : ℕ) → read_from place bytes ≡ answered rs → p < length rs
    → (slice_get rs p ≡ Some (record_in (drop (24 * p) bytes))) × (24 * p + 24 ≤ length bytes)
elem_read [] place bytes p e h = absurd (omega arith)
elem_read (r ∷ rs) place bytes zero e h = let c = read_cons place bytes r rs e in (ap Some (sym c.1), whole_long bytes c.0)
elem_read (r ∷ rs) place bytes (suc p) e h =
    let c = read_cons place bytes r rs e in
    let behind = elem_read rs (suc place) (drop 24 bytes) p c.2 (omega arith) in
    let at : 24 + 24 * p ≡ 24 * suc p = omega arith in (
      behind.0 ∙ ap (λ (bs : List ℕ). Some (record_in bs)) (drop-drop (24 * p) 24 bytes ∙ ap (λ (k : ℕ). drop k bytes) at),
      omega (arith, behind.1, length-drop 24 bytes, whole_long bytes c.0),
    )

module _ (file : List ℕ) (p : ℕ) where
  module _ (n : ℕ) (counted : answered n ≡ count_records file) where
    read : (rs : List Record) × (records_of file ≡ answered rs) × (length rs ≡ n)
    read = (count_answers file n).0 (sym counted)

    pub found_long : p < n → 24 * p + 24 ≤ length file
    unfolding records_of
    found_long h = (elem_read read.0 0 file p read.1 (omega (arith, read.2))).1

    pub found_here : (r : Record) → p < n → r ≡ record_in (drop (24 * p) file) → answered r ≡ record_at file p
    unfolding records_of
    found_here r h e =
        sym ((record_answers file p r).1 (read.0, read.1, (elem_read read.0 0 file p read.1 (omega (arith, read.2))).0 ∙ ap Some (sym e)))

    pub found_none : n ≤ p → refused_by 14 ≡ record_at file p
    found_none h = sym ((record_absent file p).1 (read.0, read.1, omega (arith, read.2)))

  -- and the refusal of a broken file is handed on
  pub found_broken : (broken : BrokenRecord) (r : Result Record RecordError) → refused_at 13 broken.place ≡ count_records file → IsErrAnd r (λ e. e ≡ Broken broken.place)
      → record_answer r ≡ record_at file p
  found_broken broken (Err e) told is = ap (λ (x : RecordError). record_answer (Err x)) is ∙ sym ((record_refused file p broken.place).1 ((count_refused file broken.place).0 (sym told)))
  found_broken broken (Ok x) told is = absurd is
