-- Laws of broken records: the reading of a file stops at the earliest broken record, with its place, and else reads to the end (`reading`); which calls are refused by
-- that, what they answer of a sound file, and where it has no record at a place. Rests on `PlaceLaws`, `StepLaws` and `OutcomeLaws`. Assumes nothing.
use Rattle.std.specs.Prelude.{◌≡◌, refl, ◌↔◌, ◌⊎◌, Bool, true, false, List, [], ◌∷◌, ℕ, zero, suc, ◌+◌, ◌*◌, ◌-◌, ◌≤◌, ◌<◌, leb, ltb, length, drop, None, Some, Option}
use Rattle.std.proofs.Common.{sym, ap, ◌∙◌, subst, inl, inr, ⊎_elim, arith, leb-true, leb-false, ltb-false, ltb-true, length-drop, drop-drop}
use Rattle.std.specs.List.{slice_get}
use Rattle.cells.specs.Lists.{ascii}
use Rattle.archive.specs.declared.Record.{Record}
use Rattle.archive.specs.Archive.{Outcome, answered, refused_at, refused_by, map_outcome, or_absent, record_in, is_whole, records_of, count_records, record_at, current_among, current_record, bind_outcome}
use Rattle.archive.specs.Records.{Begins, IsBroken}
use Rattle.archive.specs.PlaceLaws.{absent_iff}
use Rattle.archive.proofs.StepLaws.{whole_iff, read_from, read_none, read_broken, read_whole}
use Rattle.archive.specs.OutcomeLaws.{answered_refused_at, answered_refused_by, refused_at_refused_by, refused_at_inj, map_refused_at, bind_refused_at, bind_refused_by, or_absent_refused_at, or_absent_refused_by, map_answered, bind_answered, or_absent_answered}

-- ---- broken, and whole

-- a record is broken exactly if the bytes from its place on do not begin with one
pub broken_whole : (file : List ℕ) (place : ℕ) → (is_whole (drop (24 * place) file) ≡ false) ↔ IsBroken file place
unfolding ascii
broken_whole file place = (there, back (is_whole bytes) refl)
  where
    bytes : List ℕ
    bytes = drop (24 * place) file

    size : length bytes ≡ length file - 24 * place
    size = length-drop (24 * place) file

    there : is_whole bytes ≡ false → IsBroken file place
    there e = go (ltb (length file) (24 * place + 24)) refl
      where
        go : (t : Bool) → ltb (length file) (24 * place + 24) ≡ t → IsBroken file place
        go true q = inl (ltb-true (length file) (24 * place + 24) q)
        go false q =
            let h : 24 ≤ length bytes = omega (arith, size, ltb-false (length file) (24 * place + 24) q) in
            inr (λ m. let w = (whole_iff bytes).1 (h, m) in let z : ◌≡◌ {A = ℕ} 0 1 = cc in omega arith)

    back : (t : Bool) → is_whole bytes ≡ t → IsBroken file place → is_whole bytes ≡ false
    back false e b = e
    back true e b =
        let w = (whole_iff bytes).0 e in
        absurd (⊎_elim (λ h. let l = w.0 in omega (arith, size)) (λ no. no w.1) b)

not_broken_whole : (file : List ℕ) (place : ℕ) → is_whole (drop (24 * place) file) ≡ true → IsBroken file place → ⊥
not_broken_whole file place e b = let f = (broken_whole file place).1 b in let z : ◌≡◌ {A = ℕ} 0 1 = cc in omega arith

-- ---- the reading from a place on

-- it reads to the end, and no record from there on is broken,
record Sound (file : List ℕ) (from : ℕ) : Type 0 where
  rs : List Record
  reads : read_from from (drop (24 * from) file) ≡ answered rs
  unbroken : (p : ℕ) → from ≤ p → Begins file p → IsBroken file p → ⊥

-- or is refused with the place of the earliest one
record Stops (file : List ℕ) (from : ℕ) : Type 0 where
  place : ℕ
  reads : read_from from (drop (24 * from) file) ≡ refused_at 13 place
  behind : from ≤ place
  begins : Begins file place
  broken : IsBroken file place
  first : (p : ℕ) → from ≤ p → p < place → IsBroken file p → ⊥

-- a whole record in front
module _ (file : List ℕ) (from : ℕ) (whole : is_whole (drop (24 * from) file) ≡ true) where
  next : read_from from (drop (24 * from) file) ≡ map_outcome (λ rs. record_in (drop (24 * from) file) ∷ rs) (read_from (suc from) (drop (24 * suc from) file))
  next =
      let e : 24 * from + 24 ≡ 24 * suc from = omega arith in
      read_whole from (drop (24 * from) file) whole
      ∙ ap (λ (b : List ℕ). map_outcome (λ (rs : List Record). record_in (drop (24 * from) file) ∷ rs) (read_from (suc from) b))
      (drop-drop 24 (24 * from) file ∙ ap (λ (k : ℕ). drop k file) e)

  past : {P : ℕ → Type 0} → ((p : ℕ) → suc from ≤ p → P p → IsBroken file p → ⊥) → (p : ℕ) → from ≤ p → P p → IsBroken file p → ⊥
  past later p h i b = go (ltb from p) refl
    where
      go : (t : Bool) → ltb from p ≡ t → ⊥
      go true q = later p (ltb-true from p q) i b
      go false q =
          let e : p ≡ from = let l = ltb-false from p q in omega arith in
          not_broken_whole file from whole (subst (IsBroken file) e b)

  sound_next : Sound file (suc from) → Sound file from
  unfolding map_outcome
  sound_next s =
      record { rs = record_in (drop (24 * from) file) ∷ s.rs; reads = next ∙ rw s.reads; unbroken = past {P = Begins file} s.unbroken }

  stops_next : Stops file (suc from) → Stops file from
  unfolding map_outcome
  stops_next s =
      record {
        place = s.place;
        reads = next ∙ rw s.reads;
        behind = let h = s.behind in omega arith;
        begins = s.begins;
        broken = s.broken;
        first = past {P = λ p. p < s.place} s.first;
      }

-- no byte is left
sound_end : (file : List ℕ) (from : ℕ) → length file ≤ 24 * from → Sound file from
sound_end file from h =
    record {
      rs = [];
      reads = read_none from (drop (24 * from) file) (let d = length-drop (24 * from) file in omega arith);
      unbroken = λ p g i b. omega arith;
    }

-- a broken record in front
stops_here : (file : List ℕ) (from : ℕ) → Begins file from → is_whole (drop (24 * from) file) ≡ false → Stops file from
stops_here file from h e =
    record {
      place = from;
      reads = read_broken from (drop (24 * from) file) (let d = length-drop (24 * from) file in omega arith) e;
      behind = omega arith;
      begins = h;
      broken = (broken_whole file from).0 e;
      first = λ p g l b. omega arith;
    }

reading_from : (n : ℕ) (file : List ℕ) (from : ℕ) → length file ≤ 24 * from + n → Sound file from ⊎ Stops file from
reading_from zero file from h = inl (sound_end file from (omega arith))
reading_from (suc n) file from h = go (λ h. reading_from n file (suc from) h) (leb (length file) (24 * from)) refl (is_whole (drop (24 * from) file)) refl
  where
    go : (length file ≤ 24 * suc from + n → Sound file (suc from) ⊎ Stops file (suc from)) → (t : Bool) → leb (length file) (24 * from) ≡ t
        → (w : Bool) → is_whole (drop (24 * from) file) ≡ w → Sound file from ⊎ Stops file from
    go behind true q w e = inl (sound_end file from (leb-true (length file) (24 * from) q))
    go behind false q true e = ⊎_elim (λ s. inl (sound_next file from e s)) (λ s. inr (stops_next file from e s)) (behind (omega arith))
    go behind false q false e = inr (stops_here file from (leb-false (length file) (24 * from) q) e)

reading : (file : List ℕ) → Sound file 0 ⊎ Stops file 0
reading file = reading_from (length file) file 0 (omega arith)

-- ---- 13

-- a file is read, or refused by 13 with a place
pub sound_or_broken : (file : List ℕ) → ((rs : List Record) × (records_of file ≡ answered rs)) ⊎ ((place : ℕ) × (records_of file ≡ refused_at 13 place))
unfolding records_of
sound_or_broken file = ⊎_elim (λ s. inl (s.rs, s.reads)) (λ s. inr (s.place, s.reads)) (reading file)

-- no other refusal is a file's
pub never_absent : (file : List ℕ) (n : ℕ) → records_of file ≡ refused_by n → ⊥
never_absent file n e =
    ⊎_elim (λ s. answered_refused_by s.0 n (sym s.1 ∙ e)) (λ s. refused_at_refused_by 13 s.0 n (sym s.1 ∙ e)) (sound_or_broken file)

-- it is refused with the place of the earliest broken record
pub broken_iff : (file : List ℕ) (place : ℕ)
    → (records_of file ≡ refused_at 13 place) ↔ (Begins file place × IsBroken file place × ((p : ℕ) → p < place → IsBroken file p → ⊥))
unfolding records_of
broken_iff file place = (
  λ e. ⊎_elim (λ s. absurd (answered_refused_at s.rs 13 place (sym s.reads ∙ e))) (λ s. there s (sym s.reads ∙ e)) (reading file),
  λ h. ⊎_elim (λ s. absurd (s.unbroken place (omega arith) h.0 h.1)) (λ s. s.reads ∙ ap (refused_at 13) (back s h.1 h.2)) (reading file),
)
  where
    there : (s : Stops file 0) → ◌≡◌ {A = Outcome (List Record)} (refused_at 13 s.place) (refused_at 13 place)
        → Begins file place × IsBroken file place × ((p : ℕ) → p < place → IsBroken file p → ⊥)
    there s e =
        subst (λ (k : ℕ). Begins file k × IsBroken file k × ((p : ℕ) → p < k → IsBroken file p → ⊥)) (refused_at_inj 13 13 s.place place e).1
        (s.begins, s.broken, λ p h b. s.first p (omega arith) h b)

    back : (s : Stops file 0) → IsBroken file place → ((p : ℕ) → p < place → IsBroken file p → ⊥) → s.place ≡ place
    back s b first = go (ltb s.place place) refl (ltb place s.place) refl
      where
        go : (t : Bool) → ltb s.place place ≡ t → (u : Bool) → ltb place s.place ≡ u → s.place ≡ place
        go true q u r = absurd (first s.place (ltb-true s.place place q) s.broken)
        go false q true r = absurd (s.first place (omega arith) (ltb-true place s.place r) b)
        go false q false r = let l = ltb-false s.place place q in let m = ltb-false place s.place r in omega arith

-- ---- of which kinds the answers are

-- a value, 13 with the place that the file is refused with, or 14
pub data Kind {A : Type 0} (file : List ℕ) (o : Outcome A) : Type 0 where
  value : (x : A) → o ≡ answered x → Kind file o
  broken : (place : ℕ) → records_of file ≡ refused_at 13 place → o ≡ refused_at 13 place → Kind file o
  absent : o ≡ refused_by 14 → Kind file o

-- the records of a file,
pub records_kind : (file : List ℕ) → Kind file (records_of file)
records_kind file = ⊎_elim (λ s. value s.0 s.1) (λ s. broken s.0 s.1 s.1) (sound_or_broken file)

-- and one that is picked from them
pub picked_kind : (file : List ℕ) (pick : List Record → Option Record) → Kind file (bind_outcome (records_of file) (λ rs. or_absent (pick rs)))
unfolding bind_outcome or_absent
picked_kind file pick = go (records_kind file)
  where
    picked : Outcome (List Record) → Outcome Record
    picked a = bind_outcome a (λ rs. or_absent (pick rs))

    one : (r : Option Record) → picked (records_of file) ≡ or_absent r → Kind file (picked (records_of file))
    one None e = absent e
    one (Some r) e = value r e

    go : Kind file (records_of file) → Kind file (picked (records_of file))
    go (value rs e) = one (pick rs) (ap picked e)
    go (broken place e q) = broken place e (ap picked e)
    go (absent e) = absurd (never_absent file 14 e)

-- ---- the calls

-- Each is refused by 13 where the file is, and then only, with that place: how many records there are,
pub count_refused : (file : List ℕ) (place : ℕ) → (count_records file ≡ refused_at 13 place) ↔ (records_of file ≡ refused_at 13 place)
unfolding count_records
count_refused file place = map_refused_at length (records_of file) 13 place

-- which one stands at a place,
pub record_refused : (file : List ℕ) (at place : ℕ) → (record_at file at ≡ refused_at 13 place) ↔ (records_of file ≡ refused_at 13 place)
unfolding record_at
record_refused file at place =
    bind_refused_at (λ rs. or_absent (slice_get rs at)) (records_of file) 13 place (λ rs. or_absent_refused_at (slice_get rs at) 13 place)

-- and which one is current
pub current_refused : (file : List ℕ) (id place : ℕ) → (current_record file id ≡ refused_at 13 place) ↔ (records_of file ≡ refused_at 13 place)
unfolding current_record
current_refused file id place =
    bind_refused_at (λ rs. or_absent (current_among id None rs)) (records_of file) 13 place (λ rs. or_absent_refused_at (current_among id None rs) 13 place)

-- ---- each answers a value, 13 or 14

kinds_told : {A : Type 0} (file : List ℕ) (o : Outcome A) → Kind file o → ((x : A) × (o ≡ answered x)) ⊎ (((place : ℕ) × (o ≡ refused_at 13 place)) ⊎ (o ≡ refused_by 14))
kinds_told file o (value x e) = inl (x, e)
kinds_told file o (broken place q e) = inr (inl (place, e))
kinds_told file o (absent e) = inr (inr e)

-- the record at a place,
pub record_told : (file : List ℕ) (place : ℕ)
    → ((r : Record) × (record_at file place ≡ answered r)) ⊎ (((p : ℕ) × (record_at file place ≡ refused_at 13 p)) ⊎ (record_at file place ≡ refused_by 14))
unfolding record_at
record_told file place = kinds_told file (record_at file place) (picked_kind file (λ rs. slice_get rs place))

-- and the current one
pub current_told : (file : List ℕ) (id : ℕ)
    → ((r : Record) × (current_record file id ≡ answered r)) ⊎ (((p : ℕ) × (current_record file id ≡ refused_at 13 p)) ⊎ (current_record file id ≡ refused_by 14))
unfolding current_record
current_told file id = kinds_told file (current_record file id) (picked_kind file (current_among id None))

-- ---- what they answer of a sound file

-- the number of records is that of those that are read,
pub count_answers : (file : List ℕ) (n : ℕ) → (count_records file ≡ answered n) ↔ ((rs : List Record) × (records_of file ≡ answered rs) × (length rs ≡ n))
unfolding count_records
count_answers file n = map_answered length (records_of file) n

-- and the record at a place is theirs
pub record_answers : (file : List ℕ) (place : ℕ) (r : Record)
    → (record_at file place ≡ answered r) ↔ ((rs : List Record) × (records_of file ≡ answered rs) × (slice_get rs place ≡ Some r))
unfolding record_at
record_answers file place r =
    let b = bind_answered (records_of file) (λ rs. or_absent (slice_get rs place)) r in (
      λ e. let s = b.0 e in (s.0, s.1, (or_absent_answered (slice_get s.0 place) r).0 s.2),
      λ s. b.1 (s.0, s.1, (or_absent_answered (slice_get s.0 place) r).1 s.2),
    )

-- ---- 14

-- a sound file has no record at a place exactly if it has fewer
pub record_absent : (file : List ℕ) (place : ℕ) → (record_at file place ≡ refused_by 14) ↔ ((rs : List Record) × (records_of file ≡ answered rs) × (length rs ≤ place))
unfolding record_at
record_absent file place =
    let r = bind_refused_by (records_of file) (λ rs. or_absent (slice_get rs place)) 14 (never_absent file 14) in (
      λ e. let s = r.0 e in (s.0, s.1, (absent_iff s.0 place).0 ((or_absent_refused_by (slice_get s.0 place)).0 s.2)),
      λ s. r.1 (s.0, s.1, (or_absent_refused_by (slice_get s.0 place)).1 ((absent_iff s.0 place).1 s.2)),
    )
