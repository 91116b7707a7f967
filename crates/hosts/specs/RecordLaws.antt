-- Laws of the exported functions of the archive: what a call with a least number of answer words leaves, by what it answers; when the reading calls return 0 and what is
-- left after a refusal; and that what one call writes the others read. Rests on `Calls` and `CallLaws` of `host_records`, and on
-- `Theorems`, `OutcomeLaws` and `BrokenLaws` of `archive`. Assumes nothing.
use Rattle.std.specs.Prelude.{◌≡◌, ◌↔◌, ◌⊎◌, ℕ, ◌+◌, ◌-◌, ◌≤◌, ◌<◌, take, None}
use Rattle.std.proofs.Math.Path.{refl, sym, ap}
use Rattle.std.proofs.Common.{◌∙◌, subst, inl, inr, ⊎_elim, arith, length-append, take_at}
use mathlib.Core.List.{List, [], ◌∷◌, ◌++◌}
use Rattle.std.proofs.Math.Decide.{dec_lt}
use Rattle.std.proofs.Math.ListN.{length, get_or, replicate}
use Rattle.std.specs.List.{slice_get}
use Rattle.cells.specs.Lists.{padded}
use Rattle.cells.specs.ArrayLaws.{padded_room, padded_empty}
use Rattle.archive.specs.declared.Record.{Record}
use Rattle.archive.specs.Archive.{Outcome, answered, refused_at, refused_by, map_outcome, outcome_number, handed_back, LeavesOutcome, record_size, record_bytes, records_of, count_records, record_at, current_among, current_record, write_record}
use Rattle.archive.specs.Records.{InRange, NotBelow}
use Rattle.archive.proofs.Theorems as Archive
use Rattle.archive.specs.OutcomeLaws.{map_map}
use Rattle.archive.proofs.BrokenLaws.{Kind, value, broken, absent, records_kind, picked_kind, never_absent}
use Rattle.host_records.specs.Calls.{record_words, unless_short, records_counted, record_found, current_found}
use Rattle.host_records.specs.CallLaws.{leaves_as, unless_short_lem, unless_enough}

-- ---- what a call leaves, by what it answers

-- number and words of what an outcome is
leaves_told : (a b : Outcome (List ℕ)) (old new : List ℕ) (n : ℕ) → LeavesOutcome a old new n → a ≡ b
    → (n ≡ outcome_number b) × (new ≡ padded (handed_back b) (length old))
leaves_told a b old new n left e = let l = leaves_as old new a b n e left in (l.number, l.words)

module _ {A : Type 0} (f : A → List ℕ) (o : Outcome A) (needed : ℕ) (answer answer' : List ℕ) (n : ℕ)
    (left : LeavesOutcome (unless_short needed (length answer) (map_outcome f o)) answer answer' n) where
  -- With too few answer words 8 is returned, and they are zero;
  pub left_short : length answer < needed → (n ≡ 8) × (answer' ≡ replicate (length answer) 0)
  unfolding outcome_number handed_back
  left_short h =
      let l = leaves_told _ (refused_by 8) answer answer' n left (sym (unless_short_lem needed (length answer) (map_outcome f o) h)) in
      (l.0, l.1 ∙ padded_empty (length answer))

  module _ (h : needed ≤ length answer) where
    enough : (b : Outcome A) → o ≡ b → (n ≡ outcome_number (map_outcome f b)) × (answer' ≡ padded (handed_back (map_outcome f b)) (length answer))
    enough b e =
        leaves_told _ (map_outcome f b) answer answer' n left (sym (unless_enough needed (length answer) (map_outcome f o) h) ∙ ap (map_outcome f) e)

    -- else with a value 0, and they are its words, zeros behind;
    pub left_value : (x : A) → length (f x) ≡ needed → o ≡ answered x → (n ≡ 0) × (answer' ≡ f x ++ replicate (length answer - needed) 0)
    unfolding outcome_number handed_back map_outcome
    left_value x long e =
        let l = enough (answered x) e in
        (l.0, l.1 ∙ padded_room (f x) (length answer) (omega arith) ∙ ap (λ (k : ℕ). f x ++ replicate (length answer - k) 0) long)

    -- with a refusal at a place its number, and the first is the place, zeros behind;
    pub left_place : 0 < needed → (k place : ℕ) → o ≡ refused_at k place → (n ≡ k) × (answer' ≡ place ∷ replicate (length answer - 1) 0)
    unfolding outcome_number handed_back map_outcome
    left_place least k place e =
        let l = enough (refused_at k place) e in
        (l.0, l.1 ∙ padded_room (place ∷ []) (length answer) (omega arith))

    -- with another refusal its number, and they are zero.
    pub left_none : (k : ℕ) → o ≡ refused_by k → (n ≡ k) × (answer' ≡ replicate (length answer) 0)
    unfolding outcome_number handed_back map_outcome
    left_none k e = let l = enough (refused_by k) e in (l.0, l.1 ∙ padded_empty (length answer))

-- ---- when a reading call returns 0, and what is left after a refusal

module _ {A : Type 0} (file : List ℕ) (o : Outcome A) (kind : Kind file o) (f : A → List ℕ) (needed : ℕ) (least : 0 < needed) (long : (x : A) → length (f x) ≡ needed)
    (answer answer' : List ℕ) (n : ℕ) (left : LeavesOutcome (unless_short needed (length answer) (map_outcome f o)) answer answer' n) where
  -- 0 is returned exactly if there are enough answer words and there is a value, and they are then its words, zeros behind.
  pub value_returns : (n ≡ 0) ↔ ((needed ≤ length answer) × (x : A) × (o ≡ answered x) × (answer' ≡ f x ++ replicate (length answer - needed) 0))
  value_returns = (λ z. go z (dec_lt (length answer) needed) kind, λ v. (left_value f o needed answer answer' n left v.0 v.1 (long v.1) v.2).0)
    where
      go : n ≡ 0 → Dec (length answer < needed) → Kind file o
          → (needed ≤ length answer) × (x : A) × (o ≡ answered x) × (answer' ≡ f x ++ replicate (length answer - needed) 0)
      go z (yes h) k = let e = (left_short f o needed answer answer' n left h).0 in absurd (omega arith)
      go z (no h) (value x e) = let enough : needed ≤ length answer = omega arith in (enough, x, e, (left_value f o needed answer answer' n left enough x (long x) e).1)
      go z (no h) (broken place r e) = let q = (left_place f o needed answer answer' n left (omega arith) least 13 place e).0 in absurd (omega arith)
      go z (no h) (absent e) = let q = (left_none f o needed answer answer' n left (omega arith) 14 e).0 in absurd (omega arith)

  -- Else 8 is returned for too few answer words, 13 with the place of the file, or 14, and the other words are zero.
  pub value_refused : 0 < n
      → ((n ≡ 8) × (length answer < needed) × (answer' ≡ replicate (length answer) 0))
      ⊎ (((n ≡ 13) × (needed ≤ length answer) × (place : ℕ) × (records_of file ≡ refused_at 13 place) × (answer' ≡ place ∷ replicate (length answer - 1) 0))
      ⊎ ((n ≡ 14) × (needed ≤ length answer) × (o ≡ refused_by 14) × (answer' ≡ replicate (length answer) 0)))
  value_refused z = go (dec_lt (length answer) needed) kind
    where
      go : Dec (length answer < needed) → Kind file o
          → ((n ≡ 8) × (length answer < needed) × (answer' ≡ replicate (length answer) 0))
          ⊎ (((n ≡ 13) × (needed ≤ length answer) × (place : ℕ) × (records_of file ≡ refused_at 13 place) × (answer' ≡ place ∷ replicate (length answer - 1) 0))
          ⊎ ((n ≡ 14) × (needed ≤ length answer) × (o ≡ refused_by 14) × (answer' ≡ replicate (length answer) 0)))
      go (yes h) k = let l = left_short f o needed answer answer' n left h in inl (l.0, h, l.1)
      go (no h) (value x e) = let q = (left_value f o needed answer answer' n left (omega arith) x (long x) e).0 in absurd (omega arith)
      go (no h) (broken place r e) =
          let enough : needed ≤ length answer = omega arith in
          let l = left_place f o needed answer answer' n left enough least 13 place e in
          inr (inl (l.0, enough, place, r, l.1))
      go (no h) (absent e) =
          let enough : needed ≤ length answer = omega arith in
          let l = left_none f o needed answer answer' n left enough 14 e in
          inr (inr (l.0, enough, e, l.1))

-- ---- the calls

module _ (file answer answer' : List ℕ) (n : ℕ) (left : LeavesOutcome (records_counted file (length answer)) answer answer' n) where
  counted_left : LeavesOutcome (unless_short 1 (length answer) (map_outcome (λ rs. length rs ∷ []) (records_of file))) answer answer' n
  unfolding records_counted count_records
  counted_left =
      leaves_as answer answer' (records_counted file (length answer)) (unless_short 1 (length answer) (map_outcome (λ rs. length rs ∷ []) (records_of file))) n
      (ap (unless_short 1 (length answer)) (map_map (λ (k : ℕ). k ∷ []) length (records_of file))) left

  -- `cuttings_count_records` of a sound file, with an answer word,
  pub count_records_left : (rs : List Record) → records_of file ≡ answered rs → 1 ≤ length answer → (n ≡ 0) × (answer' ≡ length rs ∷ replicate (length answer - 1) 0)
  count_records_left rs e h = left_value (λ (rs : List Record). length rs ∷ []) (records_of file) 1 answer answer' n counted_left h rs refl e

  -- when it returns 0,
  pub count_records_returns : (n ≡ 0) ↔ ((1 ≤ length answer) × (rs : List Record) × (records_of file ≡ answered rs) × (answer' ≡ length rs ∷ replicate (length answer - 1) 0))
  count_records_returns =
      value_returns file (records_of file) (records_kind file) (λ (rs : List Record). length rs ∷ []) 1 (omega arith) (λ rs. refl) answer answer' n counted_left

  -- and what is left after a refusal
  pub count_records_refused : 0 < n
      → ((n ≡ 8) × (length answer < 1) × (answer' ≡ replicate (length answer) 0))
      ⊎ ((n ≡ 13) × (1 ≤ length answer) × (place : ℕ) × (records_of file ≡ refused_at 13 place) × (answer' ≡ place ∷ replicate (length answer - 1) 0))
  count_records_refused z =
      ⊎_elim inl (⊎_elim inr (λ a. absurd (never_absent file 14 a.2)))
      (value_refused file (records_of file) (records_kind file) (λ (rs : List Record). length rs ∷ []) 1 (omega arith) (λ rs. refl) answer answer' n counted_left z)

module _ (file : List ℕ) (place : ℕ) (answer answer' : List ℕ) (n : ℕ) (left : LeavesOutcome (record_found file place (length answer)) answer answer' n) where
  -- `cuttings_record_at` of a record, with five answer words,
  pub record_at_left : (r : Record) → record_at file place ≡ answered r → 5 ≤ length answer → (n ≡ 0) × (answer' ≡ record_words r ++ replicate (length answer - 5) 0)
  unfolding record_found
  record_at_left r e h = left_value record_words (record_at file place) 5 answer answer' n left h r refl e

  -- when it returns 0,
  pub record_at_returns : (n ≡ 0)
      ↔ ((5 ≤ length answer) × (r : Record) × (record_at file place ≡ answered r) × (answer' ≡ record_words r ++ replicate (length answer - 5) 0))
  unfolding record_found record_at
  record_at_returns = value_returns file (record_at file place) (picked_kind file (λ rs. slice_get rs place)) record_words 5 (omega arith) (λ r. refl) answer answer' n left

  -- and what is left after a refusal
  pub record_at_refused : 0 < n
      → ((n ≡ 8) × (length answer < 5) × (answer' ≡ replicate (length answer) 0))
      ⊎ (((n ≡ 13) × (5 ≤ length answer) × (broken : ℕ) × (records_of file ≡ refused_at 13 broken) × (answer' ≡ broken ∷ replicate (length answer - 1) 0))
      ⊎ ((n ≡ 14) × (5 ≤ length answer) × (record_at file place ≡ refused_by 14) × (answer' ≡ replicate (length answer) 0)))
  unfolding record_found record_at
  record_at_refused = value_refused file (record_at file place) (picked_kind file (λ rs. slice_get rs place)) record_words 5 (omega arith) (λ r. refl) answer answer' n left

module _ (file : List ℕ) (id : ℕ) (answer answer' : List ℕ) (n : ℕ) (left : LeavesOutcome (current_found file id (length answer)) answer answer' n) where
  -- `cuttings_current_record` of a record, with five answer words,
  pub current_record_left : (r : Record) → current_record file id ≡ answered r → 5 ≤ length answer → (n ≡ 0) × (answer' ≡ record_words r ++ replicate (length answer - 5) 0)
  unfolding current_found
  current_record_left r e h = left_value record_words (current_record file id) 5 answer answer' n left h r refl e

  -- when it returns 0,
  pub current_record_returns : (n ≡ 0)
      ↔ ((5 ≤ length answer) × (r : Record) × (current_record file id ≡ answered r) × (answer' ≡ record_words r ++ replicate (length answer - 5) 0))
  unfolding current_found current_record
  current_record_returns = value_returns file (current_record file id) (picked_kind file (current_among id None)) record_words 5 (omega arith) (λ r. refl) answer answer' n left

  -- and what is left after a refusal
  pub current_record_refused : 0 < n
      → ((n ≡ 8) × (length answer < 5) × (answer' ≡ replicate (length answer) 0))
      ⊎ (((n ≡ 13) × (5 ≤ length answer) × (broken : ℕ) × (records_of file ≡ refused_at 13 broken) × (answer' ≡ broken ∷ replicate (length answer - 1) 0))
      ⊎ ((n ≡ 14) × (5 ≤ length answer) × (current_record file id ≡ refused_by 14) × (answer' ≡ replicate (length answer) 0)))
  unfolding current_found current_record
  current_record_refused = value_refused file (current_record file id) (picked_kind file (current_among id None)) record_words 5 (omega arith) (λ r. refl) answer answer' n left

-- ---- what one call writes the others read

-- year and revision of a record are not below those of the record in some words
abbrev pub NotBelowWords : Record → List ℕ → Type 0
NotBelowWords r words = (get_or words 1 0 < r.year) ⊎ ((get_or words 1 0 ≡ r.year) × (get_or words 2 0 ≤ r.revision))

-- The bytes of a record were written, and are appended to a file whose records were counted.
module _ (r : Record) (fits : InRange r) (out out' : List ℕ) (written : LeavesOutcome (write_record r (length out)) out out' 0)
    (file count count' : List ℕ) (counted : LeavesOutcome (records_counted file (length count)) count count' 0) where
  abbrev longer : List ℕ
  longer = file ++ take record_size out'

  longer_is : longer ≡ file ++ record_bytes r
  longer_is =
      ap (λ (l : List ℕ). file ++ take record_size l) (Archive.written_bytes r out out' 0 written refl)
      ∙ ap (λ (l : List ℕ). file ++ l) (take_at (record_bytes r) (replicate (length out - record_size) 0) record_size (Archive.record_size_lem r))

  -- the records that the file had
  rs : List Record
  rs = ((count_records_returns file count count' 0 counted).0 refl).1

  sound : records_of file ≡ answered rs
  unfolding rs
  sound = ((count_records_returns file count count' 0 counted).0 refl).2

  number : get_or count' 0 0 ≡ length rs
  unfolding rs
  number = ap (λ (l : List ℕ). get_or l 0 0) ((count_records_returns file count count' 0 counted).0 refl).3

  -- what the longer file answers
  longer_reads : records_of longer ≡ answered (rs ++ r ∷ [])
  longer_reads = ap records_of longer_is ∙ Archive.append_reads file rs sound r fits

  longer_last : record_at longer (get_or count' 0 0) ≡ answered r
  longer_last = ap (record_at longer) number ∙ ap (λ (l : List ℕ). record_at l (length rs)) longer_is ∙ Archive.append_last file rs sound r fits

  longer_earlier : (place : ℕ) → place < get_or count' 0 0 → record_at longer place ≡ record_at file place
  longer_earlier place h = ap (λ (l : List ℕ). record_at l place) longer_is ∙ Archive.append_earlier file rs sound r fits place (omega (arith, number))

  longer_other : (other : ℕ) → (r.id ≡ other → ⊥) → current_record longer other ≡ current_record file other
  longer_other other ne = ap (λ (l : List ℕ). current_record l other) longer_is ∙ Archive.append_other file rs sound r fits other ne

  longer_current : ((c : Record) → current_record file r.id ≡ answered c → NotBelow r c) → current_record longer r.id ≡ answered r
  longer_current h = ap (λ (l : List ℕ). current_record l r.id) longer_is ∙ Archive.append_given file rs sound r fits h

  longer_below : (c : Record) → current_record file r.id ≡ answered c → (NotBelow r c → ⊥) → current_record longer r.id ≡ answered c
  longer_below c e h = ap (λ (l : List ℕ). current_record l r.id) longer_is ∙ Archive.append_below file rs sound r fits c e h

  -- The file then has one record more,
  pub appended_counted : (answer answer' : List ℕ) (n : ℕ) → LeavesOutcome (records_counted longer (length answer)) answer answer' n → 1 ≤ length answer
      → (n ≡ 0) × (get_or answer' 0 0 ≡ get_or count' 0 0 + 1)
  appended_counted answer answer' n left h =
      let l = count_records_left longer answer answer' n left (rs ++ r ∷ []) longer_reads h in
      (l.0, ap (λ (l : List ℕ). get_or l 0 0) l.1 ∙ length-append rs (r ∷ []) ∙ sym (ap (λ (k : ℕ). k + 1) number))

  -- at the place that was their number it has the record,
  pub appended_found : (answer answer' : List ℕ) (n : ℕ) → LeavesOutcome (record_found longer (get_or count' 0 0) (length answer)) answer answer' n → 5 ≤ length answer
      → (n ≡ 0) × (take 5 answer' ≡ record_words r)
  appended_found answer answer' n left h =
      let l = record_at_left longer (get_or count' 0 0) answer answer' n left r longer_last h in
      (l.0, ap (take 5) l.1)

  -- at every earlier place what it had,
  pub appended_earlier : (place : ℕ) → place < get_or count' 0 0 → (answer before behind : List ℕ) (m n : ℕ)
      → LeavesOutcome (record_found file place (length answer)) answer before m → LeavesOutcome (record_found longer place (length answer)) answer behind n → (m ≡ n) × (before ≡ behind)
  unfolding record_found
  appended_earlier place h answer before behind m n former now =
      let same = ap (λ (o : Outcome Record). unless_short 5 (length answer) (map_outcome record_words o)) (longer_earlier place h) in
      let l = leaves_told _ (record_found file place (length answer)) answer behind n now same in
      (former.number ∙ sym l.0, former.words ∙ sym l.1)

  -- and so has `cuttings_current_record` of every other id,
  pub appended_other : (other : ℕ) → (r.id ≡ other → ⊥) → (answer before behind : List ℕ) (m n : ℕ)
      → LeavesOutcome (current_found file other (length answer)) answer before m → LeavesOutcome (current_found longer other (length answer)) answer behind n → (m ≡ n) × (before ≡ behind)
  unfolding current_found
  appended_other other ne answer before behind m n former now =
      let same = ap (λ (o : Outcome Record). unless_short 5 (length answer) (map_outcome record_words o)) (longer_other other ne) in
      let l = leaves_told _ (current_found file other (length answer)) answer behind n now same in
      (former.number ∙ sym l.0, former.words ∙ sym l.1)

  module _ (answer before behind : List ℕ) (m n : ℕ) (five : 5 ≤ length answer)
      (former : LeavesOutcome (current_found file r.id (length answer)) answer before m) (now : LeavesOutcome (current_found longer r.id (length answer)) answer behind n) where
    -- and `cuttings_current_record` of its id gives the record where it gave none before, or one whose year and revision are not higher,
    pub appended_current : (m ≡ 14) ⊎ ((m ≡ 0) × NotBelowWords r before) → (n ≡ 0) × (take 5 behind ≡ record_words r)
    appended_current h =
        let l = current_record_left longer r.id answer behind n now r (longer_current (λ c e. not_below c e h)) five in
        (l.0, ap (take 5) l.1)
      where
        not_below : (c : Record) → current_record file r.id ≡ answered c → (m ≡ 14) ⊎ ((m ≡ 0) × NotBelowWords r before) → NotBelow r c
        not_below c e (inl z) = let g = (current_record_left file r.id answer before m former c e five).0 in absurd (omega arith)
        not_below c e (inr z) = subst (NotBelowWords r) (current_record_left file r.id answer before m former c e five).1 z.1

    -- and else what it gave before.
    pub appended_below : m ≡ 0 → (NotBelowWords r before → ⊥) → (n ≡ 0) × (behind ≡ before)
    appended_below z below =
        let g = (current_record_returns file r.id answer before m former).0 z in
        let stays = longer_below g.1 g.2 (λ h. below (subst (NotBelowWords r) (sym g.3) h)) in
        let l = current_record_left longer r.id answer behind n now g.1 stays five in
        (l.0, l.1 ∙ sym g.3)
