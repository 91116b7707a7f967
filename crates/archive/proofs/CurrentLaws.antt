-- Laws of the current record: what `current_among` tells is the current record in words (`among_told`), of which there is one (`current_once`), and so is what
-- `current_record` answers; what one record more changes. Rests on `PlaceLaws`, `OutcomeLaws` and `BrokenLaws`. Assumes nothing.
use Rattle.std.specs.Prelude.{◌≡◌, refl, ◌↔◌, Bool, true, false, cond, ◌&&◌, ◌||◌, ℕ, ◌≤◌, eqb, leb, ltb, length, Option, None, Some}
use Rattle.std.proofs.Common.{sym, ap, ◌∙◌, subst, inl, inr, ⊎_elim, arith, eq-eqb, eqb-true, leb-true, leb-false, le-leb, lt-ltb, ltb-true, ltb-false, ne_eqb}
use mathlib.Core.List.{List, [], ◌∷◌, ◌++◌, append-nil, Memᴰ as Mem}
use Rattle.std.proofs.lemmas.Bool.{eqb-false}
use Rattle.std.specs.List.{slice_get}
use Rattle.std.proofs.Math.Seq.{append_snoc}
use Rattle.archive.specs.declared.Record.{Record}
use Rattle.archive.specs.Archive.{answered, refused_by, or_absent, records_of, replaces, current_of, current_among, current_record}
use Rattle.archive.specs.Records.{IsCurrent, NotBelow}
use Rattle.archive.specs.OutcomeLaws.{bind_answered, bind_refused_by, or_absent_answered, or_absent_refused_by}
use Rattle.archive.specs.PlaceLaws.{at_mem, mem_at, at_below, at_kept, at_seam, at_cases}
use Rattle.archive.proofs.BrokenLaws.{never_absent}

-- ---- another id

-- a record of another id changes nothing
pub other_kept : (id : ℕ) (o : Option Record) (y : Record) → (y.id ≡ id → ⊥) → current_of id o y ≡ o
unfolding current_of
other_kept id None y ne = rw (ne_eqb y.id id ne)
other_kept id (Some c) y ne = rw (ne_eqb y.id id ne)

-- ---- the order of two records

-- a record counts rather than one before it exactly if its year and revision are not below
pub replaces_iff : (r s : Record) → (replaces r s ≡ true) ↔ NotBelow r s
unfolding replaces
replaces_iff r s = (λ e. into (ltb s.year r.year) refl (eqb s.year r.year) refl e, back)
  where
    into : (a : Bool) → ltb s.year r.year ≡ a → (b : Bool) → eqb s.year r.year ≡ b → (a || (b && leb s.revision r.revision)) ≡ true → NotBelow r s
    into true p b q e = inl (ltb-true s.year r.year p)
    into false p true q e = inr (eqb-true s.year r.year q, leb-true s.revision r.revision e)
    into false p false q e = absurd (let z : ◌≡◌ {A = ℕ} 0 1 = cc in omega arith)

    or_true : (a : Bool) → (a || true) ≡ true
    or_true true = refl
    or_true false = refl

    back : NotBelow r s → replaces r s ≡ true
    back (inl h) = rw (lt-ltb s.year r.year h)
    back (inr h) = rw (eq-eqb s.year r.year h.0, le-leb s.revision r.revision h.1) (or_true (ltb s.year r.year))

-- ---- one record more

-- no record of a list is of the id
abbrev pub NoneOf : ℕ → List Record → Type 0
NoneOf id rs = (p : ℕ) (s : Record) → slice_get rs p ≡ Some s → s.id ≡ id → ⊥

module _ (id : ℕ) (rs : List Record) (y : Record) where
  -- what holds of all records of the id and of one more
  also : {P : ℕ → Record → Type 0} → ((p : ℕ) (s : Record) → slice_get rs p ≡ Some s → s.id ≡ id → P p s) → (y.id ≡ id → P (length rs) y)
      → (p : ℕ) (s : Record) → slice_get (rs ++ y ∷ []) p ≡ Some s → s.id ≡ id → P p s
  also {P} old new p s e i = ⊎_elim (λ q. old p s q i) (λ q. at q.0 q.1) (at_cases rs y p s e)
    where
      at : p ≡ length rs → y ≡ s → P p s
      at q t = subst (λ (k : ℕ). P k s) (sym q) (subst (P (length rs)) t (new (ap (λ (x : Record). x.id) t ∙ i)))

  -- one of another id changes nothing where none is of the id,
  pub none_goes_on : NoneOf id rs → (y.id ≡ id → ⊥) → NoneOf id (rs ++ y ∷ [])
  none_goes_on h k = also {P = λ p s. ⊥} h k

  -- and one of the id is the current one there
  pub current_first : NoneOf id rs → y.id ≡ id → IsCurrent id (rs ++ y ∷ []) (length rs) y
  current_first h i =
      record {
        there = at_seam rs y [];
        of_id = i;
        year = also {P = λ p s. s.year ≤ y.year} (λ p s e j. absurd (h p s e j)) (λ j. omega arith);
        revision = also {P = λ p s. s.year ≡ y.year → s.revision ≤ y.revision} (λ p s e j. absurd (h p s e j)) (λ j k. omega arith);
        last = also {P = λ p s. s.year ≡ y.year → s.revision ≡ y.revision → p ≤ length rs} (λ p s e j. absurd (h p s e j)) (λ j k l. omega arith);
      }

  module _ (place : ℕ) (c : Record) (current : IsCurrent id rs place c) where
    -- one that is not below the current record takes its place,
    pub current_taken : y.id ≡ id → NotBelow y c → IsCurrent id (rs ++ y ∷ []) (length rs) y
    current_taken i h =
        record {
          there = at_seam rs y [];
          of_id = i;
          year = also {P = λ p s. s.year ≤ y.year} (λ p s e j. years h (current.year p s e j)) (λ j. omega arith);
          revision = also {P = λ p s. s.year ≡ y.year → s.revision ≤ y.revision} (λ p s e j k. revisions s h (current.year p s e j) (current.revision p s e j) k) (λ j k. omega arith);
          last = also {P = λ p s. s.year ≡ y.year → s.revision ≡ y.revision → p ≤ length rs} (λ p s e j k l. let b = at_below rs p s e in omega arith) (λ j k l. omega arith);
        }
      where
        years : {n : ℕ} → NotBelow y c → n ≤ c.year → n ≤ y.year
        years (inl h) g = omega arith
        years (inr h) g = omega arith

        revisions : (s : Record) → NotBelow y c → s.year ≤ c.year → (s.year ≡ c.year → s.revision ≤ c.revision) → s.year ≡ y.year → s.revision ≤ y.revision
        revisions s (inl h) g k e = absurd (omega arith)
        revisions s (inr h) g k e = let l = k (e ∙ sym h.0) in omega arith

    -- which else stays current
    pub current_stays : (y.id ≡ id → NotBelow y c → ⊥) → IsCurrent id (rs ++ y ∷ []) place c
    current_stays under =
        record {
          there = at_kept rs (y ∷ []) place c current.there;
          of_id = current.of_id;
          year = also {P = λ p s. s.year ≤ c.year} current.year (λ i. years (ltb c.year y.year) refl (under i));
          revision = also {P = λ p s. s.year ≡ c.year → s.revision ≤ c.revision} current.revision (λ i e. revisions (leb c.revision y.revision) refl e (under i));
          last = also {P = λ p s. s.year ≡ c.year → s.revision ≡ c.revision → p ≤ place} current.last (λ i e f. absurd (under i (inr (sym e, omega arith))));
        }
      where
        years : (t : Bool) → ltb c.year y.year ≡ t → (NotBelow y c → ⊥) → y.year ≤ c.year
        years true q under = absurd (under (inl (ltb-true c.year y.year q)))
        years false q under = ltb-false c.year y.year q

        revisions : (t : Bool) → leb c.revision y.revision ≡ t → y.year ≡ c.year → (NotBelow y c → ⊥) → y.revision ≤ c.revision
        revisions true q e under = absurd (under (inr (sym e, leb-true c.revision y.revision q)))
        revisions false q e under = let l = leb-false c.revision y.revision q in omega arith

-- ---- what is told of a list

-- no record is of the id, or this one is the current one
abbrev Told : ℕ → List Record → Option Record → Type 0
Told id rs None = NoneOf id rs
Told id rs (Some r) = (place : ℕ) × IsCurrent id rs place r

told_next : (id : ℕ) (rs : List Record) (o : Option Record) (y : Record) → Told id rs o → Told id (rs ++ y ∷ []) (current_of id o y)
unfolding current_of
told_next id rs None y h = go (eqb y.id id) refl
  where
    go : (t : Bool) → eqb y.id id ≡ t → Told id (rs ++ y ∷ []) (cond t (Some y) None)
    go true e = (length rs, current_first id rs y h (eqb-true y.id id e))
    go false e = none_goes_on id rs y h (eqb-false y.id id e)
told_next id rs (Some c) y h = go (eqb y.id id) refl (replaces y c) refl
  where
    go : (t : Bool) → eqb y.id id ≡ t → (u : Bool) → replaces y c ≡ u → Told id (rs ++ y ∷ []) (cond (t && u) (Some y) (Some c))
    go true e true f = (length rs, current_taken id rs y h.0 c h.1 (eqb-true y.id id e) ((replaces_iff y c).0 f))
    go true e false f =
        (h.0, current_stays id rs y h.0 c h.1 (λ i b. let g = (replaces_iff y c).1 b in let z : ◌≡◌ {A = ℕ} 0 1 = cc in omega arith))
    go false e u f = (h.0, current_stays id rs y h.0 c h.1 (λ i b. eqb-false y.id id e i))

told_all : (id : ℕ) (rs : List Record) (o : Option Record) (behind : List Record) → Told id rs o → Told id (rs ++ behind) (current_among id o behind)
unfolding current_among
told_all id rs o [] h = rw (append-nil rs) h
told_all id rs o (y ∷ behind) h =
    rw (append_snoc rs y behind) at (told_all id (rs ++ y ∷ []) (current_of id o y) behind (told_next id rs o y h))

among_told : (id : ℕ) (rs : List Record) → Told id rs (current_among id None rs)
among_told id rs = told_all id [] None rs (λ p s e i. let z : ◌≡◌ {A = ℕ} 0 1 = cc in omega arith)

-- ---- the current record

-- a list has one current record of an id, at one place
pub current_once : (id : ℕ) (rs : List Record) (p q : ℕ) (r s : Record) → IsCurrent id rs p r → IsCurrent id rs q s → (p ≡ q) × (r ≡ s)
current_once id rs p q r s c d =
    let y : r.year ≡ s.year = omega (arith, c.year q s d.there d.of_id, d.year p r c.there c.of_id) in
    let v : r.revision ≡ s.revision = omega (arith, c.revision q s d.there d.of_id (sym y), d.revision p r c.there c.of_id y) in
    let place : p ≡ q = omega (arith, c.last q s d.there d.of_id (sym y) (sym v), d.last p r c.there c.of_id y v) in
    let same : Some r ≡ Some s = sym c.there ∙ ap (slice_get rs) place ∙ d.there in
    (place, cc)

-- the record that is told is the current one,
pub among_some : (id : ℕ) (rs : List Record) (r : Record) → (current_among id None rs ≡ Some r) ↔ ((place : ℕ) × IsCurrent id rs place r)
among_some id rs r = (λ e. subst (Told id rs) e (among_told id rs), λ c. go (current_among id None rs) (among_told id rs) c.0 c.1)
  where
    go : (o : Option Record) → Told id rs o → (place : ℕ) → IsCurrent id rs place r → o ≡ Some r
    go None h place c = absurd (h place r c.there c.of_id)
    go (Some s) h place c = ap Some (current_once id rs h.0 place s r h.1 c).1

-- and none is told where none is of the id
pub among_none : (id : ℕ) (rs : List Record) → (current_among id None rs ≡ None) ↔ NoneOf id rs
among_none id rs = (λ e. subst (Told id rs) e (among_told id rs), λ h. go (current_among id None rs) (among_told id rs) h)
  where
    go : (o : Option Record) → Told id rs o → NoneOf id rs → o ≡ None
    go None c h = refl
    go (Some s) c h = absurd (h c.0 s c.1.there c.1.of_id)

-- ---- the call

-- the record that `current_record` answers is the current one of the file's records,
pub current_iff : (file : List ℕ) (id : ℕ) (r : Record)
    → (current_record file id ≡ answered r) ↔ ((rs : List Record) × (place : ℕ) × (records_of file ≡ answered rs) × IsCurrent id rs place r)
unfolding current_record
current_iff file id r =
    let b = bind_answered (records_of file) (λ rs. or_absent (current_among id None rs)) r in (
      λ e.
          let s = b.0 e in
          let c = (among_some id s.0 r).0 ((or_absent_answered (current_among id None s.0) r).0 s.2) in
          (s.0, c.0, s.1, c.1),
      λ s. b.1 (s.0, s.2, (or_absent_answered (current_among id None s.0) r).1 ((among_some id s.0 r).1 (s.1, s.3))),
    )

-- and it answers 14 where a sound file has none of the id
pub current_absent : (file : List ℕ) (id : ℕ)
    → (current_record file id ≡ refused_by 14) ↔ ((rs : List Record) × (records_of file ≡ answered rs) × ((r : Record) → Mem r rs → r.id ≡ id → ⊥))
unfolding current_record
current_absent file id =
    let b = bind_refused_by (records_of file) (λ rs. or_absent (current_among id None rs)) 14 (never_absent file 14) in (
      λ e.
          let s = b.0 e in
          let h = (among_none id s.0).0 ((or_absent_refused_by (current_among id None s.0)).0 s.2) in
          (s.0, s.1, λ r m i. let p = mem_at s.0 r m in h p.0 r p.1 i),
      λ s. b.1 (s.0, s.1, (or_absent_refused_by (current_among id None s.0)).1 ((among_none id s.0).1 (λ p r e i. s.2 r (at_mem s.0 p r e) i))),
    )
