-- Laws of one record more: of two sound files, of which the second has one record more behind, what their calls answer. That a file with the bytes of a record behind it
-- is such a file is a law of `FileLaws`. Rests on `CurrentLaws`. Assumes nothing.
use Rattle.std.specs.Prelude.{◌≡◌, refl, ◌↔◌, Bool, true, false, List, [], ◌∷◌, ◌++◌, ℕ, ◌<◌, ltb, length, Option, None, Some}
use Rattle.std.proofs.Common.{sym, ap, ◌∙◌, inl, inr, arith, ltb-true, ltb-false}
use Rattle.std.specs.List.{slice_get}
use Rattle.archive.specs.declared.Record.{Record}
use Rattle.archive.specs.Archive.{answered, bind_outcome, or_absent, records_of, record_at, current_of, current_among, current_record}
use Rattle.archive.specs.Records.{IsCurrent, NotBelow}
use Rattle.archive.specs.OutcomeLaws.{or_absent_answered}
use Rattle.archive.specs.PlaceLaws.{at_earlier, at_seam, at_kept}
use Rattle.archive.proofs.CurrentLaws.{other_kept, current_first, current_taken, current_stays, among_some, among_none, current_iff}

-- ---- the calls on a sound file

module _ (file : List ℕ) (rs : List Record) (sound : records_of file ≡ answered rs) where
  -- the record at a place of its list,
  pub record_at_sound : (place : ℕ) → record_at file place ≡ or_absent (slice_get rs place)
  unfolding record_at bind_outcome
  record_at_sound place = rw sound

  -- and the one that counts among its list
  pub current_record_sound : (id : ℕ) → current_record file id ≡ or_absent (current_among id None rs)
  unfolding current_record bind_outcome
  current_record_sound id = rw sound

-- ---- which one counts with one record more

-- it is looked at last
pub among_append : (id : ℕ) (o : Option Record) (rs : List Record) (y : Record) → current_among id o (rs ++ y ∷ []) ≡ current_of id (current_among id o rs) y
unfolding current_among
among_append id o [] y = refl
among_append id o (r ∷ rs) y = among_append id (current_of id o r) rs y

-- ---- a file and a longer one

module _ (file : List ℕ) (rs : List Record) (sound : records_of file ≡ answered rs) (r : Record) (longer : List ℕ) (more : records_of longer ≡ answered (rs ++ r ∷ [])) where
  -- no earlier place changes,
  pub append_earlier : (place : ℕ) → place < length rs → record_at longer place ≡ record_at file place
  append_earlier place h =
      record_at_sound longer (rs ++ r ∷ []) more place ∙ ap or_absent (at_earlier rs (r ∷ []) place h) ∙ sym (record_at_sound file rs sound place)

  -- and the new one is at the next
  pub append_last : record_at longer (length rs) ≡ answered r
  append_last = record_at_sound longer (rs ++ r ∷ []) more (length rs) ∙ (or_absent_answered (slice_get (rs ++ r ∷ []) (length rs)) r).1 (at_seam rs r [])

  -- the current record of another id stays,
  pub append_other : (id : ℕ) → (r.id ≡ id → ⊥) → current_record longer id ≡ current_record file id
  append_other id ne =
      current_record_sound longer (rs ++ r ∷ []) more id
      ∙ ap or_absent (among_append id None rs r ∙ other_kept id (current_among id None rs) r ne)
      ∙ sym (current_record_sound file rs sound id)

  -- the current record that the file has
  former : (c : Record) → current_record file r.id ≡ answered c → (place : ℕ) × IsCurrent r.id rs place c
  former c e =
      (among_some r.id rs c).0 ((or_absent_answered (current_among r.id None rs) c).0 (sym (current_record_sound file rs sound r.id) ∙ e))

  -- the new one is current exactly if its year and revision are not below the former one's,
  pub append_current : IsCurrent r.id (rs ++ r ∷ []) (length rs) r ↔ ((c : Record) → current_record file r.id ≡ answered c → NotBelow r c)
  append_current = (λ new c e. let f = former c e in below new c f.0 f.1, λ h. go h (current_among r.id None rs) refl)
    where
      below : IsCurrent r.id (rs ++ r ∷ []) (length rs) r → (c : Record) (place : ℕ) → IsCurrent r.id rs place c → NotBelow r c
      below new c place old = by (ltb c.year r.year) refl
        where
          kept : slice_get (rs ++ r ∷ []) place ≡ Some c
          kept = at_kept rs (r ∷ []) place c old.there

          by : (t : Bool) → ltb c.year r.year ≡ t → NotBelow r c
          by true q = inl (ltb-true c.year r.year q)
          by false q =
              let same : c.year ≡ r.year = omega (arith, ltb-false c.year r.year q, new.year place c kept old.of_id) in
              inr (same, new.revision place c kept old.of_id same)

      go : ((c : Record) → current_record file r.id ≡ answered c → NotBelow r c) → (o : Option Record) → current_among r.id None rs ≡ o
          → IsCurrent r.id (rs ++ r ∷ []) (length rs) r
      go h None e = current_first r.id rs r ((among_none r.id rs).0 e) refl
      go h (Some c) e =
          let f = (among_some r.id rs c).0 e in
          current_taken r.id rs r f.0 c f.1 refl (h c ((current_iff file r.id c).1 (rs, f.0, sound, f.1)))

  -- which else stays current
  pub append_below : (c : Record) → current_record file r.id ≡ answered c → (NotBelow r c → ⊥) → current_record longer r.id ≡ answered c
  append_below c e under =
      let f = former c e in
      (current_iff longer r.id c).1 (rs ++ r ∷ [], f.0, more, current_stays r.id rs r f.0 c f.1 (λ i. under))
