-- Laws of placing sequences and cuttings. Without the pruning condition: the pieces of a placing sequence are a cutting, two sequences with the same
-- pieces are one, a board with no free cell has the empty cutting only. With it: each cutting has exactly one placing sequence.
-- Rests on `Setting` and `NumberingLaws`. Assumes nothing.
use Rattle.std.specs.Prelude.{◌≡◌, ◌↔◌, Bool, cond, ℕ, zero, suc, ◌≤◌, ◌<◌, length}
use Rattle.std.proofs.Math.Path.{refl, fun_ext}
use Rattle.std.proofs.Common.{sym, ap, ap₂, subst, ◌∙◌, ⊎_elim, arith}
use Rattle.std.proofs.Math.Bool.{true, false, So, false≢true}
use mathlib.Core.List.Memᴰ.{cases_cons}
use mathlib.Core.List.Memᴰ.{head as here}
use mathlib.Core.List.Memᴰ.{tail as there}
use mathlib.Core.List.{List, [], ◌∷◌, Memᴰ as Mem}
use Rattle.cells.specs.FirstsLaws.{Once, so_eq, holds_iff, Tells}
use Rattle.cells.specs.Lists.{holds}
use Rattle.cells.specs.MemberLaws.{no_member}
use Rattle.covers.specs.Counts.{Numbering, Exactly}
use Rattle.covers.specs.Setting.{Setting, Laws, FitsOn, CuttingOf, PlacingSequence, SoundPruning}
use Rattle.covers.proofs.NumberingLaws.{exactly_le, carry, exactly_one, one_is, one_only}

-- ---- sets of pieces

-- sets with the same elements are equal
set_ext : {P : Type 0} (X Y : P → Bool) → ((p : P) → So (X p) → So (Y p)) → ((p : P) → So (Y p) → So (X p)) → X ≡ Y
set_ext X Y to from = fun_ext (λ p. so_eq (X p) (Y p) (to p) (from p))

module _ {P : Type 0} (same : P → P → Bool) where
  -- the elements of X other than p
  unfoldable others : (P → Bool) → P → P → Bool
  others X p q = cond (same p q) false (X q)

  others_iff : Tells same → (X : P → Bool) (p q : P) → So (others X p q) ↔ (So (X q) × (q ≡ p → ⊥))
  unfolding others
  others_iff tells X p q = go (same p q) refl
    where
      go : (b : Bool) → same p q ≡ b → So (cond b false (X q)) ↔ (So (X q) × (q ≡ p → ⊥))
      go true e = (λ x. absurd (false≢true x), λ k. absurd (k.1 (sym ((tells p q).0 e))))
      go false e = (λ x. (x, λ k. false≢true (sym e ∙ (tells p q).1 (sym k))), λ k. k.0)

module _ {B P : Type 0} (G : Setting B P) (L : Laws G) where
  -- the set of a list's elements
  abbrev set : List P → P → Bool
  set ps = holds G.same_piece ps

  in_set : (ps : List P) (p : P) → So (set ps p) ↔ Mem p ps
  in_set = holds_iff G.same_piece L.piece_eq

  -- the elements of p ∷ ps
  set_cases : {A : Type 0} (p : P) (ps : List P) (q : P) → (q ≡ p → A) → (So (set ps q) → A) → So (set (p ∷ ps) q) → A
  set_cases p ps q first later x = ⊎_elim first (λ m. later ((in_set ps q).1 m)) (cases_cons ((in_set (p ∷ ps) q).0 x))

  set_first : (p : P) (ps : List P) → So (set (p ∷ ps) p)
  set_first p ps = (in_set (p ∷ ps) p).1 (here refl)

  set_later : (p : P) (ps : List P) (q : P) → So (set ps q) → So (set (p ∷ ps) q)
  set_later p ps q x = (in_set (p ∷ ps) q).1 (there ((in_set ps q).0 x))

  -- ---- pieces on a board

  -- on a board with no free cell nothing fits
  full_none : (s : B) (p : P) → G.Ok s → So (G.full s) → FitsOn G s p → ⊥
  full_none s p ok h f = let c = L.tile_cell p f.tile in (L.full_iff s ok).0 h c.0 (f.onto c.0 c.1)

  -- a board with a free cell is not full
  pub free_not_full : (s : B) (c : ℕ) → G.Ok s → So (G.free s c) → G.full s ≡ false
  free_not_full s c ok h = so_eq (G.full s) false (λ f. absurd ((L.full_iff s ok).0 f c h)) (λ e. absurd (false≢true e))

  module _ (s : B) (p : P) (ok : G.Ok s) (f : FitsOn G s p) where
    -- what fits with p laid fits without p, and shares no cell with p
    fits_before : (q : P) → FitsOn G (G.lay s p) q → FitsOn G s q
    fits_before q g = record { tile = g.tile; onto = λ c h. ((L.lay_free s p ok f c).0 (g.onto c h)).0 }

    apart : (q : P) (c : ℕ) → FitsOn G (G.lay s p) q → So (G.covers p c) → So (G.covers q c) → ⊥
    apart q c g h k = ((L.lay_free s p ok f c).0 (g.onto c k)).1 h

    -- a piece can't be laid twice
    fits_once : FitsOn G (G.lay s p) p → ⊥
    fits_once g = let c = L.tile_cell p f.tile in apart p c.0 g c.1 c.1

    -- p with a cutting of what is left is a cutting
    pub cutting_add : (ps : List P) → CuttingOf G (G.lay s p) (set ps) → CuttingOf G s (set (p ∷ ps))
    cutting_add ps u = record {
      fits = λ q x. set_cases p ps q (λ e. subst (FitsOn G s) (sym e) f) (λ y. fits_before q (u.fits q y)) x;
      exact = λ c h. go c h (G.covers p c) refl;
    }
      where
        go : (c : ℕ) → So (G.free s c) → (b : Bool) → G.covers p c ≡ b → Exactly 1 (λ (q : P). So (set (p ∷ ps) q) × So (G.covers q c))
        go c h true k =
            exactly_one p (set_first p ps, k) (λ q r. set_cases p ps q (λ e. e) (λ y. absurd (apart q c (u.fits q y) k r.1)) r.0)
        go c h false k =
            let o = u.exact c ((L.lay_free s p ok f c).1 (h, λ j. false≢true (sym k ∙ j))) in
            exactly_one (o.0 0) (set_later p ps (o.0 0) (one_is o).0, (one_is o).1)
            (λ q r.
            set_cases p ps q (λ e. absurd (false≢true (sym k ∙ ap (λ (z : P). G.covers z c) (sym e) ∙ r.1))) (λ y. one_only o q (y, r.1))
            r.0)

  module _ (s : B) (X : P → Bool) (u : CuttingOf G s X) where
    -- two pieces of a cutting that share a cell are one
    cutting_same : (p q : P) (c : ℕ) → So (X p) → So (X q) → So (G.covers p c) → So (G.covers q c) → p ≡ q
    cutting_same p q c x y h k = let o = u.exact c ((u.fits p x).onto c h) in one_only o p (x, h) ∙ sym (one_only o q (y, k))

    -- once one piece of a cutting is laid, the others are a cutting of what is left
    cutting_rest : (p : P) → G.Ok s → So (X p) → CuttingOf G (G.lay s p) (others G.same_piece X p)
    cutting_rest p ok x = record {
      fits = λ q y. let r = (other q).0 y in record {
        tile = (u.fits q r.0).tile;
        onto = λ c h. (left c).1 ((u.fits q r.0).onto c h, λ k. r.1 (cutting_same q p c r.0 x h k));
      };
      exact = λ c h.
          let o = u.exact c ((left c).0 h).0 in
          exactly_one (o.0 0)
          ((other (o.0 0)).1 ((one_is o).0, λ e. ((left c).0 h).1 (subst (λ (q : P). So (G.covers q c)) e (one_is o).1)), (one_is o).1)
          (λ q r. one_only o q (((other q).0 r.0).0, r.1));
    }
      where
        other : (q : P) → So (others G.same_piece X p q) ↔ (So (X q) × (q ≡ p → ⊥))
        other = others_iff G.same_piece L.piece_eq X p

        left : (c : ℕ) → So (G.free (G.lay s p) c) ↔ (So (G.free s c) × (So (G.covers p c) → ⊥))
        left = L.lay_free s p ok (u.fits p x)

  -- ---- a board with no free cell

  pub full_pieces : (s : B) → G.Ok s → So (G.full s) → G.pieces s ≡ []
  full_pieces s ok h = no_member (G.pieces s) (λ p m. full_none s p ok h (L.piece_fits s p ok m))

  -- its cutting is empty
  full_set : (s : B) (X : P → Bool) → G.Ok s → So (G.full s) → CuttingOf G s X → (λ p. false) ≡ X
  full_set s X ok h u = set_ext (λ p. false) X (λ p e. absurd (false≢true e)) (λ p x. absurd (full_none s p ok h (u.fits p x)))

  full_empty : (s : B) → G.Ok s → So (G.full s) → CuttingOf G s (λ p. false)
  full_empty s ok h = record { fits = λ p e. absurd (false≢true e); exact = λ c f. absurd ((L.full_iff s ok).0 h c f) }

  -- one cutting, the empty set
  pub full_cutting : (s : B) → G.Ok s → So (G.full s) → Numbering (CuttingOf G s) 1 (λ m p. false)
  full_cutting s ok h = record {
    each = λ m i. full_empty s ok h;
    once = λ m k i j e. omega arith;
    all = λ X u. (0, omega arith, full_set s X ok h u);
  }

  -- ---- without the pruning condition

  set_none : (λ (p : P). false) ≡ set []
  unfolding holds
  set_none = refl

  -- the pieces of a placing sequence are a cutting
  pub sequence_cutting : (s : B) (ps : List P) → G.Ok s → PlacingSequence G s ps → CuttingOf G s (holds G.same_piece ps)
  sequence_cutting s [] ok h = subst (CuttingOf G s) set_none (full_empty s ok h)
  sequence_cutting s (p ∷ ps) ok r =
      let f = L.piece_fits s p ok r.0 in cutting_add s p ok f ps (sequence_cutting (G.lay s p) ps (L.lay_ok s p ok f) r.1)

  -- the first piece is not among the later ones
  first_once : (s : B) (p : P) (ps : List P) → G.Ok s → PlacingSequence G s (p ∷ ps) → So (set ps p) → ⊥
  first_once s p ps ok r x =
      let f = L.piece_fits s p ok r.0 in fits_once s p ok f ((sequence_cutting (G.lay s p) ps (L.lay_ok s p ok f) r.1).fits p x)

  -- no piece of a placing sequence stands twice
  pub sequence_once : (s : B) (ps : List P) → G.Ok s → PlacingSequence G s ps → Once ps
  sequence_once s [] ok r = tt
  sequence_once s (p ∷ ps) ok r = (
    λ m. first_once s p ps ok r ((in_set ps p).1 m),
    sequence_once (G.lay s p) ps (L.lay_ok s p ok (L.piece_fits s p ok r.0)) r.1,
  )

  -- a placing sequence has no more pieces than there are free cells
  pub sequence_length : (s : B) (ps : List P) → G.Ok s → PlacingSequence G s ps → length ps ≤ G.free_count s
  sequence_length s [] ok r = omega arith
  sequence_length s (p ∷ ps) ok r =
      let f = L.piece_fits s p ok r.0 in
      let rest = sequence_length (G.lay s p) ps (L.lay_ok s p ok f) r.1 in
      omega (arith, L.lay_count s p ok f)

  -- the first piece is the one that covers the chosen cell
  first_same : (s : B) (p q : P) (ps qs : List P) → G.Ok s → PlacingSequence G s (p ∷ ps) → PlacingSequence G s (q ∷ qs)
      → set (p ∷ ps) ≡ set (q ∷ qs) → p ≡ q
  first_same s p q ps qs ok r t e =
      cutting_same s (set (q ∷ qs)) (sequence_cutting s (q ∷ qs) ok t) p q (G.chosen s) (subst (λ (X : P → Bool). So (X p)) e (set_first p ps))
      (set_first q qs) (L.piece_chosen s p ok r.0) (L.piece_chosen s q ok t.0)

  rest_within : (p : P) (ps qs : List P) → set (p ∷ ps) ≡ set (p ∷ qs) → (So (set ps p) → ⊥) → (q : P) → So (set ps q) → So (set qs q)
  rest_within p ps qs e n q x =
      set_cases p qs q (λ k. absurd (n (subst (λ (z : P). So (set ps z)) k x))) (λ y. y) (subst (λ (X : P → Bool). So (X q)) e (set_later p ps q x))

  -- two placing sequences with the same pieces are one
  pub sequence_unique : (s : B) (ps qs : List P) → G.Ok s → PlacingSequence G s ps → PlacingSequence G s qs
      → holds G.same_piece ps ≡ holds G.same_piece qs → ps ≡ qs
  sequence_unique s [] [] ok r t e = refl
  sequence_unique s [] (q ∷ qs) ok r t e = absurd (full_none s q ok r (L.piece_fits s q ok t.0))
  sequence_unique s (p ∷ ps) [] ok r t e = absurd (full_none s p ok t (L.piece_fits s p ok r.0))
  sequence_unique s (p ∷ ps) (q ∷ qs) ok r t e =
      let k = first_same s p q ps qs ok r t e in
      let t' : PlacingSequence G s (p ∷ qs) = subst (λ (z : P). PlacingSequence G s (z ∷ qs)) (sym k) t in
      let e' : set (p ∷ ps) ≡ set (p ∷ qs) = e ∙ ap (λ (z : P). set (z ∷ qs)) (sym k) in
      ap₂ ◌∷◌ k
      (sequence_unique (G.lay s p) ps qs (L.lay_ok s p ok (L.piece_fits s p ok r.0)) r.1 t'.1
      (set_ext (set ps) (set qs) (rest_within p ps qs e' (first_once s p ps ok r)) (rest_within p qs ps (sym e') (first_once s p qs ok t'))))

  -- so there are no more placing sequences than cuttings
  pub sequences_at_most : {n k : ℕ} (s : B) → G.Ok s → Exactly n (PlacingSequence G s) → Exactly k (CuttingOf G s) → n ≤ k
  sequences_at_most s ok F H = exactly_le set (λ ps r. sequence_cutting s ps ok r) (λ ps qs r t e. sequence_unique s ps qs ok r t e) F H

  -- ---- with the pruning condition

  -- a placing sequence with the pieces of X
  abbrev Found : B → (P → Bool) → Type 0
  Found s X = (ps : List P) × PlacingSequence G s ps × (holds G.same_piece ps ≡ X)

  -- the piece of X on the chosen cell first, then the others
  found_add : (s : B) (X : P → Bool) (p : P) → So (X p) → Mem p (G.pieces s) → Found (G.lay s p) (others G.same_piece X p) → Found s X
  found_add s X p x m r = (p ∷ r.0, (m, r.1), set_ext (set (p ∷ r.0)) X to (λ q y. from q y (G.same_piece p q) refl))
    where
      other : (q : P) → So (others G.same_piece X p q) ↔ (So (X q) × (q ≡ p → ⊥))
      other = others_iff G.same_piece L.piece_eq X p

      to : (q : P) → So (set (p ∷ r.0) q) → So (X q)
      to q y =
          set_cases p r.0 q (λ e. subst (λ (z : P). So (X z)) (sym e) x) (λ z. ((other q).0 (subst (λ (Y : P → Bool). So (Y q)) r.2 z)).0) y

      from : (q : P) → So (X q) → (b : Bool) → G.same_piece p q ≡ b → So (set (p ∷ r.0) q)
      from q y true e = (in_set (p ∷ r.0) q).1 (here (sym ((L.piece_eq p q).0 e)))
      from q y false e =
          set_later p r.0 q
          (subst (λ (Y : P → Bool). So (Y q)) (sym r.2) ((other q).1 (y, λ k. false≢true (sym e ∙ (L.piece_eq p q).1 (sym k)))))

  module _ (sound : SoundPruning G) where
    -- a placing sequence with the pieces of a cutting, if there is one once the piece on the chosen cell is laid
    found_from : (s : B) (X : P → Bool) → G.Ok s → CuttingOf G s X
        → ((p : P) → So (X p) → FitsOn G s p → Found (G.lay s p) (others G.same_piece X p)) → Found s X
    found_from s X ok u below = go (G.full s) refl
      where
        go : (b : Bool) → G.full s ≡ b → Found s X
        go true h = ([], h, sym set_none ∙ full_set s X ok h u)
        go false h =
            let o = u.exact (G.chosen s) (L.chosen_free s ok h) in
            let p = o.0 0 in
            let f = u.fits p (one_is o).0 in
            let m = ⊎_elim (λ m. m) (λ none. absurd (none X u)) (sound s p ok f (one_is o).1) in
            found_add s X p (one_is o).0 m (below p (one_is o).0 f)

    find : (n : ℕ) (s : B) (X : P → Bool) → G.free_count s < n → G.Ok s → CuttingOf G s X → Found s X
    find zero s X h ok u = absurd (omega arith)
    find (suc n) s X h ok u =
        found_from s X ok u (λ p x f.
        let l = L.lay_count s p ok f in
        find n (G.lay s p) (others G.same_piece X p) (omega arith) (L.lay_ok s p ok f) (cutting_rest s X u p ok x))

    -- each cutting has a placing sequence with its pieces
    pub cutting_sequence : (s : B) (X : P → Bool) → G.Ok s → CuttingOf G s X
        → (ps : List P) × PlacingSequence G s ps × (holds G.same_piece ps ≡ X)
    cutting_sequence s X ok u = find (suc (G.free_count s)) s X (omega arith) ok u

    -- and no other
    pub one_sequence : (s : B) (X : P → Bool) → G.Ok s → CuttingOf G s X
        → Exactly 1 (λ (ps : List P). PlacingSequence G s ps × (holds G.same_piece ps ≡ X))
    one_sequence s X ok u =
        let r = cutting_sequence s X ok u in
        exactly_one r.0 (r.1, r.2) (λ qs t. sequence_unique s qs r.0 ok t.0 r.1 (t.1 ∙ sym r.2))

    -- so a numbering of the placing sequences is one of the cuttings
    pub cuttings_numbered : {n : ℕ} {f : ℕ → List P} (s : B) → G.Ok s → Numbering (PlacingSequence G s) n f
        → Numbering (CuttingOf G s) n (λ m. holds G.same_piece (f m))
    cuttings_numbered s ok F =
        carry set (λ ps r. sequence_cutting s ps ok r) (λ ps qs r t e. sequence_unique s ps qs ok r t e) (λ X u. cutting_sequence s X ok u) F
