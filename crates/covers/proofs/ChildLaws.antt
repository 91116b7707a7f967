-- Laws of child sequences and placing sequences: the step from a board to its child lays the piece `step_piece`, so the child sequences from a board
-- to the full board correspond to its placing sequences. No pruning condition. Rests on `Counts`, `Setting` and `NumberingLaws`. Assumes nothing.
use Rattle.std.specs.Prelude.{◌≡◌, refl, ℕ, suc, ◌<◌, ◌≤◌, ◌+◌, length}
use Rattle.std.proofs.Common.{sym, ap, ap₂, subst, ◌∙◌, arith}
use Rattle.std.proofs.Math.Bool.{So}
use mathlib.Core.List.Memᴰ.{cast}
use mathlib.Core.List.Memᴰ.{map as mem-map}
use mathlib.Core.List.Memᴰ.{of_map}
use mathlib.Core.List.{List, [], ◌∷◌, nil≢cons, cons≢nil, head-eq_of_cons-eq, tail-eq_of_cons-eq, Memᴰ as Mem}
use Rattle.cells.specs.FirstsLaws.{Once}
use Rattle.cells.specs.MemberLaws.{once_map}
use Rattle.covers.specs.Counts.{Numbering, Steps, ChildSequence, pieces_from, pieces_of}
use Rattle.covers.specs.Setting.{Setting, Laws, FitsOn, child_boards, PlacingSequence, EqualSteps}
use Rattle.covers.proofs.NumberingLaws.{carry}

-- a list of boards has one board more than steps
length_pieces_from : {B P : Type 0} (step : B → B → P) (t : B) (us : List B) → length (pieces_from step t us) ≡ length us
length_pieces_from step t [] = refl
length_pieces_from step t (u ∷ us) = ap suc (length_pieces_from step u us)

pub length_pieces_of : {B P : Type 0} (step : B → B → P) (ts : List B) → length ts ≤ length (pieces_of step ts) + 1
length_pieces_of step [] = omega arith
length_pieces_of step (t ∷ ts) = omega (arith, length_pieces_from step t ts)

module _ {B P : Type 0} (G : Setting B P) (L : Laws G) where
  -- ---- a child

  -- a piece of a board is the piece of the step that lays it
  piece_step : (s : B) (p : P) → G.Ok s → Mem p (G.pieces s) → G.step_piece s (G.lay s p) ≡ p
  piece_step s p ok m = L.lay_step s p ok (L.piece_fits s p ok m)

  -- the piece of the step to a child is one of the board's pieces, and to lay it gives the child
  pub child_fits : (s t : B) → G.Ok s → Mem t (child_boards G s)
      → FitsOn G s (G.step_piece s t) × (G.lay s (G.step_piece s t) ≡ t) × Mem (G.step_piece s t) (G.pieces s)
  child_fits s t ok m =
      let r = of_map (G.lay s) (G.pieces s) m in
      let e : G.step_piece s t ≡ r.0 = ap (G.step_piece s) (sym r.2) ∙ piece_step s r.0 ok r.1 in
      let k = cast e r.1 in
      (L.piece_fits s (G.step_piece s t) ok k, ap (G.lay s) e ∙ r.2, k)

  pub child_ok : (s t : B) → G.Ok s → Mem t (child_boards G s) → G.Ok t
  child_ok s t ok m = let r = child_fits s t ok m in subst G.Ok r.1 (L.lay_ok s (G.step_piece s t) ok r.0)

  -- the children are distinct
  pub child_once : (s : B) → G.Ok s → Once (child_boards G s)
  child_once s ok =
      once_map (G.lay s) (G.pieces s) (λ p q m k e. sym (piece_step s p ok m) ∙ ap (G.step_piece s) e ∙ piece_step s q ok k) (L.piece_once s ok)

  -- a child has fewer free cells
  pub child_cell : (s t : B) → G.Ok s → Mem t (child_boards G s) → G.free_count t < G.free_count s
  child_cell s t ok m =
      let r = child_fits s t ok m in subst (λ (z : B). G.free_count z < G.free_count s) r.1 (L.lay_count s (G.step_piece s t) ok r.0)

  pub child_equal : (a : ℕ) → EqualSteps G a → (s t : B) → G.Ok s → Mem t (child_boards G s) → G.free_count t + a ≡ G.free_count s
  child_equal a E s t ok m =
      let r = child_fits s t ok m in subst (λ (u : B). G.free_count u + a ≡ G.free_count s) r.1 (E s (G.step_piece s t) ok r.0)

  -- ---- sequences

  -- a placing sequence is made of the steps of a child sequence to a full board
  pub sequence_children : (s : B) (ps : List P) → G.Ok s → PlacingSequence G s ps
      → (v : B) × (xs : List B) × G.Ok v × So (G.full v) × ChildSequence (child_boards G) s v xs × (pieces_of G.step_piece xs ≡ ps)
  sequence_children s ps ok r = let k = go s ps ok r in (k.0, s ∷ k.1, k.2, k.3, (refl, k.4), k.5)
    where
      go : (s : B) (ps : List P) → G.Ok s → PlacingSequence G s ps
          → (v : B) × (xs : List B) × G.Ok v × So (G.full v) × Steps (λ s t. Mem t (child_boards G s)) s xs v × (pieces_from G.step_piece s xs ≡ ps)
      go s [] ok r = (s, [], ok, r, refl, refl)
      go s (p ∷ ps) ok r =
          let k = go (G.lay s p) ps (L.lay_ok s p ok (L.piece_fits s p ok r.0)) r.1 in
          (k.0, G.lay s p ∷ k.1, k.2, k.3, (mem-map (G.lay s) r.0, k.4), ap₂ ◌∷◌ (piece_step s p ok r.0) k.5)

  module _ (v : B) where
    abbrev Way : B → List B → Type 0
    Way s xs = Steps (λ s t. Mem t (child_boards G s)) s xs v

    -- the pieces of steps over children to a full board are a placing sequence
    steps_sequence : (s : B) (xs : List B) → G.Ok s → So (G.full v) → Way s xs → PlacingSequence G s (pieces_from G.step_piece s xs)
    steps_sequence s [] ok h w = subst (λ (z : B). So (G.full z)) (sym w) h
    steps_sequence s (t ∷ xs) ok h w =
        let r = child_fits s t ok w.0 in
        (r.2, subst (λ (z : B). PlacingSequence G z (pieces_from G.step_piece t xs)) (sym r.1) (steps_sequence t xs (child_ok s t ok w.0) h w.1))

    -- two child sequences with the same pieces are one
    steps_unique : (s : B) (xs ys : List B) → G.Ok s → Way s xs → Way s ys → pieces_from G.step_piece s xs ≡ pieces_from G.step_piece s ys → xs ≡ ys
    steps_unique s [] [] ok a b e = refl
    steps_unique s [] (y ∷ ys) ok a b e = absurd (nil≢cons e)
    steps_unique s (x ∷ xs) [] ok a b e = absurd (cons≢nil e)
    steps_unique s (x ∷ xs) (y ∷ ys) ok a b e =
        let h : x ≡ y = sym (child_fits s x ok a.0).1 ∙ ap (G.lay s) (head-eq_of_cons-eq e) ∙ (child_fits s y ok b.0).1 in
        ap₂ ◌∷◌ h
        (steps_unique x xs ys (child_ok s x ok a.0) a.1 (subst (λ (z : B). Way z ys) (sym h) b.1)
        (tail-eq_of_cons-eq e ∙ ap (λ (z : B). pieces_from G.step_piece z ys) (sym h)))

  -- and so are those of the child sequence
  pub children_sequence : (s v : B) (xs : List B) → G.Ok s → So (G.full v) → ChildSequence (child_boards G) s v xs → PlacingSequence G s (pieces_of G.step_piece xs)
  children_sequence s v [] ok h w = absurd w
  children_sequence s v (x ∷ xs) ok h w =
      subst (λ (z : B). PlacingSequence G z (pieces_from G.step_piece x xs)) w.0 (steps_sequence v x xs (subst G.Ok (sym w.0) ok) h w.1)

  -- so a numbering of the child sequences to the full board is one of the placing sequences
  pub sequences_numbered : {n : ℕ} {f : ℕ → List B} (s v : B) → G.Ok s → G.Ok v → So (G.full v)
      → Numbering (ChildSequence (child_boards G) s v) n f → Numbering (PlacingSequence G s) n (λ m. pieces_of G.step_piece (f m))
  sequences_numbered s v ok okv h F = carry (pieces_of G.step_piece) (λ xs. children_sequence s v xs ok h) inj onto F
    where
      inj : (xs ys : List B) → ChildSequence (child_boards G) s v xs → ChildSequence (child_boards G) s v ys → pieces_of G.step_piece xs ≡ pieces_of G.step_piece ys → xs ≡ ys
      inj [] ys w u e = absurd w
      inj (x ∷ xs) [] w u e = absurd u
      inj (x ∷ xs) (y ∷ ys) w u e =
          let k : x ≡ y = w.0 ∙ sym u.0 in
          ap₂ ◌∷◌ k
          (steps_unique v x xs ys (subst G.Ok (sym w.0) ok) w.1 (subst (λ (z : B). Way v z ys) (sym k) u.1)
          (e ∙ ap (λ (z : B). pieces_from G.step_piece z ys) (sym k)))

      onto : (ps : List P) → PlacingSequence G s ps → (xs : List B) × ChildSequence (child_boards G) s v xs × (pieces_of G.step_piece xs ≡ ps)
      onto ps r =
          let k = sequence_children s ps ok r in
          (k.1, subst (λ (z : B). ChildSequence (child_boards G) s z k.1) (L.full_one k.0 v k.2 okv k.3 h) k.4, k.5)
