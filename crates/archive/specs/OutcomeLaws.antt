-- Laws of outcomes: an outcome has one value, or one number and place, and is of one kind; what `map_outcome` and `bind_outcome` answer, and when they are refused; what
-- `or_absent` answers. Rests on `Archive`. Assumes nothing.
use Rattle.std.specs.Prelude.{◌≡◌, ◌↔◌, ℕ, Option, None, Some}
use Rattle.std.proofs.Math.Path.{refl, ap}
use Rattle.std.proofs.Common.{sym, ◌∙◌, arith}
use Rattle.archive.specs.declared.Record.{Record}
use Rattle.archive.specs.Archive.{Outcome, answered, refused_at, refused_by, map_outcome, bind_outcome, or_absent}

-- ---- one outcome

module _ {A : Type 0} where
  -- an outcome has one value,
  pub answered_inj : (x y : A) → answered x ≡ answered y → x ≡ y
  answered_inj x y e = cc

  -- or one number and place
  pub refused_at_inj : (n m place other : ℕ) → ◌≡◌ {A = Outcome A} (refused_at n place) (refused_at m other) → (n ≡ m) × (place ≡ other)
  refused_at_inj n m place other e = (cc, cc)

  -- a value is no refusal with a place,
  pub answered_refused_at : (x : A) (n place : ℕ) → answered x ≡ refused_at n place → ⊥
  answered_refused_at x n place e = let z : ◌≡◌ {A = ℕ} 0 1 = cc in omega arith

  -- nor one without,
  pub answered_refused_by : (x : A) (n : ℕ) → answered x ≡ refused_by n → ⊥
  answered_refused_by x n e = let z : ◌≡◌ {A = ℕ} 0 1 = cc in omega arith

  -- and no refusal is both
  pub refused_at_refused_by : (n place m : ℕ) → ◌≡◌ {A = Outcome A} (refused_at n place) (refused_by m) → ⊥
  refused_at_refused_by n place m e = let z : ◌≡◌ {A = ℕ} 0 1 = cc in omega arith

-- ---- values that were put through functions

module _ {A B : Type 0} where
  -- a refusal with a place stays what it is
  pub map_refused_at : (f : A → B) (a : Outcome A) (n place : ℕ) → (map_outcome f a ≡ refused_at n place) ↔ (a ≡ refused_at n place)
  unfolding map_outcome
  map_refused_at f (answered x) n place = (λ e. absurd (answered_refused_at (f x) n place e), λ e. absurd (answered_refused_at x n place e))
  map_refused_at f (refused_at m other) n place = (λ e. cc, λ e. cc)
  map_refused_at f (refused_by m) n place = (λ e. absurd (refused_at_refused_by n place m (sym e)), λ e. absurd (refused_at_refused_by n place m (sym e)))

  -- also where f may refuse, but never with a place
  pub bind_refused_at : (f : A → Outcome B) (a : Outcome A) (n place : ℕ) → ((x : A) → f x ≡ refused_at n place → ⊥)
      → (bind_outcome a f ≡ refused_at n place) ↔ (a ≡ refused_at n place)
  unfolding bind_outcome
  bind_refused_at f (answered x) n place never = (λ e. absurd (never x e), λ e. absurd (answered_refused_at x n place e))
  bind_refused_at f (refused_at m other) n place never = (λ e. cc, λ e. cc)
  bind_refused_at f (refused_by m) n place never =
      (λ e. absurd (refused_at_refused_by n place m (sym e)), λ e. absurd (refused_at_refused_by n place m (sym e)))

  -- a value that f answered
  pub bind_answered : (a : Outcome A) (f : A → Outcome B) (y : B) → (bind_outcome a f ≡ answered y) ↔ ((x : A) × (a ≡ answered x) × (f x ≡ answered y))
  unfolding bind_outcome
  bind_answered (answered x) f y = (λ e. (x, refl, e), λ r. ap f (answered_inj x r.0 r.1) ∙ r.2)
  bind_answered (refused_at n place) f y =
      (λ e. absurd (answered_refused_at y n place (sym e)), λ r. absurd (answered_refused_at r.0 n place (sym r.1)))
  bind_answered (refused_by n) f y = (λ e. absurd (answered_refused_by y n (sym e)), λ r. absurd (answered_refused_by r.0 n (sym r.1)))

  -- a refusal without a place is f's, where it was not there before
  pub bind_refused_by : (a : Outcome A) (f : A → Outcome B) (n : ℕ) → (a ≡ refused_by n → ⊥)
      → (bind_outcome a f ≡ refused_by n) ↔ ((x : A) × (a ≡ answered x) × (f x ≡ refused_by n))
  unfolding bind_outcome
  bind_refused_by (answered x) f n new = (λ e. (x, refl, e), λ r. ap f (answered_inj x r.0 r.1) ∙ r.2)
  bind_refused_by (refused_at m place) f n new =
      (λ e. absurd (refused_at_refused_by m place n e), λ r. absurd (answered_refused_at r.0 m place (sym r.1)))
  bind_refused_by (refused_by m) f n new = (λ e. absurd (new (cc)), λ r. absurd (answered_refused_by r.0 m (sym r.1)))

-- a value that was put through f
pub map_answered : {A B : Type 0} (f : A → B) (a : Outcome A) (y : B) → (map_outcome f a ≡ answered y) ↔ ((x : A) × (a ≡ answered x) × (f x ≡ y))
unfolding map_outcome
map_answered f (answered x) y = (λ e. (x, refl, answered_inj (f x) y e), λ s. ap answered (ap f (answered_inj x s.0 s.1) ∙ s.2))
map_answered f (refused_at n place) y = (λ e. absurd (answered_refused_at y n place (sym e)), λ s. absurd (answered_refused_at s.0 n place (sym s.1)))
map_answered f (refused_by n) y = (λ e. absurd (answered_refused_by y n (sym e)), λ s. absurd (answered_refused_by s.0 n (sym s.1)))

-- one function after another
pub map_map : {A B C : Type 0} (f : B → C) (g : A → B) (o : Outcome A) → map_outcome f (map_outcome g o) ≡ map_outcome (λ a. f (g a)) o
unfolding map_outcome
map_map f g (answered a) = refl
map_map f g (refused_at n place) = refl
map_map f g (refused_by n) = refl

-- ---- a record, or 14

-- it is the record that is there,
pub or_absent_answered : (o : Option Record) (r : Record) → (or_absent o ≡ answered r) ↔ (o ≡ Some r)
unfolding or_absent
or_absent_answered None r = (λ e. absurd (answered_refused_by r 14 (sym e)), λ e. cc)
or_absent_answered (Some s) r = (λ e. cc, λ e. cc)

-- or 14, where none is,
pub or_absent_refused_by : (o : Option Record) → (or_absent o ≡ refused_by 14) ↔ (o ≡ None)
unfolding or_absent
or_absent_refused_by None = (λ e. refl, λ e. refl)
or_absent_refused_by (Some s) = (λ e. absurd (answered_refused_by s 14 e), λ e. cc)

-- and has no place
pub or_absent_refused_at : (o : Option Record) (n place : ℕ) → or_absent o ≡ refused_at n place → ⊥
unfolding or_absent
or_absent_refused_at None n place e = refused_at_refused_by n place 14 (sym e)
or_absent_refused_at (Some s) n place e = answered_refused_at s n place e
