-- Laws of refusals and answers: every refusal has a number above 0; an answer with a refusal's number is that refusal; what `map_answer` and `bind_answer` answer;
-- which numbers an answer is refused by (`Refuses`). Assumes nothing.
use Rattle.std.specs.Prelude.{◌≡◌, ◌↔◌, Bool, true, false, cond, ℕ, suc, ◌<◌, Result, Ok, Err, IsOk, ⊤}
use Rattle.std.proofs.Common.{◌∙◌}
use Rattle.std.proofs.Math.Path.{refl, ap}
use Rattle.std.proofs.Common.{sym, subst, arith, lit<}
use Rattle.refusal.specs.declared.Refusal.{Refusal}
use Rattle.refusal.specs.declared.Refusal.TheVariants as R
use Rattle.refusal.specs.Refusal.{Answer, refused, given, map_answer, bind_answer, refusal_number, refusal_of, value_or, answer_of, verdict_number}

pub refusal_number_pos : (r : Refusal) → 0 < refusal_number r
refusal_number_pos R.Cut = lit< tt
refusal_number_pos R.UnknownMark = lit< tt
refusal_number_pos R.Misplaced = lit< tt
refusal_number_pos R.BadBoard = lit< tt
refusal_number_pos R.BadTile = lit< tt
refusal_number_pos R.TooManyTiles = lit< tt
refusal_number_pos R.UnequalTiles = lit< tt
refusal_number_pos R.NoRoom = lit< tt
refusal_number_pos R.CountTooLarge = lit< tt
refusal_number_pos R.NoRoomForEdges = lit< tt
refusal_number_pos R.BadGraph = lit< tt
refusal_number_pos R.NoSuchTiling = lit< tt
refusal_number_pos R.BrokenRecord = lit< tt
refusal_number_pos R.NoSuchRecord = lit< tt
refusal_number_pos R.BadHole = lit< tt

-- an answer with a refusal's number is that refusal
pub refused_of : {A : Type 0} (a : Answer A) (r : Refusal) → refusal_number r ≡ refusal_of a → a ≡ refused (refusal_number r)
unfolding refusal_of
refused_of (refused n) r e = ap refused (sym e)
refused_of (given x) r e = absurd (omega (arith, refusal_number_pos r))

-- no answer is both refused and accepted
pub clash : {A : Type 0} (a : Answer A) {n : ℕ} → a ≡ refused (suc n) → 0 ≡ refusal_of a → ⊥
unfolding refusal_of
clash a e z = omega (arith, ap refusal_of e)

-- no refusal is a value
pub refused_given : {A : Type 0} (n : ℕ) (a : A) → refused n ≡ given a → ⊥
unfolding refusal_of bind_answer
refused_given {A} n a e = let z : n ≡ suc n = ap (λ (x : Answer A). refusal_of (bind_answer {A = A} {B = A} x (λ y. refused (suc n)))) e in omega arith

-- an answer has one value, or one number
pub given_inj : {A : Type 0} (x y : A) → given x ≡ given y → x ≡ y
unfolding value_or
given_inj x y e = ap (value_or x) e

pub refused_inj : {A : Type 0} (n m : ℕ) → ◌≡◌ {A = Answer A} (refused n) (refused m) → n ≡ m
unfolding refusal_of
refused_inj n m e = ap refusal_of e

-- ---- what calls answer

module _ {A : Type 0} where
  -- a value that is answered
  pub ok_of_given : (r : Result A Refusal) (x : A) → answer_of r ≡ given x → r ≡ Ok x
  ok_of_given (Ok y) x e = ap Ok (given_inj y x e)
  ok_of_given (Err f) x e = absurd (refused_given (refusal_number f) x e)

  -- where a value is given there is no refusal
  pub is_ok_given : (r : Result A Refusal) (x : A) → answer_of r ≡ given x → IsOk r
  is_ok_given (Ok y) x e = refl
  is_ok_given (Err f) x e = absurd (refused_given (refusal_number f) x e)

  -- a refusal that is answered, and its number
  pub err_of_refused : (r : Result A Refusal) (n : ℕ) → answer_of r ≡ refused n → (f : Refusal) × (r ≡ Err f) × (refusal_number f ≡ n)
  err_of_refused (Ok y) n e = absurd (refused_given n y (sym e))
  err_of_refused (Err f) n e = (f, refl, refused_inj (refusal_number f) n e)

-- a test that has the number of an answer with a value is passed
pub is_ok_verdict : {A : Type 0} (r : Result ⊤ Refusal) (a : Answer A) (x : A) → verdict_number r ≡ refusal_of a → a ≡ given x → IsOk r
unfolding refusal_of
is_ok_verdict (Ok u) a x e g = refl
is_ok_verdict (Err f) a x e g = absurd (omega (arith, refusal_number_pos f, e ∙ ap refusal_of g))

-- ---- values that were put through functions

module _ {A B : Type 0} where
  -- a value that was put through f
  pub map_given : (f : A → B) (a : Answer A) (y : B) → map_answer f a ≡ given y → (x : A) × (a ≡ given x) × (f x ≡ y)
  unfolding map_answer
  map_given f (refused n) y e = absurd (refused_given n y e)
  map_given f (given x) y e = (x, refl, given_inj (f x) y e)

  -- a refusal stays what it is
  pub map_refused : (f : A → B) (a : Answer A) (n : ℕ) → (map_answer f a ≡ refused n) ↔ (a ≡ refused n)
  unfolding map_answer
  map_refused f (refused m) n = (λ e. ap refused (refused_inj m n e), λ e. ap (map_answer f) e)
  map_refused f (given x) n = (λ e. absurd (refused_given n (f x) (sym e)), λ e. ap (map_answer f) e)

  -- where a refusal came back there is no value
  pub refused_value : (f : A → B) (a : Answer A) (n : ℕ) (x : A) → refused n ≡ map_answer f a → value_or x a ≡ x
  unfolding map_answer value_or
  refused_value f (refused m) n x e = refl
  refused_value f (given y) n x e = absurd (refused_given n (f y) e)

  -- a value that f answered
  pub bind_given : (a : Answer A) (f : A → Answer B) (y : B) → bind_answer a f ≡ given y → (x : A) × (a ≡ given x) × (f x ≡ given y)
  unfolding bind_answer
  bind_given (refused n) f y e = absurd (refused_given n y e)
  bind_given (given x) f y e = (x, refl, e)

-- one function after another
pub map_map : {A B C : Type 0} (g : B → C) (f : A → B) (a : Answer A) → map_answer g (map_answer f a) ≡ map_answer (λ x. g (f x)) a
unfolding map_answer
map_map g f (refused n) = refl
map_map g f (given x) = refl

-- ---- which refusals an answer has

-- where an answer is refused, its number is one of some numbers
abbrev pub Refuses : {A : Type 0} → (ℕ → Type 0) → Answer A → Type 0
Refuses In a = (n : ℕ) → a ≡ refused n → In n

module _ {A : Type 0} (In : ℕ → Type 0) where
  pub refuses_one : (k : ℕ) → In k → Refuses {A = A} In (refused k)
  refuses_one k i n e = subst In (refused_inj k n e) i

  pub refuses_none : (x : A) → Refuses In (given x)
  refuses_none x n e = absurd (refused_given n x (sym e))

  pub refuses_cond : (t : Bool) (a b : Answer A) → Refuses In a → Refuses In b → Refuses In (cond t a b)
  refuses_cond true a b p q = p
  refuses_cond false a b p q = q

  pub refuses_bind : {B : Type 0} (a : Answer B) (f : B → Answer A) → Refuses In a → ((x : B) → Refuses In (f x)) → Refuses In (bind_answer a f)
  unfolding bind_answer
  refuses_bind (refused k) f p q = refuses_one k (p k refl)
  refuses_bind (given x) f p q = q x

  pub refuses_map : {B : Type 0} (f : B → A) (a : Answer B) → Refuses In a → Refuses In (map_answer f a)
  unfolding map_answer
  refuses_map f (refused k) p = refuses_one k (p k refl)
  refuses_map f (given x) p = refuses_none (f x)
