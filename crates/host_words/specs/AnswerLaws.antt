-- Laws of answers in words: what is told of a value and of a refusal; and an answer where the shapes are right, or not.
-- Rests on `Layout`, refusal's `RefusalLaws` and graph's `GraphLaws`. Assumes nothing.
use Rattle.std.specs.Prelude.{◌≡◌, refl, Result, Ok, Err, ⊤, List, [], ◌∷◌, ℕ, length, replicate}
use Rattle.std.proofs.Common.{sym, ap, subst, ◌∙◌, arith, eq-eqb, ne_eqb}
use Rattle.cells.specs.ArrayLaws.{padded_empty, padded_zero}
use Rattle.cells.specs.Parts.{cleared_from}
use Rattle.cells.specs.Lists.{padded}
use Rattle.refusal.specs.declared.Refusal.{Refusal}
use Rattle.refusal.specs.Refusal.{Answer, refused, given, map_answer, refusal_number, refusal_of, value_or, verdict_number}
use Rattle.refusal.specs.RefusalLaws.{refusal_number_pos, map_given}
use Rattle.graph.proofs.GraphLaws.{cleared_numbers}
use Rattle.host_words.specs.Layout.{unless, AnswersWords}

-- ---- words in order

pub numbers_none : (count : ℕ) → padded (0 ∷ 0 ∷ 0 ∷ 0 ∷ []) count ≡ padded [] count
numbers_none count = padded_zero (0 ∷ 0 ∷ 0 ∷ []) count ∙ padded_zero (0 ∷ 0 ∷ []) count ∙ padded_zero (0 ∷ []) count ∙ padded_zero [] count

pub numbers_two : (a b count : ℕ) → padded (a ∷ b ∷ 0 ∷ 0 ∷ []) count ≡ padded (a ∷ b ∷ []) count
numbers_two a b count = padded_zero (a ∷ b ∷ 0 ∷ []) count ∙ padded_zero (a ∷ b ∷ []) count

pub numbers_one : (a count : ℕ) → padded (a ∷ 0 ∷ 0 ∷ 0 ∷ []) count ≡ padded (a ∷ []) count
numbers_one a count = numbers_two a 0 count ∙ padded_zero (a ∷ []) count

-- words that are cleared hold nothing
pub cleared_none : (ws ws' : List ℕ) → ws' ≡ cleared_from 0 ws → ws' ≡ padded [] (length ws)
cleared_none ws ws' e = e ∙ cleared_numbers ws [] (omega arith) (λ i h. absurd (omega arith))

-- ---- values and refusals

pub tells_given : (ns old new : List ℕ) → new ≡ padded ns (length old) → AnswersWords (given ns) old new 0
unfolding refusal_of value_or
tells_given ns old new e = record { number = refl; words = e }

pub tells_refused : (q : Refusal) (old new : List ℕ) (r : ℕ) → new ≡ replicate (length old) 0 → r ≡ refusal_number q → AnswersWords (refused (refusal_number q)) old new r
unfolding refusal_of value_or
tells_refused q old new r e n = record { number = n; words = e ∙ sym (padded_empty (length old)) }

module _ {A : Type 0} (old new : List ℕ) (r : ℕ) where
  -- the words of a value
  pub tells_value : (f : A → List ℕ) (a : Answer A) (x : A) (ns : List ℕ) → a ≡ given x → padded ns (length old) ≡ padded (f x) (length old) → AnswersWords (given ns) old new r → AnswersWords (map_answer f a) old new r
  unfolding map_answer refusal_of value_or
  tells_value f a x ns e w t =
      subst (λ (y : Answer A). AnswersWords (map_answer f y) old new r) (sym e) (record { number = t.number; words = t.words ∙ w })

  -- a number that was made of the value
  pub tells_one : (f : A → ℕ) (a : Answer A) (n : ℕ) → given n ≡ map_answer f a → AnswersWords (given (n ∷ [])) old new r → AnswersWords (map_answer (λ x. f x ∷ []) a) old new r
  tells_one f a n e t =
      let m = map_given f a n (sym e) in
      tells_value (λ x. f x ∷ []) a m.0 (n ∷ []) m.1
      (ap (λ (k : ℕ). padded (k ∷ []) (length old)) (sym m.2)) t

  pub tells_no : (f : A → List ℕ) (a : Answer A) (q : Refusal) → a ≡ refused (refusal_number q) → AnswersWords (refused (refusal_number q)) old new r → AnswersWords (map_answer f a) old new r
  unfolding map_answer refusal_of value_or
  tells_no f a q e t = subst (λ (y : Answer A). AnswersWords (map_answer f y) old new r) (sym e) (record { number = t.number; words = t.words })

-- the words of a struct whose verdict tells no refusal: those of its value, and zeros for the value of a refusal
pub tells_struct : {A : Type 0} (old new : List ℕ) (r : ℕ) (f : A → List ℕ) (a : Answer A) (d : A) (ns : List ℕ) → 0 ≡ refusal_of a
    → padded ns (length old) ≡ padded (f (value_or d a)) (length old) → padded (f d) (length old) ≡ padded [] (length old)
    → AnswersWords (given ns) old new r → AnswersWords (map_answer f a) old new r
unfolding map_answer refusal_of value_or
tells_struct old new r f (given x) d ns e w z t = record { number = t.number; words = t.words ∙ w }
tells_struct old new r f (refused n) d ns e w z t = record { number = t.number ∙ e; words = t.words ∙ w ∙ z }

-- ---- shapes that are right, or not

-- where the shapes are right, the call below answers
pub unless_right : {A : Type 0} (n : ℕ) (a : Answer A) → n ≡ 0 → unless n a ≡ a
unfolding unless
unless_right n a e = rw (eq-eqb n 0 e)

module _ {A : Type 0} (n : ℕ) (a : Answer A) (v : Result ⊤ Refusal) (told : verdict_number v ≡ n) where
  pub unless_accepted : v ≡ Ok tt → unless n a ≡ a
  unless_accepted e = unless_right n a (sym told ∙ ap verdict_number e)

  pub unless_refused : (q : Refusal) → v ≡ Err q → unless n a ≡ refused (refusal_number q)
  unfolding unless
  unless_refused q e =
      let f : n ≡ refusal_number q = sym told ∙ ap verdict_number e in
      let z : n ≡ 0 → ⊥ = λ z. omega (arith, refusal_number_pos q) in
      rw (ne_eqb n 0 z, f)
