-- What the step of the code comes to: the place one step on, by what is made of the code and by sums of 64 bits. Rests on `Parts`, `PlaceLaws` and
-- direction's laws. Assumes nothing.
use Rattle.std.specs.Prelude.{◌≡◌, ℕ, ◌<◌, ◌≤◌, ℤ, pos, ◌+ℤ◌, Some, Result, Ok, Err}
use Rattle.std.specs.Result.{result_ok}
use Rattle.std.proofs.Common.{sym, ap, ap₂, ◌∙◌, subst, arith, w64, to_z, of_z, lt-ltb, le-ltb}
use Rattle.std.proofs.Math.Decide.{dec_lt}
use Rattle.std.proofs.lemmas.Int.{ints}
use lib.Signed.{mag}
use Rattle.refusal.specs.declared.Refusal.{Refusal}
use Rattle.refusal.specs.Refusal.{given}
use Rattle.refusal.specs.RefusalLaws.{refused_given, given_inj}
use Rattle.direction.specs.Direction.{Position, at, shift, step, on_code, offset_answer}
use Rattle.direction.specs.DirectionLaws.{by_code}
use Rattle.rectangle.specs.Board.{inside}
use Rattle.rectangle.specs.Parts.{place_if, place_after}
use Rattle.rectangle.proofs.PlaceLaws.{place_after_is}

step_small : (code : ℕ) → code < 8 → (mag (step code).row ≤ 1) × (mag (step code).col ≤ 1)
unfolding step
step_small =
    by_code (λ c. c < 8 → (mag (step c).row ≤ 1) × (mag (step c).col ≤ 1))
    (λ _. (omega arith, omega arith)) (λ _. (omega arith, omega arith)) (λ _. (omega arith, omega arith)) (λ _. (omega arith, omega arith))
    (λ _. (omega arith, omega arith)) (λ _. (omega arith, omega arith)) (λ _. (omega arith, omega arith)) (λ _. (omega arith, omega arith))
    (λ c h i. absurd (omega arith))

-- a small step from a small number, as the machine reads the sum back
pub step_back : (n : ℕ) (d : ℤ) → n < 16 → mag d ≤ 1 → to_z w64 (of_z w64 (to_z w64 n +ℤ to_z w64 (of_z w64 d))) ≡ pos n +ℤ d
step_back n d h k = omega (arith, ints)

-- ---- what is told of a code

module _ (code : ℕ) (r : Result (ℤ × ℤ) Refusal) (e : offset_answer r ≡ on_code code (step code)) (d f : ℤ) (q : Some (d, f) ≡ result_ok r) where
  told : given (at d f) ≡ on_code code (step code)
  told = go r e q
    where
      go : (s : Result (ℤ × ℤ) Refusal) → offset_answer s ≡ on_code code (step code) → Some (d, f) ≡ result_ok s → given (at d f) ≡ on_code code (step code)
      go (Ok (x, y)) a b = let s : (d, f) ≡ (x, y) = cc in ap (λ (z : ℤ × ℤ). given (at z.0 z.1)) s ∙ a
      go (Err x) a b = cc

  -- the code is one of the eight,
  pub told_code : code < 8
  unfolding on_code
  told_code = go (dec_lt code 8)
    where
      go : Dec (code < 8) → code < 8
      go (yes h) = h
      go (no h) = absurd (refused_given 5 (at d f) (sym (told ∙ rw (le-ltb code 8 (omega arith)))))

  -- what is told is its step,
  pub told_step : at d f ≡ step code
  unfolding on_code
  told_step = given_inj (at d f) (step code) (told ∙ rw (lt-ltb code 8 told_code))

  -- which is small,
  pub told_small : (mag d ≤ 1) × (mag f ≤ 1)
  told_small = subst (λ (p : Position). (mag p.row ≤ 1) × (mag p.col ≤ 1)) (sym told_step) (step_small code told_code)

  -- and the place one step on is that of the machine's sums
  pub moved : (w h row col : ℕ) → row < 16 → col < 16
      → place_if (inside w h) (at (to_z w64 (of_z w64 (to_z w64 row +ℤ to_z w64 (of_z w64 d)))) (to_z w64 (of_z w64 (to_z w64 col +ℤ to_z w64 (of_z w64 f)))))
      ≡ place_after w h row col code
  moved w h row col r c =
      ap₂ (λ (x y : ℤ). place_if (inside w h) (at x y)) (step_back row d r told_small.0) (step_back col f c told_small.1)
      ∙ ap (λ (p : Position). place_if (inside w h) (shift (at (pos row) (pos col)) p)) told_step
      ∙ sym (place_after_is w h row col code r c told_code)
