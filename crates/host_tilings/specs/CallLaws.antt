-- Laws of the shapes of a result and a number, cause by cause. Rests on `Calls`. Assumes nothing.
use Rattle.refusal.specs.declared.Refusal.{Refusal}
use Rattle.std.specs.Prelude.{◌≡◌, refl, Ok, Result, ⊤, Bool, true, false, cond, ◌&&◌, List, ℕ, ◌≤◌, ◌<◌, eqb, leb, length, get_or}
use Rattle.std.proofs.Common.{sym, ap, ◌∙◌, arith}
use borrow.Author.Tests.{eq-eqb, ne_eqb, le-leb, lt-leb, eqb-true}
use Rattle.refusal.specs.Refusal.{verdict_number}
use Rattle.host_tilings.specs.Calls.{tiling_shape}

module _ (graph : List ℕ) (m answer : ℕ) where
  pub tiling_length : (length graph ≡ 4 → ⊥) → 11 ≡ tiling_shape graph m answer
  unfolding tiling_shape
  tiling_length n = rw (ne_eqb (length graph) 4 n)

  pub tiling_flag : length graph ≡ 4 → 1 < get_or graph 2 0 → 11 ≡ tiling_shape graph m answer
  unfolding tiling_shape
  tiling_flag e l = rw (eq-eqb (length graph) 4 e, lt-leb (get_or graph 2 0) 1 l)

  pub tiling_number : length graph ≡ 4 → get_or graph 2 0 ≤ 1 → (m ≡ 2 → ⊥) → 12 ≡ tiling_shape graph m answer
  unfolding tiling_shape
  tiling_number e l n = rw (eq-eqb (length graph) 4 e, le-leb (get_or graph 2 0) 1 l, ne_eqb m 2 n)

  pub tiling_answer_lem : length graph ≡ 4 → get_or graph 2 0 ≤ 1 → m ≡ 2 → answer < 1 → 8 ≡ tiling_shape graph m answer
  unfolding tiling_shape
  tiling_answer_lem e l f a = rw (eq-eqb (length graph) 4 e, le-leb (get_or graph 2 0) 1 l, eq-eqb m 2 f, lt-leb 1 answer a)

  pub tiling_right : length graph ≡ 4 → get_or graph 2 0 ≤ 1 → m ≡ 2 → 1 ≤ answer → 0 ≡ tiling_shape graph m answer
  unfolding tiling_shape
  tiling_right e l f a = rw (eq-eqb (length graph) 4 e, le-leb (get_or graph 2 0) 1 l, eq-eqb m 2 f, le-leb 1 answer a)

-- a number that is handed on has two words
pub tiling_two : (graph : List ℕ) (m answer : ℕ) (v : Result ⊤ Refusal) → verdict_number v ≡ tiling_shape graph m answer → v ≡ Ok tt → m ≡ 2
unfolding tiling_shape
tiling_two graph m answer v told e = go (eqb (length graph) 4 && leb (get_or graph 2 0) 1) (eqb m 2) refl (sym told ∙ ap verdict_number e)
  where
    go : (g b : Bool) → eqb m 2 ≡ b → ◌≡◌ {A = ℕ} (cond g (cond b (cond (leb 1 answer) 0 8) 12) 11) 0 → m ≡ 2
    go true true q z = eqb-true m 2 q
    go true false q z = absurd (omega (arith, z))
    go false b q z = absurd (omega (arith, z))
