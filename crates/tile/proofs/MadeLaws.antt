-- Laws of the calls that make a tile: when a made tile is the answer that `MakesTile` asks for, and the codes of `l_tile` and `t_tile`. Rests on
-- `Path` and the laws of arrays. Assumes nothing.
use Rattle.std.specs.Prelude.{◌≡◌, refl, ◌&&◌, List, ◌∷◌, ◌++◌, ℕ, zero, suc, ◌+◌, ◌-◌, ◌*◌, ◌≤◌, ◌<◌, ltb, leb, length, replicate, ◌⊎◌}
use Rattle.std.proofs.Common.{sym, inl, inr, ap, ◌∙◌, arith, append_assoc, length-append, lt-ltb, le-leb}
use Rattle.std.proofs.Math.Bool.{and-false}
use Rattle.std.proofs.Math.ListN.{set}
use Rattle.std.proofs.lemmas.Bool.{lt-leb}
use Rattle.std.proofs.lemmas.List.{length-replicate, replicate-append-replicate, set-append_right}
use native.Mathlib.Numerals.{unary_clauses}
use Rattle.tile.specs.declared.Tile.{Tile}
use Rattle.refusal.specs.Refusal.{Answer, refused, given, map_answer, refusal_of, refusal_number}
use Rattle.refusal.specs.RefusalLaws.{refused_of}
use Rattle.refusal.specs.declared.Refusal.{Refusal}
use Rattle.tile.specs.Path.{Path, l_path, t_path, tile_of, of_length, l_tile, t_tile, read_tile}
use Rattle.tile.specs.StoredLaws.{read_tile_accepted}

-- ---- a made tile

pub makes_refused : (a : Answer Path) → a ≡ refused 5 → refused 5 ≡ map_answer tile_of a
unfolding map_answer
makes_refused a e = rw e

-- what refused an answer refuses what would be made of its value
pub passes_refusal : {A B : Type 0} (g : A → B) (a : Answer A) (f : Refusal) → refusal_number f ≡ refusal_of a → refused (refusal_number f) ≡ map_answer g a
unfolding map_answer
passes_refusal g a f e = sym (ap (map_answer g) (refused_of a f e))

-- a tile that passed its test is short enough
pub short_tile : (t : Tile) → 0 ≡ refusal_of (read_tile t) → t.len ≤ 32
short_tile t e = (read_tile_accepted t e).0

pub makes_given : (a : Answer Path) (t : Tile) (p : Path) → a ≡ given p → t ≡ tile_of p → given t ≡ map_answer tile_of a
unfolding map_answer
makes_given a t p e s = rw e (ap given s)

-- ---- the Rust's tiles

of_length_none : (n : ℕ) (p : Path) → (n < 1) ⊎ (32 < length p) → of_length n p ≡ refused 5
unfolding of_length
of_length_none n p (inl h) = let e : n ≡ 0 = omega arith in rw e
of_length_none n p (inr h) = rw (lt-leb (length p) 32 h, and-false (ltb 0 n))

of_length_given : (n : ℕ) (p : Path) → 1 ≤ n → length p ≤ 32 → of_length n p ≡ given p
unfolding of_length
of_length_given n p z h = let k : 0 < n = omega arith in rw (lt-ltb 0 n k, le-leb (length p) 32 h)

pub length_l_path : (n : ℕ) → 1 ≤ n → n ≡ length (l_path n)
unfolding l_path
length_l_path n z = omega (arith, length-replicate {A = ℕ} (n - 1) 0)

pub l_tile_none : (n : ℕ) → (n < 1) ⊎ (32 < n) → l_tile n ≡ refused 5
unfolding l_tile
l_tile_none n (inl h) = of_length_none n (l_path n) (inl h)
l_tile_none n (inr h) = of_length_none n (l_path n) (inr (omega (arith, length_l_path n (omega arith))))

pub l_tile_given : (n : ℕ) → 1 ≤ n → n ≤ 32 → l_tile n ≡ given (l_path n)
unfolding l_tile
l_tile_given n z h = of_length_given n (l_path n) z (omega (arith, length_l_path n z))

-- Left in the place of the first Up
pub codes_l_path : (n : ℕ) (behind : List ℕ) → 1 ≤ n → set (replicate n 0 ++ behind) 0 2 ≡ l_path n ++ behind
unfolding l_path
codes_l_path zero behind z = absurd (omega arith)
codes_l_path (suc n) behind z = simp unary_clauses refl

pub length_t_path : (n : ℕ) → 1 ≤ n → 2 * n + 1 ≡ length (t_path n)
unfolding t_path
length_t_path n z = omega (arith, length-append {A = ℕ} (replicate n 3) (0 ∷ 6 ∷ replicate (n - 1) 3), length-replicate {A = ℕ} n 3, length-replicate {A = ℕ} (n - 1) 3)

pub t_tile_none : (n : ℕ) → (n < 1) ⊎ (15 < n) → t_tile n ≡ refused 5
unfolding t_tile
t_tile_none n (inl h) = of_length_none n (t_path n) (inl h)
t_tile_none n (inr h) = of_length_none n (t_path n) (inr (omega (arith, length_t_path n (omega arith))))

pub t_tile_given : (n : ℕ) → 1 ≤ n → n ≤ 15 → t_tile n ≡ given (t_path n)
unfolding t_tile
t_tile_given n z h = of_length_given n (t_path n) z (omega (arith, length_t_path n z))

-- Up and DownRight in the place of two of them
pub codes_t_path : (n : ℕ) (behind : List ℕ) → 1 ≤ n → set (set (replicate (2 * n + 1) 3 ++ behind) n 0) (n + 1) 6 ≡ t_path n ++ behind
unfolding t_path
codes_t_path n behind z =
    ap (λ (xs : List ℕ). set (set (xs ++ behind) n 0) (n + 1) 6) split
    ∙ ap (λ (xs : List ℕ). set (set xs n 0) (n + 1) 6) (append_assoc (replicate {A = ℕ} n 3) (3 ∷ 3 ∷ replicate {A = ℕ} (n - 1) 3) behind)
    ∙ ap (λ (xs : List ℕ). set xs (n + 1) 6) (set-append_right (replicate {A = ℕ} n 3) (3 ∷ 3 ∷ replicate {A = ℕ} (n - 1) 3 ++ behind) n n 0 (length-replicate {A = ℕ} n 3) (omega arith))
    ∙ ap (λ (i : ℕ). set (replicate {A = ℕ} n 3 ++ set (3 ∷ 3 ∷ replicate {A = ℕ} (n - 1) 3 ++ behind) i 0) (n + 1) 6) none
    ∙ set-append_right (replicate {A = ℕ} n 3) (0 ∷ 3 ∷ replicate {A = ℕ} (n - 1) 3 ++ behind) n (n + 1) 6 (length-replicate {A = ℕ} n 3) (omega arith)
    ∙ ap (λ (i : ℕ). replicate {A = ℕ} n 3 ++ set (0 ∷ 3 ∷ replicate {A = ℕ} (n - 1) 3 ++ behind) i 6) one
    ∙ sym (append_assoc (replicate {A = ℕ} n 3) (0 ∷ 6 ∷ replicate {A = ℕ} (n - 1) 3) behind)
  where
    none : n - n ≡ 0
    none = omega arith

    one : n + 1 - n ≡ 1
    one = omega arith

    more : 2 * n + 1 ≡ n + suc (suc (n - 1))
    more = omega arith

    split : replicate (2 * n + 1) 3 ≡ replicate n 3 ++ 3 ∷ 3 ∷ replicate {A = ℕ} (n - 1) 3
    split = ap (λ (k : ℕ). replicate k 3) more ∙ sym (replicate-append-replicate n (suc (suc (n - 1))) 3)
