-- Laws of places: where one step leads from a place of a board, and what a place tells of its position. Rests on `Parts` and `BoardLaws`.
-- Assumes nothing.
use Rattle.std.specs.Prelude.{◌≡◌, refl, Option, None, Some, Bool, true, false, cond, ℕ, ◌+◌, ◌*◌, ◌<◌, pos, nat_abs}
use Rattle.std.proofs.Common.{sym, ap, ap₂, ◌∙◌, arith, lt-ltb}
use Rattle.std.proofs.Math.Bool.{So}
use Rattle.direction.specs.declared.Direction.{Direction}
use Rattle.direction.specs.declared.Direction.TheVariants as D
use Rattle.direction.specs.Direction.{Position, at, shift, step, code_of}
use Rattle.rectangle.specs.Board.{cell_of, inside}
use Rattle.rectangle.specs.Parts.{place_if, place_after}
use Rattle.rectangle.proofs.BoardLaws.{inside_parts}

-- the code of a direction is one of the eight
pub code_lt : (d : Direction) → code_of d < 8
code_lt D.Up = omega arith
code_lt D.Down = omega arith
code_lt D.Left = omega arith
code_lt D.Right = omega arith
code_lt D.UpLeft = omega arith
code_lt D.UpRight = omega arith
code_lt D.DownRight = omega arith
code_lt D.DownLeft = omega arith

-- from a row and a column that a board has, by a direction
pub place_after_is : (w h row col code : ℕ) → row < 16 → col < 16 → code < 8 → place_after w h row col code ≡ place_if (inside w h) (shift (at (pos row) (pos col)) (step code))
unfolding place_after
place_after_is w h row col code a b c = rw (lt-ltb row 16 a, lt-ltb col 16 b, lt-ltb code 8 c)

-- ---- what a place tells of its position

pub place_true : (test : Position → Bool) (p : Position) (r c : ℕ) → ◌≡◌ {A = Option (ℕ × ℕ)} (Some (r, c)) (place_if test p) → (test p ≡ true) × (nat_abs p.row ≡ r) × (nat_abs p.col ≡ c)
unfolding place_if
place_true test p r c e = go (test p) e
  where
    go : (t : Bool) → ◌≡◌ {A = Option (ℕ × ℕ)} (Some (r, c)) (cond t (Some (nat_abs p.row, nat_abs p.col)) None) → (t ≡ true) × (nat_abs p.row ≡ r) × (nat_abs p.col ≡ c)
    go true q =
        let s : ◌≡◌ {A = ℕ × ℕ} (nat_abs p.row, nat_abs p.col) (r, c) = cc in
        (refl, ap (λ (z : ℕ × ℕ). z.0) s, ap (λ (z : ℕ × ℕ). z.1) s)
    go false q = let z : ◌≡◌ {A = ℕ} 0 1 = cc in absurd (omega arith)

pub place_false : (test : Position → Bool) (p : Position) → None ≡ place_if test p → test p ≡ false
unfolding place_if
place_false test p e = go (test p) e
  where
    go : (t : Bool) → ◌≡◌ {A = Option (ℕ × ℕ)} None (cond t (Some (nat_abs p.row, nat_abs p.col)) None) → t ≡ false
    go true q = let z : ◌≡◌ {A = ℕ} 0 1 = cc in absurd (omega arith)
    go false q = refl

-- a place is on the board, and its position is the one that was asked
pub record Placed (w h : ℕ) (p : Position) (r c : ℕ) : Type 0 where
  pub is_inside : So (inside w h p)
  pub is_at : p ≡ at (pos r) (pos c)
  pub row : r < h
  pub col : c < w

pub placed : (w h : ℕ) (p : Position) (r c : ℕ) → So (inside w h p) → nat_abs p.row ≡ r → nat_abs p.col ≡ c → Placed w h p r c
placed w h p r c i a b =
    let s = inside_parts w h p i in
    let m : s.0 ≡ r = ap (λ (q : Position). nat_abs q.row) (sym s.2) ∙ a in
    let n : s.1 ≡ c = ap (λ (q : Position). nat_abs q.col) (sym s.2) ∙ b in
    record {
      is_inside = i;
      is_at = s.2 ∙ ap₂ (λ (x y : ℕ). at (pos x) (pos y)) m n;
      row = omega (arith, s.3);
      col = omega (arith, s.4);
    }

pub place_placed : (w h : ℕ) (p : Position) (r c : ℕ) (x : Option (ℕ × ℕ)) → x ≡ place_if (inside w h) p → x ≡ Some (r, c) → Placed w h p r c
place_placed w h p r c x e f = let s = place_true (inside w h) p r c (sym f ∙ e) in placed w h p r c s.0 s.1 s.2

pub placed_cell : (w h : ℕ) (p : Position) (r c : ℕ) → Placed w h p r c → cell_of p ≡ 16 * r + c
unfolding cell_of
placed_cell w h p r c s = ap cell_of s.is_at
