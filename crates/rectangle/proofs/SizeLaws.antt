-- Laws of the rectangle that is made of a width and a height. Rests on `Parts`. Assumes nothing.
use Rattle.std.specs.Prelude.{◌≡◌, refl, Option, None, Some, Bool, true, false, cond, ℕ}
use Rattle.std.proofs.Common.{sym, ap, ap₂, ◌∙◌, arith}
use Rattle.rectangle.specs.declared.sized.Rectangle.{Rectangle}
use Rattle.rectangle.specs.Board.{size_ok}
use Rattle.rectangle.specs.Parts.{size_of, size_if}

module _ (w h : ℕ) where
  module _ (m n : ℕ) where
    size_true : (t : Bool) → ◌≡◌ {A = Option (ℕ × ℕ)} (Some (m, n)) (cond t (Some (w, h)) None) → (t ≡ true) × (m ≡ w) × (n ≡ h)
    size_true true q =
        let s : ◌≡◌ {A = ℕ × ℕ} (m, n) (w, h) = cc in
        (refl, ap (λ (z : ℕ × ℕ). z.0) s, ap (λ (z : ℕ × ℕ). z.1) s)
    size_true false q = let z : ◌≡◌ {A = ℕ} 0 1 = cc in absurd (omega arith)

  module _ (o : Option Rectangle) (e : size_of o ≡ size_if w h) where
    -- the rectangle that was made has them, and a board may
    pub sized : (r : Rectangle) → o ≡ Some r → (size_ok r.width r.height ≡ true) × (r.width ≡ w) × (r.height ≡ h)
    unfolding size_if
    sized r f =
        let s = size_true r.width r.height (size_ok w h) (sym (ap size_of f) ∙ e) in
        (ap₂ size_ok s.1 s.2 ∙ s.0, s.1, s.2)

    -- there is none: no board may
    pub unsized : o ≡ None → size_ok w h ≡ false
    unfolding size_if
    unsized f = go (size_ok w h) (sym (ap size_of f) ∙ e)
      where
        go : (t : Bool) → ◌≡◌ {A = Option (ℕ × ℕ)} None (cond t (Some (w, h)) None) → t ≡ false
        go true q = let z : ◌≡◌ {A = ℕ} 0 1 = cc in absurd (omega arith)
        go false q = refl
