-- The rooms of a graph that grows stay the same: what holds in the rooms of its start holds in its own, and back. Assumes nothing.
use mathlib.Core.Path.{◌≡◌, sym, subst}
use mathlib.Core.List.{List}
use Prim.Native.Nat.{ℕ}
use Rattle.std.specs.Prelude.{Option}
use Rattle.tiler.specs.Inner.{HoldsGraph}

module _ {m n e f : ℕ} {ns es : List ℕ} {state : Option (ℕ × ℕ)} {d : List ℕ × List (ℕ × ℕ)} where
  pub to_own_rooms : n ≡ m → f ≡ e → HoldsGraph m e ns es state d → HoldsGraph n f ns es state d
  to_own_rooms q p k =
      subst (λ (x : ℕ). HoldsGraph x f ns es state d) (sym q) (subst (λ (x : ℕ). HoldsGraph m x ns es state d) (sym p) k)

  pub to_first_rooms : n ≡ m → f ≡ e → HoldsGraph n f ns es state d → HoldsGraph m e ns es state d
  to_first_rooms q p k =
      subst (λ (x : ℕ). HoldsGraph x e ns es state d) q (subst (λ (x : ℕ). HoldsGraph n x ns es state d) p k)
