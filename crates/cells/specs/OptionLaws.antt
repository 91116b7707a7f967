-- Laws of options: there is none or one, and not another one. Assumes nothing.
use Rattle.std.specs.Prelude.{◌≡◌, Option, Some, None, unwrap_or}
use Rattle.std.proofs.Math.Path.{ap}

pub none-ne-some : {A : Type 0} (x : A) → ◌≡◌ {A = Option A} None (Some x) → ⊥
none-ne-some x e = cc

pub some-injective : {A : Type 0} (x y : A) → ◌≡◌ {A = Option A} (Some x) (Some y) → x ≡ y
some-injective x y e = ap (λ o. unwrap_or o x) e
