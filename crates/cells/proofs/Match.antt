-- What the last arm of a `match` on the numbers 0 to k - 1 knows: the number is none of them, so it is at least k. Assumes nothing.
use mathlib.Core.Path.{◌≡◌}
use Prim.Native.Nat.{ℕ, zero, suc, ◌≤◌, zero-le}
use native.Mathlib.Omega.{arith}

-- `c.match.rest` of such a match
abbrev pub Rest : ℕ → ℕ → Type 0
Rest zero n = Unit {0}
Rest (suc k) n = Rest k n × (n ≡ k → ⊥)

pub rest_le : (k n : ℕ) → Rest k n → k ≤ n
rest_le zero n r = zero-le
rest_le (suc k) n r = let h : k ≤ n = rest_le k n r.0 in let d : n ≡ k → ⊥ = r.1 in omega arith
