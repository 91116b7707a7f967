-- Definitions that contracts of private functions of the crates above and laws cite: one step of a layer, of a graph, and of a sum over edges. Rests on
-- `Counts`. Assumes nothing.
use Rattle.std.specs.Prelude.{Bool, eqb}
use Rattle.std.proofs.Math.Bool.{cond}
use mathlib.Core.List.{List, [], ◌∷◌, ◌++◌}
use Prim.Native.Nat.{ℕ, ◌+◌}
use Rattle.cells.specs.Lists.{add_new}
use Rattle.covers.specs.Counts.{Entry, number_in}

-- an edge's share: what it adds to the count of node v
unfoldable pub share : (ℕ → ℕ) → ℕ → ℕ × ℕ → ℕ
share count v e = cond (eqb e.1 v) (count e.0) 0

module _ {B : Type 0} (same : B → B → Bool) where
  -- k more paths to c: added to its entry, or a new entry behind the others
  unfoldable pub add_paths : B → ℕ → List (Entry B) → List (Entry B)
  add_paths c k [] = (c, k) ∷ []
  add_paths c k (e ∷ es) = cond (same e.0 c) ((e.0, e.1 + k) ∷ es) (e ∷ add_paths c k es)

  -- one more child of the parent p: a node if it is new, and an edge
  unfoldable pub add_child : ℕ → B → List B × List (ℕ × ℕ) → List B × List (ℕ × ℕ)
  unfolding add_new number_in
  add_child p c g = (add_new same g.0 c, g.1 ++ (p, number_in same (add_new same g.0 c) c) ∷ [])

  -- more children of the parent p, in order
  unfoldable pub add_children : ℕ → List B → List B × List (ℕ × ℕ) → List B × List (ℕ × ℕ)
  unfolding add_child
  add_children p [] g = g
  add_children p (c ∷ cs) g = add_children p cs (add_child p c g)
