-- How many children there can be: at most 2,112, so that 8,448 words have room for all. Rests on fit's `Parts`. Assumes nothing.
use Rattle.std.specs.Prelude.{refl, ◌*◌, ◌≤◌, length}
use mathlib.Core.List.Memᴰ.{head as here}
use mathlib.Core.List.Memᴰ.{tail as there}
use mathlib.Core.List.{List, [], ◌∷◌, Memᴰ as Mem}
use Rattle.std.proofs.Common.{arith}
use Rattle.tile.specs.Path.{Path}
use Rattle.fit.specs.Parts.{most_children}

-- paths of at most 32 codes make at most 33 children each
most_children_lem : (paths : List Path) → ((path : Path) → Mem path paths → length path ≤ 32) → most_children paths ≤ 33 * length paths
unfolding most_children
most_children_lem [] h = omega arith
most_children_lem (path ∷ paths) h = omega (arith, h path (here refl), most_children_lem paths (λ p m. h p (there m)))

pub few_children : (paths : List Path) → length paths ≤ 64 → ((path : Path) → Mem path paths → length path ≤ 32) → most_children paths ≤ 2112
few_children paths l h = omega (arith, most_children_lem paths h)
