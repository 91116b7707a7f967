-- Definitions for the contracts of `Growing`, a graph that grows in lent words: what it holds, and what some children more do to it. They stand apart
-- from `Inner`, since they name the struct. Assumes nothing.
use Rattle.std.specs.Prelude.{None, Option, Some, ⊤, ◌≡◌, List, ℕ}
use Rattle.tiler.specs.declared.growing.Growing.{Growing}
use Rattle.tiler.specs.Inner.{HoldsGraph}

-- how many nodes and edges there are, the edges past the room counting as one; nothing where the nodes pass theirs
abbrev pub state_of : Option ⊤ → Growing → Option (ℕ × ℕ)
state_of (Some u) g = Some (g.node_count, g.edge_count)
state_of None g = None

-- the lent words and their rooms stay the same, whatever is written in the words
abbrev pub SameWords : Growing → Growing → Type 0
SameWords g h =
    (h.nodes.ghost_name ≡ g.nodes.ghost_name) × (h.edges.ghost_name ≡ g.edges.ghost_name) × (h.node_room ≡ g.node_room) × (h.edge_room ≡ g.edge_room)

-- words and state are those of a graph, in the rooms that g tells
abbrev pub HoldsIn : Growing → Growing → Option ⊤ → List ℕ × List (ℕ × ℕ) → Type 0
HoldsIn g h r d = HoldsGraph g.node_room g.edge_room h.nodes.now h.edges.now (state_of r h) d

-- what some children more do to a graph, whatever the graph was: words and state are those of what is made of it
abbrev pub AddsTo : Growing → Growing → Option ⊤ → (List ℕ × List (ℕ × ℕ) → List ℕ × List (ℕ × ℕ)) → Type 0
AddsTo g h r add = (d : List ℕ × List (ℕ × ℕ)) → HoldsIn g g (Some tt) d → HoldsIn g h r (add d)
