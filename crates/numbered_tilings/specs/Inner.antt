-- Definitions that only the contracts of private functions cite. Assumes nothing.
use Rattle.std.specs.Prelude.{List, ℕ, ◌*◌, ◌≤◌, ◌<◌, length}
use Rattle.cells.specs.Lists.{list_of}
use Rattle.covers.specs.Counts.{node_list_to}
use Rattle.covers.specs.Setting.{SumRule}
use Rattle.path_count.specs.PathCounts.{count_in}
use Rattle.graph.specs.Graph.{edge_at}

-- the list that is walked from the node `last` with the number m, over so many edges of the words
abbrev pub walked : List ℕ → List ℕ → ℕ → ℕ → ℕ → List ℕ
walked counts edges count last m = node_list_to (list_of (edge_at edges) count) (count_in counts) last m

-- what is asked for a walk, of count words and edge words, so many edges and nodes, a node and a number
abbrev pub Walkable : List ℕ → List ℕ → ℕ → ℕ → ℕ → ℕ → Type 0
Walkable counts edges count n last m =
    (2 * count ≤ length edges) × SumRule n (list_of (edge_at edges) count) (count_in counts) × (last < n) × (m < count_in counts last)
