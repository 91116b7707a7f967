-- Definitions: the tiling by number of any graph words and any result. What stands in quotation marks is 01's, from its section Tiling by number; the
-- walk itself is `node_list_to` of covers' `Counts`. Assumes nothing.
use Rattle.refusal.specs.declared.Refusal.{Refusal}
use Rattle.std.specs.Prelude.{◌≡◌, Bool, false, not, cond, ◌||◌, ℕ, zero, suc, eqb, ltb, leb, length, take, Result, Option, None, Some}
use mathlib.Core.List.{List, Memᴰ as Mem}
use Rattle.cells.specs.Lists.{any, list_of, padded}
use Rattle.refusal.specs.Refusal.{Answer, refused, given, Leaves, answer_of}
use Rattle.covers.specs.Counts.{Chain, sum_of, parents_of, node_list_to, at_node, node_list}
use Rattle.path_count.specs.PathCounts.{count_in}
use Rattle.graph.specs.declared.GraphResult.{GraphResult}
use Rattle.graph.specs.Graph.{node_room, edge_room, edges_in, count_from_graph}

-- ---- refusal 11

-- "its full node is not below the nodes"
unfoldable pub is_past : ℕ → Option ℕ → Bool
is_past n None = false
is_past n (Some v) = leb n v

-- "an edge's parent is not below its child, a child is not below the nodes"
unfoldable pub bad_edge : ℕ → ℕ × ℕ → Bool
bad_edge n e = leb e.1 e.0 || leb n e.1

-- what a node's count is to be: node 0's is 1, another's "the exact sum of its parents' counts over the edges into it"
unfoldable pub sound_count : List (ℕ × ℕ) → (ℕ → ℕ) → ℕ → ℕ
unfolding sum_of parents_of
sound_count es count zero = 1
sound_count es count (suc v) = sum_of count (parents_of es (suc v))

-- "node 0's count is not 1, or another's is not the exact sum"
unfoldable pub bad_count : List (ℕ × ℕ) → (ℕ → ℕ) → ℕ → Bool
unfolding sound_count
bad_count es count v = not (eqb (count v) (sound_count es count v))

-- the causes of refusal 11, of a result and so many node words, the count words and the edge words: "the result has no nodes, its nodes or edges pass
-- the lent words" (by their rooms), and those above, over the edges and the nodes that the result tells
unfoldable pub bad_graph : GraphResult → ℕ → List ℕ → List ℕ → Bool
unfolding node_room edge_room is_past bad_edge bad_count any edges_in list_of count_in
bad_graph r node_words counts edges =
    eqb r.nodes 0
    || ltb (node_room node_words (length counts)) r.nodes
    || ltb (edge_room (length edges)) r.edges
    || is_past r.nodes r.complete
    || any (bad_edge r.nodes) (edges_in edges r.edges)
    || any (bad_count (edges_in edges r.edges) (count_in counts)) (list_of (λ v. v) r.nodes)

-- ---- the tiling

-- "the node list from 0 on" with the number m, of the edges and the counts in lent words and the full node of a result
unfoldable pub node_list_in : GraphResult → List ℕ → List ℕ → ℕ → List ℕ
unfolding node_list_to edges_in at_node count_in
node_list_in r counts edges m = node_list (edges_in edges r.edges) (count_in counts) r.complete m

-- the node list with the number m, for an output of so many words: refusal 11; "12, no full node" (the graph count is then 0) "or m not below its
-- count; 8, output shorter than the list"
unfoldable pub tiling_by_number : GraphResult → ℕ → List ℕ → List ℕ → ℕ → ℕ → Answer (List ℕ)
unfolding bad_graph count_from_graph node_list_in
tiling_by_number r node_words counts edges m room =
    cond (bad_graph r node_words counts edges) (refused 11)
    (cond (ltb m (count_from_graph r.complete counts))
    (cond (leb (length (node_list_in r counts edges m)) room) (given (node_list_in r counts edges m)) (refused 8))
    (refused 12))

-- `tiling_by_number`: the list's length comes back; the output holds the list, "one word a node", zeros behind, or zeros after a refusal
abbrev pub GivesTiling : GraphResult → List ℕ → List ℕ → List ℕ → ℕ → List ℕ → List ℕ → Result ℕ Refusal → Type 0
GivesTiling r nodes counts edges m out out' t = Leaves padded (tiling_by_number r (length nodes) counts edges m (length out)) (answer_of t) out out'

-- what the list is, where one is given: each node a child of the one before over a stored edge, from node 0 to the full node
abbrev pub GivesChain : GraphResult → List ℕ → List ℕ → Result ℕ Refusal → Type 0
GivesChain r edges out' t =
    (k : ℕ) → answer_of t ≡ given k
    → (v : ℕ) × (r.complete ≡ Some v) × Chain (λ p c. Mem (p, c) (edges_in edges r.edges)) 0 v (take k out')
