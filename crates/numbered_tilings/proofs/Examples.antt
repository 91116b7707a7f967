-- Examples of the tiling by number, by computation.
use Rattle.std.specs.Prelude.{◌≡◌, refl, ℕ, suc, ◌-◌, ◌^◌, replicate, take, Err, None, Ok, Option, Some}
use Rattle.std.proofs.Common.{subst}
use mathlib.Core.List.Memᴰ.{head as here}
use mathlib.Core.List.Memᴰ.{tail as there}
use mathlib.Core.List.{List, [], ◌∷◌, ◌++◌, flat_map, Memᴰ as Mem}
use Rattle.cells.specs.Lists.{list_of, padded}
use Rattle.refusal.specs.Refusal.{Answer, refused, given, map_answer, value_or}
use Rattle.refusal.specs.RefusalLaws.{given_inj}
use Rattle.refusal.specs.declared.Refusal.TheVariants as R
use Rattle.covers.specs.Counts.{Chain}
use Rattle.graph.specs.Graph.{edges_in}
use Rattle.graph.specs.declared.GraphResult.{GraphResult}
use Rattle.numbered_tilings.specs.Tilings.{tiling_by_number, GivesTiling, GivesChain}

-- ---- 01's worked example, 2 by 2 dominoes, `graph 2 nodes 4 edges 4`

-- the result, the count words and the edge words
abbrev result : GraphResult
result = record { nodes = 4; edges = 4; complete = Some 3 }

abbrev result_counts : List ℕ
result_counts = 1 ∷ 1 ∷ 1 ∷ 2 ∷ []

abbrev result_edges : List ℕ
result_edges = 0 ∷ 1 ∷ 0 ∷ 2 ∷ 1 ∷ 3 ∷ 2 ∷ 3 ∷ []

-- the answer with a number, for an output of so many words
unfoldable tiling_of : ℕ → ℕ → Answer (List ℕ)
unfolding tiling_by_number
tiling_of m room = tiling_by_number result 16 result_counts result_edges m room

-- "tiling 0: 0 1 3", "tiling 1: 0 2 3"
worked_tilings : (tiling_of 0 3 ≡ given (0 ∷ 1 ∷ 3 ∷ [])) × (tiling_of 1 3 ≡ given (0 ∷ 2 ∷ 3 ∷ []))
unfolding tiling_of
worked_tilings = (refl, refl)

-- "12, […] m not below its count; 8, output shorter than the list"; 12 before 8
no_such_tiling : (tiling_of 2 3 ≡ refused 12) × (tiling_of 1 2 ≡ refused 8) × (tiling_of 2 0 ≡ refused 12)
unfolding tiling_of
no_such_tiling = (refl, refl, refl)

-- "12, no full node"
no_full_node : tiling_by_number (record { nodes = 4; edges = 4; complete = None }) 16 result_counts result_edges 0 3 ≡ refused 12
unfolding tiling_by_number
no_full_node = refl

-- what `tiling_by_number` leaves in words that held 7: the list, zeros behind. The node words are 16, whatever they hold
left : GivesTiling result (replicate 16 9) result_counts result_edges 1 (7 ∷ 7 ∷ 7 ∷ 7 ∷ []) (0 ∷ 2 ∷ 3 ∷ 0 ∷ []) (Ok 3)
unfolding tiling_by_number map_answer value_or padded
left = record { answer = refl; words = refl }

-- after refusal 8 zeros
left_refused : GivesTiling result (replicate 16 9) result_counts result_edges 1 (7 ∷ 7 ∷ []) (0 ∷ 0 ∷ []) (Err R.NoRoom)
unfolding tiling_by_number map_answer value_or padded
left_refused = record { answer = refl; words = refl }

-- where a list is given, it is a chain of stored edges from node 0 to the full node: here by the last of four edges
left_chain : GivesChain (record { nodes = 3; edges = 4; complete = Some 2 }) (0 ∷ 1 ∷ 0 ∷ 1 ∷ 0 ∷ 1 ∷ 0 ∷ 2 ∷ []) (0 ∷ 2 ∷ 0 ∷ []) (Ok 2)
unfolding edges_in
left_chain k e =
    subst (λ (n : ℕ). (v : ℕ) × (Some 2 ≡ Some v) × Chain (λ p c. Mem (p, c) (edges_in (0 ∷ 1 ∷ 0 ∷ 1 ∷ 0 ∷ 1 ∷ 0 ∷ 2 ∷ []) 4)) 0 v (take n (0 ∷ 2 ∷ 0 ∷ []))) (given_inj 2 k e)
    (2, refl, (refl, (there (there (there (here refl))), refl)))

-- the causes of 11, each alone. 11 comes before 12 and 8: m is 9, and the output has no words
unfoldable bad_given : ℕ → ℕ → (Option ℕ) → ℕ → List ℕ → List ℕ → Answer (List ℕ)
unfolding tiling_by_number
bad_given nodes edges complete node_words count_words edge_words =
    tiling_by_number (record { nodes = nodes; edges = edges; complete = complete }) node_words count_words edge_words 9 0

bad_graphs : bad_given 0 0 None 16 result_counts result_edges  -- "the result has no nodes"
    ∷ bad_given 4 4 (Some 3) 15 result_counts result_edges  -- "its nodes […] pass the lent words"
    ∷ bad_given 2 0 None 8 (1 ∷ []) []  -- here the count words
    ∷ bad_given 4 5 (Some 3) 16 result_counts result_edges  -- "its […] edges pass the lent words"
    ∷ bad_given 4 4 (Some 4) 16 result_counts result_edges  -- "its full node is not below the nodes"
    ∷ bad_given 2 1 (Some 1) 8 (1 ∷ 0 ∷ []) (1 ∷ 1 ∷ [])  -- "an edge's parent is not below its child"
    ∷ bad_given 2 1 (Some 1) 8 (1 ∷ 0 ∷ []) (0 ∷ 2 ∷ [])  -- "a child is not below the nodes"
    ∷ bad_given 1 0 None 4 (2 ∷ []) []  -- "node 0's count is not 1"
    ∷ bad_given 4 4 (Some 3) 16 (1 ∷ 1 ∷ 1 ∷ 3 ∷ []) result_edges  -- "another's is not the exact sum of its parents' counts"
    ∷ [] ≡ replicate 9 (refused 11)
unfolding bad_given
bad_graphs = refl

-- the sum is exact: of nodes that are each joined twice to the next, node k has the count 2^k, and node 64 would have 2^64. With the count 0, to which
-- that sum wraps in a word, it is 11. Without it, the last number gives all nodes
unfoldable doubled : ℕ → List ℕ
unfolding flat_map list_of
doubled n = flat_map (λ k. k ∷ suc k ∷ k ∷ suc k ∷ []) (list_of (λ k. k) n)

wrapped_sum : tiling_by_number (record { nodes = 65; edges = 128; complete = Some 64 }) 260 (list_of (λ k. 2 ^ k) 64 ++ 0 ∷ []) (doubled 64) 0 65 ≡ refused 11
unfolding tiling_by_number doubled
wrapped_sum = refl

largest_sum : tiling_by_number (record { nodes = 64; edges = 126; complete = Some 63 }) 256 (list_of (λ k. 2 ^ k) 64) (doubled 63) (2 ^ 63 - 1) 64
    ≡ given (list_of (λ k. k) 64)
unfolding tiling_by_number doubled
largest_sum = refl

-- words behind the edges and the nodes that the result tells are not looked at: here an edge that is none, and a count
words_left_over : tiling_by_number (record { nodes = 2; edges = 1; complete = Some 1 }) 12 (1 ∷ 1 ∷ 9 ∷ []) (0 ∷ 1 ∷ 5 ∷ 5 ∷ []) 0 2 ≡ given (0 ∷ 1 ∷ [])
unfolding tiling_by_number
words_left_over = refl

-- a full node 0: its list is node 0 alone
full_node_0 : tiling_by_number (record { nodes = 1; edges = 0; complete = Some 0 }) 4 (1 ∷ []) [] 0 1 ≡ given (0 ∷ [])
unfolding tiling_by_number
full_node_0 = refl

-- two equal edges: two numbers give one list
double_edge : (tiling_by_number (record { nodes = 2; edges = 2; complete = Some 1 }) 8 (1 ∷ 2 ∷ []) (doubled 1) 0 2 ≡ given (0 ∷ 1 ∷ []))
    × (tiling_by_number (record { nodes = 2; edges = 2; complete = Some 1 }) 8 (1 ∷ 2 ∷ []) (doubled 1) 1 2 ≡ given (0 ∷ 1 ∷ []))
unfolding tiling_by_number doubled
double_edge = (refl, refl)
