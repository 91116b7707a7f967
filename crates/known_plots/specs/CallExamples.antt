-- Examples: what `count_tilings` and `generate_graph` return and leave in lent words that held 7, for 2 by 2 dominoes and for what is refused. Rests on `Examples`.
-- Assumes nothing.
use Rattle.std.specs.Prelude.{Err, Ok, Some}
use Rattle.std.specs.Prelude.{◌≡◌, refl, List, [], ◌∷◌, map, ℕ, replicate}
use Rattle.std.proofs.Common.{sym, ap, ◌∙◌, subst}
use Rattle.cells.specs.Lists.{words_for, padded}
use Rattle.refusal.specs.declared.Refusal.TheVariants as R
use Rattle.refusal.specs.Refusal.{Answer, refused, given, map_answer, bind_answer, value_or}
use Rattle.tile.specs.Path.{Path}
use Rattle.tiles.specs.Paths.{tiles_of}
use Rattle.rectangle.specs.Board.{Board}
use Rattle.path_count.specs.PathCounts.{count_value, counts_for}
use Rattle.graph.specs.Graph.{layer_room, node_room, edge_room, edges_for}
use Rattle.layers.specs.LayerCounts.{count_answer, CountsTilings}
use Rattle.tiler.specs.Graphs.{Graph, judge_graph, graph_for, generate_graph, path_count_at, count_of_graph, node_list_of, Makes, GeneratesGraph}
use Rattle.known_plots.specs.KnownPlots.{D as dominoes}
use Rattle.known_plots.specs.Examples.{rectangle, two_by_two, two_by_two_plot, two_by_two_graph, two_by_two_counted}

abbrev lent : ℕ → List ℕ
lent n = replicate n 7

-- ---- `count_tilings`

-- the least of 8 ÷ 4, 3, 9 ÷ 4 and 2 is room for two boards; all lent words are zero
counted : CountsTilings (rectangle 2 2) (tiles_of dominoes) (lent 8) (lent 3) (lent 9) (lent 2) (replicate 8 0) (replicate 3 0) (replicate 9 0) (replicate 2 0) (Ok (record { word = 2 }))
unfolding layer_room count_value
counted = record { answer = sym two_by_two_counted; zero_boards_a = refl; zero_counts_a = refl; zero_boards_b = refl; zero_counts_b = refl }

-- a refused count has its number
count_refused : count_answer (Err R.CountTooLarge) ≡ refused 9
count_refused = refl

-- ---- `generate_graph`

-- 17, 5 and 9 words hold four nodes and four edges
given_to : generate_graph (rectangle 2 2) (tiles_of dominoes) 17 5 9 ≡ given two_by_two
unfolding generate_graph graph_for bind_answer node_room edge_room
given_to = ap (λ (a : Answer (Board × List Path)). bind_answer a (λ p. graph_for p.0 p.1 4 4)) two_by_two_plot ∙ two_by_two_graph

-- nodes, counts and edges in words, zeros behind; the numbers of nodes and edges and the full node
made : GeneratesGraph (rectangle 2 2) (tiles_of dominoes) (lent 17) (lent 5) (lent 9) (0 ∷ 0 ∷ 0 ∷ 0 ∷ 3 ∷ 0 ∷ 0 ∷ 0 ∷ 65537 ∷ 0 ∷ 0 ∷ 0 ∷ 196611 ∷ 0 ∷ 0 ∷ 0 ∷ 0 ∷ []) (1 ∷ 1 ∷ 1 ∷ 2 ∷ 0 ∷ [])
    (0 ∷ 1 ∷ 0 ∷ 2 ∷ 1 ∷ 3 ∷ 2 ∷ 3 ∷ 0 ∷ []) (Ok (record { nodes = 4; edges = 4; complete = Some 3 }))
unfolding map_answer value_or words_for counts_for edges_for padded
made =
    subst
    (λ (a : Answer Graph).
    Makes a 17 5 9 (0 ∷ 0 ∷ 0 ∷ 0 ∷ 3 ∷ 0 ∷ 0 ∷ 0 ∷ 65537 ∷ 0 ∷ 0 ∷ 0 ∷ 196611 ∷ 0 ∷ 0 ∷ 0 ∷ 0 ∷ []) (1 ∷ 1 ∷ 1 ∷ 2 ∷ 0 ∷ []) (0 ∷ 1 ∷ 0 ∷ 2 ∷ 1 ∷ 3 ∷ 2 ∷ 3 ∷ 0 ∷ [])
    (Ok (record { nodes = 4; edges = 4; complete = Some 3 }))) (sym given_to)
    record { answer = refl; nodes = refl; counts = refl; edges = refl }

-- "After any refusal all lent words are zero"
made_refused : Makes (refused 10) 3 2 1 (0 ∷ 0 ∷ 0 ∷ []) (0 ∷ 0 ∷ []) (0 ∷ []) (Err R.NoRoomForEdges)
unfolding map_answer value_or words_for counts_for edges_for padded
made_refused = record { answer = refl; nodes = refl; counts = refl; edges = refl }

-- a graph of three nodes, two counts and one edge
abbrev small : Graph
small = record { nodes = 0 ∷ 1 ∷ 3 ∷ []; counts = 1 ∷ 7 ∷ []; edges = (0, 1) ∷ []; complete = Some 1 }

-- each stands in its own words and is told by its own number
made_small : Makes (given small) 13 4 3 (0 ∷ 0 ∷ 0 ∷ 0 ∷ 1 ∷ 0 ∷ 0 ∷ 0 ∷ 3 ∷ 0 ∷ 0 ∷ 0 ∷ 0 ∷ []) (1 ∷ 7 ∷ 0 ∷ 0 ∷ []) (0 ∷ 1 ∷ 0 ∷ [])
    (Ok (record { nodes = 3; edges = 1; complete = Some 1 }))
unfolding map_answer value_or words_for counts_for edges_for padded
made_small = record { answer = refl; nodes = refl; counts = refl; edges = refl }

-- its nodes and its edges are held to their own rooms
rooms_of_small : judge_graph 3 1 small ∷ judge_graph 2 1 small ∷ judge_graph 3 0 small ∷ judge_graph 2 0 small ∷ [] ≡ given small ∷ refused 8 ∷ refused 10 ∷ refused 8 ∷ []
unfolding judge_graph
rooms_of_small = refl

-- the count of its full node, and of a node that is none
counts_of_small : (count_of_graph small ≡ 7) × (path_count_at small.counts 2 ≡ 0)
unfolding count_of_graph
counts_of_small = (refl, refl)

-- the node lists of 2 by 2 dominoes, by their path counts
lists : map (node_list_of two_by_two) (0 ∷ 1 ∷ []) ≡ (0 ∷ 1 ∷ 3 ∷ []) ∷ (0 ∷ 2 ∷ 3 ∷ []) ∷ []
unfolding node_list_of
lists = refl
