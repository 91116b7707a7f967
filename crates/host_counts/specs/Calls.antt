-- Definitions: what `count_tilings`, `count_cuttings` and `generate_graph` over a host's words return, and what they leave in the lent words, for every input. Each returns 0
-- or the number of the refusal, and every lent word that holds nothing else is zero, all of them after a refusal. What is answered where the shapes are right
-- is the definition of the call below. Assumes nothing.
use Rattle.std.specs.Prelude.{◌≡◌, List, ℕ, length, replicate}
use Rattle.cells.specs.Set.{words_below}
use Rattle.cells.specs.Lists.{words_for}
use Rattle.refusal.specs.Refusal.{Answer, map_answer, value_or}
use Rattle.path_count.specs.PathCounts.{counts_for}
use Rattle.graph.specs.Graph.{edges_for}
use Rattle.layers.specs.LayerCounts.{count_tilings}
use Rattle.cuttings.specs.Cuttings.{count_cuttings}
use Rattle.tiler.specs.Graphs.{Graph, no_graph, generate_graph}
use Rattle.host_words.specs.Layout.{board_in, result_words, plot_shape, unless, AnswersWords}
use Rattle.host_tiles.specs.TileBytes.{tiles_in}

-- ---- `count_tilings` and `count_cuttings`: the count, low word and high word; the lent layers are zero

-- what `cuttings_count_tilings` answers
unfoldable pub counted : ℕ → ℕ → List ℕ → List ℕ → ℕ → ℕ → Answer ℕ
unfolding unless plot_shape count_tilings
counted width height marks tiles room words =
    unless (plot_shape 2 (length marks) (length tiles) words) (count_tilings (board_in width height marks) (tiles_in tiles) room)

-- what `cuttings_count_cuttings` answers
unfoldable pub cuttings_counted : ℕ → ℕ → List ℕ → List ℕ → ℕ → ℕ → Answer ℕ
unfolding unless plot_shape count_cuttings
cuttings_counted width height marks tiles room words =
    unless (plot_shape 2 (length marks) (length tiles) words) (count_cuttings (board_in width height marks) (tiles_in tiles) room)

-- what either returns and leaves
pub record AnswersCount (a : Answer ℕ) (boardsA countsA boardsB countsB answer boardsA' countsA' boardsB' countsB' answer' : List ℕ) (r : ℕ) : Type 0 where
  pub answered : AnswersWords (map_answer (words_below 2) a) answer answer' r
  pub zero_boards_a : boardsA' ≡ replicate (length boardsA) 0
  pub zero_counts_a : countsA' ≡ replicate (length countsA) 0
  pub zero_boards_b : boardsB' ≡ replicate (length boardsB) 0
  pub zero_counts_b : countsB' ≡ replicate (length countsB) 0

-- ---- `generate_graph`: nodes, counts and edges, and the words of the result

-- what `cuttings_generate_graph` answers
unfoldable pub generated : ℕ → ℕ → List ℕ → List ℕ → ℕ → ℕ → ℕ → ℕ → Answer Graph
unfolding unless plot_shape generate_graph
generated width height marks tiles node_words count_words edge_words words =
    unless (plot_shape 4 (length marks) (length tiles) words)
    (generate_graph (board_in width height marks) (tiles_in tiles) node_words count_words edge_words)

-- what it returns and leaves
pub record AnswersGraph (a : Answer Graph) (nodes counts edges answer nodes' counts' edges' answer' : List ℕ) (r : ℕ) : Type 0 where
  pub answered : AnswersWords (map_answer (λ g. result_words (length g.nodes) (length g.edges) g.complete) a) answer answer' r
  pub nodes_left : nodes' ≡ words_for (value_or no_graph a).nodes (length nodes)
  pub counts_left : counts' ≡ counts_for (value_or no_graph a).counts (length counts)
  pub edges_left : edges' ≡ edges_for (value_or no_graph a).edges (length edges)
