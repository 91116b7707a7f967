-- What is known of a graph that is given: board and tiles are not refused; it is the definition's, and so is its count; it has room, and the rule of sums
-- holds of it; and so of the words that hold it. Rests on `AnswerLaws`, layers' `CountLaws` and covers' `Theorems`. Assumes nothing.
use Rattle.std.specs.Prelude.{◌≡◌, false, ℕ, ◌^◌, ◌≤◌, ◌<◌, eqb, length, get_or, Result, Ok}
use Rattle.std.proofs.Common.{sym, ◌∙◌}
use Rattle.std.proofs.Math.Path.{ap, subst, fun_ext}
use mathlib.Core.List.{List, Memᴰ as Mem}
use Rattle.cells.specs.Set.{Sound}
use Rattle.tiles.specs.declared.Tiles.{Tiles}
use Rattle.refusal.specs.declared.Refusal.{Refusal}
use Rattle.refusal.specs.Refusal.{Answer, given}
use Rattle.tiles.specs.Paths.{paths_in}
use Rattle.tile.specs.Path.{Path}
use Rattle.board.specs.declared.RectangularBoard.{RectangularBoard}
use Rattle.rectangle.specs.Board.{Board, marks}
use Rattle.board.specs.Board.{board_of}
use Rattle.children.specs.Children.{full_at, free_count_at}
use Rattle.covers.specs.Setting.{Laws, EqualSteps, SumRule, entries_of, graph_count, nodes_of}
use Rattle.covers.specs.Counts.{at_node, boards, counts, layers, edges_of, full_node}
use Rattle.covers.proofs.Theorems.{graph_sum_rule}
use Rattle.covers.proofs.SettingLaws.{some_node, node_ok}
use Rattle.graph.specs.declared.GraphResult.{GraphResult}
use Rattle.graph.specs.Graph.{node_room, edge_room, count_from_graph}
use Rattle.expansion.specs.Boards.{setting, setting_of, start_of, Accepted}
use Rattle.layers.specs.LayerCounts.{too_large}
use Rattle.layers.proofs.CountLaws.{small_counts}
use Rattle.tiler.specs.Inner.{graph_in}
use Rattle.tiler.specs.Graphs.{Graph, graph_of, judge_graph, generate_graph, Makes, GeneratesGraph, result_of_graph, path_count_at, count_of_graph}
use Rattle.expansion.specs.Parts.{step_of}
use Rattle.expansion.proofs.SettingLaws.{same_children}
use Rattle.expansion.proofs.AcceptedLaws.{accepted_laws, accepted_steps, start_accepted, from_read}
use Rattle.expansion.proofs.ExpansionLaws.{small_at}
use Rattle.tiler.specs.AnswerLaws.{judged_graph, as_many_lem, HasRoom, graph_answered, counts_back}

-- the graph of a board and tiles is that of their setting
pub graph_setting : (b : Board) (paths : List Path) → graph_of b paths ≡ graph_in (setting b paths) (marks b)
unfolding graph_of graph_in setting
graph_setting b paths =
    ap (λ (ch : ℕ → List ℕ). let es = layers eqb ch (marks b) (free_count_at b (marks b)) in
    record { nodes = boards es; counts = counts es; edges = edges_of eqb ch (boards es); complete = full_node (full_at b) (boards es) })
    (sym (same_children b paths))

module _ (b : RectangularBoard) (fixed : Sound b.fixed) (laid : Sound b.laid) (ts : Tiles) where
  module _ (node_words count_words edge_words : ℕ) (g : Graph) (made : generate_graph b ts node_words count_words edge_words ≡ given g) where
    read : Accepted b ts × (judge_graph (node_room node_words count_words) (edge_room edge_words) (graph_in (setting_of b ts) (start_of b)) ≡ given g)
    unfolding generate_graph
    read =
        let r = from_read b ts _ g made in
        (r.0, ap (judge_graph (node_room node_words count_words) (edge_room edge_words)) (sym (graph_setting (board_of b) (paths_in ts))) ∙ r.1)

    judged : (graph_in (setting_of b ts) (start_of b) ≡ g) × (length (graph_in (setting_of b ts) (start_of b)).nodes ≤ node_room node_words count_words)
        × (length (graph_in (setting_of b ts) (start_of b)).edges ≤ edge_room edge_words) × (too_large (graph_in (setting_of b ts) (start_of b)).counts ≡ false)
    judged = judged_graph (node_room node_words count_words) (edge_room edge_words) (graph_in (setting_of b ts) (start_of b)) g read.1

    pub plot_accepted : Accepted b ts
    plot_accepted = read.0

    pub graph_is : graph_in (setting_of b ts) (start_of b) ≡ g
    graph_is = judged.0

    pub graph_small : too_large (graph_in (setting_of b ts) (start_of b)).counts ≡ false
    graph_small = judged.3

    pub graph_laws : Laws (setting_of b ts)
    graph_laws = accepted_laws b ts plot_accepted

    pub graph_steps : EqualSteps (setting_of b ts) (step_of (paths_in ts))
    graph_steps = accepted_steps b ts plot_accepted

    pub graph_start : (setting_of b ts).Ok (start_of b)
    graph_start = start_accepted b fixed laid ts plot_accepted

    pub nodes_are : g.nodes ≡ nodes_of (setting_of b ts) (start_of b)
    unfolding graph_in
    nodes_are = ap (λ (h : Graph). h.nodes) (sym graph_is)

    -- each node is a set of 256 cells
    pub nodes_small : (i : ℕ) → get_or g.nodes i 0 < 2 ^ 256
    unfolding setting
    nodes_small i = small_at g.nodes (λ t m. (node_ok (setting_of b ts) graph_laws (start_of b) graph_start t (subst (Mem t) nodes_are m)).small) i

    pub graph_sums : SumRule (length g.nodes) g.edges (path_count_at g.counts)
    unfolding graph_in
    graph_sums = subst (λ (k : Graph). SumRule (length k.nodes) k.edges (path_count_at k.counts)) graph_is
        (graph_sum_rule (setting_of b ts) graph_laws (start_of b) graph_start (step_of (paths_in ts)) graph_steps)

    pub graph_room : HasRoom g node_words count_words edge_words
    unfolding graph_in
    graph_room =
        subst (λ (k : Graph). HasRoom k node_words count_words edge_words) graph_is record {
          some_nodes = some_node (setting_of b ts) graph_laws (start_of b) graph_start;
          nodes_fit = judged.1;
          edges_fit = judged.2;
          as_many = as_many_lem (entries_of (setting_of b ts) (start_of b));
          counts_fit = small_counts (counts (entries_of (setting_of b ts) (start_of b))) graph_small;
        }

    pub graph_count_lem : count_of_graph g ≡ graph_count (setting_of b ts) (start_of b)
    unfolding graph_count count_of_graph graph_in setting
    graph_count_lem = ap count_of_graph (sym graph_is)

  -- words that hold a graph that is given
  module _ (nodes counts edges nodes' counts' edges' : List ℕ) (r : Result GraphResult Refusal) (made : GeneratesGraph b ts nodes counts edges nodes' counts' edges' r)
      (g : Graph) (e : generate_graph b ts (length nodes) (length counts) (length edges) ≡ given g) where
    pub graph_stored : Makes (given g) (length nodes) (length counts) (length edges) nodes' counts' edges' r
    graph_stored = subst (λ (a : Answer Graph). Makes a (length nodes) (length counts) (length edges) nodes' counts' edges' r) e made

    pub words_count : count_from_graph g.complete counts' ≡ graph_count (setting_of b ts) (start_of b)
    unfolding count_from_graph count_of_graph
    words_count =
        ap (λ (count : ℕ → ℕ). at_node count g.complete)
        (fun_ext (counts_back g (length nodes) (length counts) (length edges) nodes' counts' edges' r graph_stored (graph_room (length nodes) (length counts) (length edges) g e)))
        ∙ graph_count_lem (length nodes) (length counts) (length edges) g e

  -- a result that is answered is that of a graph that is given
  pub graph_told : (nodes counts edges nodes' counts' edges' : List ℕ) (r : Result GraphResult Refusal) → GeneratesGraph b ts nodes counts edges nodes' counts' edges' r
      → (graph : GraphResult) → r ≡ Ok graph
      → (g : Graph) × (generate_graph b ts (length nodes) (length counts) (length edges) ≡ given g) × (result_of_graph g ≡ graph)
  graph_told nodes counts edges nodes' counts' edges' r =
      graph_answered (generate_graph b ts (length nodes) (length counts) (length edges)) (length nodes) (length counts) (length edges) nodes' counts' edges' r
