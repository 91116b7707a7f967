-- What each call over words tells: the answer of the call below where the shapes are right, and zeros where they are not. Rests on host_words' `AnswerLaws`,
-- path_count's `PathCountLaws`, graph's `GraphLaws` and layers' `StartLaws`. Assumes nothing.
use Rattle.std.specs.Prelude.{◌≡◌, refl, Result, Ok, Err, ⊤, List, [], ℕ, length}
use Rattle.std.proofs.Common.{sym, ap₂, ◌∙◌, subst, arith}
use Rattle.cells.specs.Lists.{list_from, list_of}
use Rattle.cells.specs.Parts.{cleared_from}
use Rattle.cells.specs.ListLaws.{cleared_all}
use Rattle.refusal.specs.declared.Refusal.{Refusal}
use Rattle.refusal.specs.Refusal.{Answer, refused, map_answer, refusal_number, value_or, verdict_number}
use Rattle.tiles.specs.declared.Tiles.{Tiles}
use Rattle.board.specs.declared.RectangularBoard.{RectangularBoard}
use Rattle.path_count.specs.PathCountLaws.{cleared_counts_for}
use Rattle.graph.specs.Graph.{edges_for}
use Rattle.graph.proofs.GraphLaws.{cleared_edges}
use Rattle.layers.proofs.StartLaws.{cleared_zeros}
use Rattle.tiler.specs.Graphs.{Graph, generate_graph}
use Rattle.host_words.specs.Layout.{board_in, plot_shape, unless, AnswersWords}
use Rattle.host_words.specs.AnswerLaws.{unless_accepted, unless_refused}
use Rattle.host_tiles.specs.TileBytes.{tiles_in}
use Rattle.host_counts.specs.Calls.{AnswersCount, generated, AnswersGraph}

-- edges that are cleared
no_edge : (ws ws' : List ℕ) → ws' ≡ cleared_from 0 ws → ws' ≡ edges_for [] (length ws)
unfolding list_of list_from
no_edge ws ws' e = e ∙ cleared_edges ws [] (omega arith) refl

-- a count that is refused, its lent layers cleared
pub count_cleared : (q : Refusal) (ba ca bb cb answer : List ℕ) {ba' ca' bb' cb' answer' : List ℕ} {r : ℕ}
    → ba' ≡ cleared_from 0 ba → ca' ≡ cleared_from 0 ca → bb' ≡ cleared_from 0 bb → cb' ≡ cleared_from 0 cb → AnswersWords (refused (refusal_number q)) answer answer' r
    → AnswersCount (refused (refusal_number q)) ba ca bb cb answer ba' ca' bb' cb' answer' r
unfolding map_answer
count_cleared q ba ca bb cb answer {ba'} {ca'} {bb'} {cb'} w x y z t = record {
  answered = t;
  zero_boards_a = cleared_zeros (length ba) ba ba' w refl;
  zero_counts_a = cleared_zeros (length ca) ca ca' x refl;
  zero_boards_b = cleared_zeros (length bb) bb bb' y refl;
  zero_counts_b = cleared_zeros (length cb) cb cb' z refl;
}

module _ (width height : ℕ) (marks tiles answer : List ℕ) (v : Result ⊤ Refusal) where
  abbrev shape : ℕ → ℕ
  shape needed = plot_shape needed (length marks) (length tiles) (length answer)

  -- ---- a count: `f` is the call below

  module _ (told : verdict_number v ≡ shape 2) (f : RectangularBoard → Tiles → Answer ℕ) (ba ca bb cb ba' ca' bb' cb' answer' : List ℕ) (r : ℕ) where
    abbrev Tells : Answer ℕ → Type 0
    Tells a = AnswersCount a ba ca bb cb answer ba' ca' bb' cb' answer' r

    pub count_accepted : (b : RectangularBoard) (ts : Tiles) → v ≡ Ok tt → b ≡ board_in width height marks → ts ≡ tiles_in tiles
        → Tells (f b ts) → Tells (unless (shape 2) (f (board_in width height marks) (tiles_in tiles)))
    count_accepted b ts e is are =
        subst Tells (ap₂ f is are ∙ sym (unless_accepted (shape 2) (f (board_in width height marks) (tiles_in tiles)) v told e))

    pub count_unshaped : (q : Refusal) → v ≡ Err q → Tells (refused (refusal_number q)) → Tells (unless (shape 2) (f (board_in width height marks) (tiles_in tiles)))
    count_unshaped q e = subst Tells (sym (unless_refused (shape 2) (f (board_in width height marks) (tiles_in tiles)) v told q e))

  -- ---- the graph

  module _ (told : verdict_number v ≡ shape 4) (nodes counts edges : List ℕ) where
    pub graph_accepted : (b : RectangularBoard) (ts : Tiles) → v ≡ Ok tt → b ≡ board_in width height marks → ts ≡ tiles_in tiles → {nodes' counts' edges' answer' : List ℕ} {r : ℕ}
        → AnswersGraph (generate_graph b ts (length nodes) (length counts) (length edges)) nodes counts edges answer nodes' counts' edges' answer' r
        → AnswersGraph (generated width height marks tiles (length nodes) (length counts) (length edges) (length answer)) nodes counts edges answer nodes' counts' edges' answer' r
    unfolding generated
    graph_accepted b ts e is are {nodes'} {counts'} {edges'} {answer'} {r} t =
        subst (λ (a : Answer Graph). AnswersGraph a nodes counts edges answer nodes' counts' edges' answer' r)
        (ap₂ (λ (x : RectangularBoard) (y : Tiles). generate_graph x y (length nodes) (length counts) (length edges)) is are
        ∙ sym (unless_accepted (shape 4) (generate_graph (board_in width height marks) (tiles_in tiles) (length nodes) (length counts) (length edges)) v told e)) t

    pub graph_unshaped : (q : Refusal) → v ≡ Err q → {nodes' counts' edges' answer' : List ℕ} {r : ℕ}
        → nodes' ≡ cleared_from 0 nodes → counts' ≡ cleared_from 0 counts → edges' ≡ cleared_from 0 edges → AnswersWords (refused (refusal_number q)) answer answer' r
        → AnswersGraph (generated width height marks tiles (length nodes) (length counts) (length edges) (length answer)) nodes counts edges answer nodes' counts' edges' answer' r
    unfolding generated value_or map_answer
    graph_unshaped q e {nodes'} {counts'} {edges'} {answer'} {r} x y z t =
        subst (λ (a : Answer Graph). AnswersGraph a nodes counts edges answer nodes' counts' edges' answer' r)
        (sym (unless_refused (shape 4) (generate_graph (board_in width height marks) (tiles_in tiles) (length nodes) (length counts) (length edges)) v told q e))
        record {
          answered = t;
          nodes_left = x ∙ cleared_all nodes;
          counts_left = y ∙ cleared_counts_for counts;
          edges_left = no_edge edges edges' z;
        }
