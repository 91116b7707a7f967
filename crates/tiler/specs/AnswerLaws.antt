-- What a graph that is given says: it has room and its counts fit; where its full node is; and what is stored is read back and is not refused by 11. Rests
-- on expansion's `AcceptedLaws`, path_count's `PathCountLaws` and the laws of `graph` and `numbered_tilings`. Assumes nothing.
use Rattle.std.specs.Prelude.{◌≡◌, refl, Bool, true, false, cond, leb, get_or, None, Some, Result, Ok}
use Rattle.std.proofs.Math.Path.{sym, ap, ap₂, subst, fun_ext}
use Rattle.std.proofs.Common.{◌∙◌, ⊎_elim, arith, leb-true}
use Rattle.std.proofs.Math.Bool.{So}
use Rattle.std.proofs.lemmas.Bool.{false≢true}
use mathlib.Core.List.Memᴰ.{cases_cons}
use mathlib.Core.List.Memᴰ.{not-nil}
use mathlib.Core.List.{List, [], ◌∷◌, Memᴰ as Mem}
use Rattle.cells.specs.OptionLaws.{none-ne-some}
use Prim.Native.Nat.{ℕ, ◌^◌, ◌≤◌, ◌<◌}
use Rattle.std.proofs.Math.ListN.{length}
use Rattle.std.proofs.lemmas.List.{length-map}
use Rattle.cells.specs.ListLaws.{sets_in, length_words_for, sets_in_words_for}
use Rattle.tiles.specs.declared.Tiles.{Tiles}
use Rattle.refusal.specs.declared.Refusal.{Refusal}
use Rattle.refusal.specs.Refusal.{Answer, refused, given, answer_of, map_answer, bind_answer, refusal_of, value_or}
use Rattle.refusal.specs.RefusalLaws.{refused_given, given_inj, ok_of_given, map_given}
use Rattle.tile.specs.Path.{Path}
use Rattle.graph.proofs.GraphLaws.{length_edges_for, edges_in_edges_for}
use Rattle.board.specs.declared.RectangularBoard.{RectangularBoard}
use Rattle.rectangle.specs.Board.{Board}
use Rattle.covers.specs.Counts.{Entry, boards, counts, full_from, full_node}
use Rattle.covers.specs.Setting.{SumRule}
use Rattle.covers.proofs.CountLaws.{full_node_some, full_node_none}
use Rattle.graph.specs.Graph.{edges_in, node_room, edge_room}
use Rattle.graph.specs.declared.GraphResult.{GraphResult}
use Rattle.graph.proofs.RoomLaws.{node_room_lem, edge_room_lem}
use Rattle.path_count.specs.PathCounts.{count_in, count_limit}
use Rattle.path_count.specs.PathCountLaws.{length_counts_for, count_in_counts_for}
use Rattle.numbered_tilings.proofs.TilingLaws.{SoundGraph}
use Rattle.layers.specs.LayerCounts.{too_large}
use Rattle.expansion.specs.Plots.{accept_plot}
use Rattle.tiler.specs.Graphs.{Graph, graph_of, judge_graph, generate_graph, result_of_graph, Makes, path_count_at}
use Rattle.expansion.proofs.AcceptedLaws.{plot_refusal}

-- a graph that is given has room, and its counts fit
pub judged_graph : (room edges_room : ℕ) (g k : Graph) → judge_graph room edges_room g ≡ given k → (g ≡ k) × (length g.nodes ≤ room) × (length g.edges ≤ edges_room) × (too_large g.counts ≡ false)
unfolding judge_graph
judged_graph room edges_room g k e = go (leb (length g.nodes) room) refl (leb (length g.edges) edges_room) refl (too_large g.counts) refl e
  where
    go : (s : Bool) → leb (length g.nodes) room ≡ s → (t : Bool) → leb (length g.edges) edges_room ≡ t → (u : Bool) → too_large g.counts ≡ u
        → cond s (cond t (cond u (refused 9) (given g)) (refused 10)) (refused 8) ≡ given k
        → (g ≡ k) × (length g.nodes ≤ room) × (length g.edges ≤ edges_room) × (too_large g.counts ≡ false)
    go false p t q u r h = absurd (refused_given 8 k h)
    go true p false q u r h = absurd (refused_given 10 k h)
    go true p true q true r h = absurd (refused_given 9 k h)
    go true p true q false r h = (given_inj g k h, leb-true _ _ p, leb-true _ _ q, r)

-- the full board's node is behind node 0, a node, and full
pub node_behind : (full : ℕ → Bool) (ns : List ℕ) (v d : ℕ) → full_node full ns ≡ Some v → (0 < v) × (v < length ns) × So (full (get_or ns v d))
unfolding full_node full_from
node_behind full [] v d e = absurd (none-ne-some v e)
node_behind full (n ∷ ns) v d e = full_node_some full n ns v d e

graph_refusal : (room edges_room : ℕ) (g : Graph) → refusal_of (judge_graph room edges_room g) ≡ 0 → (k : Graph) × (judge_graph room edges_room g ≡ given k)
unfolding judge_graph refusal_of
graph_refusal room edges_room g e = go (leb (length g.nodes) room) (leb (length g.edges) edges_room) (too_large g.counts) e
  where
    go : (s t u : Bool) → refusal_of (cond s (cond t (cond u (refused 9) (given g)) (refused 10)) (refused 8)) ≡ 0
        → (k : Graph) × (cond s (cond t (cond u (refused 9) (given g)) (refused 10)) (refused 8) ≡ given k)
    go false t u h = absurd (omega arith)
    go true false u h = absurd (omega arith)
    go true true true h = absurd (omega arith)
    go true true false h = (g, refl)

-- a graph whose refusal's number is 0 is given
pub given_graph : (b : RectangularBoard) (ts : Tiles) (node_words count_words edge_words : ℕ) → refusal_of (generate_graph b ts node_words count_words edge_words) ≡ 0
    → (g : Graph) × (generate_graph b ts node_words count_words edge_words ≡ given g)
unfolding generate_graph bind_answer refusal_of
given_graph b ts node_words count_words edge_words e = go (accept_plot b ts) refl e
  where
    go : (a : Answer (Board × List Path)) → accept_plot b ts ≡ a
        → refusal_of (bind_answer a (λ p. judge_graph (node_room node_words count_words) (edge_room edge_words) (graph_of p.0 p.1))) ≡ 0
        → (g : Graph) × (bind_answer a (λ p. judge_graph (node_room node_words count_words) (edge_room edge_words) (graph_of p.0 p.1)) ≡ given g)
    go (refused n) q h = absurd (omega (arith, plot_refusal b ts n q))
    go (given p) q h = graph_refusal (node_room node_words count_words) (edge_room edge_words) (graph_of p.0 p.1) h

-- ---- a graph in its words

-- a node has a count beside it
pub as_many_lem : (es : List (Entry ℕ)) → length (counts es) ≡ length (boards es)
as_many_lem es = length-map es (λ (e : Entry ℕ). e.1) ∙ sym (length-map es (λ (e : Entry ℕ). e.0))

-- with no full node, only node 0 may be full
pub only_start_lem : (full : ℕ → Bool) (s : ℕ) (ns : List ℕ) → get_or ns 0 s ≡ s → full_node full ns ≡ None → (t : ℕ) → Mem t ns → So (full t) → t ≡ s
only_start_lem full s [] first e t m f = absurd (not-nil m)
only_start_lem full s (n ∷ ns) first e t m f =
    ⊎_elim (λ q. q ∙ first) (λ k. absurd (false≢true (sym (full_node_none full n ns e t k) ∙ f))) (cases_cons m)

-- the graph has a node, room in so many words, and beside each node a count that fits
pub record HasRoom (g : Graph) (n c e : ℕ) : Type 0 where
  pub some_nodes : 0 < length g.nodes
  pub nodes_fit : length g.nodes ≤ node_room n c
  pub edges_fit : length g.edges ≤ edge_room e
  pub as_many : length g.counts ≡ length g.nodes
  pub counts_fit : (v : ℕ) → path_count_at g.counts v < count_limit

-- a result that is answered stands for a graph that is given
pub graph_answered : (a : Answer Graph) (n c e : ℕ) (nodes' counts' edges' : List ℕ) (r : Result GraphResult Refusal) → Makes a n c e nodes' counts' edges' r
    → (graph : GraphResult) → r ≡ Ok graph → (g : Graph) × (a ≡ given g) × (result_of_graph g ≡ graph)
graph_answered a n c e nodes' counts' edges' r k graph h = map_given result_of_graph a graph (sym k.answer ∙ ap answer_of h)

module _ (g : Graph) (n c e : ℕ) (nodes' counts' edges' : List ℕ) (r : Result GraphResult Refusal) (k : Makes (given g) n c e nodes' counts' edges' r)
    (h : HasRoom g n c e) where
  -- the result of the graph comes back
  pub result_back : r ≡ Ok (result_of_graph g)
  unfolding map_answer
  result_back = ok_of_given r (result_of_graph g) k.answer

  -- what is stored is read back
  pub nodes_back : ((i : ℕ) → get_or g.nodes i 0 < 2 ^ 256) → sets_in nodes' (length g.nodes) ≡ g.nodes
  unfolding value_or
  nodes_back small =
      ap (λ (ws : List ℕ). sets_in ws (length g.nodes)) k.nodes ∙ sets_in_words_for g.nodes n (node_room_lem (length g.nodes) n c h.nodes_fit).0 small

  pub counts_back : (v : ℕ) → count_in counts' v ≡ path_count_at g.counts v
  unfolding value_or
  counts_back v =
      ap (λ (ws : List ℕ). count_in ws v) k.counts
      ∙ count_in_counts_for g.counts c (omega (arith, h.as_many, (node_room_lem (length g.nodes) n c h.nodes_fit).1)) h.counts_fit v

  pub edges_back : edges_in edges' (length g.edges) ≡ g.edges
  unfolding value_or
  edges_back = ap (λ (ws : List ℕ). edges_in ws (length g.edges)) k.edges ∙ edges_in_edges_for g.edges e (edge_room_lem (length g.edges) e h.edges_fit)

  -- the rule of sums, read off the words
  sums_back : SumRule (length g.nodes) g.edges (path_count_at g.counts) → SumRule (length g.nodes) (edges_in edges' (length g.edges)) (count_in counts')
  sums_back sums =
      subst (λ (count : ℕ → ℕ). SumRule (length g.nodes) (edges_in edges' (length g.edges)) count) (fun_ext (λ v. sym (counts_back v)))
      (subst (λ (es : List (ℕ × ℕ)). SumRule (length g.nodes) es (path_count_at g.counts)) (sym edges_back) sums)

  -- the words of a graph of which the rule of sums holds are sound
  pub sound_words : ((v : ℕ) → g.complete ≡ Some v → v < length g.nodes) → SumRule (length g.nodes) g.edges (path_count_at g.counts)
      → SoundGraph (result_of_graph g) (length nodes') counts' edges'
  unfolding value_or
  sound_words below sums =
      let longNodes : length nodes' ≡ n = ap length k.nodes ∙ length_words_for g.nodes n in
      let longCounts : length counts' ≡ c = ap length k.counts ∙ length_counts_for g.counts c in
      let longEdges : length edges' ≡ e = ap length k.edges ∙ length_edges_for g.edges e in
      record {
        some_nodes = h.some_nodes;
        nodes_lent = subst (λ (x : ℕ). length g.nodes ≤ x) (sym (ap₂ node_room longNodes longCounts)) h.nodes_fit;
        edges_lent = subst (λ (x : ℕ). length g.edges ≤ edge_room x) (sym longEdges) h.edges_fit;
        full_below = below;
        sums = sums_back sums;
      }
