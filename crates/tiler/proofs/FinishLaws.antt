-- What a graph in lent words comes to: the search for the full board's node; the words cleared after a refusal; and the refusals and the result of a
-- graph that has grown. Rests on `BuildLaws`, `PassingLaws`, expansion's laws, graph's `GraphLaws` and covers' laws. Assumes nothing.
use Rattle.std.specs.Prelude.{Err, None, Ok, Option, Result, Some, IsOk}
use mathlib.Core.Path.{◌≡◌, refl, sym, ap, ap₂, ◌∙◌, subst}
use mathlib.Core.Bool.{Bool, true, false, So, false≢true}
use mathlib.Core.List.{List, [], ◌∷◌}
use Prim.Native.Nat.{ℕ, suc, ◌+◌, ◌-◌, ◌*◌, ◌^◌, ◌≤◌, ◌<◌, min}
use native.Mathlib.Nat.{add-zero, le_of_eq}
use native.Mathlib.Omega.{arith}
use borrow.Author.Tests.{le-leb, lt-leb}
use lib.ListN.{length, get_or}
use Rattle.cells.specs.Set.{Sound}
use Rattle.cells.specs.WordLaws.{number_lt}
use Rattle.cells.specs.FirstsLaws.{mem_get_d}
use Rattle.cells.specs.Lists.{list_from, list_of, set_at, words_for}
use Rattle.cells.specs.Parts.{cleared_from, first_from}
use Rattle.cells.specs.ArrayLaws.{get_d_list_of}
use Rattle.cells.specs.ListLaws.{cleared_sets, cleared_all}
use Rattle.tiles.specs.declared.Tiles.{Tiles}
use Rattle.refusal.specs.declared.Refusal.{Refusal}
use Rattle.refusal.specs.Refusal.{Answer, refused, given, bind_answer, refusal_number, value_or, map_answer, answer_of}
use Rattle.tile.specs.Path.{Path}
use Rattle.tiles.specs.Paths.{paths_in}
use Rattle.board.specs.declared.RectangularBoard.{RectangularBoard}
use Rattle.rectangle.specs.Board.{Board, board_at, is_full, valid}
use Rattle.board.specs.Board.{board_of, read_board}
use Rattle.covers.specs.Setting.{Setting, Laws, EqualSteps, entries_of, nodes_of, graph_edges}
use Rattle.covers.specs.Counts.{counts, full_from, full_node}
use Rattle.covers.proofs.SettingLaws.{node_ok}
use Rattle.covers.proofs.PassLaws.{edge_in}
use Rattle.graph.specs.declared.GraphResult.{GraphResult}
use Rattle.graph.specs.Graph.{edge_at, edges_for, node_room, edge_room}
use Rattle.cells.specs.SearchLaws.{first_from_found, first_from_missed}
use Rattle.graph.proofs.GraphLaws.{cleared_edges}
use Rattle.expansion.specs.Boards.{From, setting, setting_of, start_of, Accepted}
use Rattle.tiler.specs.Graphs.{Graph, Makes, GeneratesGraph, result_of_graph, no_graph, judge_graph, generate_graph, graph_of}
use Rattle.expansion.specs.Plots.{accept_plot}
use Rattle.expansion.specs.Parts.{marked_board, step_of}
use Rattle.layers.specs.LayerCounts.{too_large}
use Rattle.tiler.specs.Inner.{HoldsGraph, EndsBelow, PassesEdges, Finishes, MakesGraph, graph_in}
use Rattle.expansion.proofs.AcceptedLaws.{accepted_laws, accepted_steps, accepted_start}
use Rattle.graph.proofs.RoomLaws.{node_room_lem, edge_room_lem}
use Rattle.tiler.specs.GivenLaws.{graph_setting}
use Rattle.std.specs.Option.{ok_or}
use Rattle.std.specs.Result.{is_err, IsErrAnd}
use Rattle.std.proofs.lemmas.Result.{err_from_is_err_and}
use Rattle.tiler.proofs.BuildLaws.{size_held, no_room_held}
use Rattle.tiler.proofs.PassingLaws.{pass_counts, pass_too_large}
use Rattle.board.specs.BoardLaws.{read_board_given}
use Rattle.refusal.specs.RefusalLaws.{refused_given, refused_inj, given_inj, is_ok_given, map_refused}
use Rattle.path_count.specs.PathCounts.{count_room, counts_for}
use Rattle.path_count.specs.PathCountLaws.{cleared_counts_for}
use Rattle.expansion.proofs.ExpansionLaws.{marked_from}

-- ---- the search for the full board's node

-- d is the board of the start b with the marks m
module _ (b d : RectangularBoard) (m : ℕ) (marked : board_of d ≡ marked_board b m) (from : From (board_of b) m) where
  at : board_of d ≡ board_at (board_of b) m
  at = marked ∙ marked_from b m from

  accepted_at : So (valid (board_of d))
  accepted_at = subst (λ (x : Board). So (valid x)) (sym at) from.accepted

  module _ (r : Result Bool Refusal) (e : answer_of r ≡ map_answer is_full (read_board d)) where
    full_answer : answer_of r ≡ given (is_full (board_at (board_of b) m))
    unfolding map_answer
    full_answer = e ∙ ap (map_answer is_full) (read_board_given d accepted_at) ∙ ap (λ (x : Board). given (is_full x)) at

    -- it is not refused
    pub full_told : IsOk r
    full_told = is_ok_given r (is_full (board_at (board_of b) m)) full_answer

    pub full_is : (t : Bool) → r ≡ Ok t → t ≡ is_full (board_at (board_of b) m)
    full_is t q = given_inj t (is_full (board_at (board_of b) m)) (sym (ap answer_of q) ∙ full_answer)

-- the board at a place, as it was tested
pub full_at_lem : (b : RectangularBoard) (m k : ℕ) (r t : Bool) → r ≡ is_full (board_at (board_of b) m) → m ≡ k → r ≡ t → is_full (board_at (board_of b) k) ≡ t
full_at_lem b m k r t e q h = ap (λ (n : ℕ). is_full (board_at (board_of b) n)) (sym q) ∙ sym e ∙ h

module _ (test : ℕ → Bool) (i : ℕ) (missed : (k : ℕ) → 1 ≤ k → k < i → test k ≡ false) where
  pub complete_found : (n : ℕ) → 1 ≤ i → i < n → test i ≡ true → (Some i) ≡ first_from test 1 (n - 1)
  complete_found n h l e = sym (first_from_found test 1 (n - 1) i h (omega arith) e missed)

  pub complete_none : (n : ℕ) → n ≤ i → None ≡ first_from test 1 (n - 1)
  complete_none n l = sym (first_from_missed test 1 (n - 1) (λ k a b. missed k a (omega arith)))

-- the places hold a list's boards
full_from_lem : (full : ℕ → Bool) (f : ℕ → ℕ) (ss : List ℕ) (i : ℕ) → ((k : ℕ) → k < length ss → f (i + k) ≡ get_or ss k 0)
    → first_from (λ i. full (f i)) i (length ss) ≡ full_from full i ss
unfolding first_from full_from
full_from_lem full f [] i h = refl
full_from_lem full f (s ∷ ss) i h =
    let first : f i ≡ s = ap f (sym (add-zero i)) ∙ h 0 (omega arith) in
    rw (first, full_from_lem full f ss (suc i) (λ k l. let q : suc i + k ≡ i + suc k = omega arith in ap f q ∙ h (suc k) (omega arith)))

full_node_lem : (full : ℕ → Bool) (f : ℕ → ℕ) (ss : List ℕ) → list_of f (length ss) ≡ ss
    → first_from (λ i. full (f i)) 1 (length ss - 1) ≡ full_node full ss
unfolding full_node first_from full_from
full_node_lem full f [] e = refl
full_node_lem full f (s ∷ ss) e =
    let l : suc (length ss) - 1 ≡ length ss = omega arith in
    ap (first_from (λ i. full (f i)) 1) l ∙ full_from_lem full f ss 1 at
  where
    at : (k : ℕ) → k < length ss → f (1 + k) ≡ get_or ss k 0
    at k h =
        let q : 1 + k ≡ suc k = omega arith in
        ap f q ∙ sym (get_d_list_of f (suc (length ss)) (suc k) 0 (omega arith)) ∙ ap (λ (l : List ℕ). get_or l (suc k) 0) e

-- ---- a refusal

zero_edges : (ws : List ℕ) → cleared_from 0 ws ≡ edges_for [] (length ws)
unfolding list_of list_from
zero_edges ws = cleared_edges ws [] (omega arith) refl

-- what is answered is a refusal, and the words were cleared
pub makes_refused : (a : Answer Graph) (q : Refusal) (r : Result GraphResult Refusal) (ns cs es ns' cs' es' : List ℕ) → answer_of r ≡ map_answer result_of_graph a → r ≡ Err q
    → ns' ≡ cleared_from 0 ns → cs' ≡ cleared_from 0 cs → es' ≡ cleared_from 0 es → Makes a (length ns) (length cs) (length es) ns' cs' es' r
unfolding value_or
makes_refused a q r ns cs es ns' cs' es' told e n c d =
    let a_is : a ≡ refused (refusal_number q) = (map_refused result_of_graph a (refusal_number q)).0 (sym told ∙ ap answer_of e) in
    record {
      answer = told;
      nodes = n ∙ cleared_all ns ∙ ap (λ (x : Answer Graph). words_for (value_or no_graph x).nodes (length ns)) (sym a_is);
      counts = c ∙ cleared_counts_for cs ∙ ap (λ (x : Answer Graph). counts_for (value_or no_graph x).counts (length cs)) (sym a_is);
      edges = d ∙ zero_edges es ∙ ap (λ (x : Answer Graph). edges_for (value_or no_graph x).edges (length es)) (sym a_is);
    }

-- ---- what is judged

module _ (room edges_room : ℕ) (g : Graph) where
  judge_graph_nodes : room < length g.nodes → judge_graph room edges_room g ≡ refused 8
  unfolding judge_graph
  judge_graph_nodes h = rw (lt-leb (length g.nodes) room h)

  module _ (h : length g.nodes ≤ room) where
    judge_graph_edges : edges_room < length g.edges → judge_graph room edges_room g ≡ refused 10
    unfolding judge_graph
    judge_graph_edges l = rw (le-leb (length g.nodes) room h, lt-leb (length g.edges) edges_room l)

    module _ (l : length g.edges ≤ edges_room) where
      judge_graph_large : too_large g.counts ≡ true → judge_graph room edges_room g ≡ refused 9
      unfolding judge_graph
      judge_graph_large t = rw (le-leb (length g.nodes) room h, le-leb (length g.edges) edges_room l, t)

      judge_graph_given : too_large g.counts ≡ false → judge_graph room edges_room g ≡ given g
      unfolding judge_graph
      judge_graph_given t = rw (le-leb (length g.nodes) room h, le-leb (length g.edges) edges_room l, t)

-- ---- the graph of a board and tiles

module _ (b : RectangularBoard) (ts : Tiles) (accepted : Accepted b ts) (fixed : Sound b.fixed) (laid : Sound b.laid) where
  abbrev S : Setting ℕ ℕ
  S = setting_of b ts

  abbrev start : ℕ
  start = start_of b

  abbrev nodes : List ℕ
  nodes = nodes_of S start

  abbrev edges : List (ℕ × ℕ)
  edges = graph_edges S start

  laws : Laws S
  laws = accepted_laws b ts accepted

  equal : EqualSteps S (step_of (paths_in ts))
  equal = accepted_steps b ts accepted

  ok : S.Ok start
  ok = accepted_start b ts accepted (number_lt b.fixed fixed) (number_lt b.laid laid)

  module _ (room edges_room : ℕ) (ns es : List ℕ) (growth : Option (ℕ × ℕ)) (n e : ℕ) (holds : HoldsGraph room edges_room ns es growth (nodes, edges))
      (size : growth ≡ Some (n, e)) where
    sized : (length nodes ≤ room) × (n ≡ length nodes) × (e ≡ min (length edges) (suc edges_room))
    sized = size_held room edges_room (nodes, edges) n e (sym size ∙ holds.state)

    -- the nodes and the edges stand in the words
    stored_nodes : list_of (set_at ns) n ≡ nodes
    stored_nodes = ap (list_of (set_at ns)) sized.1 ∙ holds.nodes sized.0

    node_from : (i : ℕ) → i < n → From (board_of b) (set_at ns i)
    unfolding setting
    node_from i h =
        subst (From (board_of b))
        (ap (λ (l : List ℕ). get_or l i 0) (sym stored_nodes) ∙ get_d_list_of (set_at ns) n i 0 h)
        (node_ok S laws start ok (get_or nodes i 0) (mem_get_d nodes i 0 (omega (arith, sized.1))))

    module _ (few : e ≤ edges_room) where
      all_edges : (e ≡ length edges) × (length edges ≤ edges_room)
      all_edges = let q = sized.2 in (omega arith, omega arith)

      stored_edges : list_of (edge_at es) e ≡ edges
      stored_edges = ap (list_of (edge_at es)) all_edges.0 ∙ holds.edges sized.0 all_edges.1

      -- an edge joins two nodes
      edge_ends : (i : ℕ) → i < e → ((edge_at es i).0 < room) × ((edge_at es i).1 < room)
      edge_ends i h =
          let q : get_or edges i (0, 0) ≡ edge_at es i =
          ap (λ (l : List (ℕ × ℕ)). get_or l i (0, 0)) (sym stored_edges) ∙ get_d_list_of (edge_at es) e i (0, 0) h in
          let r = edge_in S laws (step_of (paths_in ts)) equal start ok i (omega (arith, all_edges.0)) in
          (omega (arith, ap (λ (d : ℕ × ℕ). d.0) q, r.0, r.1, sized.0), omega (arith, ap (λ (d : ℕ × ℕ). d.1) q, r.1, sized.0))

      -- the counts of the pass
      passes : (words : ℕ) (cs : List ℕ) (t : Bool) → PassesEdges words (list_of (edge_at es) e) cs t → PassesEdges words edges cs t
      passes words cs t = subst (λ (ds : List (ℕ × ℕ)). PassesEdges words ds cs t) stored_edges

      -- the words of the nodes and edges, and the full board's node
      module _ (ns' es' : List ℕ) (r : GraphResult) (small : (i : ℕ) → get_or ns i 0 < 2 ^ 64) (longNodes : 4 * room ≤ length ns)
          (longEdges : 2 * edges_room ≤ length es) (finish : Finishes (board_of b) ns es n e ns' es' r) where
        finished_nodes : ns' ≡ words_for nodes (length ns)
        finished_nodes =
            finish.node_words
            ∙ ap (λ (k : ℕ). cleared_from (4 * k) ns) sized.1
            ∙ cleared_sets ns nodes small (omega (arith, sized.0)) (holds.nodes sized.0)

        finished_edges : es' ≡ edges_for edges (length es)
        finished_edges =
            finish.edge_words
            ∙ ap (λ (k : ℕ). cleared_from (2 * k) es) all_edges.0
            ∙ cleared_edges es edges (omega (arith, all_edges.1)) (holds.edges sized.0 all_edges.1)

        finished_result : r ≡ result_of_graph (graph_in S start)
        unfolding graph_in setting
        finished_result =
            finish.result
            ∙ ap₂ (λ (k l : ℕ). record { nodes = k; edges = l; complete = first_from (λ i. is_full (board_at (board_of b) (set_at ns i))) 1 (k - 1) }) sized.1 all_edges.0
            ∙ ap (λ (o : Option ℕ). record { nodes = length nodes; edges = length edges; complete = o })
            (full_node_lem (λ m. is_full (board_at (board_of b) m)) (set_at ns) nodes (holds.nodes sized.0))

  -- ---- what is made of so many lent words

  module _ (plot : accept_plot b ts ≡ given (board_of b, paths_in ts)) (wn wc we room edges_room : ℕ) (atRoom : room ≡ node_room wn wc) (atEdgesRoom : edges_room ≡ edge_room we)
      (ns es : List ℕ) (growth : Option (ℕ × ℕ)) (holds : HoldsGraph room edges_room ns es growth (nodes, edges))
      (longNodes : length ns ≡ wn) (longEdges : length es ≡ we) where
    abbrev answer : Answer Graph
    answer = generate_graph b ts wn wc we

    rooms : answer ≡ judge_graph room edges_room (graph_in S start)
    unfolding generate_graph bind_answer
    rooms =
        ap (λ (a : Answer (Board × List Path)). bind_answer a (λ p. judge_graph (node_room wn wc) (edge_room we) (graph_of p.0 p.1))) plot
        ∙ ap (judge_graph (node_room wn wc) (edge_room we)) (graph_setting (board_of b) (paths_in ts))
        ∙ ap₂ (λ (n e : ℕ). judge_graph n e (graph_in S start)) (sym atRoom) (sym atEdgesRoom)

    pub made_no_room : growth ≡ None → answer ≡ refused 8
    unfolding graph_in
    made_no_room q = rooms ∙ judge_graph_nodes room edges_room (graph_in S start) (no_room_held room edges_room (nodes, edges) (sym q ∙ holds.state))

    module _ (n e : ℕ) (size : growth ≡ Some (n, e)) where
      -- what the calls ask
      pub count_asks : e ≤ edges_room → (2 * e ≤ length es) × EndsBelow es e (count_room wc)
      count_asks few =
          let inRoom = (node_room_lem room wn wc (le_of_eq atRoom)).1 in (
            omega (arith, edge_room_lem edges_room we (le_of_eq atEdgesRoom)),
            λ i h.
                let ends = edge_ends room edges_room ns es growth n e holds size few i h in
                (omega (arith, ends.0), omega (arith, ends.1)),
          )

      pub finish_asks : e ≤ edges_room → ((i : ℕ) → i < n → From (board_of b) (set_at ns i)) × (4 * n ≤ length ns) × (2 * e ≤ length es)
      finish_asks few =
          let fits = sized room edges_room ns es growth n e holds size in (
            node_from room edges_room ns es growth n e holds size,
            omega (arith, (node_room_lem room wn wc (le_of_eq atRoom)).0, fits.0, fits.1),
            omega (arith, edge_room_lem edges_room we (le_of_eq atEdgesRoom)),
          )

      pub made_no_room_for_edges : edges_room < e → answer ≡ refused 10
      unfolding graph_in
      made_no_room_for_edges h =
          let fits = sized room edges_room ns es growth n e holds size in
          let q = fits.2 in
          rooms ∙ judge_graph_edges room edges_room (graph_in S start) fits.0 (omega arith)

      module _ (few : e ≤ edges_room) (cs : List ℕ) (t : Bool) (pass : PassesEdges wc (list_of (edge_at es) e) cs t) where
        all : PassesEdges wc edges cs t
        all = passes room edges_room ns es growth n e holds size few wc cs t pass

        pub made_large : t ≡ false → answer ≡ refused 9
        unfolding graph_in
        made_large f =
            rooms
            ∙ judge_graph_large room edges_room (graph_in S start) (sized room edges_room ns es growth n e holds size).0
            (all_edges room edges_room ns es growth n e holds size few).1
            (pass_too_large S laws (step_of (paths_in ts)) equal start ok wc cs t all f)

        pub made_finished : (ns' es' : List ℕ) (r : GraphResult) → ((i : ℕ) → get_or ns i 0 < 2 ^ 64) → t ≡ true
            → Finishes (board_of b) ns es n e ns' es' r → Makes answer wn wc we ns' cs es' (Ok r)
        unfolding graph_in value_or map_answer
        made_finished ns' es' r smallNodes f finish = rw (is_given, ← longNodes, ← longEdges) (record {
          answer = ap given (finished_result room edges_room ns es growth n e holds size few ns' es' r smallNodes wide_nodes wide_edges finish);
          nodes = finished_nodes room edges_room ns es growth n e holds size few ns' es' r smallNodes wide_nodes wide_edges finish;
          counts = are.0;
          edges = finished_edges room edges_room ns es growth n e holds size few ns' es' r smallNodes wide_nodes wide_edges finish;
        })
          where
            are : (cs ≡ counts_for (counts (entries_of S start)) wc) × (too_large (counts (entries_of S start)) ≡ false)
            are = pass_counts S laws (step_of (paths_in ts)) equal start ok wc cs t all f

            wide_nodes : 4 * room ≤ length ns
            wide_nodes = omega (arith, (node_room_lem room wn wc (le_of_eq atRoom)).0)

            wide_edges : 2 * edges_room ≤ length es
            wide_edges = omega (arith, edge_room_lem edges_room we (le_of_eq atEdgesRoom))

            is_given : answer ≡ given (graph_in S start)
            is_given =
                rooms
                ∙ judge_graph_given room edges_room (graph_in S start) (sized room edges_room ns es growth n e holds size).0
                (all_edges room edges_room ns es growth n e holds size few).1 are.1

-- ---- what is answered

-- a refusal that stands for nothing
pub ok_or_refused : {A B : Type 0} (o : Option A) (q k : Refusal) → Err q ≡ ok_or o k → o ≡ None → ◌≡◌ {A = Answer B} (refused (refusal_number k)) (refused (refusal_number q))
ok_or_refused {A} o q k e none = ap refused (refused_inj {A = A} _ _ (sym (ap answer_of (e ∙ ap (λ (x : Option A). ok_or x k) none))))

-- board or tiles are refused
pub plot_refused : (b : RectangularBoard) (ts : Tiles) (wn wc we n : ℕ) → accept_plot b ts ≡ refused n → generate_graph b ts wn wc we ≡ refused n
unfolding generate_graph bind_answer
plot_refused b ts wn wc we n e =
    ap (λ (a : Answer (Board × List Path)). bind_answer a (λ p. judge_graph (node_room wn wc) (edge_room we) (graph_of p.0 p.1))) e

module _ (b : RectangularBoard) (ts : Tiles) (ns cs es ns' cs' es' : List ℕ) where
  -- a refusal
  pub graph_refused : (q : Refusal) → generate_graph b ts (length ns) (length cs) (length es) ≡ refused (refusal_number q) → MakesGraph b ts ns cs es ns' cs' es' (Err q)
  unfolding map_answer
  graph_refused q e = (sym (ap (map_answer result_of_graph) e), λ g h. absurd (refused_given (refusal_number q) g (ap answer_of h)))

  -- and the same handed on by a `?`
  pub graph_refused_on : (q : Refusal) (r : Result GraphResult Refusal) → IsErrAnd r (λ e. e ≡ q)
      → generate_graph b ts (length ns) (length cs) (length es) ≡ refused (refusal_number q) → MakesGraph b ts ns cs es ns' cs' es' r
  graph_refused_on q r h e =
      let p = err_from_is_err_and r h in
      subst (MakesGraph b ts ns cs es ns' cs' es') (ap Err (sym p.2) ∙ sym p.1) (graph_refused q e)

  pub graph_made : (r : Result GraphResult Refusal) → GeneratesGraph b ts ns cs es ns' cs' es' r → MakesGraph b ts ns cs es ns' cs' es' r
  graph_made r m = (m.answer, λ g h. m)

  -- a graph that is given is kept as it was made
  pub graph_kept : (r : Result GraphResult Refusal) → MakesGraph b ts ns cs es ns' cs' es' r → is_err r ≡ false → GeneratesGraph b ts ns cs es ns' cs' es' r
  graph_kept (Ok g) m e = m.1 g refl
  graph_kept (Err q) m e = absurd (false≢true (sym e))

  -- and after a refusal the words are cleared
  pub graph_cleared : (us vs ws : List ℕ) (r : Result GraphResult Refusal) → MakesGraph b ts ns cs es us vs ws r → is_err r ≡ true
      → length us ≡ length ns → length vs ≡ length cs → length ws ≡ length es → ns' ≡ cleared_from 0 us → cs' ≡ cleared_from 0 vs → es' ≡ cleared_from 0 ws
      → GeneratesGraph b ts ns cs es ns' cs' es' r
  graph_cleared us vs ws (Ok g) m e l k j p q t = absurd (false≢true e)
  graph_cleared us vs ws (Err f) m e l k j p q t =
      rw (← l, ← k, ← j)
      (makes_refused (generate_graph b ts (length us) (length vs) (length ws)) f (Err f) us vs ws ns' cs' es'
      (rw (l, k, j) m.0) refl p q t)
