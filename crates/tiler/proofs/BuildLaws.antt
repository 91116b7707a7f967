-- A graph in lent words: what one edge more, one child more and one node expanded do to the words and to the state, and where the nodes found are
-- all nodes. Rests on `Inner`, expansion's `AcceptedLaws`, the laws of finding of `covers` and the laws of `graph` and `cells`. Assumes nothing.
use mathlib.Core.Path.{◌≡◌, refl, sym, ap, ap₂, ◌∙◌, subst}
use mathlib.Core.Bool.{Bool, true, false, cond, false≢true}
use mathlib.Core.List.{List, [], ◌∷◌, ◌++◌}
use Rattle.std.specs.Prelude.{None, Some, Option}
use Prim.Native.Nat.{ℕ, zero, suc, ◌+◌, ◌-◌, ◌*◌, ◌/◌, ◌^◌, ◌≤◌, ◌<◌, min}
use native.Mathlib.Nat.{add-zero}
use native.Mathlib.Numerals.{add-one}
use native.Mathlib.Omega.{arith}
use borrow.Author.Tests.{le-leb, lt-leb, leb-true, leb-false}
use lib.Dec.{eqb, leb}
use lib.ListN.{length, get_or, set, length-append}
use Rattle.cells.specs.Set.{number}
use Rattle.cells.specs.Lists.{holds, list_of, list_from, set_at}
use Rattle.cells.specs.Parts.{with_set, find_set}
use Rattle.cells.specs.FirstsLaws.{add_new_old, add_new_new, holds_iff, mem_get_d}
use Rattle.cells.specs.MemberLaws.{eqb_tells}
use Rattle.cells.specs.ArrayLaws.{get_d_list_of, list_of_ext, list_of_snoc}
use Rattle.cells.specs.ListLaws.{set_at_same, set_at_other}
use Rattle.tiles.specs.declared.Tiles.{Tiles}
use Rattle.tiles.specs.Paths.{paths_in}
use Rattle.board.specs.declared.RectangularBoard.{RectangularBoard}
use Rattle.board.specs.Board.{board_of}
use Rattle.rectangle.proofs.BoardLaws.{marks_lt}
use Rattle.covers.specs.Setting.{Setting, child_boards, Laws, EqualSteps, nodes_of, graph_edges}
use Rattle.covers.specs.Counts.{number_in}
use Rattle.covers.proofs.NodeLaws.{number_right}
use Rattle.covers.proofs.SettingLaws.{node_ok, some_node}
use Rattle.covers.specs.Inner.{add_child, add_children}
use Rattle.covers.proofs.FindingLaws.{add_children_snoc, add_children_longer, found_at, edges_at, found_zero, found_prefix, found_at_lem, found_end, edges_zero, edges_all, expanded}
use Rattle.graph.specs.Graph.{edge_at}
use Rattle.graph.proofs.GraphLaws.{set_edge, found_held}
use Rattle.expansion.specs.Boards.{From, setting, setting_of, start_of, Accepted}
use Rattle.expansion.specs.Parts.{step_of}
use Rattle.tiler.specs.Inner.{growth_of, HoldsEdges, HoldsGraph}
use Rattle.expansion.proofs.AcceptedLaws.{accepted_laws, accepted_steps, accepted_start}

in_lent : (i l : ℕ) → 4 * i + 4 ≤ l → i < l / 4
in_lent i l h = omega arith

-- ---- one edge more

module _ (room : ℕ) (ws : List ℕ) (n : ℕ) (es : List (ℕ × ℕ)) (k : HoldsEdges room ws n es) (p c : ℕ) where
  longer : length (es ++ (p, c) ∷ []) ≡ length es + 1
  longer = length-append es ((p, c) ∷ [])

  -- there is no room for it
  pub edge_past : room ≤ n → HoldsEdges room ws (room + 1) (es ++ (p, c) ∷ [])
  edge_past h = record {
    number = omega (arith, k.number, longer);
    edges = λ l. absurd (omega (arith, k.number, longer));
  }

  -- it is stored behind the others
  pub edge_put : n < room → 2 * room ≤ length ws → (vs : List ℕ) → vs ≡ set (set ws (2 * n) p) (2 * n + 1) c
      → HoldsEdges room vs (n + 1) (es ++ (p, c) ∷ [])
  edge_put h r vs e =
      let m : n ≡ length es = omega (arith, k.number) in
      let v : vs ≡ set (set ws (2 * length es) p) (2 * length es + 1) c = e ∙ ap (λ (j : ℕ). set (set ws (2 * j) p) (2 * j + 1) c) m in
      record {
        number = omega (arith, longer);
        edges = λ l. ap₂ (λ (l : List ℕ) (j : ℕ). list_of (edge_at l) j) v longer
            ∙ set_edge ws es p c (omega arith) (k.edges (omega arith));
      }

-- ---- what the state tells

module _ (room edges_room : ℕ) (g : List ℕ × List (ℕ × ℕ)) where
  pub size_held : (n e : ℕ) → ◌≡◌ {A = Option (ℕ × ℕ)} (Some (n, e)) (growth_of room edges_room g)
      → (length g.0 ≤ room) × (n ≡ length g.0) × (e ≡ min (length g.1) (suc edges_room))
  unfolding growth_of
  size_held n e q = go (leb (length g.0) room) (leb-true (length g.0) room) q
    where
      go : (t : Bool) → (t ≡ true → length g.0 ≤ room)
          → ◌≡◌ {A = Option (ℕ × ℕ)} (Some (n, e)) (cond t (Some (length g.0, min (length g.1) (suc edges_room))) None)
          → (length g.0 ≤ room) × (n ≡ length g.0) × (e ≡ min (length g.1) (suc edges_room))
      go true f q =
          let same : ◌≡◌ {A = ℕ × ℕ} (n, e) (length g.0, min (length g.1) (suc edges_room)) = cc in
          (f refl, ap (λ (p : ℕ × ℕ). p.0) same, ap (λ (p : ℕ × ℕ). p.1) same)
      go false f q = let z : ◌≡◌ {A = ℕ} 0 1 = cc in absurd (omega arith)

  pub no_room_held : None ≡ growth_of room edges_room g → room < length g.0
  unfolding growth_of
  no_room_held q = go (leb (length g.0) room) (leb-false (length g.0) room) q
    where
      go : (t : Bool) → (t ≡ false → room < length g.0)
          → ◌≡◌ {A = Option (ℕ × ℕ)} None (cond t (Some (length g.0, min (length g.1) (suc edges_room))) None) → room < length g.0
      go true f q = let z : ◌≡◌ {A = ℕ} 0 1 = cc in absurd (omega arith)
      go false f q = f refl

  size_is : length g.0 ≤ room → ◌≡◌ {A = Option (ℕ × ℕ)} (Some (length g.0, min (length g.1) (suc edges_room))) (growth_of room edges_room g)
  unfolding growth_of
  size_is h = rw (le-leb (length g.0) room h)

  no_room_is : room < length g.0 → None ≡ growth_of room edges_room g
  unfolding growth_of
  no_room_is h = rw (lt-leb (length g.0) room h)

  -- nothing is asked of the words where the nodes pass the room
  no_room_graph : (ns es : List ℕ) → room < length g.0 → HoldsGraph room edges_room ns es None g
  no_room_graph ns es h = record { state = no_room_is h; nodes = λ l. absurd (omega arith); edges = λ l. absurd (omega arith) }

  -- nodes that have room, and edges
  size_graph : (ns es : List ℕ) (n e : ℕ) → length g.0 ≤ room → n ≡ length g.0 → list_of (set_at ns) (length g.0) ≡ g.0
      → HoldsEdges edges_room es e g.1 → HoldsGraph room edges_room ns es (Some (n, e)) g
  size_graph ns es n e h m held k =
      record { state = ap₂ (λ (a b : ℕ). Some (a, b)) m k.number ∙ size_is h; nodes = λ l. held; edges = λ l. k.edges }

-- ---- one child more

module _ (room edges_room : ℕ) (ns es : List ℕ) (n e : ℕ) (g : List ℕ × List (ℕ × ℕ)) (k : HoldsGraph room edges_room ns es (Some (n, e)) g) (p x : ℕ) where
  module _ (lent : 4 * room ≤ length ns) (r : Option ℕ) (f : r ≡ find_set ns 0 n x) where
    sizes : (length g.0 ≤ room) × (n ≡ length g.0) × (e ≡ min (length g.1) (suc edges_room))
    sizes = size_held room edges_room g n e k.state

    held : HoldsEdges edges_room es e g.1
    held = record { number = sizes.2; edges = k.edges sizes.0 }

    sought : r ≡ cond (holds eqb g.0 x) (Some (number_in eqb g.0 x)) None
    sought =
        f ∙ ap (λ (j : ℕ). find_set ns 0 j x) sizes.1
        ∙ found_held ns g.0 x (omega (arith, sizes.0)) (k.nodes sizes.0)

    there_is : (i : ℕ) → r ≡ Some i → (holds eqb g.0 x ≡ true) × (i ≡ number_in eqb g.0 x)
    there_is i q = go (holds eqb g.0 x) refl (sym q ∙ sought)
      where
        go : (t : Bool) → holds eqb g.0 x ≡ t → Some i ≡ cond t (Some (number_in eqb g.0 x)) None
            → (holds eqb g.0 x ≡ true) × (i ≡ number_in eqb g.0 x)
        go true h q = (h, cc)
        go false h q = let z : ◌≡◌ {A = ℕ} 0 1 = cc in absurd (omega arith)

    there_is_none : r ≡ None → holds eqb g.0 x ≡ false
    there_is_none q = go (holds eqb g.0 x) refl (sym q ∙ sought)
      where
        go : (t : Bool) → holds eqb g.0 x ≡ t → None ≡ cond t (Some (number_in eqb g.0 x)) None → holds eqb g.0 x ≡ false
        go true h q = let z : ◌≡◌ {A = ℕ} 0 1 = cc in absurd (omega arith)
        go false h q = h

    -- it is a node already
    pub child_old : (i : ℕ) → r ≡ Some i → (vs : List ℕ) (m : ℕ)
        → ((ds : List (ℕ × ℕ)) → HoldsEdges edges_room es e ds → HoldsEdges edges_room vs m (ds ++ (p, i) ∷ []))
        → HoldsGraph room edges_room ns vs (Some (n, m)) (add_child eqb p x g)
    unfolding add_child
    child_old i q vs m more =
        let t = there_is i q in
        rw (add_new_old eqb g.0 x t.0, ← t.1)
        (size_graph room edges_room (g.0, g.1 ++ (p, i) ∷ []) ns vs n m sizes.0 sizes.1 (k.nodes sizes.0) (more g.1 held))

    -- there is no room for it
    pub child_over : r ≡ None → room ≤ n → HoldsGraph room edges_room ns es None (add_child eqb p x g)
    unfolding add_child
    child_over q h =
        no_room_graph room edges_room (add_child eqb p x g) ns es
        (omega (arith, ap length (add_new_new eqb g.0 x (there_is_none q)), length-append g.0 (x ∷ []), sizes.1))

    -- its number is the next
    new_number : r ≡ None → number_in eqb (g.0 ++ x ∷ []) x ≡ n
    unfolding number_in
    new_number q =
        let new = number_right eqb eqb_tells g.0 (x ∷ []) x (λ m. false≢true (sym (there_is_none q) ∙ (holds_iff eqb eqb_tells g.0 x).1 m)) in
        let first : number_in eqb (x ∷ []) x ≡ 0 = rw ((eqb_tells x x).1 refl) in
        omega (arith, new, first, sizes.1)

    new_length : length (g.0 ++ x ∷ []) ≡ n + 1
    new_length = length-append g.0 (x ∷ []) ∙ omega (arith, sizes.1)

    new_fits : n < room → length (g.0 ++ x ∷ []) ≤ room
    new_fits h = omega (arith, new_length)

    new_lent : n < room → 4 * n + 4 ≤ length ns
    new_lent h = omega arith

    before : (j : ℕ) → j < n → j ≡ n → ⊥
    before j h q = omega arith

    -- it is stored behind the others
    new_nodes : n < room → x < 2 ^ 256 → list_of (set_at (with_set ns n x)) (length (g.0 ++ x ∷ [])) ≡ g.0 ++ x ∷ []
    new_nodes h small =
        ap (list_of (set_at (with_set ns n x))) new_length
        ∙ list_of_snoc (set_at (with_set ns n x)) n
        ∙ ap₂ (λ (l : List ℕ) (y : ℕ). l ++ y ∷ [])
        (list_of_ext (set_at (with_set ns n x)) (set_at ns) n (λ j l. set_at_other ns n x j (before j l))
        ∙ ap (list_of (set_at ns)) sizes.1
        ∙ k.nodes sizes.0)
        (set_at_same ns n x (in_lent n (length ns) (new_lent h)) small)

    pub child_put : r ≡ None → n < room → x < 2 ^ 256 → (us : List ℕ) → us ≡ with_set ns n x → (vs : List ℕ) (m : ℕ)
        → ((ds : List (ℕ × ℕ)) → HoldsEdges edges_room es e ds → HoldsEdges edges_room vs m (ds ++ (p, n) ∷ []))
        → HoldsGraph room edges_room us vs (Some (n + 1, m)) (add_child eqb p x g)
    unfolding add_child
    child_put q h small us w vs m more =
        rw (add_new_new eqb g.0 x (there_is_none q), new_number q, w)
        (size_graph room edges_room (g.0 ++ x ∷ [], g.1 ++ (p, n) ∷ []) (with_set ns n x) vs (n + 1) m
        (new_fits h) (sym new_length) (new_nodes h small) (more g.1 held))

-- ---- children one after another

module _ (room edges_room : ℕ) (ns es : List ℕ) (growth : Option (ℕ × ℕ)) (g : List ℕ × List (ℕ × ℕ)) (p : ℕ) (f : ℕ → ℕ) where
  pub children_none : HoldsGraph room edges_room ns es growth g → HoldsGraph room edges_room ns es growth (add_children eqb p (list_of f 0) g)
  unfolding add_children list_of list_from
  children_none k = k

  pub children_more : (i x : ℕ) → x ≡ f i → HoldsGraph room edges_room ns es growth (add_child eqb p x (add_children eqb p (list_of f i) g))
      → HoldsGraph room edges_room ns es growth (add_children eqb p (list_of f (i + 1)) g)
  children_more i x e k =
      subst (HoldsGraph room edges_room ns es growth)
      (sym (add_children_snoc eqb p (list_of f i) x g)
      ∙ ap (λ (l : List ℕ). add_children eqb p l g) (ap (λ (y : ℕ). list_of f i ++ y ∷ []) e ∙ sym (list_of_snoc f i)))
      k

  -- room was gone before the last
  children_longer : (i k : ℕ) → length (add_children eqb p (list_of f i) g).0 ≤ length (add_children eqb p (list_of f (i + k)) g).0
  unfolding add_children
  children_longer i zero = omega (arith, ap (λ (j : ℕ). length (add_children eqb p (list_of f j) g).0) (add-zero i))
  children_longer i (suc k) =
      let next : i + suc k ≡ i + k + 1 = omega arith in
      omega (
        arith,
        children_longer i k,
        (add_children_longer eqb p (f (i + k) ∷ []) (add_children eqb p (list_of f (i + k)) g)).0,
        ap (λ (l : List ℕ). length (add_children eqb p l g).0) (ap (list_of f) next ∙ list_of_snoc f (i + k)),
        ap (λ (d : List ℕ × List (ℕ × ℕ)). length d.0) (add_children_snoc eqb p (list_of f (i + k)) (f (i + k)) g),
      )

  pub children_past : (i n : ℕ) → i ≤ n → HoldsGraph room edges_room ns es None (add_children eqb p (list_of f i) g)
      → HoldsGraph room edges_room ns es None (add_children eqb p (list_of f n) g)
  children_past i n h k =
      let last : i + (n - i) ≡ n = omega arith in
      no_room_graph room edges_room (add_children eqb p (list_of f n) g) ns es
      (omega (
        arith,
        no_room_held room edges_room (add_children eqb p (list_of f i) g) k.state,
        children_longer i (n - i),
        ap (λ (j : ℕ). length (add_children eqb p (list_of f j) g).0) last,
      ))

  pub children_all : (i n : ℕ) → i ≤ n → n ≤ i → HoldsGraph room edges_room ns es growth (add_children eqb p (list_of f i) g)
      → HoldsGraph room edges_room ns es growth (add_children eqb p (list_of f n) g)
  children_all i n h l k =
      let e : i ≡ n = omega arith in
      subst (λ (j : ℕ). HoldsGraph room edges_room ns es growth (add_children eqb p (list_of f j) g)) e k

-- the children of a node that was read
pub children_read : (b : RectangularBoard) (ts : Tiles) (room edges_room : ℕ) (ns es : List ℕ) (growth : Option (ℕ × ℕ)) (g : List ℕ × List (ℕ × ℕ)) (p : ℕ)
    (cs : List ℕ) (m n : ℕ) → cs ≡ child_boards (setting_of b ts) m → m ≡ n → HoldsGraph room edges_room ns es growth (add_children eqb p cs g)
    → HoldsGraph room edges_room ns es growth (add_children eqb p (child_boards (setting_of b ts) n) g)
children_read b ts room edges_room ns es growth g p cs m n e q k =
    subst (λ (l : List ℕ). HoldsGraph room edges_room ns es growth (add_children eqb p l g)) (e ∙ ap (child_boards (setting_of b ts)) q) k

-- ---- board and tiles that are not refused

-- the nodes and edges found when the first i nodes have been expanded, and all
abbrev pub found_graph : RectangularBoard → Tiles → ℕ → List ℕ × List (ℕ × ℕ)
found_graph b ts i = (found_at (setting_of b ts) (start_of b) i, edges_at (setting_of b ts) (start_of b) i)

abbrev whole_graph : RectangularBoard → Tiles → List ℕ × List (ℕ × ℕ)
whole_graph b ts = (nodes_of (setting_of b ts) (start_of b), graph_edges (setting_of b ts) (start_of b))

-- the start is stored as node 0
zero_lent : (room n : ℕ) → (room ≡ 0 → ⊥) → 4 * room ≤ n → 4 * 0 + 4 ≤ n
zero_lent room n h r = omega arith

pub start_put : (b : RectangularBoard) (room : ℕ) (ws : List ℕ) → (room ≡ 0 → ⊥) → 4 * room ≤ length ws → (x : ℕ) → x ≡ start_of b
    → (vs : List ℕ) → vs ≡ with_set ws 0 x → set_at vs 0 ≡ start_of b
start_put b room ws h r x e vs w =
    ap (λ (l : List ℕ). set_at l 0) (w ∙ ap (with_set ws 0) e) ∙ set_at_same ws 0 (start_of b) (in_lent 0 (length ws) (zero_lent room (length ws) h r)) (marks_lt (board_of b))

-- ---- nodes expanded one after another

module _ (b : RectangularBoard) (ts : Tiles) (ok : Accepted b ts) (fixed_lt : number b.fixed < 2 ^ 256) (laid_lt : number b.laid < 2 ^ 256) where
  abbrev S : Setting ℕ ℕ
  S = setting_of b ts

  abbrev s : ℕ
  s = start_of b

  abbrev L : Laws (setting_of b ts)
  L = accepted_laws b ts ok

  abbrev a : ℕ
  a = step_of (paths_in ts)

  abbrev E : EqualSteps (setting_of b ts) (step_of (paths_in ts))
  E = accepted_steps b ts ok

  abbrev good : (setting_of b ts).Ok (start_of b)
  good = accepted_start b ts ok fixed_lt laid_lt

  abbrev nodes : List ℕ
  nodes = nodes_of (setting_of b ts) (start_of b)

  abbrev found : ℕ → List ℕ
  found i = found_at (setting_of b ts) (start_of b) i

  found_few : (i : ℕ) → length (found i) ≤ length nodes
  found_few i = let r = found_prefix S L a E s good i in omega (arith, ap length r.1, length-append (found i) r.0)

  module _ (room edges_room : ℕ) (ns es : List ℕ) where
    -- no room for the start
    pub build_no_room : room ≡ 0 → HoldsGraph room edges_room ns es None (whole_graph b ts)
    build_no_room e = no_room_graph room edges_room (whole_graph b ts) ns es (omega (arith, some_node S L s good))

    pub build_start : 0 < room → set_at ns 0 ≡ start_of b → HoldsGraph room edges_room ns es (Some (1, 0)) (found_graph b ts 0)
    unfolding list_of list_from
    build_start h e =
        rw (found_zero S L a E s good, edges_zero S L a E s good)
        (size_graph room edges_room (s ∷ [], []) ns es 1 0 (omega arith) refl (ap (λ (x : ℕ). x ∷ []) e)
        (record { number = omega arith; edges = λ l. refl }))

    -- room was gone before the last node was expanded
    pub build_past : (i : ℕ) → HoldsGraph room edges_room ns es None (found_graph b ts i) → HoldsGraph room edges_room ns es None (whole_graph b ts)
    build_past i k =
        no_room_graph room edges_room (whole_graph b ts) ns es (omega (arith, no_room_held room edges_room (found_graph b ts i) k.state, found_few i))

    module _ (n e i : ℕ) (k : HoldsGraph room edges_room ns es (Some (n, e)) (found_graph b ts i)) where
      counted : (length (found i) ≤ room) × (n ≡ length (found i)) × (e ≡ min (length (edges_at S s i)) (suc edges_room))
      counted = size_held room edges_room (found_graph b ts i) n e k.state

      below : i < n → i < length nodes
      below h = omega (arith, counted.1, found_few i)

      node_is : i < n → set_at ns i ≡ get_or nodes i s
      node_is h =
          sym (get_d_list_of (set_at ns) (length (found i)) i s (omega (arith, counted.1)))
          ∙ ap (λ (l : List ℕ). get_or l i s) (k.nodes counted.0)
          ∙ found_at_lem S L a E s good i (below h)

      -- the node to be expanded is a board of the start
      pub build_node : i < n → From (board_of b) (set_at ns i)
      unfolding setting
      build_node h =
          subst (From (board_of b)) (sym (node_is h)) (node_ok S L s good (get_or nodes i s) (mem_get_d nodes i s (below h)))

      -- one node expanded
      pub build_more : i < n → (us vs : List ℕ) (next : Option (ℕ × ℕ))
          → HoldsGraph room edges_room us vs next (add_children eqb i (child_boards (setting_of b ts) (set_at ns i)) (found_graph b ts i))
          → HoldsGraph room edges_room us vs next (found_graph b ts (i + 1))
      unfolding setting
      build_more h us vs next m =
          subst (HoldsGraph room edges_room us vs next)
          (ap (λ (x : ℕ). add_children eqb i (child_boards S x) (found_graph b ts i)) (node_is h)
          ∙ expanded S L a E s good i (below h)
          ∙ ap (found_graph b ts) (sym (add-one i)))
          m

      pub build_below : i < n → i + 1 ≤ length nodes
      build_below h = omega (arith, below h)

      -- no node is left to be expanded
      pub build_end : i ≤ length nodes → n ≤ i → HoldsGraph room edges_room ns es (Some (n, e)) (whole_graph b ts)
      build_end h l = subst (HoldsGraph room edges_room ns es (Some (n, e))) (ap₂ (λ (x : List ℕ) (y : List (ℕ × ℕ)). (x, y)) all edges_are) k
        where
          few : length (found i) ≤ i
          few = subst (λ (m : ℕ). m ≤ i) counted.1 l

          all : found i ≡ nodes
          all = found_end S L a E s good i h few

          edges_are : edges_at S s i ≡ graph_edges S s
          edges_are = edges_all S L a E s good i (omega (arith, ap length all, few))
