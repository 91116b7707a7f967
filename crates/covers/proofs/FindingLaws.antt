-- Laws of the graph built in the order of finding: the nodes found, and the edges out of them, when the first i nodes have been expanded; a node is
-- found before its turn to be expanded comes, so that the end is reached when none is left; and the same one child after another: a node if it is
-- new, and an edge. Rests on `GraphLaws`. Assumes nothing.
use Rattle.std.specs.Prelude.{◌≡◌, Bool, cond, ℕ, suc, ◌+◌, ◌≤◌, ◌<◌, length, take, drop}
use Rattle.std.proofs.Math.Path.{refl, sym, ap}
use Rattle.std.proofs.Common.{subst, ◌∙◌, inr, ⊎_elim, length-take, take-append-drop, take_all, take-suc, get_or-take}
use Rattle.std.proofs.Math.Bool.{true, false}
use mathlib.Core.List.Memᴰ.{cases_cons}
use mathlib.Core.List.Memᴰ.{cast}
use mathlib.Core.List.Memᴰ.{head as here}
use mathlib.Core.List.Memᴰ.{tail as there}
use mathlib.Core.List.{List, [], ◌∷◌, ◌++◌, map, flat_map, append-nil, append_assoc, Memᴰ as Mem}
use Rattle.std.proofs.Math.Decide.{dec_lt}
use native.Mathlib.Omega.{arith}
use Rattle.std.proofs.Math.ListN.{get_or, length-append, get_or-append}
use Rattle.cells.specs.FirstsLaws.{Tells, mem_get_d, add_firsts_append, length_add_firsts, mem_add_new, mem_firsts}
use Rattle.cells.specs.Lists.{holds, add_new, add_firsts, firsts}
use Rattle.cells.specs.MemberLaws.{mem_flat_map, flat_map_append, flat_map_snoc}
use Rattle.covers.specs.Setting.{Setting, child_boards, Laws, EqualSteps, nodes_of, graph_edges}
use Rattle.covers.specs.Counts.{number_in, edges_of}
use Rattle.covers.specs.Inner.{add_child, add_children}
use Rattle.covers.proofs.NodeLaws.{number_lt, get_d_number, number_get_d, number_left, edge_mem}
use Rattle.covers.proofs.GraphLaws.{once_nodes, nodes_found, edge_rises}

-- ---- one child after another

module _ {B : Type 0} (same : B → B → Bool) where
  pub add_children_snoc : (p : ℕ) (cs : List B) (c : B) (g : List B × List (ℕ × ℕ))
      → add_children same p (cs ++ c ∷ []) g ≡ add_child same p c (add_children same p cs g)
  unfolding add_children
  add_children_snoc p [] c g = refl
  add_children_snoc p (d ∷ cs) c g = add_children_snoc p cs c (add_child same p d g)

  -- the nodes: the new children, each where it is first found
  pub add_children_nodes : (p : ℕ) (cs : List B) (g : List B × List (ℕ × ℕ)) → (add_children same p cs g).0 ≡ add_firsts same g.0 cs
  unfolding add_children add_child add_firsts
  add_children_nodes p [] g = refl
  add_children_nodes p (c ∷ cs) g = add_children_nodes p cs (add_child same p c g)

  -- the edges: one more for each child
  pub add_children_count : (p : ℕ) (cs : List B) (g : List B × List (ℕ × ℕ)) → length (add_children same p cs g).1 ≡ length g.1 + length cs
  unfolding add_children add_child
  add_children_count p [] g = omega arith
  add_children_count p (c ∷ cs) g =
      omega (
        arith,
        length-append g.1 ((p, number_in same (add_new same g.0 c) c) ∷ []),
        add_children_count p cs (add_child same p c g),
      )

  -- nothing is lost
  pub add_children_longer : (p : ℕ) (cs : List B) (g : List B × List (ℕ × ℕ))
      → (length g.0 ≤ length (add_children same p cs g).0) × (length g.1 ≤ length (add_children same p cs g).1)
  add_children_longer p cs g = (
    omega (arith, ap length (add_children_nodes p cs g), (length_add_firsts same g.0 cs).0),
    omega (arith, add_children_count p cs g),
  )

  -- what is added stands behind what was there
  add_new_behind : (xs : List B) (y : B) → (zs : List B) × (add_new same xs y ≡ xs ++ zs)
  unfolding add_new
  add_new_behind xs y = go (holds same xs y)
    where
      go : (b : Bool) → (zs : List B) × (cond b xs (xs ++ y ∷ []) ≡ xs ++ zs)
      go true = ([], sym (append-nil xs))
      go false = (y ∷ [], refl)

  pub add_firsts_behind : (xs ys : List B) → (zs : List B) × (add_firsts same xs ys ≡ xs ++ zs)
  unfolding add_firsts
  add_firsts_behind xs [] = ([], sym (append-nil xs))
  add_firsts_behind xs (y ∷ ys) =
      let a = add_new_behind xs y in
      let r = add_firsts_behind (add_new same xs y) ys in
      (a.0 ++ r.0, r.1 ∙ ap (λ (l : List B). l ++ r.0) a.1 ∙ append_assoc xs a.0 r.0)

  -- where the nodes are the first of a list, the numbers of the edges are those of that list
  pub add_children_edges : Tells same → (ns : List B) (p : ℕ) (cs : List B) (g : List B × List (ℕ × ℕ)) (ss : List B)
      → ns ≡ add_firsts same g.0 cs ++ ss → (add_children same p cs g).1 ≡ g.1 ++ map (λ c. (p, number_in same ns c)) cs
  unfolding add_children add_child add_firsts
  add_children_edges tells ns p [] g ss e = sym (append-nil g.1)
  add_children_edges tells ns p (c ∷ cs) g ss e =
      add_children_edges tells ns p cs (add_child same p c g) ss e
      ∙ append_assoc g.1 ((p, number_in same (add_new same g.0 c) c) ∷ []) (map (λ c. (p, number_in same ns c)) cs)
      ∙ ap (λ (k : ℕ). g.1 ++ (p, k) ∷ map (λ c. (p, number_in same ns c)) cs) (sym number)
    where
      number : number_in same ns c ≡ number_in same (add_new same g.0 c) c
      number =
          let r = add_firsts_behind (add_new same g.0 c) cs in
          ap (λ (l : List B). number_in same l c)
          (e ∙ ap (λ (l : List B). l ++ ss) r.1 ∙ append_assoc (add_new same g.0 c) r.0 ss)
          ∙ number_left same tells (add_new same g.0 c) (r.0 ++ ss) c ((mem_add_new same tells g.0 c c).1 (inr refl))

-- ---- what is found when the first i nodes have been expanded

module _ {B P : Type 0} (G : Setting B P) (s : B) where
  -- the nodes found
  unfoldable pub found_at : ℕ → List B
  unfolding firsts flat_map
  found_at i = firsts G.same_board (s ∷ flat_map (child_boards G) (take i (nodes_of G s)))

  -- the edges out of the first i nodes
  unfoldable pub edges_at : ℕ → List (ℕ × ℕ)
  unfolding flat_map number_in
  edges_at i =
      flat_map (λ t. map (λ c. (number_in G.same_board (nodes_of G s) t, number_in G.same_board (nodes_of G s) c)) (child_boards G t))
      (take i (nodes_of G s))

module _ {B P : Type 0} (G : Setting B P) (L : Laws G) (a : ℕ) (E : EqualSteps G a) (s : B) (ok : G.Ok s) where
  abbrev same : B → B → Bool
  same = G.same_board

  abbrev tells : Tells G.same_board
  tells = L.board_eq

  abbrev children : B → List B
  children = child_boards G

  abbrev nodes : List B
  nodes = nodes_of G s

  abbrev number : B → ℕ
  number = number_in same nodes

  abbrev found : ℕ → List B
  found i = found_at G s i

  -- the edges out of a node
  edges_from : B → List (ℕ × ℕ)
  edges_from t = map (λ c. (number t, number c)) (children t)

  pub found_zero : found_at G s 0 ≡ s ∷ []
  unfolding found_at firsts add_firsts add_new holds
  found_zero = refl

  -- the nodes found are the first of the nodes
  pub found_prefix : (i : ℕ) → (ss : List B) × (nodes ≡ found_at G s i ++ ss)
  unfolding found_at firsts
  found_prefix i =
      let r = add_firsts_behind same (found i) (flat_map children (drop i nodes)) in (
        r.0,
        nodes_found G L a E s ok
            ∙ ap (λ (ts : List B). firsts same (s ∷ flat_map children ts)) (sym (take-append-drop i nodes))
            ∙ ap (λ (ts : List B). firsts same (s ∷ ts)) (flat_map_append children (take i nodes) (drop i nodes))
            ∙ add_firsts_append same [] (s ∷ flat_map children (take i nodes)) (flat_map children (drop i nodes))
            ∙ r.1,
      )

  -- node i expanded: its children that are not there yet, each where it is first found
  pub found_suc : (i : ℕ) → i < length nodes → found_at G s (suc i) ≡ add_firsts same (found_at G s i) (children (get_or nodes i s))
  unfolding found_at firsts
  found_suc i h =
      ap (λ (ts : List B). firsts same (s ∷ flat_map children ts)) (take-suc nodes i s h)
      ∙ ap (λ (ts : List B). firsts same (s ∷ ts)) (flat_map_snoc children (take i nodes) (get_or nodes i s))
      ∙ add_firsts_append same [] (s ∷ flat_map children (take i nodes)) (children (get_or nodes i s))

  -- node i is found when the nodes before it have been expanded: it is the start, or its parent stands before it
  found_mem : (i : ℕ) → i < length nodes → Mem (get_or nodes i s) (found_at G s i)
  unfolding found_at
  found_mem i h =
      (mem_firsts same tells (s ∷ flat_map children (take i nodes)) t).1
      (⊎_elim (λ e. here e) (λ m. there (child ((mem_flat_map children nodes t).0 m)))
      (cases_cons ((mem_firsts same tells (s ∷ flat_map children nodes) t).0 (subst (Mem t) (nodes_found G L a E s ok) (mem_get_d nodes i s h)))))
    where
      t : B
      t = get_or nodes i s

      child : (p : B) × Mem p nodes × Mem t (children p) → Mem t (flat_map children (take i nodes))
      child r =
          let k = number r.0 in
          let l : k < i =
          omega (
            arith,
            (edge_rises G L a E s ok k (number t) (edge_mem same children nodes r.0 t r.1 r.2)).0,
            number_get_d same tells nodes i s (once_nodes G L a E s ok) h,
          ) in
          let q : get_or (take i nodes) k s ≡ r.0 = get_or-take i nodes k s l ∙ get_d_number same tells nodes r.0 s r.1 in
          (mem_flat_map children (take i nodes) t).1
          (r.0, cast (sym q) (mem_get_d (take i nodes) k s (omega (arith, length-take i nodes))), r.2)

  -- so there are more than i
  pub found_more : (i : ℕ) → i < length nodes → i < length (found_at G s i)
  found_more i h =
      let t = get_or nodes i s in
      let r = found_prefix i in
      let m = found_mem i h in
      omega (
        arith,
        number_get_d same tells nodes i s (once_nodes G L a E s ok) h,
        ap (λ (l : List B). number_in same l t) r.1,
        number_left same tells (found i) r.0 t m,
        number_lt same tells (found i) t m,
      )

  -- all nodes expanded
  pub found_all : (i : ℕ) → length nodes ≤ i → found_at G s i ≡ nodes
  unfolding found_at
  found_all i h =
      ap (λ (ts : List B). firsts same (s ∷ flat_map children ts)) (take_all i nodes h) ∙ sym (nodes_found G L a E s ok)

  -- the node to be expanded next stands in its place
  pub found_at_lem : (i : ℕ) → i < length nodes → get_or (found_at G s i) i s ≡ get_or nodes i s
  found_at_lem i h =
      let r = found_prefix i in
      sym (ap (λ (l : List B). get_or l i s) r.1 ∙ get_or-append (found i) r.0 s i (found_more i h))

  -- where none of those found is left to be expanded, all are found
  pub found_end : (i : ℕ) → i ≤ length nodes → length (found_at G s i) ≤ i → found_at G s i ≡ nodes
  found_end i h k = go (dec_lt i (length nodes))
    where
      go : Dec (i < length nodes) → found_at G s i ≡ nodes
      go (yes l) = absurd (omega (arith, found_more i l))
      go (no l) = found_all i (omega arith)

  -- ---- the edges

  pub edges_zero : edges_at G s 0 ≡ []
  unfolding edges_at flat_map
  edges_zero = refl

  pub edges_suc : (i : ℕ) → i < length nodes → edges_at G s (suc i) ≡ edges_at G s i ++ map (λ c. (i, number c)) (children (get_or nodes i s))
  unfolding edges_at edges_from
  edges_suc i h =
      ap (flat_map edges_from) (take-suc nodes i s h)
      ∙ flat_map_snoc edges_from (take i nodes) (get_or nodes i s)
      ∙ ap (λ (k : ℕ). edges_at G s i ++ map (λ c. (k, number c)) (children (get_or nodes i s)))
      (number_get_d same tells nodes i s (once_nodes G L a E s ok) h)

  pub edges_all : (i : ℕ) → length nodes ≤ i → edges_at G s i ≡ graph_edges G s
  unfolding edges_at edges_of edges_from
  edges_all i h = ap (flat_map edges_from) (take_all i nodes h)

  -- ---- node i expanded, one child after another

  pub expanded : (i : ℕ) → i < length nodes
      → add_children same i (children (get_or nodes i s)) (found_at G s i, edges_at G s i) ≡ (found_at G s (suc i), edges_at G s (suc i))
  expanded i h =
      let cs = children (get_or nodes i s) in
      let g : List B × List (ℕ × ℕ) = (found_at G s i, edges_at G s i) in
      let r = found_prefix (suc i) in
      let p : (add_children same i cs g).0 ≡ found_at G s (suc i) = add_children_nodes same i cs g ∙ sym (found_suc i h) in
      let q : (add_children same i cs g).1 ≡ edges_at G s (suc i) =
      add_children_edges same tells nodes i cs g r.0 (r.1 ∙ ap (λ (l : List B). l ++ r.0) (found_suc i h)) ∙ sym (edges_suc i h) in
      λ t. (p t, q t)
