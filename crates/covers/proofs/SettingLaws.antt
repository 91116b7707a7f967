-- Laws of the layers of a setting and of its nodes: their boards are accepted; each layer has fewer free cells, so that they come to an end; the
-- nodes are the boards that child sequences reach, the start first; where every piece takes equally many free cells, a board stands in one layer,
-- later layers have higher numbers, and the layers joined are in the order of first finding. Rests on `LayerLaws`, `NodeLaws`, `ChildLaws` and
-- `WalkLaws`. Assumes nothing.
use Rattle.std.specs.Prelude.{◌≡◌, refl, ◌↔◌, length, get_or, Bool}
use Rattle.std.proofs.Math.Path.{sym, ap, subst}
use Rattle.std.proofs.Common.{◌∙◌}
use Rattle.covers.proofs.WalkLaws.{chain_snoc}
use mathlib.Core.List.Memᴰ.{eq_of_singleton}
use mathlib.Core.List.{List, [], ◌∷◌, ◌++◌, flat_map, append-nil, Memᴰ as Mem}
use Prim.Native.Nat.{ℕ, zero, suc, ◌+◌, ◌*◌, ◌≤◌, ◌<◌}
use Rattle.std.proofs.Math.Nat.{zero-mul, suc-mul, eq_of_mul-eq-mul_right}
use Rattle.std.proofs.Math.Decide.{dec_lt}
use native.Mathlib.Omega.{arith}
use Rattle.cells.specs.FirstsLaws.{Once, add_firsts_append, add_firsts_apart, Tells}
use Rattle.cells.specs.Lists.{any, holds, add_new, add_firsts, firsts}
use Rattle.cells.specs.MemberLaws.{no_member, mem_flat_map, flat_map_append, once_append}
use Rattle.covers.specs.Setting.{Setting, child_boards, Laws, EqualSteps, nodes_of, path_count_of, layer_of}
use Rattle.covers.specs.Counts.{counts, ChildSequence, Entry, boards, layer, layers, number_in}
use Rattle.covers.proofs.NodeLaws.{chain_end_good, number_lt, number_left, number_right}
use Rattle.covers.proofs.GatherLaws.{mem_boards}
use Rattle.covers.proofs.LayerLaws.{layers_first, once_layer, mem_layer, boards_suc, mem_layers, layer_found, start_entry}
use Rattle.covers.proofs.ChildLaws.{child_ok, child_cell, child_equal}

-- ---- the layers of a setting

module _ {B P : Type 0} (G : Setting B P) (L : Laws G) (s : B) (ok : G.Ok s) where
  pub layer_ok : (n : ℕ) (t : B) → Mem t (boards (layer_of G s n)) → G.Ok t
  unfolding layer
  layer_ok zero t m = subst G.Ok (sym (eq_of_singleton m)) ok
  layer_ok (suc n) t m =
      let r = (mem_layer G.same_board L.board_eq (child_boards G) s n t).0 m in child_ok G L r.0 t (layer_ok n r.0 r.1) r.2

  -- each layer has one free cell fewer at least
  pub layer_fewer : (n : ℕ) (t : B) → Mem t (boards (layer_of G s n)) → G.free_count t + n ≤ G.free_count s
  unfolding layer
  layer_fewer zero t m = omega (arith, ap G.free_count (eq_of_singleton m))
  layer_fewer (suc n) t m =
      let r = (mem_layer G.same_board L.board_eq (child_boards G) s n t).0 m in
      omega (arith, child_cell G L r.0 t (layer_ok n r.0 r.1) r.2, layer_fewer n r.0 r.1)

  -- after as many layers as free cells nothing is left
  pub layer_empty : (n : ℕ) → G.free_count s < n → layer_of G s n ≡ []
  layer_empty n h = no_member (layer_of G s n)
      (λ e m. let l = layer_fewer n e.0 (mem_boards (layer_of G s n) e m) in omega arith)

  -- every board that a child sequence reaches stands in a layer
  pub reached_layer : (t : B) (xs : List B) → ChildSequence (child_boards G) s t xs → (n : ℕ) × (n ≤ G.free_count s) × Mem t (boards (layer_of G s n))
  reached_layer t xs c =
      let r = chain_end_good (λ t u. Mem u (child_boards G t)) (λ u. (n : ℕ) × Mem u (boards (layer_of G s n))) next s t xs (0, first) c in
      let l = layer_fewer r.0 t r.1 in
      (r.0, omega arith, r.1)
    where
      first : Mem s (boards (layer_of G s 0))
      first = start_entry G.same_board (child_boards G) s

      next : (t u : B) → (n : ℕ) × Mem t (boards (layer_of G s n)) → Mem u (child_boards G t) → (n : ℕ) × Mem u (boards (layer_of G s n))
      next t u r m = (suc r.0, (mem_layer G.same_board L.board_eq (child_boards G) s r.0 u).1 (t, r.1, m))

  -- and every board of a layer is reached
  layer_reached : (n : ℕ) (t : B) → Mem t (boards (layer_of G s n)) → (xs : List B) × ChildSequence (child_boards G) s t xs
  unfolding layer
  layer_reached zero t m = (s ∷ [], (refl, sym (eq_of_singleton m)))
  layer_reached (suc n) t m =
      let r = (mem_layer G.same_board L.board_eq (child_boards G) s n t).0 m in
      let c = layer_reached n r.0 r.1 in
      (c.0 ++ t ∷ [], chain_snoc (λ t u. Mem u (child_boards G t)) s r.0 t c.0 c.1 r.2)

  -- ---- the nodes

  -- a board of a layer is a node
  pub layer_node : (n : ℕ) (t : B) → Mem t (boards (layer_of G s n)) → Mem t (nodes_of G s)
  layer_node n t m = (mem_layers G.same_board (child_boards G) s (G.free_count s) t).1 (n, omega (arith, layer_fewer n t m), m)

  pub node_layer : (t : B) → Mem t (nodes_of G s) → (n : ℕ) × (n ≤ G.free_count s) × Mem t (boards (layer_of G s n))
  node_layer t = (mem_layers G.same_board (child_boards G) s (G.free_count s) t).0

  pub node_ok : (t : B) → Mem t (nodes_of G s) → G.Ok t
  node_ok t m = let r = node_layer t m in layer_ok r.0 t r.2

  -- a child of a node is a node
  pub child_node : (t u : B) → Mem t (nodes_of G s) → Mem u (child_boards G t) → Mem u (nodes_of G s)
  child_node t u m k =
      let r = node_layer t m in layer_node (suc r.0) u ((mem_layer G.same_board L.board_eq (child_boards G) s r.0 u).1 (t, r.2, k))

  -- the nodes are the boards that child sequences reach
  pub node_reached : (t : B) → Mem t (nodes_of G s) ↔ ((xs : List B) × ChildSequence (child_boards G) s t xs)
  node_reached t = (
    λ m. let r = node_layer t m in layer_reached r.0 t r.2,
    λ c. let r = reached_layer t c.0 c.1 in layer_node r.0 t r.2,
  )

  -- node 0 is the start, with count 1
  pub start_mem : Mem s (nodes_of G s)
  start_mem = layer_node 0 s (start_entry G.same_board (child_boards G) s)

  pub start_node : get_or (nodes_of G s) 0 s ≡ s
  start_node = let r = layers_first G.same_board (child_boards G) s (G.free_count s) in ap (λ (es : List (Entry B)). get_or (boards es) 0 s) r.1

  pub some_node : 0 < length (nodes_of G s)
  some_node =
      let r = layers_first G.same_board (child_boards G) s (G.free_count s) in omega (arith, ap (λ (es : List (Entry B)). length (boards es)) r.1)

  pub first_count : path_count_of G s 0 ≡ 1
  first_count = let r = layers_first G.same_board (child_boards G) s (G.free_count s) in ap (λ (es : List (Entry B)). get_or (counts es) 0 0) r.1

-- ---- where every piece takes equally many free cells

module _ {B P : Type 0} (G : Setting B P) (L : Laws G) (a : ℕ) (E : EqualSteps G a) (s : B) (ok : G.Ok s) where
  abbrev same : B → B → Bool
  same = G.same_board

  abbrev tells : Tells G.same_board
  tells = L.board_eq

  abbrev children : B → List B
  children = child_boards G

  abbrev at : ℕ → List (Entry B)
  at = layer_of G s

  abbrev up_to : ℕ → List (Entry B)
  up_to n = layers G.same_board (child_boards G) s n

  layer_size : (n : ℕ) (t : B) → Mem t (boards (at n)) → G.free_count t + n * a ≡ G.free_count s
  unfolding layer
  layer_size zero t m = omega (arith, ap G.free_count (eq_of_singleton m), zero-mul a)
  layer_size (suc n) t m =
      let r = (mem_layer same tells children s n t).0 m in
      omega (arith, child_equal G L a E r.0 t (layer_ok G L s ok n r.0 r.1) r.2, layer_size n r.0 r.1, suc-mul n a)

  -- a piece takes at least one free cell
  step_positive : (n : ℕ) (t : B) → Mem t (boards (at (suc n))) → 0 < a
  step_positive n t m =
      let r = (mem_layer same tells children s n t).0 m in
      let o = layer_ok G L s ok n r.0 r.1 in
      omega (arith, child_cell G L r.0 t o r.2, child_equal G L a E r.0 t o r.2)

  -- a board stands in one layer
  pub layers_disjoint : (n m : ℕ) (t : B) → Mem t (boards (at n)) → Mem t (boards (at m)) → n ≡ m
  layers_disjoint zero zero t i j = refl
  layers_disjoint zero (suc m) t i j =
      eq_of_mul-eq-mul_right a (step_positive m t j) 0 (suc m) (omega (arith, layer_size 0 t i, layer_size (suc m) t j))
  layers_disjoint (suc n) m t i j =
      eq_of_mul-eq-mul_right a (step_positive n t i) (suc n) m (omega (arith, layer_size (suc n) t i, layer_size m t j))

  pub once_layers : (n : ℕ) → Once (boards (up_to n))
  unfolding layers
  once_layers zero = once_layer same tells children s zero
  once_layers (suc n) =
      subst Once (sym (boards_suc same children s n))
      (once_append (boards (up_to n)) (boards (at (suc n))) (once_layers n) (once_layer same tells children s (suc n))
      (λ t m k.
      let r = (mem_layers same children s n t).0 m in
      let e = layers_disjoint r.0 (suc n) t r.2 k in
      let h = r.1 in
      omega arith))

  -- one more layer: the children of the last that are not there yet, each where it is first found
  pub found_next : (n : ℕ) → add_firsts same (boards (up_to n)) (flat_map children (boards (at n))) ≡ boards (up_to (suc n))
  unfolding firsts
  found_next n =
      ap (λ (ss : List B). add_firsts same ss (flat_map children (boards (at n)))) (sym (append-nil (boards (up_to n))))
      ∙ add_firsts_apart same tells (boards (up_to n)) [] (flat_map children (boards (at n))) apart
      ∙ ap (λ (ss : List B). boards (up_to n) ++ ss) (sym (layer_found same children s n)) ∙ sym (boards_suc same children s n)
    where
      apart : (t : B) → Mem t (flat_map children (boards (at n))) → Mem t (boards (up_to n)) → ⊥
      apart t m k =
          let r = (mem_flat_map children (boards (at n)) t).0 m in
          let j = (mem_layers same children s n t).0 k in
          let e = layers_disjoint j.0 (suc n) t j.2 ((mem_layer same tells children s n t).1 r) in
          let h = j.1 in
          omega arith

  pub found_layers : (n : ℕ) → firsts same (s ∷ flat_map children (boards (up_to n))) ≡ boards (up_to (suc n))
  unfolding firsts add_firsts add_new holds any layers layer
  found_layers zero = found_next zero
  found_layers (suc n) =
      ap (λ (ss : List B). firsts same (s ∷ ss))
      (ap (flat_map children) (boards_suc same children s n) ∙ flat_map_append children (boards (up_to n)) (boards (at (suc n))))
      ∙ add_firsts_append same [] (s ∷ flat_map children (boards (up_to n))) (flat_map children (boards (at (suc n))))
      ∙ ap (λ (ss : List B). add_firsts same ss (flat_map children (boards (at (suc n))))) (found_layers n) ∙ found_next (suc n)

  -- a board of a later layer has a higher number
  pub number_layers : (n i j : ℕ) (t u : B) → i < j → j ≤ n → Mem t (boards (at i)) → Mem u (boards (at j))
      → number_in same (boards (up_to n)) t < number_in same (boards (up_to n)) u
  number_layers zero i j t u h k m l = absurd (omega arith)
  number_layers (suc n) i j t u h k m l =
      subst (λ (ss : List B). number_in same ss t < number_in same ss u) (sym (boards_suc same children s n))
      (go (dec_lt j (suc n)) (λ q. number_layers n i j t u h q m l))
    where
      first : Mem t (boards (up_to n))
      first = (mem_layers same children s n t).1 (i, omega arith, m)

      later : n < j → Mem u (boards (up_to n)) → ⊥
      later q x = let r = (mem_layers same children s n u).0 x in let e = layers_disjoint r.0 j u r.2 l in let b = r.1 in omega arith

      go : Dec (j < suc n) → (j ≤ n → number_in same (boards (up_to n)) t < number_in same (boards (up_to n)) u)
          → number_in same (boards (up_to n) ++ boards (at (suc n))) t < number_in same (boards (up_to n) ++ boards (at (suc n))) u
      go (yes q) below =
          omega (
            arith,
            below (omega arith),
            number_left same tells (boards (up_to n)) (boards (at (suc n))) t first,
            number_left same tells (boards (up_to n)) (boards (at (suc n))) u ((mem_layers same children s n u).1 (j, omega arith, l)),
          )
      go (no q) below =
          omega (
            arith,
            number_left same tells (boards (up_to n)) (boards (at (suc n))) t first,
            number_lt same tells (boards (up_to n)) t first,
            number_right same tells (boards (up_to n)) (boards (at (suc n))) u
                (later (omega arith)),
          )
