-- Laws of the two counts and of the cuttings by number. Where a setting meets its laws and takes equally many free cells
-- at each step, the layer count is the graph count; if the start is not full, the tilings by number number the placing sequences, and where only
-- boards without a cutting are pruned, the cuttings. And what a full start counts. Rests on `SequenceLaws` and `GraphLaws`.
-- Assumes nothing.
use Rattle.std.specs.Prelude.{◌≡◌, Bool}
use Rattle.std.proofs.Math.Path.{refl, sym, ap, ap₂, subst}
use Rattle.std.proofs.Common.{◌∙◌, add-zero}
use Rattle.std.proofs.Math.Logic.{⊎_elim}
use Rattle.std.proofs.Math.Bool.{true, false, So, cond}
use Rattle.std.proofs.lemmas.Bool.{false≢true}
use Rattle.std.specs.Prelude.{Option, None, Some}
use Rattle.cells.specs.OptionLaws.{none-ne-some, some-injective}
use mathlib.Core.List.Memᴰ.{cases_cons}
use mathlib.Core.List.Memᴰ.{not-nil}
use mathlib.Core.List.{List, [], ◌∷◌, ◌++◌, map, flat_map, Memᴰ as Mem}
use Prim.Native.Nat.{ℕ, zero, suc, ◌+◌, ◌≤◌, ◌<◌}
use native.Mathlib.Omega.{arith}
use Rattle.std.proofs.Math.ListN.{length, get_or}
use Rattle.cells.specs.Lists.{add_firsts, firsts}
use Rattle.cells.specs.FirstsLaws.{mem_get_d, so_eq}
use Rattle.covers.specs.Counts.{Numbering, Exactly, ChildSequence, Entry, boards, sum_of, shares, gather, weight, layer, layers, number_in, node_list_to, full_count, full_from, full_node, at_node, pieces_of, layer_count}
use Rattle.covers.specs.Setting.{Setting, CuttingOf, PlacingSequence, child_boards, Laws, SoundPruning, EqualSteps, layer_of, entries_of, nodes_of, path_count_of, graph_edges, layer_count_to, layer_count_of, graph_count, tiling_of, cutting_at}
use Rattle.covers.proofs.NumberingLaws.{numbering_none}
use Rattle.covers.proofs.SumLaws.{sum_append, sum_ext, sum_zero}
use Rattle.covers.proofs.SequenceLaws.{full_pieces, sequence_length, cuttings_numbered}
use Rattle.covers.proofs.ChildLaws.{length_pieces_of, sequence_children, sequences_numbered}
use Rattle.covers.proofs.GatherLaws.{mem_boards, mem_entry, weight_entry}
use Rattle.covers.proofs.LayerLaws.{layers_first}
use Rattle.covers.proofs.SettingLaws.{node_ok, node_reached}
use Rattle.covers.proofs.GraphLaws.{once_nodes, tilings_numbered}
use Rattle.covers.proofs.NodeLaws.{count_number, number_get_d}

-- ---- the full node

module _ {B : Type 0} (full : B → Bool) where
  full_from_some : (i v : ℕ) (ss : List B) (d : B) → full_from full i ss ≡ Some v → (k : ℕ) × (v ≡ i + k) × (k < length ss) × So (full (get_or ss k d))
  unfolding full_from
  full_from_some i v [] d e = absurd (none-ne-some v e)
  full_from_some i v (s ∷ ss) d e = go (full s) refl e (λ q. full_from_some (suc i) v ss d q)
    where
      go : (b : Bool) → full s ≡ b → cond b (Some i) (full_from full (suc i) ss) ≡ Some v
          → (full_from full (suc i) ss ≡ Some v → (k : ℕ) × (v ≡ suc i + k) × (k < length ss) × So (full (get_or ss k d)))
          → (k : ℕ) × (v ≡ i + k) × (k < length (s ∷ ss)) × So (full (get_or (s ∷ ss) k d))
      go true f q below = (0, sym (some-injective i v q) ∙ sym (add-zero i), omega arith, f)
      go false f q below = let r = below q in (suc r.0, omega (arith, r.1), omega (arith, r.2), r.3)

  full_from_none : (i : ℕ) (ss : List B) → full_from full i ss ≡ None → (t : B) → Mem t ss → full t ≡ false
  unfolding full_from
  full_from_none i [] e t m = absurd (not-nil m)
  full_from_none i (s ∷ ss) e t m = go (full s) refl e (λ q. full_from_none (suc i) ss q t)
    where
      go : (b : Bool) → full s ≡ b → cond b (Some i) (full_from full (suc i) ss) ≡ None
          → (full_from full (suc i) ss ≡ None → Mem t ss → full t ≡ false) → full t ≡ false
      go true f q below = absurd (none-ne-some i (sym q))
      go false f q below = ⊎_elim (λ k. ap full k ∙ f) (below q) (cases_cons m)

  -- the full node is a node behind the first, and full
  pub full_node_some : (s : B) (ss : List B) (v : ℕ) (d : B) → full_node full (s ∷ ss) ≡ Some v
      → (0 < v) × (v < length (s ∷ ss)) × So (full (get_or (s ∷ ss) v d))
  unfolding full_node
  full_node_some s ss v d e =
      let r = full_from_some 1 v ss d e in
      let q : v ≡ suc r.0 = omega (arith, r.1) in
      (omega arith, omega (arith, r.2), subst (λ (w : ℕ). So (full (get_or (s ∷ ss) w d))) (sym q) r.3)

  -- with none, no node behind the first is full
  pub full_node_none : (s : B) (ss : List B) → full_node full (s ∷ ss) ≡ None → (t : B) → Mem t ss → full t ≡ false
  unfolding full_node
  full_node_none s ss e t m = full_from_none 1 ss e t m

-- ---- a start that is full

module _ {B P : Type 0} (G : Setting B P) (L : Laws G) (s : B) (ok : G.Ok s) (full : So (G.full s)) where
  full_layer : (n : ℕ) → layer_of G s (suc n) ≡ []
  unfolding layer shares gather flat_map firsts add_firsts
  full_layer zero = rw (full_pieces G L s ok full)
  full_layer (suc n) = ap (λ es. gather G.same_board (shares (child_boards G) es)) (full_layer n)

  full_layers : (n : ℕ) → layers G.same_board (child_boards G) s n ≡ (s, 1) ∷ []
  unfolding layers layer
  full_layers zero = refl
  full_layers (suc n) = ap₂ ◌++◌ (full_layers n) (full_layer n)

  -- a full start counts 0
  full_layers_count : (n : ℕ) → layer_count_to G s n ≡ 0
  unfolding layer_count full_count sum_of
  full_layers_count zero = refl
  full_layers_count (suc n) = ap₂ ◌+◌ (full_layers_count n) (ap (full_count G.full) (full_layer n))

  pub full_layer_count : layer_count_of G s ≡ 0
  unfolding layer_count
  full_layer_count = full_layers_count (G.free_count s)

  pub full_graph_count : graph_count G s ≡ 0
  unfolding graph_count full_node full_from at_node
  full_graph_count = ap (λ (es : List (Entry B)). at_node (path_count_of G s) (full_node G.full (boards es))) (full_layers (G.free_count s))

-- ---- where every piece takes equally many free cells

module _ {B P : Type 0} (G : Setting B P) (L : Laws G) (a : ℕ) (E : EqualSteps G a) (s : B) (ok : G.Ok s) where
  -- node 0 is the start
  rest : List (Entry B)
  rest = (layers_first G.same_board (child_boards G) s (G.free_count s)).0

  entries : entries_of G s ≡ (s, 1) ∷ rest
  unfolding rest
  entries = (layers_first G.same_board (child_boards G) s (G.free_count s)).1

  nodes : nodes_of G s ≡ s ∷ boards rest
  nodes = ap boards entries

  some_full : (v : ℕ) → full_node G.full (nodes_of G s) ≡ Some v → (v < length (nodes_of G s)) × So (G.full (get_or (nodes_of G s) v s))
  some_full v e =
      let r = full_node_some G.full s (boards rest) v s (ap (full_node G.full) (sym nodes) ∙ e) in
      (subst (λ (ss : List B). v < length ss) (sym nodes) r.1, subst (λ (ss : List B). So (G.full (get_or ss v s))) (sym nodes) r.2)

  -- all full boards are one board
  full_same : (t u : B) → G.Ok t → G.Ok u → So (G.full t) → G.full u ≡ G.same_board u t
  full_same t u o k f = so_eq (G.full u) (G.same_board u t)
      (λ g. (L.board_eq u t).1 (L.full_one u t k o g f)) (λ e. ap G.full ((L.board_eq u t).0 e) ∙ f)

  full_weight : (v : ℕ) → v < length (nodes_of G s) → So (G.full (get_or (nodes_of G s) v s)) → full_count G.full (entries_of G s) ≡ path_count_of G s v
  unfolding full_count weight
  full_weight v h f =
      let t = get_or (nodes_of G s) v s in
      let m : Mem t (nodes_of G s) = mem_get_d (nodes_of G s) v s h in
      let e = mem_entry (entries_of G s) t m in
      sum_ext (λ e. cond (G.full e.0) e.1 0) (λ e. cond (G.same_board e.0 t) e.1 0) (entries_of G s)
      (λ x k.
      let o = node_ok G L s ok x.0 (mem_boards (entries_of G s) x k) in
      ap (λ (b : Bool). cond b x.1 0) (full_same t x.0 (node_ok G L s ok t m) o f))
      ∙ ap (λ (u : B). weight G.same_board u (entries_of G s)) (sym e.2)
      ∙ weight_entry G.same_board L.board_eq (entries_of G s) e.0 (once_nodes G L a E s ok) e.1
      ∙ sym (count_number G.same_board L.board_eq (entries_of G s) e.0 (once_nodes G L a E s ok) e.1)
      ∙ ap (path_count_of G s)
      (ap (number_in G.same_board (nodes_of G s)) e.2 ∙ number_get_d G.same_board L.board_eq (nodes_of G s) v s (once_nodes G L a E s ok) h)

  module _ (notFull : G.full s ≡ false) where
    none_full : full_node G.full (nodes_of G s) ≡ None → (t : B) → Mem t (nodes_of G s) → G.full t ≡ false
    none_full e t m =
        ⊎_elim (λ q. ap G.full q ∙ notFull) (full_node_none G.full s (boards rest) (ap (full_node G.full) (sym nodes) ∙ e) t)
        (cases_cons (subst (Mem t) nodes m))

    -- ---- both counts agree

    -- the full boards in the layers joined have path counts that add up to the layer count
    sum_layers : (n : ℕ) → full_count G.full (layers G.same_board (child_boards G) s n) ≡ layer_count_to G s n
    unfolding layers layer layer_count full_count sum_of
    sum_layers zero = rw notFull
    sum_layers (suc n) =
        sum_append (λ e. cond (G.full e.0) e.1 0) (layers G.same_board (child_boards G) s n) (layer_of G s (suc n))
        ∙ ap (λ (k : ℕ). k + full_count G.full (layer_of G s (suc n))) (sum_layers n)

    none_count : full_node G.full (nodes_of G s) ≡ None → full_count G.full (entries_of G s) ≡ 0
    unfolding full_count
    none_count e = sum_zero (λ e. cond (G.full e.0) e.1 0) (entries_of G s)
        (λ x k. ap (λ (b : Bool). cond b x.1 0) (none_full e x.0 (mem_boards (entries_of G s) x k)))

    counts_agree_free : layer_count_of G s ≡ graph_count G s
    unfolding layer_count graph_count
    counts_agree_free = sym (sum_layers (G.free_count s)) ∙ go (full_node G.full (nodes_of G s)) refl
      where
        go : (o : Option ℕ) → full_node G.full (nodes_of G s) ≡ o
            → full_count G.full (entries_of G s) ≡ at_node (path_count_of G s) (full_node G.full (nodes_of G s))
        go None e = none_count e ∙ ap (at_node (path_count_of G s)) (sym e)
        go (Some v) e = let r = some_full v e in full_weight v r.0 r.1 ∙ ap (at_node (path_count_of G s)) (sym e)

    -- ---- and are the number of child sequences to the full board, where one is reached

    pub full_sequences : (t : B) → So (G.full t) → (xs : List B) → ChildSequence (child_boards G) s t xs
        → Exactly (graph_count G s) (ChildSequence (child_boards G) s t)
    unfolding graph_count at_node
    full_sequences t f xs r = go (full_node G.full (nodes_of G s)) refl
      where
        m : Mem t (nodes_of G s)
        m = (node_reached G L s ok t).1 (xs, r)

        go : (o : Option ℕ) → full_node G.full (nodes_of G s) ≡ o → Exactly (at_node (path_count_of G s) o) (ChildSequence (child_boards G) s t)
        go None e = absurd (false≢true (sym (none_full e t m) ∙ f))
        go (Some v) e =
            let k = some_full v e in
            let o = node_ok G L s ok (get_or (nodes_of G s) v s) (mem_get_d (nodes_of G s) v s k.0) in
            subst (λ (u : B). Exactly (path_count_of G s v) (ChildSequence (child_boards G) s u)) (L.full_one (get_or (nodes_of G s) v s) t o (node_ok G L s ok t m) k.1 f)
            (_, tilings_numbered G L a E s ok v k.0)

    -- ---- and are the number of placing sequences, and of cuttings

    -- the pieces of the steps of the tiling with the number m to a node, or to node 0 with none
    read_to : Option ℕ → ℕ → List P
    read_to o m = pieces_of G.step_piece (map (λ v. get_or (nodes_of G s) v s) (node_list_to (graph_edges G s) (path_count_of G s) (at_node (λ v. v) o) m))

    no_sequence : full_node G.full (nodes_of G s) ≡ None → (ps : List P) → PlacingSequence G s ps → ⊥
    no_sequence e ps r =
        let k = sequence_children G L s ps ok r in
        false≢true (sym (none_full e k.0 ((node_reached G L s ok k.0).1 (k.1, k.4))) ∙ k.3)

    numbered_to : (o : Option ℕ) → full_node G.full (nodes_of G s) ≡ o → Numbering (PlacingSequence G s) (at_node (path_count_of G s) o) (read_to o)
    unfolding at_node read_to
    numbered_to None e = numbering_none (read_to None) (no_sequence e)
    numbered_to (Some v) e =
        let r = some_full v e in
        let o = node_ok G L s ok (get_or (nodes_of G s) v s) (mem_get_d (nodes_of G s) v s r.0) in
        sequences_numbered G L s (get_or (nodes_of G s) v s) ok o r.1 (tilings_numbered G L a E s ok v r.0)

    -- the numbers below the graph count number the placing sequences: the pieces that the steps of a tiling mark, in order
    pub sequences_by_number : Numbering (PlacingSequence G s) (graph_count G s) (λ m. pieces_of G.step_piece (tiling_of G s m))
    unfolding graph_count read_to
    sequences_by_number = numbered_to (full_node G.full (nodes_of G s)) refl

    -- a tiling by number has at most one board more than there are free cells
    pub tiling_length : (m : ℕ) → m < graph_count G s → length (tiling_of G s m) ≤ G.free_count s + 1
    tiling_length m h =
        omega (arith, sequence_length G L s (pieces_of G.step_piece (tiling_of G s m)) ok (sequences_by_number.each m h), length_pieces_of G.step_piece (tiling_of G s m))

    -- and, where only boards without a cutting are pruned, the cuttings: the set of those pieces
    pub cuttings_by_number : SoundPruning G → Numbering (CuttingOf G s) (graph_count G s) (cutting_at G s)
    cuttings_by_number sound = cuttings_numbered G L sound s ok sequences_by_number

  -- where no child sequence reaches a full board, none is counted
  pub none_reached : ((t : B) → So (G.full t) → (xs : List B) → ChildSequence (child_boards G) s t xs → ⊥) → graph_count G s ≡ 0
  unfolding graph_count at_node
  none_reached never = go (full_node G.full (nodes_of G s)) refl
    where
      go : (o : Option ℕ) → full_node G.full (nodes_of G s) ≡ o → at_node (path_count_of G s) o ≡ 0
      go None e = refl
      go (Some v) e =
          let k = some_full v e in
          let t = get_or (nodes_of G s) v s in
          let r = (node_reached G L s ok t).0 (mem_get_d (nodes_of G s) v s k.0) in
          absurd (never t k.1 r.0 r.1)

  -- a start that is full counts 0 both ways, so that the counts agree of any start
  pub counts_agree : layer_count_of G s ≡ graph_count G s
  counts_agree = go (G.full s) refl
    where
      go : (b : Bool) → G.full s ≡ b → layer_count_of G s ≡ graph_count G s
      go true f = full_layer_count G L s ok f ∙ sym (full_graph_count G L s ok f)
      go false f = counts_agree_free f
