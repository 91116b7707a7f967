-- What the loops over edges in lent words come to. Rests on `Graph`, `GraphLaws` and `cells`. Assumes nothing.
use Rattle.std.specs.Prelude.{Err, Ok}
use Rattle.std.proofs.Common.{◌≡◌, refl, sym, ap, ◌∙◌, subst, List, [], ◌∷◌, ◌++◌, ℕ, ◌+◌, ◌*◌, ◌/◌, ◌≤◌, ◌<◌, min, arith, le-leb, length, get_or, set, length-append, length-set, get_or-set_same, get_or-set_other}
use Rattle.std.proofs.lemmas.Bool.{lt-leb}
use Rattle.std.proofs.Math.Decide.{ℕ_discrete}
use Rattle.std.proofs.Math.Seq.{get_or-append_seam}
use Rattle.cells.specs.Lists.{list_from, list_of, padded}
use Rattle.cells.specs.Parts.{cleared_from}
use Rattle.cells.specs.ArrayLaws.{get_d_snoc, list_of_snoc}
use Rattle.refusal.specs.Refusal.{given, map_answer, value_or}
use Rattle.refusal.specs.declared.Refusal.TheVariants as R
use Rattle.graph.specs.Graph.{edge_at, edges_in, edges_from, get_edges, GetsEdges}
use Rattle.graph.specs.Inner.{StandsIn}
use Rattle.graph.proofs.GraphLaws.{edges_from_more, edges_from_other, cleared_numbers}

-- ---- the edges out of a node

-- the children among the first i edges
abbrev children_to : List ℕ → ℕ → ℕ → List ℕ
children_to ws v i = edges_from (list_of (edge_at ws) i) v

module _ (ws : List ℕ) (v : ℕ) where
  children_none : children_to ws v 0 ≡ []
  unfolding edges_from list_of list_from
  children_none = refl

  children_all : (n i : ℕ) → i ≡ min n (length ws / 2) → children_to ws v i ≡ edges_from (edges_in ws n) v
  unfolding edges_in
  children_all n i e = rw e

  module _ (i : ℕ) where
    children_hit : get_or ws (2 * i) 0 ≡ v → children_to ws v (i + 1) ≡ children_to ws v i ++ get_or ws (2 * i + 1) 0 ∷ []
    unfolding edge_at
    children_hit e =
        ap (λ (es : List (ℕ × ℕ)). edges_from es v) (list_of_snoc (edge_at ws) i) ∙ edges_from_more (edge_at ws i) v (list_of (edge_at ws) i) e

    children_miss : (get_or ws (2 * i) 0 ≡ v → ⊥) → children_to ws v (i + 1) ≡ children_to ws v i
    unfolding edge_at
    children_miss n =
        ap (λ (es : List (ℕ × ℕ)). edges_from es v) (list_of_snoc (edge_at ws) i) ∙ edges_from_other (edge_at ws i) v (list_of (edge_at ws) i) n

-- a list with one number more is the words with that number behind the last
stands_more : (ns ws : List ℕ) (x : ℕ) → StandsIn ns ws → StandsIn (ns ++ x ∷ []) (set ws (length ns) x)
stands_more ns ws x h k a b = go (ℕ_discrete k (length ns))
  where
    long : length (set ws (length ns) x) ≡ length ws
    long = length-set ws (length ns) x

    go : Dec (k ≡ length ns) → get_or (set ws (length ns) x) k 0 ≡ get_or (ns ++ x ∷ []) k 0
    go (yes q) =
        ap (λ (j : ℕ). get_or (set ws (length ns) x) j 0) q ∙ get_or-set_same ws (length ns) x 0 (omega (arith, long))
        ∙ sym (ap (λ (j : ℕ). get_or (ns ++ x ∷ []) j 0) q ∙ get_or-append_seam ns x [] 0)
    go (no q) =
        get_or-set_other ws (length ns) k x 0 q ∙ h k (omega (arith, length-append ns (x ∷ []))) (omega (arith, long)) ∙ sym (get_d_snoc ns x 0 k q)

-- the children among the first i edges are counted
abbrev pub CountedTo : List ℕ → ℕ → ℕ → ℕ → Type 0
CountedTo ws v i count = (count ≤ i) × (count ≡ length (children_to ws v i))

module _ (ws : List ℕ) (v : ℕ) where
  pub counted_none : CountedTo ws v 0 0
  counted_none = (omega arith, sym (ap length (children_none ws v)))

  pub counted_all : (i count n end : ℕ) → CountedTo ws v i count → end ≡ min n (length ws / 2) → i ≤ end → end ≤ i
      → count ≡ length (edges_from (edges_in ws n) v)
  counted_all i count n end h e a b = h.1 ∙ ap length (children_all ws v n i (omega arith))

  module _ (i count : ℕ) (h : CountedTo ws v i count) (r : ℕ) where
    pub counted_hit : get_or ws (2 * i) 0 ≡ v → r ≡ count + 1 → CountedTo ws v (i + 1) r
    counted_hit e f =
        let long = ap length (children_hit ws v i e) ∙ length-append (children_to ws v i) (get_or ws (2 * i + 1) 0 ∷ []) in
        (omega (arith, h.0), omega (arith, h.1, long))

    pub counted_miss : (get_or ws (2 * i) 0 ≡ v → ⊥) → r ≡ count → CountedTo ws v (i + 1) r
    counted_miss n f = (omega (arith, h.0), f ∙ h.1 ∙ sym (ap length (children_miss ws v i n)))

-- they are counted, and stand in the output as far as it reaches
pub record WrittenTo (ws : List ℕ) (v i count : ℕ) (out : List ℕ) : Type 0 where
  pub counted : CountedTo ws v i count
  pub stands : StandsIn (children_to ws v i) out

module _ (ws : List ℕ) (v : ℕ) where
  pub written_none : (out : List ℕ) → WrittenTo ws v 0 0 out
  written_none out =
      record {
        counted = counted_none ws v;
        stands = subst (λ (ns : List ℕ). StandsIn ns out) (sym (children_none ws v)) (λ k a b. absurd (omega arith));
      }

  module _ (i count : ℕ) (out : List ℕ) (h : WrittenTo ws v i count out) where
    pub written_all : (n end : ℕ) → end ≡ min n (length ws / 2) → i ≤ end → end ≤ i → StandsIn (edges_from (edges_in ws n) v) out
    written_all n end e a b = subst (λ (ns : List ℕ). StandsIn ns out) (children_all ws v n i (omega arith)) h.stands

    module _ (r : ℕ) (new : List ℕ) where
      pub written_hit : get_or ws (2 * i) 0 ≡ v → r ≡ count + 1 → new ≡ set out count (get_or ws (2 * i + 1) 0) → WrittenTo ws v (i + 1) r new
      written_hit e f g =
          rw (g ∙ ap (λ (k : ℕ). set out k (get_or ws (2 * i + 1) 0)) h.counted.1)
          record {
            counted = counted_hit ws v i count h.counted r e f;
            stands =
                subst (λ (ns : List ℕ). StandsIn ns (set out (length (children_to ws v i)) (get_or ws (2 * i + 1) 0))) (sym (children_hit ws v i e))
                (stands_more (children_to ws v i) out (get_or ws (2 * i + 1) 0) h.stands);
          }

      pub written_miss : (get_or ws (2 * i) 0 ≡ v → ⊥) → r ≡ count → new ≡ out → WrittenTo ws v (i + 1) r new
      written_miss n f g =
          rw g
          record {
            counted = counted_miss ws v i count h.counted r n f;
            stands = subst (λ (ns : List ℕ). StandsIn ns out) (sym (children_miss ws v i n)) h.stands;
          }

-- ---- `get_edges`

module _ (ws : List ℕ) (n v : ℕ) (old : List ℕ) (count : ℕ) (e : count ≡ length (edges_from (edges_in ws n) v)) where
  pub gets_refused : length old < count → (new : List ℕ) → new ≡ cleared_from 0 old → GetsEdges ws n v old new (Err R.NoRoom)
  unfolding get_edges map_answer value_or
  gets_refused h new f =
      let over = lt-leb (length (edges_from (edges_in ws n) v)) (length old) (omega arith) in
      record { answer = rw over; words = rw over (f ∙ cleared_numbers old [] (omega arith) (λ k a. absurd (omega arith))) }

  pub gets_number : count ≤ length old → (mid new : List ℕ) → length mid ≡ length old → StandsIn (edges_from (edges_in ws n) v) mid
      → new ≡ cleared_from count mid → GetsEdges ws n v old new (Ok count)
  unfolding get_edges map_answer value_or
  gets_number h mid new l s f =
      let within = le-leb (length (edges_from (edges_in ws n) v)) (length old) (omega arith) in
      record {
        answer = rw within (ap given e);
        words =
            rw within
            (f
            ∙ ap (λ (k : ℕ). cleared_from k mid) e
            ∙ cleared_numbers mid (edges_from (edges_in ws n) v) (omega (arith, e, l)) (λ k a. s k a (omega (arith, e, l)))
            ∙ ap (padded (edges_from (edges_in ws n) v)) l);
      }
