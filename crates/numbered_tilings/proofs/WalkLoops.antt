-- What the walk by turns over counts and edges in lent words comes to, and what the tiling by number answers. Rests on `Tilings`, `TilingLaws` and
-- covers' laws of the walk. Assumes nothing.
use mathlib.Core.Path.{◌≡◌, refl, sym, ap, ◌∙◌, subst}
use mathlib.Core.Bool.{Bool, true, false, cond}
use mathlib.Core.List.{List, [], ◌∷◌, ◌++◌}
use Rattle.std.specs.Prelude.{Option, None, Some, Result, Ok, Err, unwrap_or}
use Prim.Native.Nat.{ℕ, zero, suc, ◌+◌, ◌-◌, ◌*◌, ◌≤◌, ◌<◌}
use native.Mathlib.Nat.{sub-zero}
use native.Mathlib.Numerals.{add-one}
use native.Mathlib.Decide.{ℕ_discrete}
use native.Mathlib.Omega.{arith}
use borrow.Author.Tests.{lt-ltb, le-ltb, lt-leb}
use lib.Dec.{eqb}
use lib.ListN.{length, get_or, set, length-append, length-set}
use lib.Seq.{get_or-append_seam, get_or-set_same, get_or-set_other}
use Rattle.cells.specs.Lists.{list_from, list_of, padded}
use Rattle.cells.specs.Parts.{cleared_from}
use Rattle.cells.specs.ArrayLaws.{get_d_snoc}
use Rattle.refusal.specs.Refusal.{Answer, refused, given, map_answer, value_or, answer_of}
use Rattle.refusal.specs.RefusalLaws.{refused_value}
use Rattle.refusal.specs.declared.Refusal.{Refusal}
use Rattle.covers.specs.Counts.{parents_of, turn, node_list_to, at_node}
use Rattle.covers.specs.Setting.{SumRule}
use Rattle.covers.specs.Inner.{share}
use Rattle.covers.proofs.WalkLaws.{turn_pass, turn_hit, walk_first, tiling_next, back_in}
use Rattle.path_count.specs.PathCounts.{count_in}
use Rattle.graph.specs.declared.GraphResult.{GraphResult}
use Rattle.graph.proofs.RoomLaws.{edge_room_lem}
use Rattle.graph.specs.Graph.{edge_at, edges_in, count_from_graph}
use Rattle.graph.proofs.GraphLaws.{edges_in_lent, cleared_numbers}
use Rattle.numbered_tilings.specs.Inner.{walked, Walkable}
use Rattle.numbered_tilings.specs.Tilings.{bad_graph, node_list_in, tiling_by_number, GivesTiling, GivesChain}
use Rattle.numbered_tilings.proofs.TilingLaws.{SoundGraph, not_bad_sound, tiling_given, told_tiling, given_chain}

-- ---- the turn among the edges from i on, of n

module _ (count : ℕ → ℕ) (edge : ℕ → ℕ × ℕ) (n v : ℕ) where
  -- the parent of v whose turn holds m, and what is left of m
  abbrev pub turn_from : ℕ → ℕ → ℕ × ℕ
  turn_from i m = turn count (parents_of (list_from edge i (n - i)) v) m

  pub turn_start : (m : ℕ) → turn count (parents_of (list_of edge n) v) m ≡ turn_from 0 m
  unfolding list_of
  turn_start m = rw sub-zero

  pub turn_none : (i m : ℕ) → n ≤ i → (0, m) ≡ turn_from i m
  unfolding turn parents_of list_from
  turn_none i m h = let e : n - i ≡ 0 = omega arith in rw e

  module _ (i : ℕ) (l : i < n) where
    -- the parents by the later edges
    abbrev rest : List ℕ
    rest = parents_of (list_from edge (i + 1) (n - (i + 1))) v

    next_edge : parents_of (list_from edge i (n - i)) v ≡ cond (eqb (edge i).1 v) ((edge i).0 ∷ rest) rest
    unfolding parents_of list_from
    next_edge =
        let q : n - i ≡ suc (n - (i + 1)) = omega arith in
        ap (λ (k : ℕ). parents_of (list_from edge i k) v) q
        ∙ ap (λ (k : ℕ). parents_of (edge i ∷ list_from edge k (n - (i + 1))) v) (sym (add-one i))

    -- the edge's turn is passed, or it holds m
    module _ (m s : ℕ) (e : s ≡ share count v (edge i)) where
      pub turn_passed : s ≤ m → (left : ℕ) → left ≡ m - s → turn_from i m ≡ turn_from (i + 1) left
      unfolding share
      turn_passed h left f = rw (next_edge, f, e) (go (eqb (edge i).1 v) (subst (λ (k : ℕ). k ≤ m) e h))
        where
          go : (b : Bool) → cond b (count (edge i).0) 0 ≤ m
              → turn count (cond b ((edge i).0 ∷ rest) rest) m ≡ turn count rest (m - cond b (count (edge i).0) 0)
          go true k = turn_pass count (edge i).0 rest m k
          go false k = rw sub-zero

      pub turn_held : m < s → (p : ℕ) → p ≡ (edge i).0 → (p, m) ≡ turn_from i m
      unfolding share
      turn_held h p q = rw (q, next_edge) (sym (go (eqb (edge i).1 v) (subst (λ (k : ℕ). m < k) e h)))
        where
          go : (b : Bool) → m < cond b (count (edge i).0) 0 → turn count (cond b ((edge i).0 ∷ rest) rest) m ≡ ((edge i).0, m)
          go true k = turn_hit count (edge i).0 rest m k
          go false k = absurd (omega arith)

-- ---- the walk from node `last` with the number m back to node 0

module _ (es : List (ℕ × ℕ)) (count : ℕ → ℕ) where
  -- one step back from node v with the number m
  pub record Back (v m p left : ℕ) : Type 0 where
    pub lower : p < v
    pub below : left < count p
    pub list : node_list_to es count v m ≡ node_list_to es count p left ++ v ∷ []

  module _ (n : ℕ) where
    -- at node v with the number `left` so many nodes are counted, v among them
    pub record Measured (last m v left size : ℕ) : Type 0 where
      pub node : v < n
      pub below : left < count v
      pub few : size + v ≤ last + 1
      pub long : length (node_list_to es count last m) + 1 ≡ size + length (node_list_to es count v left)

    -- there the nodes behind v, which is to stand at the place `at`, are written
    pub record Backfilled (last m size : ℕ) (old : List ℕ) (v left at : ℕ) (out : List ℕ) : Type 0 where
      pub node : v < n
      pub below : left < count v
      pub place : at + 1 ≡ length (node_list_to es count v left)
      pub within : at < size
      pub front : (k : ℕ) → k ≤ at → get_or (node_list_to es count last m) k 0 ≡ get_or (node_list_to es count v left) k 0
      pub behind : (k : ℕ) → at < k → k < size → get_or out k 0 ≡ get_or (node_list_to es count last m) k 0
      pub long : length out ≡ length old

module _ (n : ℕ) (es : List (ℕ × ℕ)) (count : ℕ → ℕ) (S : SumRule n es count) where
  tiling_first : (v m : ℕ) → v ≤ 0 → node_list_to es count v m ≡ 0 ∷ []
  unfolding node_list_to
  tiling_first v m h = let e : v ≡ 0 = omega arith in rw e (walk_first es count 0 m)

  pub steps_back : (v m p left : ℕ) → 0 < v → v < n → m < count v → (p, left) ≡ turn count (parents_of es v) m → Back es count v m p left
  steps_back zero m p left o l h e = absurd (omega arith)
  steps_back (suc v) m p left o l h e =
      subst (λ (t : ℕ × ℕ). Back es count (suc v) m t.0 t.1) (sym e)
      (let r = back_in n es count S v m l h in record { lower = r.0; below = r.1; list = tiling_next n es count S v m l h })

  back_long : (v m p left : ℕ) → Back es count v m p left → length (node_list_to es count v m) ≡ length (node_list_to es count p left) + 1
  back_long v m p left b = ap length b.list ∙ length-append (node_list_to es count p left) (v ∷ [])

  -- a list has a node
  pub tiling_some : (v m : ℕ) → v < n → m < count v → 0 < length (node_list_to es count v m)
  tiling_some zero m l h = omega (arith, ap length (tiling_first 0 m (omega arith)))
  tiling_some (suc v) m l h = omega (arith, back_long (suc v) m _ _ (steps_back (suc v) m _ _ (omega arith) l h refl))

  module _ (last m : ℕ) where
    pub measured_start : last < n → m < count last → Measured es count n last m last m 1
    measured_start l h = record { node = l; below = h; few = omega arith; long = omega arith }

    module _ (v left size : ℕ) (h : Measured es count n last m v left size) where
      pub measured_next : (p rest : ℕ) → Back es count v left p rest → Measured es count n last m p rest (size + 1)
      measured_next p rest b =
          record {
            node = omega (arith, h.node, b.lower);
            below = b.below;
            few = omega (arith, h.few, b.lower);
            long = omega (arith, h.long, back_long v left p rest b);
          }

      pub measured_end : v ≤ 0 → size ≡ length (node_list_to es count last m)
      measured_end z = omega (arith, h.long, ap length (tiling_first v left z))

    module _ (size : ℕ) (old : List ℕ) (room : size ≤ length old) where
      pub backfilled_start : last < n → m < count last → size ≡ length (node_list_to es count last m)
          → Backfilled es count n last m size old last m (size - 1) old
      backfilled_start l h e =
          let o = tiling_some last m l h in
          record {
            node = l;
            below = h;
            place = omega arith;
            within = omega arith;
            front = λ k i. refl;
            behind = λ k i j. absurd (omega arith);
            long = refl;
          }

      module _ (v left at : ℕ) (out : List ℕ) (h : Backfilled es count n last m size old v left at out) where
        -- the place of v is lent
        pub place_lent : at < length out
        place_lent = omega (arith, h.within, h.long)

        module _ (p rest : ℕ) (b : Back es count v left p rest) where
          end : at ≡ length (node_list_to es count p rest)
          end = omega (arith, h.place, back_long v left p rest b)

          -- and is not the first
          pub place_later : 1 ≤ at
          place_later = omega (arith, end, tiling_some p rest (omega (arith, h.node, b.lower)) b.below)

          pub backfilled_next : Backfilled es count n last m size old p rest (at - 1) (set out at v)
          backfilled_next =
              record {
                node = omega (arith, h.node, b.lower);
                below = b.below;
                place = omega (arith, end, place_later);
                within = omega (arith, h.within);
                front = λ k i. h.front k (omega arith) ∙ ap (λ (ns : List ℕ). get_or ns k 0) b.list
                    ∙ get_d_snoc (node_list_to es count p rest) v 0 k (λ q. omega (arith, end, place_later));
                behind = λ k i j. behind k i j (ℕ_discrete k at);
                long = length-set out at v ∙ h.long;
              }
            where
              behind : (k : ℕ) → at - 1 < k → k < size → Dec (k ≡ at) → get_or (set out at v) k 0 ≡ get_or (node_list_to es count last m) k 0
              behind k i j (yes q) =
                  ap (λ (x : ℕ). get_or (set out at v) x 0) q
                  ∙ get_or-set_same out at v 0 place_lent
                  ∙ sym
                  (h.front k (omega arith)
                  ∙ ap (λ (ns : List ℕ). get_or ns k 0) b.list
                  ∙ ap (λ (x : ℕ). get_or (node_list_to es count p rest ++ v ∷ []) x 0) (q ∙ end)
                  ∙ get_or-append_seam (node_list_to es count p rest) v [] 0)
              behind k i j (no q) = get_or-set_other out at k v 0 q ∙ h.behind k (omega arith) j

        pub backfilled_end : v ≤ 0 → (k : ℕ) → k < size → get_or (set out at 0) k 0 ≡ get_or (node_list_to es count last m) k 0
        backfilled_end z k l = go (ℕ_discrete k at)
          where
            first : node_list_to es count v left ≡ 0 ∷ []
            first = tiling_first v left z

            zeroth : k ≡ at → k ≡ 0
            zeroth q = omega (arith, h.place, ap length first)

            go : Dec (k ≡ at) → get_or (set out at 0) k 0 ≡ get_or (node_list_to es count last m) k 0
            go (yes q) =
                ap (λ (x : ℕ). get_or (set out at 0) x 0) q
                ∙ get_or-set_same out at 0 0 place_lent
                ∙ sym (h.front k (omega arith) ∙ ap (λ (ns : List ℕ). get_or ns k 0) first ∙ ap (λ (x : ℕ). get_or (0 ∷ []) x 0) (zeroth q))
            go (no q) = get_or-set_other out at k 0 0 q ∙ h.behind k (omega (arith, h.place, ap length first)) l

-- ---- the answer

-- the node at which a list ends: the full board's, 0 with none
last_node : (complete : Option ℕ) → unwrap_or complete 0 ≡ at_node (λ v. v) complete
unfolding at_node
last_node None = refl
last_node (Some v) = refl

module _ (r : GraphResult) (node_words : ℕ) (counts edges : List ℕ) (m : ℕ) where
  abbrev full : Option ℕ
  full = r.complete

  -- the answer to be told, for an output of so many words
  abbrev answer : ℕ → Answer ℕ
  answer room = map_answer length (tiling_by_number r node_words counts edges m room)

  pub answers_bad : (room : ℕ) → bad_graph r node_words counts edges ≡ true → refused 11 ≡ answer room
  unfolding tiling_by_number map_answer
  answers_bad room e = rw e

  module _ (sound : bad_graph r node_words counts edges ≡ false) where
    sound_graph : SoundGraph r node_words counts edges
    sound_graph = not_bad_sound r node_words counts edges sound

    pub edges_lent_lem : 2 * r.edges ≤ length edges
    edges_lent_lem = edge_room_lem r.edges (length edges) sound_graph.edges_lent

    edges_all : edges_in edges r.edges ≡ list_of (edge_at edges) r.edges
    edges_all = edges_in_lent edges r.edges edges_lent_lem

    module _ (count : ℕ) (t : count ≡ count_from_graph full counts) where
      pub answers_none : (room : ℕ) → count ≤ m → refused 12 ≡ answer room
      unfolding tiling_by_number map_answer
      answers_none room h = rw (sound, le-ltb m (count_from_graph full counts) (omega (arith, t)))

      module _ (h : m < count) (last : ℕ) (told : last ≡ unwrap_or full 0) where
        e : last ≡ at_node (λ v. v) full
        e = told ∙ last_node full

        at_full : (o : Option ℕ) → full ≡ o → m < at_node (count_in counts) o
            → (at_node (λ v. v) o < r.nodes) × (m < count_in counts (at_node (λ v. v) o))
        unfolding at_node
        at_full None q l = absurd (omega arith)
        at_full (Some v) q l = (sound_graph.full_below v q, l)

        pub walkable : Walkable counts edges r.edges r.nodes last m
        unfolding count_from_graph
        walkable =
            let f = at_full full refl (subst (λ (k : ℕ). m < k) t h) in
            (edges_lent_lem, subst (λ (es : List (ℕ × ℕ)). SumRule r.nodes es (count_in counts)) edges_all sound_graph.sums, rw e f.0, rw e f.1)

        list_walked : node_list_in r counts edges m ≡ walked counts edges r.edges last m
        unfolding node_list_in
        list_walked = rw (edges_all, e)

        module _ (room size : ℕ) (s : size ≡ length (walked counts edges r.edges last m)) where
          long : size ≡ length (node_list_in r counts edges m)
          long = s ∙ sym (ap length list_walked)

          pub answers_short : room < size → refused 8 ≡ answer room
          unfolding tiling_by_number map_answer
          answers_short q =
              rw (
                sound,
                lt-ltb m (count_from_graph full counts) (omega (arith, t)),
                lt-leb (length (node_list_in r counts edges m)) room (omega (arith, long)),
              )

          pub answers_given : size ≤ room → given size ≡ answer room
          unfolding map_answer
          answers_given q = ap given long ∙ sym (ap (map_answer length) (tiling_given r node_words counts edges m room sound (omega (arith, t)) (omega (arith, long))))

-- what the list is follows from the answer and the words
with_chain : (r : GraphResult) (nodes counts edges : List ℕ) (m : ℕ) (out out' : List ℕ) (t : Result ℕ Refusal) → GivesTiling r nodes counts edges m out out' t
    → GivesTiling r nodes counts edges m out out' t × GivesChain r edges out' t
with_chain r nodes counts edges m out out' t g = (g, given_chain r nodes counts edges m out out' t g)

-- ---- `tiling_by_number`: so many nodes are told, or a refusal

module _ (r : GraphResult) (nodes counts edges : List ℕ) (m : ℕ) (old : List ℕ) (t : Result ℕ Refusal)
    (told : answer_of t ≡ answer r (length nodes) counts edges m (length old)) where
  pub gives_none : (q : Refusal) → t ≡ Err q → (new : List ℕ) → new ≡ cleared_from 0 old → GivesTiling r nodes counts edges m old new t × GivesChain r edges new t
  gives_none q e new f =
      let empty = refused_value length (tiling_by_number r (length nodes) counts edges m (length old)) _ [] (sym (ap answer_of e) ∙ told) in
      with_chain r nodes counts edges m old new t record { answer = told; words = rw empty (f ∙ cleared_numbers old [] (omega arith) (λ k a. absurd (omega arith))) }

  module _ (size : ℕ) (e : t ≡ Ok size) where
    tests : (bad_graph r (length nodes) counts edges ≡ false) × (m < count_from_graph r.complete counts)
        × (length (node_list_in r counts edges m) ≤ length old) × (length (node_list_in r counts edges m) ≡ size)
    tests = told_tiling r (length nodes) counts edges m (length old) size (sym told ∙ ap answer_of e)

    value : value_or [] (tiling_by_number r (length nodes) counts edges m (length old)) ≡ node_list_in r counts edges m
    unfolding value_or
    value = ap (value_or []) (tiling_given r (length nodes) counts edges m (length old) tests.0 tests.1 tests.2)

    module _ (last : ℕ) (f : last ≡ unwrap_or r.complete 0) where
      abbrev list : List ℕ
      list = walked counts edges r.edges last m

      told_list : node_list_in r counts edges m ≡ list
      told_list = list_walked r (length nodes) counts edges m tests.0 _ refl tests.1 last f

      told_long : size ≡ length list
      told_long = sym tests.3 ∙ ap length told_list

      told_room : size ≤ length old
      told_room = omega (arith, tests.2, tests.3)

      -- what is asked for writing it
      pub told_writable : Walkable counts edges r.edges r.nodes last m × (size ≡ length list) × (size ≤ length old)
      told_writable = (walkable r (length nodes) counts edges m tests.0 _ refl tests.1 last f, told_long, told_room)

      pub gives_list : (mid new : List ℕ) → length mid ≡ length old → ((k : ℕ) → k < size → get_or mid k 0 ≡ get_or list k 0)
          → new ≡ cleared_from size mid → GivesTiling r nodes counts edges m old new (Ok size) × GivesChain r edges new (Ok size)
      gives_list mid new l h g =
          with_chain r nodes counts edges m old new (Ok size) record {
            answer = sym (ap answer_of e) ∙ told;
            words =
                g
                ∙ ap (λ (k : ℕ). cleared_from k mid) told_long
                ∙ cleared_numbers mid list (omega (arith, told_long, told_room, l)) (λ k a. h k (omega (arith, told_long)))
                ∙ ap (padded list) l
                ∙ ap (λ (ns : List ℕ). padded ns (length old)) (sym (value ∙ told_list));
          }
