-- Laws of the tiling by number: what a graph that is not refused by 11 has, and what the answer says. Rests on `Tilings` and covers' laws of the walk.
-- Assumes nothing.
use Rattle.refusal.specs.declared.Refusal.{Refusal}
use Rattle.std.specs.Prelude.{◌≡◌, ◌↔◌, Bool, not, cond, ◌||◌, eqb, take, Result, Option, None, Some}
use Rattle.std.proofs.Math.Path.{refl}
use Rattle.std.proofs.Common.{sym, ap, ◌∙◌, subst, arith, pow_pos}
use Rattle.std.proofs.Math.Bool.{true, false}
use Rattle.std.proofs.lemmas.Bool.{false≢true}
use mathlib.Core.List.{List, [], Memᴰ as Mem}
use Rattle.cells.specs.OptionLaws.{none-ne-some, some-injective}
use Prim.Native.Nat.{ℕ, zero, suc, ◌-◌, ◌≤◌, ◌<◌, min}
use Rattle.std.proofs.Math.Decide.{dec_lt}
use borrow.Author.Tests.{leb-true, leb-false, lt-leb, le-leb, ltb-true, ltb-false, lt-ltb, le-ltb, eqb-true, eqb-false, eq-eqb, ne_eqb, not-false}
use Rattle.std.proofs.Math.Dec.{ltb, leb}
use Rattle.std.proofs.Math.ListN.{length}
use Rattle.cells.specs.WordLaws.{Small}
use Rattle.cells.specs.Lists.{any, list_of, padded}
use Rattle.cells.specs.FirstsLaws.{any_true, any_some}
use Rattle.cells.specs.MemberLaws.{mem_list_of}
use Rattle.refusal.specs.Refusal.{Answer, refused, given, map_answer, value_or, answer_of}
use Rattle.refusal.specs.RefusalLaws.{refused_given, given_inj}
use Rattle.covers.specs.Setting.{SumRule}
use Rattle.covers.specs.Counts.{Chain, sum_of, parents_of, node_list_to, at_node}
use Rattle.covers.proofs.WalkLaws.{tiling_chain}
use Rattle.path_count.specs.PathCounts.{count_limit, count_in}
use Rattle.path_count.specs.PathCountLaws.{count_in_small}
use Rattle.graph.specs.declared.GraphResult.{GraphResult}
use Rattle.graph.specs.Graph.{node_room, edge_room, edges_in, count_from_graph}
use Rattle.graph.proofs.GraphLaws.{take_padded}
use Rattle.numbered_tilings.specs.Tilings.{is_past, bad_edge, sound_count, bad_count, bad_graph, node_list_in, tiling_by_number, GivesTiling, GivesChain}

-- none of the causes of refusal 11 stands
pub record SoundGraph (r : GraphResult) (node_words : ℕ) (counts edges : List ℕ) : Type 0 where
  pub some_nodes : 0 < r.nodes
  pub nodes_lent : r.nodes ≤ node_room node_words (length counts)
  pub edges_lent : r.edges ≤ edge_room (length edges)
  pub full_below : (v : ℕ) → r.complete ≡ Some v → v < r.nodes
  pub sums : SumRule r.nodes (edges_in edges r.edges) (count_in counts)

-- ---- the causes of refusal 11, one by one

neither : (a b : Bool) → ((a || b) ≡ false) ↔ ((a ≡ false) × (b ≡ false))
neither true b = (λ e. absurd (false≢true (sym e)), λ h. h.0)
neither false b = (λ e. (refl, e), λ h. h.1)

-- no element passes a test
module _ {A : Type 0} (p : A → Bool) (xs : List A) where
  any_none : any p xs ≡ false → (x : A) → Mem x xs → p x ≡ false
  any_none e x m = go (p x) refl
    where
      go : (b : Bool) → p x ≡ b → p x ≡ false
      go true f = absurd (false≢true (sym e ∙ any_true p xs x m f))
      go false f = f

  none_any : ((x : A) → Mem x xs → p x ≡ false) → any p xs ≡ false
  none_any h = go (any p xs) refl
    where
      go : (b : Bool) → any p xs ≡ b → any p xs ≡ false
      go true f = let r = any_some p xs f in absurd (false≢true (sym (h r.0 r.1) ∙ r.2))
      go false f = f

full_below_lem : (n : ℕ) (complete : Option ℕ) → (is_past n complete ≡ false) ↔ ((v : ℕ) → complete ≡ Some v → v < n)
unfolding is_past
full_below_lem n None = (λ e v q. absurd (none-ne-some v q), λ h. refl)
full_below_lem n (Some u) = (λ e v q. let l = leb-false n u e in let s = some-injective u v q in omega arith, λ h. lt-leb n u (h u refl))

edge_rises : (n : ℕ) (e : ℕ × ℕ) → (bad_edge n e ≡ false) ↔ ((e.0 < e.1) × (e.1 < n))
unfolding bad_edge
edge_rises n e = (
  λ h. let r = (neither (leb e.1 e.0) (leb n e.1)).0 h in (leb-false e.1 e.0 r.0, leb-false n e.1 r.1),
  λ h. (neither (leb e.1 e.0) (leb n e.1)).1 (lt-leb e.1 e.0 h.0, lt-leb n e.1 h.1),
)

count_sound : (es : List (ℕ × ℕ)) (count : ℕ → ℕ) (v : ℕ) → (bad_count es count v ≡ false) ↔ (count v ≡ sound_count es count v)
unfolding bad_count
count_sound es count v = (
  λ h. eqb-true (count v) (sound_count es count v) (not-false (eqb (count v) (sound_count es count v)) h),
  λ h. ap not (eq-eqb (count v) (sound_count es count v) h),
)

-- a node but node 0
pub sound_later : (es : List (ℕ × ℕ)) (count : ℕ → ℕ) (v : ℕ) → 0 < v → sound_count es count v ≡ sum_of count (parents_of es v)
unfolding sound_count
sound_later es count zero h = absurd (omega arith)
sound_later es count (suc v) h = refl

-- ---- all of them

module _ (n : ℕ) (es : List (ℕ × ℕ)) (count : ℕ → ℕ) where
  rule_holds : any (bad_edge n) es ≡ false → any (bad_count es count) (list_of (λ v. v) n) ≡ false → 0 < n → SumRule n es count
  unfolding sound_count
  rule_holds a b l = record {
    rises = λ p c m. (edge_rises n (p, c)).0 (any_none (bad_edge n) es a (p, c) m);
    first = sound 0 l;
    sums = λ v h k. sound v k ∙ sound_later es count v h;
  }
    where
      sound : (v : ℕ) → v < n → count v ≡ sound_count es count v
      sound v h = (count_sound es count v).0 (any_none (bad_count es count) (list_of (λ v. v) n) b v ((mem_list_of (λ v. v) n v).1 (v, h, refl)))

  edges_rise : SumRule n es count → any (bad_edge n) es ≡ false
  edges_rise S = none_any (bad_edge n) es (λ e m. (edge_rises n e).1 (S.rises e.0 e.1 m))

  counts_sound : SumRule n es count → any (bad_count es count) (list_of (λ v. v) n) ≡ false
  unfolding sound_count
  counts_sound S =
      none_any (bad_count es count) (list_of (λ v. v) n)
      (λ v m. let r = (mem_list_of (λ v. v) n v).0 m in let h = r.1 in (count_sound es count v).1 (sound v (omega (arith, r.2))))
    where
      sound : (v : ℕ) → v < n → count v ≡ sound_count es count v
      sound zero h = S.first
      sound (suc v) h = S.sums (suc v) (omega arith) h

module _ (r : GraphResult) (node_words : ℕ) (counts edges : List ℕ) where
  abbrev no_nodes : Bool
  no_nodes = eqb r.nodes 0

  abbrev nodes_pass : Bool
  nodes_pass = ltb (node_room node_words (length counts)) r.nodes

  abbrev edges_pass : Bool
  edges_pass = ltb (edge_room (length edges)) r.edges

  abbrev full_past : Bool
  full_past = is_past r.nodes r.complete

  abbrev some_edge_bad : Bool
  some_edge_bad = any (bad_edge r.nodes) (edges_in edges r.edges)

  abbrev some_count_bad : Bool
  some_count_bad = any (bad_count (edges_in edges r.edges) (count_in counts)) (list_of (λ v. v) r.nodes)

  pub not_bad_sound : bad_graph r node_words counts edges ≡ false → SoundGraph r node_words counts edges
  unfolding bad_graph
  not_bad_sound h =
      let f = (neither (no_nodes || nodes_pass || edges_pass || full_past || some_edge_bad) some_count_bad).0 h in
      let e = (neither (no_nodes || nodes_pass || edges_pass || full_past) some_edge_bad).0 f.0 in
      let d = (neither (no_nodes || nodes_pass || edges_pass) full_past).0 e.0 in
      let c = (neither (no_nodes || nodes_pass) edges_pass).0 d.0 in
      let b = (neither no_nodes nodes_pass).0 c.0 in
      let some-nodes : 0 < r.nodes = omega (arith, eqb-false r.nodes 0 b.0) in
      record {
        some_nodes = some-nodes;
        nodes_lent = ltb-false (node_room node_words (length counts)) r.nodes b.1;
        edges_lent = ltb-false (edge_room (length edges)) r.edges c.1;
        full_below = (full_below_lem r.nodes r.complete).0 d.1;
        sums = rule_holds r.nodes (edges_in edges r.edges) (count_in counts) e.1 f.1 some-nodes;
      }

  pub sound_not_bad : SoundGraph r node_words counts edges → bad_graph r node_words counts edges ≡ false
  unfolding bad_graph
  sound_not_bad s =
      rw (
        ne_eqb r.nodes 0 (λ e. omega (arith, s.some_nodes)),
        le-ltb (node_room node_words (length counts)) r.nodes s.nodes_lent,
        le-ltb (edge_room (length edges)) r.edges s.edges_lent,
        (full_below_lem r.nodes r.complete).1 s.full_below,
        edges_rise r.nodes (edges_in edges r.edges) (count_in counts) s.sums,
      )
      (counts_sound r.nodes (edges_in edges r.edges) (count_in counts) s.sums)

-- ---- the tiling

module _ (r : GraphResult) (node_words : ℕ) (counts edges : List ℕ) (m room : ℕ) where
  -- where no cause of refusal stands, the node list is given
  pub tiling_given : bad_graph r node_words counts edges ≡ false → m < count_from_graph r.complete counts
      → length (node_list_in r counts edges m) ≤ room → tiling_by_number r node_words counts edges m room ≡ given (node_list_in r counts edges m)
  unfolding tiling_by_number
  tiling_given sound below long =
      rw (sound, lt-ltb m (count_from_graph r.complete counts) below, le-leb (length (node_list_in r counts edges m)) room long)

  -- m is not below the graph count: it is refused, by 11 or 12
  pub tiling_none : count_from_graph r.complete counts ≤ m
      → tiling_by_number r node_words counts edges m room ≡ cond (bad_graph r node_words counts edges) (refused 11) (refused 12)
  unfolding tiling_by_number
  tiling_none h = rw (le-ltb m (count_from_graph r.complete counts) h)

  -- and only there is a length told
  pub told_tiling : (size : ℕ) → map_answer length (tiling_by_number r node_words counts edges m room) ≡ given size
      → (bad_graph r node_words counts edges ≡ false) × (m < count_from_graph r.complete counts)
      × (length (node_list_in r counts edges m) ≤ room) × (length (node_list_in r counts edges m) ≡ size)
  unfolding tiling_by_number map_answer
  told_tiling size e =
      go (bad_graph r node_words counts edges) refl (ltb m (count_from_graph r.complete counts)) refl (leb (length (node_list_in r counts edges m)) room) refl e
    where
      go : (s : Bool) → bad_graph r node_words counts edges ≡ s → (t : Bool) → ltb m (count_from_graph r.complete counts) ≡ t
          → (u : Bool) → leb (length (node_list_in r counts edges m)) room ≡ u
          → map_answer length (cond s (refused 11) (cond t (cond u (given (node_list_in r counts edges m)) (refused 8)) (refused 12))) ≡ given size
          → (bad_graph r node_words counts edges ≡ false) × (m < count_from_graph r.complete counts)
          × (length (node_list_in r counts edges m) ≤ room) × (length (node_list_in r counts edges m) ≡ size)
      go true p t q u w h = absurd (refused_given 11 size h)
      go false p false q u w h = absurd (refused_given 12 size h)
      go false p true q false w h = absurd (refused_given 8 size h)
      go false p true q true w h =
          (p, ltb-true m (count_from_graph r.complete counts) q, leb-true (length (node_list_in r counts edges m)) room w, given_inj (length (node_list_in r counts edges m)) size h)

-- a graph count is below the limit
pub graph_count_fits : (complete : Option ℕ) (counts : List ℕ) → Small counts → count_from_graph complete counts < count_limit
unfolding count_from_graph at_node
graph_count_fits None counts small = pow_pos 64
graph_count_fits (Some v) counts small = count_in_small counts small v

-- and so a number that is too large for a count is refused as the largest count is
pub number_capped : (r : GraphResult) (node_words : ℕ) (counts edges : List ℕ) (m room : ℕ) → Small counts
    → tiling_by_number r node_words counts edges (min m (count_limit - 1)) room ≡ tiling_by_number r node_words counts edges m room
number_capped r node_words counts edges m room small = go (dec_lt m count_limit)
  where
    go : Dec (m < count_limit) → tiling_by_number r node_words counts edges (min m (count_limit - 1)) room ≡ tiling_by_number r node_words counts edges m room
    go (yes h) = let e : min m (count_limit - 1) ≡ m = omega arith in ap (λ (k : ℕ). tiling_by_number r node_words counts edges k room) e
    go (no h) =
        tiling_none r node_words counts edges (min m (count_limit - 1)) room (omega (arith, graph_count_fits r.complete counts small))
        ∙ sym (tiling_none r node_words counts edges m room (omega (arith, graph_count_fits r.complete counts small)))

-- the list is read from the output
pub list_read : (r : GraphResult) (nodes counts edges : List ℕ) (m : ℕ) (out out' : List ℕ) (t : Result ℕ Refusal) → GivesTiling r nodes counts edges m out out' t
    → bad_graph r (length nodes) counts edges ≡ false → m < count_from_graph r.complete counts
    → length (node_list_in r counts edges m) ≤ length out
    → (answer_of t ≡ given (length (node_list_in r counts edges m))) × (take (length (node_list_in r counts edges m)) out' ≡ node_list_in r counts edges m)
unfolding map_answer value_or
list_read r nodes counts edges m out out' t g sound below long =
    let e = tiling_given r (length nodes) counts edges m (length out) sound below long in (
      g.answer ∙ ap (map_answer length) e,
      ap (take (length (node_list_in r counts edges m))) (g.words ∙ ap (λ (a : Answer (List ℕ)). padded (value_or [] a) (length out)) e)
          ∙ take_padded (node_list_in r counts edges m) (length out) long,
    )

-- where a list is given, it is a chain of stored edges from node 0 to the full node
pub given_chain : (r : GraphResult) (nodes counts edges : List ℕ) (m : ℕ) (out out' : List ℕ) (t : Result ℕ Refusal) → GivesTiling r nodes counts edges m out out' t
    → GivesChain r edges out' t
unfolding map_answer count_from_graph at_node node_list_in
given_chain r nodes counts edges m out out' t g k e =
    let w = told_tiling r (length nodes) counts edges m (length out) k (sym g.answer ∙ e) in
    let list = list_read r nodes counts edges m out out' t g w.0 w.1 w.2 in
    let c = chain r.complete refl (not_bad_sound r (length nodes) counts edges w.0) w.1 in
    (c.0, c.1, subst (Chain (λ p c. Mem (p, c) (edges_in edges r.edges)) 0 c.0) (sym (ap (λ (n : ℕ). take n out') (sym w.3) ∙ list.1)) c.2)
  where
    chain : (o : Option ℕ) → r.complete ≡ o → SoundGraph r (length nodes) counts edges → m < at_node (count_in counts) o
        → (v : ℕ) × (r.complete ≡ Some v) × Chain (λ p c. Mem (p, c) (edges_in edges r.edges)) 0 v (node_list_in r counts edges m)
    chain None q S l = absurd (omega arith)
    chain (Some v) q S l = (
      v,
      q,
      subst (λ (o : Option ℕ). Chain (λ p c. Mem (p, c) (edges_in edges r.edges)) 0 v (node_list_to (edges_in edges r.edges) (count_in counts) (at_node (λ v. v) o) m)) (sym q)
          (tiling_chain r.nodes (edges_in edges r.edges) (count_in counts) S.sums v m (S.full_below v q) l),
    )
