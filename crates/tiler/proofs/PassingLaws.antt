-- What the pass over the edges comes to: each edge adds its parent's count to its child's, and so the counts are the path counts of the graph; a sum
-- that is too large tells that a path count is. Rests on `Inner`, covers' `PassLaws` and path_count's `PathCountLaws`. Assumes nothing.
use mathlib.Core.Path.{◌≡◌, refl, sym, ap, ap₂, ◌∙◌, subst, fun_ext}
use mathlib.Core.Bool.{Bool, true, false, cond, false≢true, true≢false}
use mathlib.Core.List.{List, Memᴰ as Mem}
use Prim.Native.Nat.{ℕ, zero, suc, ◌+◌, ◌*◌, ◌≤◌, ◌<◌}
use native.Mathlib.Numerals.{add-one}
use native.Mathlib.Decide.{dec_lt}
use native.Mathlib.Omega.{arith}
use borrow.Author.Tests.{leb-true, leb-false, le-leb, lt-leb, eqb-true, eq-eqb}
use lib.Dec.{eqb, leb, lit<}
use lib.ListN.{length, get_or, get_or-eq_default}
use Rattle.cells.specs.Lists.{any, list_of}
use Rattle.cells.specs.Parts.{cleared_from}
use Rattle.cells.specs.FirstsLaws.{mem_get_d, any_true, any_some}
use Rattle.cells.specs.MemberLaws.{mem_place}
use Rattle.cells.specs.ArrayLaws.{length_list_of, get_d_list_of}
use Rattle.covers.specs.Setting.{Setting, Laws, EqualSteps, entries_of, path_count_of, graph_edges}
use Rattle.covers.specs.Counts.{counts}
use Rattle.covers.proofs.PassLaws.{passed, passed_zero, passed_suc, passed_all, passed_le}
use Rattle.path_count.specs.PathCounts.{count_limit, count_room, count_in, counts_for}
use Rattle.path_count.specs.Parts.{with_count, AddsCount}
use Rattle.path_count.specs.Inner.{count_words}
use Rattle.path_count.specs.PathCountLaws.{length_count_words, count_in_count_words, with_count_count_words, cleared_count_words, count_words_counts_for, adds_count_words}
use Rattle.graph.specs.Graph.{edge_at}
use Rattle.layers.specs.LayerCounts.{too_large}
use Rattle.tiler.specs.Inner.{pass_to, EndsBelow, first_count, PassesEdges}

-- ---- one edge, in its words

pub edge_adds : (ws cs cs' : List ℕ) (i : ℕ) (r : Bool) (k : ℕ) → k ≡ count_in cs (get_or ws (2 * i) 0) → AddsCount cs (get_or ws (2 * i + 1) 0) k cs' r
    → AddsCount cs (edge_at ws i).1 (count_in cs (edge_at ws i).0) cs' r
unfolding edge_at
edge_adds ws cs cs' i r k e = subst (λ (n : ℕ). AddsCount cs (get_or ws (2 * i + 1) 0) n cs' r) e

-- ---- one edge more

-- so many words hold the counts after j of some edges, each of which fits
pub record Passing (words : ℕ) (es : List (ℕ × ℕ)) (j : ℕ) (cs : List ℕ) : Type 0 where
  pub holds : cs ≡ count_words (pass_to first_count es j) words
  pub fits : (v : ℕ) → pass_to first_count es j v < count_limit

module _ (words : ℕ) (ws : List ℕ) (n : ℕ) where
  abbrev edges_of : List (ℕ × ℕ)
  edges_of = list_of (edge_at ws) n

  -- the counts after i of the edges
  abbrev after : ℕ → ℕ → ℕ
  after i = pass_to first_count edges_of i

  after_more : (i v : ℕ) → i < n → after (i + 1) v ≡ cond (eqb v (edge_at ws i).1) (after i v + after i (edge_at ws i).0) (after i v)
  unfolding pass_to
  after_more i v h =
      ap (λ (j : ℕ). after j v) (add-one i)
      ∙ ap (λ (e : ℕ × ℕ). cond (eqb v e.1) (after i v + after i e.0) (after i v)) (get_d_list_of (edge_at ws) n i (0, 0) h)

  pub pass_none : (cs : List ℕ) → cs ≡ count_words first_count words → Passing words edges_of 0 cs
  unfolding pass_to first_count
  pass_none cs e = record { holds = e; fits = λ v. go (eqb v 0) }
    where
      go : (t : Bool) → cond t 1 0 < count_limit
      go true = lit< tt
      go false = lit< tt

  module _ (cs cs' : List ℕ) (i : ℕ) (r : Bool) (h : i < n) (inv : Passing words edges_of i cs)
      (ends : ((edge_at ws i).0 < count_room words) × ((edge_at ws i).1 < count_room words))
      (adds : AddsCount cs (edge_at ws i).1 (count_in cs (edge_at ws i).0) cs' r) where
    abbrev child : ℕ
    child = (edge_at ws i).1

    abbrev sum : ℕ
    sum = after i child + after i (edge_at ws i).0

    paths : count_in cs (edge_at ws i).0 ≡ after i (edge_at ws i).0
    paths =
        ap (λ (l : List ℕ). count_in l (edge_at ws i).0) inv.holds
        ∙ count_in_count_words (after i) words (edge_at ws i).0 ends.0 (inv.fits (edge_at ws i).0)

    added : (r ≡ leb count_limit sum) × (cs' ≡ cond r (count_words (after i) words) (count_words (λ v. cond (eqb v child) sum (after i v)) words))
    added =
        adds_count_words (after i) words child (after i (edge_at ws i).0) cs' r ends.1 (inv.fits child)
        (subst (λ (l : List ℕ). AddsCount l child (after i (edge_at ws i).0) cs' r) inv.holds (subst (λ (k : ℕ). AddsCount cs child k cs' r) paths adds))

    -- the child's count
    summed : (v : ℕ) → cond (eqb v child) sum (after i v) ≡ after (i + 1) v
    summed v = go (eqb v child) refl ∙ sym (after_more i v h)
      where
        go : (t : Bool) → eqb v child ≡ t → cond t sum (after i v) ≡ cond t (after i v + after i (edge_at ws i).0) (after i v)
        go true q = ap (λ (u : ℕ). after i u + after i (edge_at ws i).0) (sym (eqb-true v child q))
        go false q = refl

    pub pass_more : r ≡ false → Passing words edges_of (i + 1) cs'
    pass_more e = record {
      holds = added.1
          ∙ ap (λ (t : Bool). cond t (count_words (after i) words) (count_words (λ v. cond (eqb v child) sum (after i v)) words)) e
          ∙ ap (λ (f : ℕ → ℕ). count_words f words) (fun_ext summed);
      fits = λ v. subst (λ (m : ℕ). m < count_limit) (summed v) (go v (eqb v child));
    }
      where
        go : (v : ℕ) (t : Bool) → cond t sum (after i v) < count_limit
        go v true = leb-false count_limit sum (sym added.0 ∙ e)
        go v false = inv.fits v

    -- a sum that is too large
    pub pass_large : r ≡ true → PassesEdges words edges_of cs' false
    pass_large e = record {
      done = λ q. absurd (false≢true q);
      fits = λ q. absurd (false≢true q);
      large = λ q. (i + 1, child, omega (arith, length_list_of (edge_at ws) n), reached);
    }
      where
        here : after (i + 1) child ≡ sum
        here = after_more i child h ∙ rw (eq-eqb child child refl)

        reached : count_limit ≤ after (i + 1) child
        reached = subst (λ (m : ℕ). count_limit ≤ m) (sym here) (leb-true count_limit sum (sym added.0 ∙ e))

  -- all edges are passed
  pub pass_done : (cs : List ℕ) (i : ℕ) → i ≤ n → n ≤ i → Passing words edges_of i cs → PassesEdges words edges_of cs true
  pass_done cs i h k inv =
      let e : i ≡ length edges_of = omega (arith, length_list_of (edge_at ws) n) in
      let all = subst (λ (j : ℕ). Passing words edges_of j cs) e inv in
      record { done = λ q. all.holds; fits = λ q. all.fits; large = λ q. absurd (true≢false q) }

-- ---- the counts with which the pass begins

pub first_counts : (cs cs' cs'' : List ℕ) (k : ℕ) → cs' ≡ cleared_from 0 cs → k ≡ 1 → cs'' ≡ with_count cs' 0 k → cs'' ≡ count_words first_count (length cs)
unfolding first_count
first_counts cs cs' cs'' k clear one put =
    put ∙ ap₂ (λ (l : List ℕ) (m : ℕ). with_count l 0 m) (clear ∙ cleared_count_words cs) one ∙ with_count_count_words (λ v. 0) (length cs) 0 1

module _ (cs cs' : List ℕ) (first : cs' ≡ count_words first_count (length cs)) where
  -- their words are as many
  pub first_length : length cs' ≡ length cs
  first_length = ap length first ∙ length_count_words first_count (length cs)

  -- what the pass asks
  pub first_asks : (ws : List ℕ) (n : ℕ) → EndsBelow ws n (count_room (length cs)) → EndsBelow ws n (count_room (length cs')) × (cs' ≡ count_words first_count (length cs'))
  first_asks ws n ends =
      (subst (λ (k : ℕ). EndsBelow ws n (count_room k)) (sym first_length) ends, first ∙ ap (count_words first_count) (sym first_length))

  -- and what it leaves
  pub first_passes : (es : List (ℕ × ℕ)) (cs'' : List ℕ) (r : Bool) → PassesEdges (length cs') es cs'' r → PassesEdges (length cs) es cs'' r
  first_passes es cs'' r = subst (λ (k : ℕ). PassesEdges k es cs'' r) first_length

-- ---- counts that fit

-- none is too large where each is below the limit
all_fit : (ns : List ℕ) → ((v : ℕ) → get_or ns v 0 < count_limit) → too_large ns ≡ false
unfolding too_large
all_fit ns small = go (any (λ n. leb count_limit n) ns) refl
  where
    go : (b : Bool) → any (λ n. leb count_limit n) ns ≡ b → any (λ n. leb count_limit n) ns ≡ false
    go false q = q
    go true q =
        let m = any_some (λ n. leb count_limit n) ns q in
        let p = mem_place ns m.0 0 m.1 in
        absurd (false≢true (sym (lt-leb count_limit m.0 (omega (arith, small p.0, p.2))) ∙ m.2))

-- ---- the counts are the path counts

module _ {P : Type 0} (S : Setting ℕ P) (L : Laws S) (a : ℕ) (E : EqualSteps S a) (s : ℕ) (ok : S.Ok s) where
  abbrev edges : List (ℕ × ℕ)
  edges = graph_edges S s

  pass_to_passed : (j v : ℕ) → j ≤ length edges → pass_to first_count edges j v ≡ passed S s j v
  unfolding pass_to first_count
  pass_to_passed zero v h = sym (passed_zero S L a E s ok v)
  pass_to_passed (suc j) v h =
      ap₂ (λ (m n : ℕ). cond (eqb v (get_or edges j (0, 0)).1) (m + n) m) (pass_to_passed j v (omega arith))
      (pass_to_passed j (get_or edges j (0, 0)).0 (omega arith))
      ∙ sym (passed_suc S L a E s ok j v (omega arith))

  pass_all : (v : ℕ) → pass_to first_count edges (length edges) v ≡ path_count_of S s v
  pass_all v = pass_to_passed (length edges) v (omega arith) ∙ passed_all S L a E s ok (length edges) v (omega arith)

  module _ (words : ℕ) (cs : List ℕ) (r : Bool) (p : PassesEdges words edges cs r) where
    -- the words hold the path counts, and none is too large
    pub pass_counts : r ≡ true → (cs ≡ counts_for (counts (entries_of S s)) words) × (too_large (counts (entries_of S s)) ≡ false)
    pass_counts e = (
      p.done e ∙ count_words_counts_for (pass_to first_count edges (length edges)) (counts (entries_of S s)) words (λ v h. pass_all v),
      all_fit (counts (entries_of S s)) (λ v. subst (λ (n : ℕ). n < count_limit) (pass_all v) (p.fits e v)),
    )

    -- a sum that was too large
    pub pass_too_large : r ≡ false → too_large (counts (entries_of S s)) ≡ true
    unfolding too_large
    pass_too_large e =
        let w = p.large e in
        let same = pass_to_passed w.0 w.1 w.2 in
        any_true (λ n. leb count_limit n) (counts (entries_of S s)) (path_count_of S s w.1)
        (inside w.1 (omega (arith, same, w.3, passed_le S L a E s ok w.0 w.1)))
        (le-leb count_limit (path_count_of S s w.1) (omega (arith, same, w.3, passed_le S L a E s ok w.0 w.1)))
      where
        inside : (v : ℕ) → 0 < path_count_of S s v → Mem (path_count_of S s v) (counts (entries_of S s))
        inside v h = go (dec_lt v (length (counts (entries_of S s))))
          where
            go : Dec (v < length (counts (entries_of S s))) → Mem (path_count_of S s v) (counts (entries_of S s))
            go (yes l) = mem_get_d (counts (entries_of S s)) v 0 l
            go (no l) = absurd (omega (arith, get_or-eq_default (counts (entries_of S s)) 0 {n = v} (omega arith)))
