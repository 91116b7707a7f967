-- Laws of a graph in lent words: what the search for a node finds; the edges out of a node; and what is stored is read back: one edge more, and the
-- words behind the last edge or number cleared. Rests on `Graph`, `cells` and `covers`. Assumes nothing.
use Rattle.std.proofs.Math.Path.{◌≡◌, refl, ap}
use Rattle.std.proofs.Common.{sym, ap₂, ◌∙◌, subst, ⊎_elim, add-zero, zero-add, lt-ltb, le-ltb, eq-eqb, ne_eqb, length-set, get_or-set_same, get_or-set_other}
use Rattle.std.specs.Prelude.{◌↔◌, Bool, ◌||◌, ltb, length, set, take, None, Some}
use Rattle.std.proofs.Math.Bool.{true, false, cond}
use mathlib.Core.List.Memᴰ.{cases_cons}
use mathlib.Core.List.Memᴰ.{head as here}
use mathlib.Core.List.Memᴰ.{not-nil}
use mathlib.Core.List.Memᴰ.{tail as there}
use mathlib.Core.List.{List, [], ◌∷◌, ◌++◌, Memᴰ as Mem, flat_map}
use Prim.Native.Nat.{ℕ, zero, suc, ◌+◌, ◌-◌, ◌*◌, ◌/◌, ◌%◌, ◌≤◌, ◌<◌, min}
use Rattle.std.proofs.Math.Decide.{ℕ_discrete, dec_lt}
use native.Mathlib.Omega.{arith}
use Rattle.std.proofs.Math.Dec.{eqb}
use Rattle.std.proofs.Math.ListN.{get_or, get_or-eq_default}
use Rattle.cells.specs.Lists.{any, holds, list_from, list_of, padded, set_at}
use Rattle.cells.specs.Parts.{first_from, find_set, cleared_from}
use Rattle.cells.specs.ArrayLaws.{length_list_of, get_d_list_of, list_of_ext, list_of_eta, list_of_get_d, list_of_snoc, get_d_block}
use Rattle.covers.specs.Counts.{number_in}
use Rattle.graph.specs.Graph.{edge_at, edges_in, edges_from, edges_for}

-- ---- the search for a node

module _ (test : ℕ → Bool) where
  -- the places hold a list's elements: the first is the element's number
  first_from_held : (bs : List ℕ) (v i : ℕ) → ((k : ℕ) → k < length bs → test (i + k) ≡ eqb (get_or bs k 0) v)
      → first_from test i (length bs) ≡ cond (holds eqb bs v) (Some (i + number_in eqb bs v)) None
  unfolding first_from holds any number_in
  first_from_held [] v i h = refl
  first_from_held (b ∷ bs) v i h =
      go (eqb b v) (sym (ap test (add-zero i)) ∙ h 0 (omega arith))
      (first_from_held bs v (suc i) (λ k l. let q : suc i + k ≡ i + suc k = omega arith in ap test q ∙ h (suc k) (omega arith)))
    where
      go : (t : Bool) → test i ≡ t → first_from test (suc i) (length bs) ≡ cond (holds eqb bs v) (Some (suc i + number_in eqb bs v)) None
          → cond (test i) (Some i) (first_from test (suc i) (length bs))
          ≡ cond (t || holds eqb bs v) (Some (i + cond t 0 (suc (number_in eqb bs v)))) None
      go true e r = rw e (ap Some (sym (add-zero i)))
      go false e r =
          let q : suc i + number_in eqb bs v ≡ i + suc (number_in eqb bs v) = omega arith in
          rw e (r ∙ ap (λ (k : ℕ). cond (holds eqb bs v) (Some k) None) q)

-- the search in words that hold a list of nodes
pub found_held : (ws : List ℕ) (bs : List ℕ) (v : ℕ) → length bs ≤ length ws / 4 → list_of (set_at ws) (length bs) ≡ bs
    → find_set ws 0 (length bs) v ≡ cond (holds eqb bs v) (Some (number_in eqb bs v)) None
unfolding find_set
found_held ws bs v h e =
    let all : min (length bs) (length ws / 4) - 0 ≡ length bs = omega arith in
    ap (first_from (λ i. eqb (set_at ws i) v) 0) all
    ∙ first_from_held (λ i. eqb (set_at ws i) v) bs v 0
    (λ k l. ap (λ (n : ℕ). eqb n v) (ap (set_at ws) (zero-add k) ∙ sym (get_d_list_of (set_at ws) (length bs) k 0 l) ∙ ap (λ (l : List ℕ). get_or l k 0) e))
    ∙ ap (λ (k : ℕ). cond (holds eqb bs v) (Some k) None) (zero-add (number_in eqb bs v))

-- ---- the edges out of a node

edges_from_here : (e : ℕ × ℕ) (es : List (ℕ × ℕ)) (v : ℕ) → e.0 ≡ v → edges_from (e ∷ es) v ≡ e.1 ∷ edges_from es v
unfolding edges_from
edges_from_here e es v q = rw (eq-eqb e.0 v q)

edges_from_there : (e : ℕ × ℕ) (es : List (ℕ × ℕ)) (v : ℕ) → (e.0 ≡ v → ⊥) → edges_from (e ∷ es) v ≡ edges_from es v
unfolding edges_from
edges_from_there e es v n = rw (ne_eqb e.0 v n)

pub edges_from_iff : (es : List (ℕ × ℕ)) (v c : ℕ) → Mem c (edges_from es v) ↔ Mem (v, c) es
unfolding edges_from
edges_from_iff [] v c = (λ m. absurd (not-nil m), λ m. absurd (not-nil m))
edges_from_iff (e ∷ es) v c = go (ℕ_discrete e.0 v) (edges_from_iff es v c)
  where
    go : Dec (e.0 ≡ v) → Mem c (edges_from es v) ↔ Mem (v, c) es → Mem c (edges_from (e ∷ es) v) ↔ Mem (v, c) (e ∷ es)
    go (yes q) rest = (
      λ m.
          ⊎_elim (λ f. here (ap₂ (λ (a b : ℕ). (a, b)) (sym q) f)) (λ k. there (rest.0 k)) (cases_cons (subst (Mem c) (edges_from_here e es v q) m)),
      λ m.
          subst (Mem c) (sym (edges_from_here e es v q))
          (⊎_elim (λ f. here (ap (λ (p : ℕ × ℕ). p.1) f)) (λ k. there (rest.1 k)) (cases_cons m)),
    )
    go (no n) rest = (
      λ m. there (rest.0 (subst (Mem c) (edges_from_there e es v n) m)),
      λ m.
          subst (Mem c) (sym (edges_from_there e es v n))
          (⊎_elim (λ f. absurd (n (sym (ap (λ (p : ℕ × ℕ). p.0) f)))) (λ k. rest.1 k) (cases_cons m)),
    )

module _ (e : ℕ × ℕ) (v : ℕ) where
  -- one edge more, out of the node
  pub edges_from_more : (es : List (ℕ × ℕ)) → e.0 ≡ v → edges_from (es ++ e ∷ []) v ≡ edges_from es v ++ e.1 ∷ []
  unfolding edges_from
  edges_from_more [] q = edges_from_here e [] v q
  edges_from_more (d ∷ es) q = go (eqb d.0 v) (edges_from_more es q)
    where
      go : (t : Bool) → edges_from (es ++ e ∷ []) v ≡ edges_from es v ++ e.1 ∷ []
          → cond t (d.1 ∷ edges_from (es ++ e ∷ []) v) (edges_from (es ++ e ∷ []) v) ≡ cond t (d.1 ∷ edges_from es v) (edges_from es v) ++ e.1 ∷ []
      go true r = ap (λ (l : List ℕ). d.1 ∷ l) r
      go false r = r

  -- one edge more, out of another
  pub edges_from_other : (es : List (ℕ × ℕ)) → (e.0 ≡ v → ⊥) → edges_from (es ++ e ∷ []) v ≡ edges_from es v
  unfolding edges_from
  edges_from_other [] n = edges_from_there e [] v n
  edges_from_other (d ∷ es) n = ap (λ (l : List ℕ). cond (eqb d.0 v) (d.1 ∷ l) l) (edges_from_other es n)

-- ---- a list of edges in words

-- word k of a list of edges, 0 behind the last
unfoldable pub edge_word : List (ℕ × ℕ) → ℕ → ℕ
edge_word es k = cond (eqb (k % 2) 0) (get_or es (k / 2) (0, 0)).0 (get_or es (k / 2) (0, 0)).1

module _ (es : List (ℕ × ℕ)) where
  edge_word_lem : (k : ℕ) → get_or (flat_map (λ (e : ℕ × ℕ). e.0 ∷ e.1 ∷ []) es) k 0 ≡ edge_word es k
  unfolding edge_word
  edge_word_lem k =
      let e : 2 * (k / 2) + k % 2 ≡ k = omega arith in
      ap (λ (i : ℕ). get_or (flat_map (λ (e : ℕ × ℕ). e.0 ∷ e.1 ∷ []) es) i 0) (sym e)
      ∙ get_d_block 2 (λ (e : ℕ × ℕ). e.0 ∷ e.1 ∷ []) (λ e. refl) (0, 0) zeros es (k / 2) (k % 2) (omega arith)
      ∙ half (k % 2) (omega arith) (get_or es (k / 2) (0, 0))
    where
      zeros : (j : ℕ) → ◌≡◌ {A = ℕ} (get_or (0 ∷ 0 ∷ []) j 0) 0
      zeros zero = refl
      zeros (suc zero) = refl
      zeros (suc (suc j)) = refl

      half : (j : ℕ) → j < 2 → (e : ℕ × ℕ) → get_or (e.0 ∷ e.1 ∷ []) j 0 ≡ cond (eqb j 0) e.0 e.1
      half zero h e = refl
      half (suc zero) h e = refl
      half (suc (suc j)) h e = absurd (omega arith)

  pub edges_for_at : (count : ℕ) → edges_for es count ≡ list_of (edge_word es) count
  unfolding edges_for padded
  edges_for_at count = list_of_ext (λ k. get_or (flat_map (λ (e : ℕ × ℕ). e.0 ∷ e.1 ∷ []) es) k 0) (edge_word es) count (λ k h. edge_word_lem k)

  edge_word_even : (i : ℕ) → edge_word es (2 * i) ≡ (get_or es i (0, 0)).0
  unfolding edge_word
  edge_word_even i =
      let a : 2 * i % 2 ≡ 0 = omega arith in
      let b : 2 * i / 2 ≡ i = omega arith in
      rw (a, b)

  edge_word_odd : (i : ℕ) → edge_word es (2 * i + 1) ≡ (get_or es i (0, 0)).1
  unfolding edge_word
  edge_word_odd i =
      let a : (2 * i + 1) % 2 ≡ 1 = omega arith in
      let b : (2 * i + 1) / 2 ≡ i = omega arith in
      rw (a, b)

  -- behind the last edge there are zeros
  edge_word_past : (k : ℕ) → 2 * length es ≤ k → edge_word es k ≡ 0
  unfolding edge_word
  edge_word_past k h = rw (get_or-eq_default es (0, 0) {n = k / 2} (omega arith)) (go (eqb (k % 2) 0))
    where
      go : (t : Bool) → ◌≡◌ {A = ℕ} (cond t 0 0) 0
      go true = refl
      go false = refl

pub length_edges_for : (es : List (ℕ × ℕ)) (count : ℕ) → length (edges_for es count) ≡ count
length_edges_for es count = ap length (edges_for_at es count) ∙ length_list_of (edge_word es) count

take_list_from : {A : Type 0} (f : ℕ → A) (i k n : ℕ) → k ≤ n → take k (list_from f i n) ≡ list_from f i k
unfolding list_from
take_list_from f i zero n h = refl
take_list_from f i (suc k) zero h = absurd (omega arith)
take_list_from f i (suc k) (suc n) h = ap (λ (l : List _). f i ∷ l) (take_list_from f (suc i) k n (omega arith))

-- a list that is stored is read back
pub take_padded : (ns : List ℕ) (count : ℕ) → length ns ≤ count → take (length ns) (padded ns count) ≡ ns
unfolding padded list_of
take_padded ns count h = take_list_from (λ k. get_or ns k 0) 0 (length ns) count h ∙ list_of_get_d 0 ns

edge_at_edges_for : (es : List (ℕ × ℕ)) (count i : ℕ) → i < length es → 2 * length es ≤ count → edge_at (edges_for es count) i ≡ get_or es i (0, 0)
unfolding edge_at
edge_at_edges_for es count i h l =
    ap (λ (ws : List ℕ). edge_at ws i) (edges_for_at es count)
    ∙ ap₂ (λ (a b : ℕ). (a, b)) (get_d_list_of (edge_word es) count (2 * i) 0 (omega arith) ∙ edge_word_even es i)
    (get_d_list_of (edge_word es) count (2 * i + 1) 0 (omega arith) ∙ edge_word_odd es i)

-- edges that are all lent
pub edges_in_lent : (ws : List ℕ) (n : ℕ) → 2 * n ≤ length ws → edges_in ws n ≡ list_of (edge_at ws) n
unfolding edges_in
edges_in_lent ws n h = let all : min n (length ws / 2) ≡ n = omega arith in ap (list_of (edge_at ws)) all

-- what is stored is read back
pub edges_in_edges_for : (es : List (ℕ × ℕ)) (count : ℕ) → 2 * length es ≤ count → edges_in (edges_for es count) (length es) ≡ es
edges_in_edges_for es count h =
    edges_in_lent (edges_for es count) (length es) (omega (arith, length_edges_for es count))
    ∙ sym (list_of_eta (0, 0) es (edge_at (edges_for es count)) (length es) refl (λ i l. sym (edge_at_edges_for es count i l h)))

-- ---- words that hold a list of edges or nodes in front

-- one edge more is stored behind the last
pub set_edge : (ws : List ℕ) (es : List (ℕ × ℕ)) (p c : ℕ) → 2 * length es + 2 ≤ length ws → list_of (edge_at ws) (length es) ≡ es
    → list_of (edge_at (set (set ws (2 * length es) p) (2 * length es + 1) c)) (length es + 1) ≡ es ++ (p, c) ∷ []
unfolding edge_at
set_edge ws es p c h e =
    list_of_snoc (edge_at new) (length es)
    ∙ ap₂ (λ (l : List (ℕ × ℕ)) (x : ℕ × ℕ). l ++ x ∷ []) (list_of_ext (edge_at new) (edge_at ws) (length es) before ∙ e) last
  where
    mid : List ℕ
    mid = set ws (2 * length es) p

    new : List ℕ
    new = set mid (2 * length es + 1) c

    kept : (k : ℕ) → k < 2 * length es → get_or new k 0 ≡ get_or ws k 0
    kept k l = get_or-set_other mid (2 * length es + 1) k c 0 (λ q. omega arith) ∙ get_or-set_other ws (2 * length es) k p 0 (λ q. omega arith)

    before : (i : ℕ) → i < length es → edge_at new i ≡ edge_at ws i
    before i l = ap₂ (λ (a b : ℕ). (a, b)) (kept (2 * i) (omega arith)) (kept (2 * i + 1) (omega arith))

    last : edge_at new (length es) ≡ (p, c)
    last =
        ap₂ (λ (a b : ℕ). (a, b))
        (get_or-set_other mid (2 * length es + 1) (2 * length es) c 0 (λ q. omega arith) ∙ get_or-set_same ws (2 * length es) p 0 (omega arith))
        (get_or-set_same mid (2 * length es + 1) c 0 (omega (arith, length-set ws (2 * length es) p)))

-- the words behind the last edge cleared
pub cleared_edges : (ws : List ℕ) (es : List (ℕ × ℕ)) → 2 * length es ≤ length ws → list_of (edge_at ws) (length es) ≡ es
    → cleared_from (2 * length es) ws ≡ edges_for es (length ws)
unfolding cleared_from edge_at
cleared_edges ws es h e =
    list_of_ext (λ k. cond (ltb k (2 * length es)) (get_or ws k 0) 0) (edge_word es) (length ws) (λ k l. go k (dec_lt k (2 * length es)))
    ∙ sym (edges_for_at es (length ws))
  where
    edge : (i : ℕ) → i < length es → get_or es i (0, 0) ≡ edge_at ws i
    edge i l = ap (λ (ds : List (ℕ × ℕ)). get_or ds i (0, 0)) (sym e) ∙ get_d_list_of (edge_at ws) (length es) i (0, 0) l

    stored : (k : ℕ) → k < 2 * length es → Dec (k % 2 ≡ 0) → get_or ws k 0 ≡ edge_word es k
    stored k a (yes q) =
        let j : k ≡ 2 * (k / 2) = omega arith in
        ap (λ (i : ℕ). get_or ws i 0) j ∙ sym (ap (edge_word es) j ∙ edge_word_even es (k / 2) ∙ ap (λ (d : ℕ × ℕ). d.0) (edge (k / 2) (omega arith)))
    stored k a (no q) =
        let j : k ≡ 2 * (k / 2) + 1 = omega arith in
        ap (λ (i : ℕ). get_or ws i 0) j ∙ sym (ap (edge_word es) j ∙ edge_word_odd es (k / 2) ∙ ap (λ (d : ℕ × ℕ). d.1) (edge (k / 2) (omega arith)))

    go : (k : ℕ) → Dec (k < 2 * length es) → cond (ltb k (2 * length es)) (get_or ws k 0) 0 ≡ edge_word es k
    go k (yes a) = rw (lt-ltb k (2 * length es) a) (stored k a (ℕ_discrete (k % 2) 0))
    go k (no a) = rw (le-ltb k (2 * length es) (omega arith)) (sym (edge_word_past es k (omega arith)))

-- the words behind the last number cleared
pub cleared_numbers : (ws ns : List ℕ) → length ns ≤ length ws → ((i : ℕ) → i < length ns → get_or ws i 0 ≡ get_or ns i 0)
    → cleared_from (length ns) ws ≡ padded ns (length ws)
unfolding cleared_from padded
cleared_numbers ws ns h e =
    list_of_ext (λ k. cond (ltb k (length ns)) (get_or ws k 0) 0) (λ k. get_or ns k 0) (length ws) (λ k l. go k (dec_lt k (length ns)))
  where
    go : (k : ℕ) → Dec (k < length ns) → cond (ltb k (length ns)) (get_or ws k 0) 0 ≡ get_or ns k 0
    go k (yes a) = rw (lt-ltb k (length ns) a) (e k a)
    go k (no a) = rw (le-ltb k (length ns) (omega arith)) (sym (get_or-eq_default ns 0 {n = k} (omega arith)))
