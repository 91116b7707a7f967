-- Laws of one addition to a list of entries and of many: the boards, the counts and whether one is too large; the layer behind a layer is built by
-- adding each child's paths. Rests on `Inner`, `LayerCounts`, `covers` and `cells`. Assumes nothing.
use Rattle.std.specs.Prelude.{◌≡◌, Bool, ◌||◌, leb, length, get_or, set}
use Rattle.std.proofs.Math.Path.{refl, sym, ap}
use Rattle.std.proofs.Common.{◌∙◌, arith, le-leb, leb-true, length-append, length-set}
use Rattle.std.proofs.Math.Bool.{true, false, cond}
use Rattle.std.proofs.lemmas.Bool.{false≢true, lt-leb}
use mathlib.Core.List.{List, [], ◌∷◌, ◌++◌, map, flat_map, append-nil, append_assoc}
use Prim.Native.Nat.{ℕ, zero, suc, ◌+◌, ◌≤◌, ◌<◌}
use Rattle.std.proofs.Math.Dec.{eqb}
use Rattle.std.proofs.lemmas.List.{length-map}
use Rattle.cells.specs.Lists.{any, holds, list_of, set_at}
use Rattle.cells.specs.ArrayLaws.{list_of_snoc}
use Rattle.cells.specs.MemberLaws.{eqb_tells, flat_map_snoc}
use Rattle.tile.specs.Path.{Path}
use Rattle.rectangle.specs.Board.{Board}
use Rattle.covers.specs.Setting.{child_boards}
use Rattle.covers.specs.Counts.{Entry, boards, counts, shares, gather, number_in}
use Rattle.covers.specs.Inner.{add_paths}
use Rattle.covers.proofs.GatherLaws.{gather_snoc}
use Rattle.path_count.specs.PathCounts.{count_limit, count_in}
use Rattle.expansion.specs.Boards.{setting}
use Rattle.layers.specs.LayerCounts.{too_large}
use Rattle.layers.specs.Inner.{entries_in, add_each, next_of}

-- ---- whether a count is too large

pub too_large_snoc : (ns : List ℕ) (k : ℕ) → k < count_limit → too_large (ns ++ k ∷ []) ≡ too_large ns
unfolding too_large any
too_large_snoc [] k h = rw (lt-leb count_limit k h)
too_large_snoc (n ∷ ns) k h = ap (λ (t : Bool). leb count_limit n || t) (too_large_snoc ns k h)

-- a count grows
pub too_large_set : (ns : List ℕ) (i m : ℕ) → i < length ns → get_or ns i 0 ≤ m → too_large (set ns i m) ≡ (too_large ns || leb count_limit m)
unfolding too_large any
too_large_set [] i m h l = absurd (omega arith)
too_large_set (n ∷ ns) zero m h l = go (leb count_limit n) refl (leb count_limit m) refl (too_large ns)
  where
    go : (s : Bool) → leb count_limit n ≡ s → (t : Bool) → leb count_limit m ≡ t → (u : Bool) → (t || u) ≡ ((s || u) || t)
    go true e true f u = refl
    go true e false f u = let a = leb-true count_limit n e in absurd (false≢true (sym f ∙ le-leb count_limit m (omega arith)))
    go false e true f true = refl
    go false e true f false = refl
    go false e false f true = refl
    go false e false f false = refl
too_large_set (n ∷ ns) (suc i) m h l = rw (too_large_set ns i m (omega arith) l) (go (leb count_limit n))
  where
    go : (s : Bool) → (s || (too_large ns || leb count_limit m)) ≡ ((s || too_large ns) || leb count_limit m)
    go true = refl
    go false = refl

-- ---- one addition

module _ (c k : ℕ) where
  -- a new board stands last
  pub add_paths_new : (es : List (Entry ℕ)) → holds eqb (boards es) c ≡ false → add_paths eqb c k es ≡ es ++ (c, k) ∷ []
  unfolding add_paths holds any
  add_paths_new [] h = refl
  add_paths_new (e ∷ es) h = go (eqb e.0 c) h (add_paths_new es)
    where
      go : (t : Bool) → (t || holds eqb (boards es) c) ≡ false → (holds eqb (boards es) c ≡ false → add_paths eqb c k es ≡ es ++ (c, k) ∷ [])
          → cond t ((e.0, e.1 + k) ∷ es) (e ∷ add_paths eqb c k es) ≡ e ∷ es ++ (c, k) ∷ []
      go true q ih = absurd (false≢true (sym q))
      go false q ih = ap (λ (l : List (Entry ℕ)). e ∷ l) (ih q)

  -- the count of an old board is raised
  pub counts_old : (es : List (Entry ℕ)) → holds eqb (boards es) c ≡ true
      → counts (add_paths eqb c k es) ≡ set (counts es) (number_in eqb (boards es) c) (get_or (counts es) (number_in eqb (boards es) c) 0 + k)
  unfolding add_paths holds any number_in
  counts_old [] h = absurd (false≢true h)
  counts_old (e ∷ es) h = go (eqb e.0 c) h (counts_old es)
    where
      at : ℕ
      at = number_in eqb (boards es) c

      go : (t : Bool) → (t || holds eqb (boards es) c) ≡ true
          → (holds eqb (boards es) c ≡ true → counts (add_paths eqb c k es) ≡ set (counts es) at (get_or (counts es) at 0 + k))
          → counts (cond t ((e.0, e.1 + k) ∷ es) (e ∷ add_paths eqb c k es))
          ≡ set (e.1 ∷ counts es) (cond t 0 (suc at)) (get_or (e.1 ∷ counts es) (cond t 0 (suc at)) 0 + k)
      go true q ih = refl
      go false q ih = ap (λ (l : List ℕ). e.1 ∷ l) (ih q)

  pub length_old : (es : List (Entry ℕ)) → holds eqb (boards es) c ≡ true → length (add_paths eqb c k es) ≡ length es
  length_old es h =
      sym (length-map (add_paths eqb c k es) (λ (e : Entry ℕ). e.1))
      ∙ ap length (counts_old es h)
      ∙ length-set (counts es) (number_in eqb (boards es) c) _
      ∙ length-map es (λ (e : Entry ℕ). e.1)

  pub length_new : (es : List (Entry ℕ)) → holds eqb (boards es) c ≡ false → length (add_paths eqb c k es) ≡ length es + 1
  length_new es h = ap length (add_paths_new es h) ∙ length-append es ((c, k) ∷ [])

  -- no entry is lost
  pub length_add_paths : (es : List (Entry ℕ)) → length es ≤ length (add_paths eqb c k es)
  length_add_paths es = go (holds eqb (boards es) c) refl
    where
      go : (t : Bool) → holds eqb (boards es) c ≡ t → length es ≤ length (add_paths eqb c k es)
      go true q = omega (arith, length_old es q)
      go false q = omega (arith, length_new es q)

-- ---- many additions, one behind the other

pub add_each_none : (f : ℕ → ℕ) (k : ℕ) (es : List (Entry ℕ)) → add_each (list_of f 0) k es ≡ es
unfolding add_each list_of
add_each_none f k es = refl

add_each_snoc : (cs : List ℕ) (c k : ℕ) (es : List (Entry ℕ)) → add_each (cs ++ c ∷ []) k es ≡ add_paths eqb c k (add_each cs k es)
unfolding add_each
add_each_snoc [] c k es = refl
add_each_snoc (b ∷ cs) c k es = add_each_snoc cs c k (add_paths eqb b k es)

pub add_each_more : (f : ℕ → ℕ) (i k : ℕ) (es : List (Entry ℕ)) → add_paths eqb (f i) k (add_each (list_of f i) k es) ≡ add_each (list_of f (i + 1)) k es
add_each_more f i k es = sym (ap (λ (cs : List ℕ). add_each cs k es) (list_of_snoc f i) ∙ add_each_snoc (list_of f i) (f i) k es)

-- ---- the layer behind a layer

-- more children of k paths each, behind others
gather_many : (k : ℕ) (cs : List ℕ) (xs : List (Entry ℕ)) → gather eqb (xs ++ map (λ (b : ℕ). (b, k)) cs) ≡ add_each cs k (gather eqb xs)
unfolding add_each
gather_many k [] xs = ap (gather eqb) (append-nil xs)
gather_many k (b ∷ cs) xs =
    ap (gather eqb) (sym (append_assoc xs ((b, k) ∷ []) (map (λ (b : ℕ). (b, k)) cs)))
    ∙ gather_many k cs (xs ++ (b, k) ∷ [])
    ∙ ap (add_each cs k) (gather_snoc eqb eqb_tells xs b k)

module _ (b : Board) (paths : List Path) (bs cs : List ℕ) where
  pub next_none : [] ≡ next_of (setting b paths) (entries_in bs cs 0)
  unfolding next_of entries_in
  next_none = refl

  -- one board more: its children get its paths
  pub next_more : (i : ℕ)
      → add_each (child_boards (setting b paths) (set_at bs i)) (count_in cs i) (next_of (setting b paths) (entries_in bs cs i))
      ≡ next_of (setting b paths) (entries_in bs cs (i + 1))
  unfolding next_of entries_in shares setting
  next_more i =
      let entry : ℕ → Entry ℕ = λ j. (set_at bs j, count_in cs j) in
      let each : Entry ℕ → List (Entry ℕ) = λ e. map (λ (c : ℕ). (c, e.1)) (child_boards (setting b paths) e.0) in
      sym
      (ap (λ (es : List (Entry ℕ)). gather eqb (flat_map each es)) (list_of_snoc entry i)
      ∙ ap (gather eqb) (flat_map_snoc each (list_of entry i) (entry i))
      ∙ gather_many (count_in cs i) (child_boards (setting b paths) (set_at bs i)) (flat_map each (list_of entry i)))
