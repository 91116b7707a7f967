-- Laws of layers: the children of a layer, in order; a layer has each board once, with a path count that is the sum of its parents' and not 0;
-- the layers joined have the layers' boards, the start first. Rests on `GatherLaws`. Assumes nothing.
use Rattle.std.specs.Prelude.{◌≡◌, ◌↔◌, Bool, true, false}
use Rattle.std.proofs.Math.Path.{refl, ap, ap₂, subst}
use Rattle.std.proofs.Common.{sym, ◌∙◌}
use Rattle.std.proofs.Math.Logic.{⊎_elim}
use Rattle.std.proofs.Math.Bool.{cond}
use Rattle.std.proofs.lemmas.Bool.{false≢true}
use mathlib.Core.List.Memᴰ.{append_cases}
use mathlib.Core.List.Memᴰ.{append_left}
use mathlib.Core.List.Memᴰ.{append_right}
use mathlib.Core.List.Memᴰ.{cast}
use mathlib.Core.List.Memᴰ.{eq_of_singleton}
use mathlib.Core.List.Memᴰ.{head as here}
use mathlib.Core.List.Memᴰ.{not-nil}
use mathlib.Core.List.Memᴰ.{of_map}
use mathlib.Core.List.{List, [], ◌∷◌, ◌++◌, map, map-append, flat_map, Memᴰ as Mem}
use Prim.Native.Nat.{ℕ, zero, suc, ◌+◌, ◌≤◌, ◌<◌}
use Rattle.std.proofs.Math.Nat.{le_refl}
use Rattle.std.proofs.Math.Decide.{dec_lt}
use native.Mathlib.Omega.{arith}
use Rattle.cells.specs.FirstsLaws.{Once, holds_iff, Tells}
use Rattle.cells.specs.Lists.{holds, firsts}
use Rattle.cells.specs.MemberLaws.{map_back, flat_map_append, mem_flat_map}
use Rattle.covers.proofs.GatherLaws.{Nonzero, mem_boards, mem_entry, weight_append, boards_gather, cond_same, cond_other, once_gather, mem_gather, weight_gather, gather_positive}
use Rattle.covers.specs.Counts.{layers, Entry, boards, sum_of, shares, weight, layer}
use Rattle.covers.proofs.SumLaws.{sum_single, sum_ext, sum_zero, sum_map, sum_flat_map}

-- ---- the children of a layer

module _ {B : Type 0} (same : B → B → Bool) (children : B → List B) where
  -- each entry gives its count once for each time that the board is among its children
  pub weight_shares : (t : B) (es : List (Entry B))
      → weight same t (shares children es) ≡ sum_of (λ e. sum_of (λ c. cond (same c t) e.1 0) (children e.0)) es
  unfolding weight shares
  weight_shares t es =
      sum_flat_map (λ e. cond (same e.0 t) e.1 0) (λ e. map (λ c. (c, e.1)) (children e.0)) es
      ∙ sum_ext (λ e. sum_of (λ d. cond (same d.0 t) d.1 0) (map (λ c. (c, e.1)) (children e.0)))
      (λ e. sum_of (λ c. cond (same c t) e.1 0) (children e.0)) es
      (λ e m. sum_map (λ d. cond (same d.0 t) d.1 0) (λ c. (c, e.1)) (children e.0))

module _ {B : Type 0} (children : B → List B) where
  -- the children of a layer's boards, in order
  pub boards_shares : (es : List (Entry B)) → boards (shares children es) ≡ flat_map children (boards es)
  unfolding shares flat_map
  boards_shares [] = refl
  boards_shares (e ∷ es) =
      map-append (λ (x : Entry B). x.0) (map (λ c. (c, e.1)) (children e.0)) (shares children es)
      ∙ ap₂ ◌++◌ (map_back (λ (c : B). (c, e.1)) (λ (x : Entry B). x.0) (children e.0) (λ c m. refl)) (boards_shares es)

  mem_shares : (es : List (Entry B)) (t : B) → Mem t (boards (shares children es)) ↔ ((s : B) × Mem s (boards es) × Mem t (children s))
  mem_shares es t = rw (boards_shares es) (mem_flat_map children (boards es) t)

  -- an entry of the shares is a child of one of the boards, with its count
  share_of : (es : List (Entry B)) (d : Entry B) → Mem d (shares children es)
      → (e : Entry B) × Mem e es × Mem d.0 (children e.0) × (d.1 ≡ e.1)
  unfolding shares
  share_of es d m =
      let r = (mem_flat_map (λ e. map (λ c. (c, e.1)) (children e.0)) es d).0 m in
      let q = of_map (λ c. (c, r.0.1)) (children r.0.0) r.2 in
      (r.0, r.1, cast (ap (λ (x : Entry B). x.0) (sym q.2)) q.1, ap (λ (x : Entry B). x.1) (sym q.2))

  pub shares_positive : (es : List (Entry B)) → Nonzero es → Nonzero (shares children es)
  shares_positive es z d m = let r = share_of es d m in omega (arith, z r.0 r.1, r.3)

-- ---- the layers joined

module _ {B : Type 0} (same : B → B → Bool) (children : B → List B) (s : B) where
  abbrev at : ℕ → List (Entry B)
  at n = layer same children s n

  abbrev up_to : ℕ → List (Entry B)
  up_to n = layers same children s n

  pub boards_suc : (n : ℕ) → boards (up_to (suc n)) ≡ boards (up_to n) ++ boards (at (suc n))
  unfolding layers
  boards_suc n = map-append (λ (e : Entry B). e.0) (up_to n) (at (suc n))

  -- the start is the first entry
  pub layers_first : (n : ℕ) → (es : List (Entry B)) × (up_to n ≡ (s, 1) ∷ es)
  unfolding layers layer
  layers_first zero = ([], refl)
  layers_first (suc n) = let r = layers_first n in (r.0 ++ at (suc n), ap (λ (l : List (Entry B)). l ++ at (suc n)) r.1)

  pub start_entry : Mem s (boards (at 0))
  unfolding layer
  start_entry = here refl

  pub start_layer : (t : B) → Mem t (boards (at 0)) → t ≡ s
  unfolding layer
  start_layer t m = eq_of_singleton m

  entry_layer : (n : ℕ) (e : Entry B) → Mem e (up_to n) → (j : ℕ) × (j ≤ n) × Mem e (at j)
  unfolding layers
  entry_layer zero e m = (0, le_refl 0, m)
  entry_layer (suc n) e m =
      ⊎_elim (λ k. let r = entry_layer n e k in (r.0, omega (arith, r.1), r.2)) (λ k. (suc n, le_refl (suc n), k)) (append_cases (up_to n) m)

  pub layer_entry : (n j : ℕ) (e : Entry B) → j ≤ n → Mem e (at j) → Mem e (up_to n)
  unfolding layers
  layer_entry zero j e h m = let z : j ≡ 0 = omega arith in subst (λ (i : ℕ). Mem e (at i)) z m
  layer_entry (suc n) j e h m = go (dec_lt j (suc n)) (λ i. layer_entry n j e i m)
    where
      go : Dec (j < suc n) → (j ≤ n → Mem e (up_to n)) → Mem e (up_to n ++ at (suc n))
      go (yes i) below = append_left (at (suc n)) (below (omega arith))
      go (no i) below = let z : j ≡ suc n = omega arith in append_right (up_to n) (subst (λ (i : ℕ). Mem e (at i)) z m)

  -- the boards of the layers joined are those of the layers
  pub mem_layers : (n : ℕ) (t : B) → Mem t (boards (up_to n)) ↔ ((j : ℕ) × (j ≤ n) × Mem t (boards (at j)))
  mem_layers n t = (
    λ m. let e = mem_entry (up_to n) t m in
        let j = entry_layer n e.0 e.1 in
        (j.0, j.1, cast (sym e.2) (mem_boards (at j.0) e.0 j.2)),
    λ r. let e = mem_entry (at r.0) t r.2 in cast (sym e.2) (mem_boards (up_to n) e.0 (layer_entry n r.0 e.0 r.1 e.1)),
  )

  -- the boards of the next layer: the first appearances of the children of a layer's boards
  pub layer_found : (n : ℕ) → boards (at (suc n)) ≡ firsts same (flat_map children (boards (at n)))
  unfolding layer
  layer_found n = boards_gather same (shares children (at n)) ∙ ap (firsts same) (boards_shares children (at n))

-- ---- layers, where the test tells equal boards

module _ {B : Type 0} (same : B → B → Bool) (tells : Tells same) (children : B → List B) where
  pub once_layer : (s : B) (n : ℕ) → Once (boards (layer same children s n))
  unfolding layer
  once_layer s zero = (λ m. not-nil m, tt)
  once_layer s (suc n) = once_gather same tells (shares children (layer same children s n))

  -- the boards of the next layer are the children
  pub mem_layer : (s : B) (n : ℕ) (t : B) → Mem t (boards (layer same children s (suc n)))
      ↔ ((p : B) × Mem p (boards (layer same children s n)) × Mem t (children p))
  unfolding layer
  mem_layer s n t =
      let a = mem_gather same tells (shares children (layer same children s n)) t in
      let b = mem_shares children (layer same children s n) t in
      (λ m. b.0 (a.0 m), λ r. a.1 (b.1 r))

  pub weight_layer : (s : B) (n : ℕ) (t : B)
      → weight same t (layer same children s (suc n)) ≡ weight same t (shares children (layer same children s n))
  unfolding layer
  weight_layer s n t = weight_gather same tells t (shares children (layer same children s n))

  -- of a list with each element once, one at most is t
  sum_holds : (t : B) (k : ℕ) (cs : List B) → Once cs → sum_of (λ c. cond (same c t) k 0) cs ≡ cond (holds same cs t) k 0
  sum_holds t k cs o = go (holds same cs t) refl
    where
      go : (b : Bool) → holds same cs t ≡ b → sum_of (λ c. cond (same c t) k 0) cs ≡ cond b k 0
      go true e =
          sum_single (λ c. cond (same c t) k 0) cs t o ((holds_iff same tells cs t).0 e) (λ c n. cond_other same tells c t k n)
          ∙ cond_same same tells t t k refl
      go false e =
          sum_zero (λ c. cond (same c t) k 0) cs
          (λ c m. cond_other same tells c t k (λ q. false≢true (sym e ∙ (holds_iff same tells cs t).1 (cast (sym q) m))))

  -- the recurrence: a board's path count is the sum of its parents', where each child stands once
  pub recurrence : (s : B) (n : ℕ) (t : B) → ((p : B) → Mem p (boards (layer same children s n)) → Once (children p))
      → weight same t (layer same children s (suc n)) ≡ sum_of (λ e. cond (holds same (children e.0) t) e.1 0) (layer same children s n)
  recurrence s n t once =
      weight_layer s n t
      ∙ weight_shares same children t (layer same children s n)
      ∙ sum_ext (λ e. sum_of (λ c. cond (same c t) e.1 0) (children e.0)) (λ e. cond (holds same (children e.0) t) e.1 0)
      (layer same children s n) (λ e m. sum_holds t e.1 (children e.0) (once e.0 (mem_boards (layer same children s n) e m)))

  pub layer_positive : (s : B) (n : ℕ) (e : Entry B) → Mem e (layer same children s n) → 0 < e.1
  unfolding layer
  layer_positive s zero e m = omega (arith, ap (λ (x : Entry B). x.1) (eq_of_singleton m))
  layer_positive s (suc n) e m =
      gather_positive same tells (shares children (layer same children s n))
      (shares_positive children (layer same children s n) (layer_positive s n)) e m

  -- the start and the children of the layers joined have the weights of one layer more joined
  pub shares_layers : (s : B) (n : ℕ) (t : B)
      → weight same t (layer same children s 0) + weight same t (shares children (layers same children s n))
      ≡ weight same t (layers same children s (suc n))
  unfolding layers shares
  shares_layers s zero t = omega (arith, weight_append same t (layer same children s 0) (layer same children s 1), weight_layer s 0 t)
  shares_layers s (suc n) t =
      let f : Entry B → List (Entry B) = λ e. map (λ c. (c, e.1)) (children e.0) in
      omega (
        arith,
        shares_layers s n t,
        ap (weight same t) (flat_map_append f (layers same children s n) (layer same children s (suc n))),
        weight_append same t (shares children (layers same children s n)) (shares children (layer same children s (suc n))),
        weight_layer s (suc n) t,
        weight_append same t (layers same children s (suc n)) (layer same children s (suc (suc n))),
      )
