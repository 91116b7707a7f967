-- Laws of the chosen cell: the cells of the columns are those of the rectangle, in order; what is chosen is the best free cell, and the best free
-- cell is chosen; no cell is chosen just where none is free, and so just where the board is full. A free cell with count 4 is looked for at the
-- chosen cell alone. What is chosen over numbers is what is chosen on a board. Rests on `CountLaws` and on the laws of boards. Assumes nothing.
use Rattle.std.specs.Prelude.{Err, Ok, Result}
use Rattle.std.proofs.Math.Path.{◌≡◌, refl, ap, ap₂}
use Rattle.std.proofs.Common.{sym, ◌∙◌, subst}
use Rattle.std.specs.Prelude.{◌⊎◌, ◌↔◌, ◌&&◌}
use Rattle.std.proofs.Math.Logic.{inl, inr, ⊎_elim}
use Rattle.std.proofs.Math.Bool.{Bool, true, false, So, cond, and-eq-true_iff, false≢true}
use mathlib.Core.List.Memᴰ.{append_cases}
use mathlib.Core.List.Memᴰ.{append_left}
use mathlib.Core.List.Memᴰ.{append_right}
use mathlib.Core.List.Memᴰ.{cases_cons}
use mathlib.Core.List.Memᴰ.{head as here}
use mathlib.Core.List.Memᴰ.{not-nil}
use mathlib.Core.List.Memᴰ.{tail as there}
use mathlib.Core.List.{List, [], ◌∷◌, ◌++◌, Memᴰ as Mem}
use Rattle.std.specs.Prelude.{Option, None, Some}
use Prim.Native.Nat.{ℕ, zero, suc, ◌+◌, ◌*◌, ◌/◌, ◌%◌, ◌≤◌, ◌<◌}
use native.Mathlib.Omega.{arith}
use Rattle.std.proofs.Math.Decide.{ℕ_discrete, dec_lt}
use borrow.Author.Tests.{ltb-true, ltb-false, eqb-true, eq-eqb}
use Rattle.std.proofs.Math.Dec.{eqb, ltb}
use Rattle.cells.specs.Lists.{list_from}
use Rattle.cells.specs.FirstsLaws.{so_eq, any_true, any_some}
use Rattle.refusal.specs.Refusal.{Answer, refused, given, refusal_number, answer_of}
use Rattle.refusal.specs.declared.Refusal.{Refusal}
use Rattle.rectangle.specs.Board.{marks, valid, size_ok, Board, position_of, is_free, is_full}
use Rattle.rectangle.specs.Parts.{free_in}
use Rattle.rectangle.proofs.BoardLaws.{full_none, none_full, valid_width, valid_height, free_inside, free_in_free_at, valid_size}
use Rattle.choice.specs.Choice.{chosen_count, cell_with_count, count_of, columns, higher, best_of, chosen, has_four}
use Rattle.choice.specs.Parts.{chosen_in, chosen_for}
use Rattle.choice.specs.CountLaws.{count_le}

-- "ties go to the lowest column, then the lowest row": a cell comes before another by its column, then by its row
abbrev pub Earlier : ℕ → ℕ → Type 0
Earlier c d = (c % 16 < d % 16) ⊎ ((c % 16 ≡ d % 16) × (c / 16 < d / 16))

-- "The chosen cell is the free cell with the highest neighbour count; ties go to the lowest column, then the lowest row"
pub record Best (b : Board) (cell : ℕ) : Type 0 where
  pub free : So (is_free b cell)
  pub most : (d : ℕ) → So (is_free b d) → count_of b d ≤ count_of b cell
  pub first : (d : ℕ) → So (is_free b d) → count_of b d ≡ count_of b cell → Earlier d cell → ⊥

-- ---- the order of cells

earlier_not : (c d : ℕ) → d % 16 ≤ c % 16 → (c % 16 ≡ d % 16 → d / 16 ≤ c / 16) → Earlier c d → ⊥
earlier_not c d l r e = ⊎_elim (λ (x : c % 16 < d % 16). omega arith) (λ (x : (c % 16 ≡ d % 16) × (c / 16 < d / 16)). omega (arith, r x.0)) e

-- two cells of which none comes before the other are one
earlier_total : (c d : ℕ) → (Earlier c d → ⊥) → (Earlier d c → ⊥) → c ≡ d
earlier_total c d f g = go (dec_lt (c % 16) (d % 16)) (dec_lt (d % 16) (c % 16)) (dec_lt (c / 16) (d / 16)) (dec_lt (d / 16) (c / 16))
  where
    go : Dec (c % 16 < d % 16) → Dec (d % 16 < c % 16) → Dec (c / 16 < d / 16) → Dec (d / 16 < c / 16) → c ≡ d
    go (yes a) q r s = absurd (f (inl a))
    go (no a) (yes b) r s = absurd (g (inl b))
    go (no a) (no b) (yes x) s = absurd (f (inr (omega arith, x)))
    go (no a) (no b) (no x) (yes y) = absurd (g (inr (omega arith, y)))
    go (no a) (no b) (no x) (no y) = omega arith

-- no cell of the list stands behind one that it comes before
abbrev pub InOrder : List ℕ → Type 0
InOrder [] = Unit {0}
InOrder (c ∷ cs) = ((d : ℕ) → Mem d cs → Earlier d c → ⊥) × InOrder cs

in_order_append : (xs ys : List ℕ) → InOrder xs → InOrder ys → ((x y : ℕ) → Mem x xs → Mem y ys → Earlier y x → ⊥) → InOrder (xs ++ ys)
in_order_append [] ys a b f = b
in_order_append (x ∷ xs) ys a b f = (
  λ d m. ⊎_elim (λ k. a.0 d k) (λ k. f x d (here refl) k) (append_cases xs m),
  in_order_append xs ys a.1 b (λ u v m n. f u v (there m) n),
)

-- ---- the cells of the columns

-- a part of one column
module _ (c : ℕ) where
  mem_column : (i n cell : ℕ) → c < 16 → Mem cell (list_from (λ row. 16 * row + c) i n) ↔ ((cell % 16 ≡ c) × (i ≤ cell / 16) × (cell / 16 < i + n))
  unfolding list_from
  mem_column i zero cell l = (λ m. absurd (not-nil m), λ h. absurd (omega arith))
  mem_column i (suc n) cell l =
      let rest = mem_column (suc i) n cell l in (
        λ m. ⊎_elim (λ e. (omega arith, omega arith, omega arith)) (λ k. let r = rest.0 k in (omega arith, omega arith, omega arith)) (cases_cons m),
        λ h. go h rest (ℕ_discrete (cell / 16) i),
      )
    where
      go : (cell % 16 ≡ c) × (i ≤ cell / 16) × (cell / 16 < i + suc n) → Mem cell (list_from (λ row. 16 * row + c) (suc i) n) ↔ ((cell % 16 ≡ c) × (suc i ≤ cell / 16) × (cell / 16 < suc i + n)) → Dec (cell / 16 ≡ i) → Mem cell ((16 * i + c) ∷ list_from (λ row. 16 * row + c) (suc i) n)
      go h rest (yes e) = let q : cell ≡ 16 * i + c = omega arith in here q
      go h rest (no e) = there (rest.1 (omega arith, omega arith, omega arith))

  in_order_column : (i n : ℕ) → c < 16 → InOrder (list_from (λ row. 16 * row + c) i n)
  unfolding list_from
  in_order_column i zero l = tt
  in_order_column i (suc n) l = (
    λ d m. let k = (mem_column (suc i) n d l).0 m in earlier_not d (16 * i + c) (omega arith) (λ e. omega arith),
    in_order_column (suc i) n l,
  )

pub mem_columns : (h w cell : ℕ) → w ≤ 16 → Mem cell (columns h w) ↔ ((cell % 16 < w) × (cell / 16 < h))
unfolding columns
mem_columns h zero cell l = (λ m. absurd (not-nil m), λ k. absurd (omega arith))
mem_columns h (suc c) cell l =
    let before = mem_columns h c cell (omega arith) in
    let last = mem_column c 0 h cell (omega arith) in (
      λ m. ⊎_elim (λ k. let r = before.0 k in (omega arith, omega arith)) (λ k. let r = last.0 k in (omega arith, omega arith)) (append_cases (columns h c) m),
      λ k. go k before last (ℕ_discrete (cell % 16) c),
    )
  where
    go : (cell % 16 < suc c) × (cell / 16 < h) → Mem cell (columns h c) ↔ ((cell % 16 < c) × (cell / 16 < h)) → Mem cell (list_from (λ row. 16 * row + c) 0 h) ↔ ((cell % 16 ≡ c) × (0 ≤ cell / 16) × (cell / 16 < 0 + h)) → Dec (cell % 16 ≡ c) → Mem cell (columns h c ++ list_from (λ row. 16 * row + c) 0 h)
    go k before last (yes e) = append_right (columns h c) (last.1 (omega arith, omega arith, omega arith))
    go k before last (no e) = append_left (list_from (λ row. 16 * row + c) 0 h) (before.1 (omega arith, omega arith))

pub in_order_columns : (h w : ℕ) → w ≤ 16 → InOrder (columns h w)
unfolding columns
in_order_columns h zero l = tt
in_order_columns h (suc c) l =
    in_order_append (columns h c) (list_from (λ row. 16 * row + c) 0 h) (in_order_columns h c (omega arith)) (in_order_column c 0 h (omega arith))
    (λ x y m n.
    let a = (mem_columns h c x (omega arith)).0 m in
    let b = (mem_column c 0 h y (omega arith)).0 n in
    earlier_not y x (omega arith) (λ e. absurd (omega arith)))

-- ---- the scan

module _ (free : ℕ → Bool) (count : ℕ → ℕ) where
  -- the best of the cells of S: none where none of them is free; else a free one with the highest count, and none before it has that count
  abbrev BestIn : (ℕ → Type 0) → Option ℕ → Type 0
  BestIn S None = (d : ℕ) → S d → So (free d) → ⊥
  BestIn S (Some cell) =
      S cell × So (free cell) × ((d : ℕ) → S d → So (free d) → count d ≤ count cell) × ((d : ℕ) → S d → So (free d) → count d ≡ count cell → Earlier d cell → ⊥)

  -- the same cells by another name
  renamed : (S T : ℕ → Type 0) (best : Option ℕ) → ((d : ℕ) → S d → T d) → ((d : ℕ) → T d → S d) → BestIn S best → BestIn T best
  renamed S T None f g p = λ d t. p d (g d t)
  renamed S T (Some cell) f g p = (f cell p.0, p.1, λ d t. p.2 d (g d t), λ d t. p.3 d (g d t))

  -- one cell more
  module _ (S : ℕ → Type 0) (cell : ℕ) where
    abbrev More : ℕ → Type 0
    More d = S d ⊎ (d ≡ cell)

    raised : So (free cell) → ((d : ℕ) → S d → So (free d) → count d < count cell) → BestIn More (Some cell)
    raised e l = (
      inr refl,
      e,
      λ d s f. ⊎_elim (λ x. let m = l d x f in omega arith) (λ q. omega (arith, ap count q)) s,
      λ d s f k. ⊎_elim (λ x. absurd (omega (arith, l d x f))) (λ q. earlier_not d cell (omega (arith, q)) (λ _. omega (arith, q))) s,
    )

    module _ (late : (d : ℕ) → S d → Earlier cell d → ⊥) where
      kept : (best : ℕ) → BestIn S (Some best) → (So (free cell) → count cell ≤ count best) → BestIn More (Some best)
      kept best p l = (
        inl p.0,
        p.1,
        λ d s f. ⊎_elim (λ x. p.2 d x f) (λ q. omega (arith, ap count q, l (ap free (sym q) ∙ f))) s,
        λ d s f k e. ⊎_elim (λ x. p.3 d x f k e) (λ q. late best p.0 (subst (λ (c : ℕ). Earlier c best) q e)) s,
      )

      scan_one : (best : Option ℕ) → BestIn S best → BestIn More (cond (free cell && higher count cell best) (Some cell) best)
      unfolding higher
      scan_one None p = go (free cell) refl
        where
          go : (t : Bool) → free cell ≡ t → BestIn More (cond (t && true) (Some cell) None)
          go true e = raised e (λ d s f. absurd (p d s f))
          go false e = λ d s f. ⊎_elim (λ x. p d x f) (λ q. false≢true (sym e ∙ ap free (sym q) ∙ f)) s
      scan_one (Some best) p = go (free cell) (ltb (count best) (count cell)) refl refl
        where
          go : (t u : Bool) → free cell ≡ t → ltb (count best) (count cell) ≡ u → BestIn More (cond (t && u) (Some cell) (Some best))
          go true true e f = raised e (λ d s g. let m = p.2 d s g in omega (arith, ltb-true (count best) (count cell) f))
          go true false e f = kept best p (λ _. ltb-false (count best) (count cell) f)
          go false u e f = kept best p (λ g. absurd (false≢true (sym e ∙ g)))

  scan_all : (S : ℕ → Type 0) (best : Option ℕ) (cells : List ℕ) → BestIn S best → InOrder cells → ((d c : ℕ) → S d → Mem c cells → Earlier c d → ⊥) → BestIn (λ d. S d ⊎ Mem d cells) (best_of free count best cells)
  unfolding best_of
  scan_all S best [] p o late =
      renamed S (λ d. S d ⊎ Mem d []) best (λ d s. inl s) (λ d s. ⊎_elim (λ x. x) (λ m. absurd (not-nil m)) s) p
  scan_all S best (cell ∷ cells) p o late =
      let next = cond (free cell && higher count cell best) (Some cell) best in
      renamed (λ d. More S cell d ⊎ Mem d cells) (λ d. S d ⊎ Mem d (cell ∷ cells)) (best_of free count next cells)
      (λ d s. ⊎_elim (λ x. ⊎_elim (λ y. inl y) (λ q. inr (here q)) x) (λ m. inr (there m)) s)
      (λ d s. ⊎_elim (λ x. inl (inl x)) (λ m. ⊎_elim (λ q. inl (inr q)) (λ k. inr k) (cases_cons m)) s)
      (scan_all (More S cell) next cells (scan_one S cell (λ d s. late d cell s (here refl)) best p) o.1
      (λ d c s m e. ⊎_elim (λ x. late d c x (there m) e) (λ q. o.0 c m (subst (Earlier c) q e)) s))

-- ---- the chosen cell

pub best_unique : (b : Board) (c d : ℕ) → Best b c → Best b d → c ≡ d
best_unique b c d p q =
    let l = p.most d q.free in
    let m = q.most c p.free in
    earlier_total c d (q.first c p.free (omega arith)) (p.first d q.free (omega arith))

-- where the test of pruning holds, a free cell has count 4
pub any_four_some : (b : Board) → has_four b ≡ true → (cell : ℕ) × So (is_free b cell) × (count_of b cell ≡ 4)
unfolding has_four
any_four_some b t =
    let r = any_some (λ c. is_free b c && eqb (count_of b c) 4) (columns b.height b.width) t in
    let both = (and-eq-true_iff (is_free b r.0) (eqb (count_of b r.0) 4)).0 r.2 in
    (r.0, both.0, eqb-true (count_of b r.0) 4 both.1)

module _ (b : Board) (wide : b.width ≤ 16) where
  -- every free cell is among those that are scanned
  seen : (d : ℕ) → So (is_free b d) → Mem d (columns b.height b.width)
  seen d f = (mem_columns b.height b.width d wide).1 (free_inside b d f)

  scanned : BestIn (is_free b) (count_of b) (λ d. ⊥ ⊎ Mem d (columns b.height b.width)) (chosen b)
  unfolding chosen
  scanned =
      scan_all (is_free b) (count_of b) (λ d. ⊥) None (columns b.height b.width) (λ d s f. s) (in_order_columns b.height b.width wide) (λ d c s. absurd s)

  pub chosen_best : (cell : ℕ) → chosen b ≡ Some cell → Best b cell
  chosen_best cell e =
      let p = subst (BestIn (is_free b) (count_of b) (λ d. ⊥ ⊎ Mem d (columns b.height b.width))) e scanned in
      record { free = p.1; most = λ d f. p.2 d (inr (seen d f)) f; first = λ d f. p.3 d (inr (seen d f)) f }

  pub chosen_none : chosen b ≡ None → (d : ℕ) → So (is_free b d) → ⊥
  chosen_none e d f = subst (BestIn (is_free b) (count_of b) (λ d. ⊥ ⊎ Mem d (columns b.height b.width))) e scanned d (inr (seen d f)) f

  -- no cell is chosen if and only if none is free
  pub chosen_none_iff : (chosen b ≡ None) ↔ ((d : ℕ) → So (is_free b d) → ⊥)
  chosen_none_iff = (chosen_none, λ f. go f (chosen b) refl)
    where
      go : ((d : ℕ) → So (is_free b d) → ⊥) → (best : Option ℕ) → chosen b ≡ best → best ≡ None
      go f None e = refl
      go f (Some c) e = absurd (f c (chosen_best c e).free)

  -- a board is full if and only if no cell is chosen
  pub full_iff : b.height ≤ 16 → (is_full b ≡ true) ↔ (chosen b ≡ None)
  full_iff high = (
    λ e. chosen_none_iff.1 (λ d f. let r = free_inside b d f in full_none b e d (omega arith) f),
    λ e. none_full b (chosen_none e),
  )

  pub best_chosen : (cell : ℕ) → Best b cell → chosen b ≡ Some cell
  best_chosen cell p = go (chosen b) refl
    where
      go : (best : Option ℕ) → chosen b ≡ best → best ≡ Some cell
      go None e = absurd (chosen_none e cell p.free)
      go (Some c) e = ap Some (best_unique b c cell (chosen_best c e) p)

  -- ---- a free cell with count 4 is looked for at the chosen cell alone

  pub any_four : (cell : ℕ) → chosen b ≡ Some cell → has_four b ≡ eqb (count_of b cell) 4
  unfolding has_four
  any_four cell e =
      let best = chosen_best cell e in
      let test : ℕ → Bool = λ c. is_free b c && eqb (count_of b c) 4 in
      so_eq (has_four b) (eqb (count_of b cell) 4)
      (λ t.
      let r = any_four_some b t in
      let l = best.most r.0 r.1 in
      eq-eqb (count_of b cell) 4 (omega (arith, count_le b.width b.height b.laid cell)))
      (λ t. any_true test (columns b.height b.width) cell (seen cell best.free) ((and-eq-true_iff (is_free b cell) (eqb (count_of b cell) 4)).1 (best.free, t)))

-- ---- over numbers: the chosen cell of a board is that of its size, its marks of both kinds together and its laid ones

-- tests and counts that agree on the cells of a list find the same cell
module _ (free free' : ℕ → Bool) (count count' : ℕ → ℕ) where
  higher_ext : (cell : ℕ) (o : Option ℕ) → count cell ≡ count' cell → ((c : ℕ) → o ≡ Some c → count c ≡ count' c) → higher count cell o ≡ higher count' cell o
  unfolding higher
  higher_ext cell None e f = refl
  higher_ext cell (Some c) e f = ap₂ ltb (f c refl) e

  pub best_of_ext : (cells : List ℕ) (o : Option ℕ) → ((c : ℕ) → Mem c cells → free c ≡ free' c) → ((c : ℕ) → Mem c cells → count c ≡ count' c) → ((c : ℕ) → o ≡ Some c → count c ≡ count' c) → best_of free count o cells ≡ best_of free' count' o cells
  unfolding best_of
  best_of_ext [] o f g k = refl
  best_of_ext (cell ∷ cells) o f g k =
      ap (λ (b : Bool). best_of free count (cond b (Some cell) o) cells) same
      ∙ best_of_ext cells (cond (free' cell && higher count' cell o) (Some cell) o) (λ c m. f c (there m)) (λ c m. g c (there m)) (kept (free' cell && higher count' cell o))
    where
      same : (free cell && higher count cell o) ≡ (free' cell && higher count' cell o)
      same = ap₂ (λ (a b : Bool). a && b) (f cell (here refl)) (higher_ext cell o (g cell (here refl)) k)

      kept : (b : Bool) (c : ℕ) → cond b (Some cell) o ≡ Some c → count c ≡ count' c
      kept true c e = let q : cell ≡ c = cc in ap count (sym q) ∙ g cell (here refl) ∙ ap count' q
      kept false c e = k c e

-- the best of a list is the best before it or one of the list
pub best_among : (free : ℕ → Bool) (count : ℕ → ℕ) (o : Option ℕ) (cells : List ℕ) (c : ℕ) → best_of free count o cells ≡ Some c → (o ≡ Some c) ⊎ Mem c cells
unfolding best_of
best_among free count o [] c e = inl e
best_among free count o (cell ∷ cells) c e =
    ⊎_elim (λ q. go (free cell && higher count cell o) q) (λ m. inr (there m))
    (best_among free count (cond (free cell && higher count cell o) (Some cell) o) cells c e)
  where
    go : (t : Bool) → cond t (Some cell) o ≡ Some c → (o ≡ Some c) ⊎ Mem c (cell ∷ cells)
    go true q = let s : c ≡ cell = cc in inr (here s)
    go false q = inl q

module _ (b : Board) (wide : b.width ≤ 16) (high : b.height ≤ 16) where
  chosen_in_is : chosen_in b.width b.height (marks b) b.laid ≡ chosen b
  unfolding chosen_in chosen is_free
  chosen_in_is =
      best_of_ext (λ cell. free_in b.width b.height (marks b) (position_of cell)) (is_free b) (count_of b) (count_of b) (columns b.height b.width) None
      (λ c m. free_in_free_at b wide high (position_of c)) (λ c m. refl) (λ c e. refl)

-- the chosen cell of an accepted board
pub chosen_for_is : (b : Board) → valid b ≡ true → chosen_for b.width b.height (marks b) b.laid ≡ given (chosen_count b)
unfolding chosen_for chosen_count cell_with_count
chosen_for_is b ok =
    rw (valid_size b ok, chosen_in_is b (valid_width b ok) (valid_height b ok)) refl

-- a size that no board has
pub chosen_for_refused : (w h m laid : ℕ) → size_ok w h ≡ false → chosen_for w h m laid ≡ refused 4
unfolding chosen_for
chosen_for_refused w h m laid e = rw e

-- ---- what the answer tells of an accepted board

given_pair : (c n d k : ℕ) → ◌≡◌ {A = Answer (Option (ℕ × ℕ))} (given (Some (c, n))) (given (Some (d, k))) → (c ≡ d) × (n ≡ k)
given_pair c n d k e =
    let q : ◌≡◌ {A = ℕ × ℕ} (c, n) (d, k) = cc in
    (ap (λ (p : ℕ × ℕ). p.0) q, ap (λ (p : ℕ × ℕ). p.1) q)

module _ (b : Board) (x : (Result (Option (ℕ × ℕ)) Refusal)) (ex : answer_of x ≡ given (chosen_count b)) where
  pub found_full : x ≡ (Ok None) → chosen b ≡ None
  unfolding chosen_count cell_with_count
  found_full e = go (chosen b) (sym (ap answer_of e) ∙ ex)
    where
      go : (o : Option ℕ) → given None ≡ given (cell_with_count b o) → o ≡ None
      go None q = refl
      go (Some c) q = let z : ◌≡◌ {A = ℕ} 0 1 = cc in absurd (omega arith)

  pub found_no_refusal : (r : Refusal) → x ≡ Err r → ⊥
  found_no_refusal r e =
      let q : refused (refusal_number r) ≡ given (chosen_count b) = sym (ap answer_of e) ∙ ex in
      let z : ◌≡◌ {A = ℕ} 0 1 = cc in
      omega arith

  module _ (cell n : ℕ) (e : x ≡ Ok (Some (cell, n))) where
    told : (chosen b ≡ Some cell) × (n ≡ count_of b cell)
    unfolding chosen_count cell_with_count
    told = go (chosen b) (sym (ap answer_of e) ∙ ex)
      where
        go : (o : Option ℕ) → given (Some (cell, n)) ≡ given (cell_with_count b o) → (o ≡ Some cell) × (n ≡ count_of b cell)
        go None q = let z : ◌≡◌ {A = ℕ} 0 1 = cc in absurd (omega arith)
        go (Some c) q =
            let s = given_pair cell n c (count_of b c) q in
            (ap Some (sym s.0), s.1 ∙ ap (count_of b) (sym s.0))

    pub found_cell : chosen b ≡ Some cell
    found_cell = told.0

    pub found_count : n ≡ count_of b cell
    found_count = told.1
