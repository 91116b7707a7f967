-- Laws of children: the children are the marks with a piece over the chosen cell added, each once, and every such piece where the board is not pruned;
-- their sizes and their number; a full board has none. Rests on the laws of the chosen cell and of pieces. Assumes nothing.
use Rattle.std.specs.Prelude.{◌≡◌, ◌⊎◌, Bool, ℕ, ◌+◌, ◌^◌, ◌≤◌, ◌<◌, length}
use Rattle.std.proofs.Math.Path.{refl}
use Rattle.std.proofs.Common.{sym, ap, ◌∙◌, subst, inl, inr, ⊎_elim, arith}
use Rattle.std.proofs.Math.Bool.{true, false, So, cond}
use mathlib.Core.List.Memᴰ.{cast}
use mathlib.Core.List.Memᴰ.{map as mem-map}
use mathlib.Core.List.Memᴰ.{not-nil}
use mathlib.Core.List.Memᴰ.{of_map}
use mathlib.Core.List.{List, [], map, flat_map, Memᴰ as Mem}
use Rattle.std.specs.Prelude.{Option, None, Some}
use borrow.Author.Tests.{eqb-true, eq-eqb}
use Rattle.std.proofs.Math.Dec.{eqb}
use Rattle.std.proofs.lemmas.List.{length-map}
use Rattle.cells.specs.Set.{has_cell, size}
use Rattle.cells.specs.FirstsLaws.{Once, so_eq, firsts_map}
use Rattle.cells.specs.Lists.{firsts}
use Rattle.cells.specs.MemberLaws.{map_ext, once_map}
use Rattle.tile.specs.Path.{Path, cell_count}
use Rattle.rectangle.specs.Board.{Board, marks, is_full, valid, lay}
use Rattle.rectangle.proofs.BoardLaws.{marks_lt, valid_width, valid_height}
use Rattle.fit.specs.Fit.{IsPiece, fits_of, pieces}
use Rattle.fit.specs.Parts.{most_children}
use Rattle.fit.proofs.PieceLaws.{fits_are_pieces, pieces_are_pieces, mem_pieces, once_pieces, length_pieces}
use Rattle.fit.proofs.LayLaws.{marks_lay, size_child}
use Rattle.choice.specs.Choice.{chosen}
use Rattle.choice.specs.ChosenLaws.{full_iff}
use Rattle.children.specs.Children.{pruned, children}

-- ---- the children

module _ (b : Board) (paths : List Path) where
  pub children_pruned : pruned b paths ≡ true → children b paths ≡ []
  unfolding children
  children_pruned e = rw e

  pub children_chosen : pruned b paths ≡ false → (cell : ℕ) → chosen b ≡ Some cell → children b paths ≡ map (λ piece. marks (lay b piece)) (pieces b paths cell)
  unfolding children
  children_chosen e cell f = rw (e, f)

  pub children_full : chosen b ≡ None → children b paths ≡ []
  unfolding children
  children_full f = rw f (go (pruned b paths))
    where
      go : (t : Bool) → cond {A = List ℕ} t [] [] ≡ []
      go true = refl
      go false = refl

  -- no children, or those that the pieces on the chosen cell make
  pub children_cases : (children b paths ≡ []) ⊎ ((cell : ℕ) × (chosen b ≡ Some cell) × (children b paths ≡ map (λ piece. marks (lay b piece)) (pieces b paths cell)))
  children_cases = go (pruned b paths) refl (chosen b) refl
    where
      go : (t : Bool) → pruned b paths ≡ t → (c : Option ℕ) → chosen b ≡ c → (children b paths ≡ []) ⊎ ((cell : ℕ) × (chosen b ≡ Some cell) × (children b paths ≡ map (λ piece. marks (lay b piece)) (pieces b paths cell)))
      go true e c f = inl (children_pruned e)
      go false e None f = inl (children_full f)
      go false e (Some cell) f = inr (cell, f, children_chosen e cell f)

  -- laying different pieces makes different children
  lay_inj : (x y : ℕ) → IsPiece b paths x → IsPiece b paths y → marks (lay b x) ≡ marks (lay b y) → x ≡ y
  lay_inj x y p q e = omega (arith, e, marks_lay b paths x p, marks_lay b paths y q)

  pub children_once : Once (children b paths)
  children_once =
      ⊎_elim (λ e. subst Once (sym e) tt)
      (λ r.
      subst Once (sym r.2)
      (once_map (λ piece. marks (lay b piece)) (pieces b paths r.0) (λ x y m k. lay_inj x y (pieces_are_pieces b paths r.0 x m) (pieces_are_pieces b paths r.0 y k)) (once_pieces b paths r.0)))
      children_cases

  -- a child is the marks with a piece on the chosen cell laid
  child_laid : (x : ℕ) → Mem x (children b paths) → (cell : ℕ) × (chosen b ≡ Some cell) × (n : ℕ) × Mem n (pieces b paths cell) × (x ≡ marks (lay b n))
  child_laid x m =
      ⊎_elim (λ e. absurd (not-nil (subst (Mem x) e m)))
      (λ r. let s = of_map (λ piece. marks (lay b piece)) (pieces b paths r.0) (subst (Mem x) r.2 m) in (r.0, r.1, s.0, s.1, sym s.2))
      children_cases

  pub child_lt : (x : ℕ) → Mem x (children b paths) → x < 2 ^ 256
  child_lt x m = let r = child_laid x m in subst (λ (y : ℕ). y < 2 ^ 256) (sym r.4) (marks_lt (lay b r.2))

  pub length_children : length (children b paths) ≤ most_children paths
  length_children =
      ⊎_elim (λ e. subst (λ (l : List ℕ). length l ≤ most_children paths) (sym e) (omega arith))
      (λ r.
      subst (λ (l : List ℕ). length l ≤ most_children paths) (sym r.2)
      (omega (arith, length-map (pieces b paths r.0) (λ piece. marks (lay b piece)), length_pieces b paths r.0)))
      children_cases

  -- the first of equal children is kept where the first of equal pieces is
  firsts_added : (cell : ℕ) → firsts eqb (map (λ piece. marks b + piece) (flat_map (fits_of b cell) paths)) ≡ map (λ piece. marks b + piece) (pieces b paths cell)
  unfolding pieces
  firsts_added cell = firsts_map eqb eqb (λ piece. marks b + piece) keeps (flat_map (fits_of b cell) paths)
    where
      keeps : (x y : ℕ) → eqb (marks b + x) (marks b + y) ≡ eqb x y
      keeps x y =
          so_eq (eqb (marks b + x) (marks b + y)) (eqb x y)
          (λ e. eq-eqb x y (omega (arith, eqb-true (marks b + x) (marks b + y) e)))
          (λ e. eq-eqb (marks b + x) (marks b + y) (ap (λ (z : ℕ). marks b + z) (eqb-true x y e)))

  pub firsts_children : (cell : ℕ) → firsts eqb (map (λ piece. marks (lay b piece)) (flat_map (fits_of b cell) paths)) ≡ map (λ piece. marks (lay b piece)) (pieces b paths cell)
  firsts_children cell =
      ap (firsts eqb) (map_ext (λ piece. marks (lay b piece)) (λ piece. marks b + piece) (flat_map (fits_of b cell) paths) (λ n m. marks_lay b paths n (fits_are_pieces b paths cell n m)))
      ∙ firsts_added cell
      ∙ sym (map_ext (λ piece. marks (lay b piece)) (λ piece. marks b + piece) (pieces b paths cell) (λ n m. marks_lay b paths n (pieces_are_pieces b paths cell n m)))

-- ---- on an accepted board

module _ (b : Board) (ok : So (valid b)) where
  module _ (paths : List Path) where
    -- a child is the marks and a piece that covers the chosen cell
    pub child_piece : (x : ℕ) → Mem x (children b paths) → (cell : ℕ) × (chosen b ≡ Some cell) × (n : ℕ) × IsPiece b paths n × So (has_cell n cell) × (x ≡ marks b + n)
    child_piece x m =
        let r = child_laid b paths x m in
        let p = (mem_pieces b paths r.0 r.2 (valid_width b ok) (valid_height b ok)).0 r.3 in
        (r.0, r.1, r.2, p.0, p.1, r.4 ∙ marks_lay b paths r.2 p.0)

    -- and where the board is not pruned every such piece makes a child
    pub piece_child : pruned b paths ≡ false → (cell : ℕ) → chosen b ≡ Some cell → (n : ℕ) → IsPiece b paths n → So (has_cell n cell) → Mem (marks b + n) (children b paths)
    piece_child e cell f n p h =
        subst (Mem (marks b + n)) (sym (children_chosen b paths e cell f))
        (cast (sym (marks_lay b paths n p)) (mem-map (λ piece. marks (lay b piece)) ((mem_pieces b paths cell n (valid_width b ok) (valid_height b ok)).1 (p, h))))

    -- "A full board has none"
    pub full_children : is_full b ≡ true → children b paths ≡ []
    full_children e = children_full b paths ((full_iff b (valid_width b ok) (valid_height b ok)).0 e)

    -- a child has as many cells more as its tile has
    pub child_size : (x : ℕ) → Mem x (children b paths) → (path : Path) × Mem path paths × (size x ≡ size (marks b) + cell_count path)
    child_size x m =
        let r = child_piece x m in
        let p = r.3 in
        (p.0, p.1, ap size (r.5 ∙ ap (λ (n : ℕ). marks b + n) p.4) ∙ size_child b ok p.0 p.2 p.3)
