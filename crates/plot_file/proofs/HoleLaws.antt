-- Laws of lists of holes: that holes are different free cells of a board is that each can be fixed after those before it (`with_holes_more`, `with_holes_first`), and the board that
-- this leaves is the board with all of them (`holed`); what that board has; holes with the cell numbers below n. Rests on `Records` and the laws of a board with a hole.
-- Assumes nothing.
use Rattle.std.specs.Prelude.{◌≡◌, refl, Bool, true, false, not, ◌||◌, ℕ, ◌+◌, ◌*◌, ◌/◌, ◌%◌, ◌^◌, ◌≤◌, ◌<◌, eqb, nat_abs, length}
use Rattle.std.proofs.Math.Path.{sym, ap}
use Rattle.std.proofs.Common.{◌∙◌, subst, ⊎_elim, add-zero, arith, eq-eqb, ne_eqb, length-append}
use Rattle.std.proofs.Math.Bool.{So, or-false, and-eq-true_iff}
use Rattle.std.proofs.lemmas.Bool.{false≢true, not-true}
use mathlib.Core.List.Memᴰ.{cases_cons}
use mathlib.Core.List.Memᴰ.{cast}
use mathlib.Core.List.Memᴰ.{head as here}
use mathlib.Core.List.Memᴰ.{not-nil}
use mathlib.Core.List.Memᴰ.{tail as there}
use mathlib.Core.List.{List, [], ◌∷◌, ◌++◌, flat_map, Memᴰ as Mem}
use Rattle.cells.specs.Set.{has_cell, set_of, size}
use Rattle.cells.specs.SetLaws.{has_cell_none, has_cell_ext, has_cell_set_of, has_cell_union_of, union_of_lt}
use Rattle.cells.specs.Lists.{any, list_of}
use Rattle.cells.specs.ArrayLaws.{length_list_of}
use Rattle.cells.specs.FirstsLaws.{Once}
use Rattle.cells.specs.MemberLaws.{mem_list_of, once_list_of}
use Rattle.direction.specs.Direction.{Position}
use Rattle.rectangle.specs.Board.{Board, cell_of, inside, is_marked, free_at, free_count, valid}
use Rattle.rectangle.proofs.BoardLaws.{cell_of_inj, free_at_inside, inside_iff, valid_width}
use Rattle.rectangle.proofs.FreeLaws.{free_le}
use Rattle.board.specs.Board.{fix_at}
use Rattle.board.specs.HoleLaws.{fix_at_lt, fix_at_size, fix_at_fixed, fix_at_free, fix_at_valid, fix_at_count}
use Rattle.plot_file.specs.Records.{Hole, hole_bytes, place, is_hole, holed}
use Rattle.plot_file.proofs.RecordLaws.{length_hole_bytes}

-- ---- the board with holes

-- its marks are those before and those of the holes
holed_fixed : (b : Board) (holes : List Hole) (cell : ℕ) → cell < 256 → has_cell (holed b holes).fixed cell ≡ (has_cell b.fixed cell || is_hole holes cell)
unfolding holed
holed_fixed b holes cell h =
    has_cell_union_of b.fixed (set_of (is_hole holes)) cell h ∙ ap (λ t. has_cell b.fixed cell || t) (has_cell_set_of (is_hole holes) cell h)

holed_lt : (b : Board) (holes : List Hole) → (holed b holes).fixed < 2 ^ 256
unfolding holed
holed_lt b holes = union_of_lt b.fixed (set_of (is_hole holes))

-- the board with other fixed marks, and that it has them by their cells
abbrev fixing : Board → ℕ → Board
fixing b n = record { width = b.width; height = b.height; fixed = n; laid = b.laid }

fixing_ext : (b : Board) (n m : ℕ) → n < 2 ^ 256 → m < 2 ^ 256 → ((c : ℕ) → c < 256 → has_cell n c ≡ has_cell m c) → fixing b n ≡ fixing b m
fixing_ext b n m hn hm h = ap (fixing b) (has_cell_ext n m hn hm h)

is_hole_none : (cell : ℕ) → is_hole [] cell ≡ false
unfolding is_hole any
is_hole_none cell = refl

is_hole_cons : (hole : Hole) (holes : List Hole) (cell : ℕ) → is_hole (hole ∷ holes) cell ≡ (eqb (cell_of (place hole)) cell || is_hole holes cell)
unfolding is_hole any
is_hole_cons hole holes cell = refl

-- no holes change nothing
pub holed_none : (b : Board) → b.fixed < 2 ^ 256 → holed b [] ≡ b
unfolding holed
holed_none b h = fixing_ext b (holed b []).fixed b.fixed (holed_lt b []) h same
  where
    same : (c : ℕ) → c < 256 → has_cell (holed b []).fixed c ≡ has_cell b.fixed c
    same c i = holed_fixed b [] c i ∙ ap (λ t. has_cell b.fixed c || t) (is_hole_none c) ∙ or-false (has_cell b.fixed c)

or_assoc : (x y z : Bool) → ((x || y) || z) ≡ (x || (y || z))
or_assoc true y z = refl
or_assoc false y z = refl

module _ (b : Board) (hole : Hole) (ok : So (valid b)) (free : So (free_at b (place hole))) where
  -- the first hole, then the others
  holed_more : (holes : List Hole) → holed (fix_at b (place hole)) holes ≡ holed b (hole ∷ holes)
  unfolding holed fix_at
  holed_more holes =
      fixing_ext b (holed (fix_at b (place hole)) holes).fixed (holed b (hole ∷ holes)).fixed (holed_lt (fix_at b (place hole)) holes) (holed_lt b (hole ∷ holes)) same
    where
      same : (c : ℕ) → c < 256 → has_cell (holed (fix_at b (place hole)) holes).fixed c ≡ has_cell (holed b (hole ∷ holes)).fixed c
      same c i =
          holed_fixed (fix_at b (place hole)) holes c i
          ∙ ap (λ t. t || is_hole holes c) (fix_at_fixed b (place hole) ok free c)
          ∙ or_assoc (has_cell b.fixed c) (eqb (cell_of (place hole)) c) (is_hole holes c)
          ∙ sym (holed_fixed b (hole ∷ holes) c i ∙ ap (λ t. has_cell b.fixed c || t) (is_hole_cons hole holes c))

-- two holes with one cell, both free, are one
hole_once : (b : Board) (h g : Hole) → So (valid b) → So (free_at b (place h)) → So (free_at b (place g)) → cell_of (place h) ≡ cell_of (place g) → h ≡ g
hole_once b h g ok p q e =
    let same = cell_of_inj b.width b.height (place h) (place g) (free_at_inside b (place h) p) (free_at_inside b (place g) q) (valid_width b ok) e in
    ap (λ (x : Position). record { row = nat_abs x.row; column = nat_abs x.col }) same

-- ---- holes that can be fixed, one after another

-- different free cells of a board, and the board with all of them
pub record WithHoles (b : Board) (holes : List Hole) (c : Board) : Type 0 where
  pub free : (hole : Hole) → Mem hole holes → So (free_at b (place hole))
  pub once : Once holes
  pub fixes : c ≡ holed b holes

pub with_holes_none : (b : Board) → b.fixed < 2 ^ 256 → WithHoles b [] b
with_holes_none b h = record { free = λ hole m. absurd (not-nil m); once = tt; fixes = sym (holed_none b h) }

-- what is free with a cell fixed was free before, and is another cell
module _ (b : Board) (p : Position) (ok : So (valid b)) (free : So (free_at b p)) where
  free_before : (q : Position) → So (free_at (fix_at b p) q) → So (free_at b q) × (cell_of p ≡ cell_of q → ⊥)
  free_before q f =
      let both = (and-eq-true_iff (free_at b q) (not (eqb (cell_of p) (cell_of q)))).0 (sym (fix_at_free b p ok free q) ∙ f) in
      (both.0, λ e. false≢true (sym (not-true (eqb (cell_of p) (cell_of q)) both.1) ∙ eq-eqb (cell_of p) (cell_of q) e))

  free_after : (q : Position) → So (free_at b q) → (cell_of p ≡ cell_of q → ⊥) → So (free_at (fix_at b p) q)
  free_after q f ne =
      fix_at_free b p ok free q ∙ (and-eq-true_iff (free_at b q) (not (eqb (cell_of p) (cell_of q)))).1 (f, ap not (ne_eqb (cell_of p) (cell_of q) ne))

module _ (b : Board) (hole : Hole) (holes : List Hole) (c : Board) (ok : So (valid b)) where
  pub with_holes_more : So (free_at b (place hole)) → WithHoles (fix_at b (place hole)) holes c → WithHoles b (hole ∷ holes) c
  with_holes_more f d =
      record {
        free = λ g m.
            ⊎_elim (λ e. subst (λ (x : Hole). So (free_at b (place x))) (sym e) f) (λ k. (free_before b (place hole) ok f (place g) (d.free g k)).0) (cases_cons m);
        once = (λ m. (free_before b (place hole) ok f (place hole) (d.free hole m)).1 refl, d.once);
        fixes = d.fixes ∙ holed_more b hole ok f holes;
      }

  pub with_holes_first : WithHoles b (hole ∷ holes) c → So (free_at b (place hole)) × WithHoles (fix_at b (place hole)) holes c
  with_holes_first d =
      let f = d.free hole (here refl) in (
        f,
        record {
          free = λ g m.
              let q = d.free g (there m) in
              free_after b (place hole) ok f (place g) q (λ e. d.once.0 (cast (hole_once b hole g ok f q e) m));
          once = d.once.1;
          fixes = d.fixes ∙ sym (holed_more b hole ok f holes);
        },
      )

-- one hole more behind the others
pub with_holes_snoc : (b : Board) (holes : List Hole) (c : Board) (hole : Hole) → So (valid b) → b.fixed < 2 ^ 256 → WithHoles b holes c → So (free_at c (place hole))
    → WithHoles b (holes ++ hole ∷ []) (fix_at c (place hole))
with_holes_snoc b [] c hole ok h d f =
    let same : c ≡ b = d.fixes ∙ holed_none b h in
    let free : So (free_at b (place hole)) = subst (λ (x : Board). So (free_at x (place hole))) same f in
    subst (λ (x : Board). WithHoles b (hole ∷ []) (fix_at x (place hole))) (sym same)
    (with_holes_more b hole [] (fix_at b (place hole)) ok free (with_holes_none (fix_at b (place hole)) (fix_at_lt b (place hole) ok free h)))
with_holes_snoc b (g ∷ holes) c hole ok h d f =
    let first = with_holes_first b g holes c ok d in
    let p = place g in
    with_holes_more b g (holes ++ hole ∷ []) (fix_at c (place hole)) ok first.0
    (with_holes_snoc (fix_at b p) holes c hole (fix_at_valid b p ok first.0) (fix_at_lt b p ok first.0 h) first.1 f)

-- ---- what the board with holes has

module _ (b c : Board) (holes : List Hole) (d : WithHoles b holes c) where
  pub with_holes_fixed : (cell : ℕ) → cell < 256 → has_cell c.fixed cell ≡ (has_cell b.fixed cell || is_hole holes cell)
  with_holes_fixed cell h = ap (λ (x : Board). has_cell x.fixed cell) d.fixes ∙ holed_fixed b holes cell h

  pub with_holes_size : (c.width ≡ b.width) × (c.height ≡ b.height)
  unfolding holed
  with_holes_size = (ap (λ (x : Board). x.width) d.fixes, ap (λ (x : Board). x.height) d.fixes)

  pub with_holes_laid : c.laid ≡ b.laid
  unfolding holed
  with_holes_laid = ap (λ (x : Board). x.laid) d.fixes

  pub with_holes_lt : c.fixed < 2 ^ 256
  with_holes_lt = subst (λ (x : Board). x.fixed < 2 ^ 256) (sym d.fixes) (holed_lt b holes)

-- it is accepted, and each hole is one fixed mark more and one free cell less
pub record Counted (b : Board) (holes : List Hole) (c : Board) : Type 0 where
  pub accepted : valid c ≡ true
  pub marks : size c.fixed ≡ size b.fixed + length holes
  pub left : free_count c + length holes ≡ free_count b

pub with_holes_counted : (b : Board) (holes : List Hole) (c : Board) → So (valid b) → b.fixed < 2 ^ 256 → WithHoles b holes c → Counted b holes c
with_holes_counted b [] c ok h d =
    let same : c ≡ b = d.fixes ∙ holed_none b h in
    subst (Counted b []) (sym same) (record { accepted = ok; marks = sym (add-zero (size b.fixed)); left = add-zero (free_count b) })
with_holes_counted b (hole ∷ holes) c ok h d =
    let first = with_holes_first b hole holes c ok d in
    let p = place hole in
    let r = with_holes_counted (fix_at b p) holes c (fix_at_valid b p ok first.0) (fix_at_lt b p ok first.0 h) first.1 in
    record {
      accepted = r.accepted;
      marks = omega (arith, r.marks, fix_at_size b p ok first.0);
      left = omega (arith, r.left, fix_at_count b p ok first.0);
    }

pub with_holes_few : (b : Board) (holes : List Hole) (c : Board) → So (valid b) → b.fixed < 2 ^ 256 → WithHoles b holes c → length holes ≤ 256
with_holes_few b holes c ok h d = omega (arith, (with_holes_counted b holes c ok h d).left, free_le b)

pub holes_bytes : (holes : List Hole) → length (flat_map hole_bytes holes) ≡ 4 * length holes
unfolding flat_map
holes_bytes [] = refl
holes_bytes (hole ∷ holes) = omega (arith, length-append (hole_bytes hole) (flat_map hole_bytes holes), length_hole_bytes hole, holes_bytes holes)

-- ---- the holes with the cell numbers below n, on the largest board

abbrev hole_of : ℕ → Hole
hole_of cell = record { row = cell / 16; column = cell % 16 }

unfoldable pub holes_below : ℕ → List Hole
holes_below n = list_of hole_of n

abbrev pub largest : Board
largest = record { width = 16; height = 16; fixed = 0; laid = 0 }

hole_of_once : (m k : ℕ) → hole_of m ≡ hole_of k → m ≡ k
hole_of_once m k e = omega (arith, ap (λ (h : Hole). h.row) e, ap (λ (h : Hole). h.column) e)

largest_free : (cell : ℕ) → cell < 256 → So (free_at largest (place (hole_of cell)))
unfolding free_at is_marked
largest_free cell h =
    let p = place (hole_of cell) in
    (and-eq-true_iff (inside 16 16 p) (not (is_marked largest (cell_of p)))).1
    ((inside_iff 16 16 (cell / 16) (cell % 16)).1 (omega arith, omega arith), rw (has_cell_none (cell_of p)))

pub length_holes_below : (n : ℕ) → length (holes_below n) ≡ n
unfolding holes_below
length_holes_below n = length_list_of hole_of n

pub with_holes_below : (n : ℕ) → n ≤ 256 → WithHoles largest (holes_below n) (holed largest (holes_below n))
unfolding holes_below
with_holes_below n h =
    record {
      free = λ hole m.
          let r = (mem_list_of hole_of n hole).0 m in
          let i = r.1 in
          subst (λ (x : Hole). So (free_at largest (place x))) (sym r.2) (largest_free r.0 (omega arith));
      once = once_list_of hole_of n (λ m k i j e. hole_of_once m k e);
      fixes = refl;
    }
