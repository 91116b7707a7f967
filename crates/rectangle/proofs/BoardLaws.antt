-- Laws of boards: positions of the rectangle and their cells; free positions; both kinds of marks together; what an accepted board satisfies; the
-- free cells as a set, and that a board is full just where there are none. Rests on `Board`. Assumes nothing.
use Rattle.std.specs.Prelude.{◌≡◌, ◌↔◌, Bool, ◌&&◌, ◌||◌, ℕ, ◌+◌, ◌*◌, ◌/◌, ◌%◌, ◌^◌, ◌≤◌, ◌<◌, max, eqb, ltb, leb, ℤ, pos, negsuc}
use Rattle.std.proofs.Math.Path.{refl, sym, ap, ap₂}
use Rattle.std.proofs.Common.{◌∙◌, arith, pow_pos}
use Rattle.std.proofs.Math.Bool.{true, false, So, not, cond, false≢true, and-eq-true_iff}
use Rattle.std.proofs.Math.Decide.{ℕ_discrete, dec_lt}
use borrow.Author.Tests.{eqb-true, eq-eqb, leb-true, lt-leb, ne_eqb, not-true, ltb-true, lt-ltb}
use Rattle.cells.specs.Set.{bit, has_cell, size}
use Rattle.cells.specs.BitLaws.{Disjoint, bit_le, bit_ext, bit_high, zero_bit}
use Rattle.cells.specs.SetLaws.{has_cell_iff, bit_union_of, has_cell_union_of, union_of_lt, size_zero, size_none, bit_free, has_cell_none, has_cell_set_of, set_of_lt}
use Rattle.cells.specs.FirstsLaws.{so_eq}
use Rattle.cells.specs.Lists.{all_below}
use Rattle.cells.specs.ArrayLaws.{all_below_at}
use Rattle.refusal.specs.Refusal.{refused, given, refusal_of}
use Rattle.refusal.specs.RefusalLaws.{refused_given, given_inj}
use Rattle.direction.specs.Direction.{Position, at}
use Rattle.rectangle.specs.Board.{Board, cell_of, position_of, below, inside, marks, is_marked, free_at, is_free, free_set, free_count, is_full, size_ok, mark_ok, valid, accept_board}
use Rattle.rectangle.specs.Parts.{free_in}

-- ---- positions of the rectangle and their cells

below_parts : (n : ℕ) (k : ℤ) → So (below n k) → (m : ℕ) × (k ≡ pos m) × (m < n)
unfolding below
below_parts n (pos m) e = (m, refl, ltb-true m n e)
below_parts n (negsuc m) e = absurd (false≢true e)

module _ (w h : ℕ) where
  pub inside_parts : (p : Position) → So (inside w h p) → (r : ℕ) × (c : ℕ) × (p ≡ at (pos r) (pos c)) × (r < h) × (c < w)
  unfolding inside
  inside_parts p e =
      let both = (and-eq-true_iff (below h p.row) (below w p.col)).0 e in
      let row = below_parts h p.row both.0 in
      let col = below_parts w p.col both.1 in
      (row.0, col.0, ap₂ at row.1 col.1, row.2, col.2)

  cell_parts : (p : Position) → So (inside w h p) → (r : ℕ) × (c : ℕ) × (p ≡ at (pos r) (pos c)) × (r < h) × (c < w) × (cell_of p ≡ 16 * r + c)
  unfolding cell_of
  cell_parts p e = let s = inside_parts p e in (s.0, s.1, s.2, s.3, s.4, ap cell_of s.2)

  pub cell_of_lt : (p : Position) → So (inside w h p) → w ≤ 16 → h ≤ 16 → cell_of p < 256
  cell_of_lt p e i j = let s = cell_parts p e in omega (arith, s.3, s.4, s.5)

  pub position_of_cell_of : (p : Position) → So (inside w h p) → w ≤ 16 → position_of (cell_of p) ≡ p
  position_of_cell_of p e i =
      let s = cell_parts p e in
      let row : cell_of p / 16 ≡ s.0 = omega (arith, s.4, s.5) in
      let col : cell_of p % 16 ≡ s.1 = omega (arith, s.4, s.5) in
      ap₂ (λ (r c : ℕ). at (pos r) (pos c)) row col ∙ sym s.2

  pub cell_of_inj : (p q : Position) → So (inside w h p) → So (inside w h q) → w ≤ 16 → cell_of p ≡ cell_of q → p ≡ q
  cell_of_inj p q e f i s = sym (position_of_cell_of p e i) ∙ ap position_of s ∙ position_of_cell_of q f i

pub cell_of_position_of : (cell : ℕ) → cell_of (position_of cell) ≡ cell
unfolding cell_of
cell_of_position_of cell = omega arith

-- ---- free positions

pub free_at_inside : (b : Board) (p : Position) → So (free_at b p) → So (inside b.width b.height p)
unfolding free_at
free_at_inside b p e = ((and-eq-true_iff (inside b.width b.height p) (not (is_marked b (cell_of p)))).0 e).0

-- the position of a row and a column
pub inside_iff : (w h row col : ℕ) → So (inside w h (at (pos row) (pos col))) ↔ ((row < h) × (col < w))
unfolding inside
inside_iff w h row col =
    let both = and-eq-true_iff (ltb row h) (ltb col w) in
    (λ e. let t = both.0 e in (ltb-true row h t.0, ltb-true col w t.1), λ l. both.1 (lt-ltb row h l.0, lt-ltb col w l.1))

-- a free cell is in the rectangle
pub free_inside : (b : Board) (cell : ℕ) → So (is_free b cell) → (cell % 16 < b.width) × (cell / 16 < b.height)
unfolding is_free
free_inside b cell f =
    let both = (and-eq-true_iff (inside b.width b.height (position_of cell)) (not (is_marked b (cell_of (position_of cell))))).0 f in
    let r = (inside_iff b.width b.height (cell / 16) (cell % 16)).0 both.0 in
    (r.1, r.0)

-- ---- the marks of either kind

pub marks_lt : (b : Board) → marks b < 2 ^ 256
unfolding marks
marks_lt b = union_of_lt b.fixed b.laid

bit_marks : (b : Board) (c : ℕ) → c < 256 → bit (marks b) c ≡ max (bit b.fixed c) (bit b.laid c)
unfolding marks
bit_marks b c h = bit_union_of b.fixed b.laid c h

pub is_marked_marks : (b : Board) (c : ℕ) → c < 256 → is_marked b c ≡ has_cell (marks b) c
unfolding is_marked marks
is_marked_marks b c h = sym (has_cell_union_of b.fixed b.laid c h)

-- on a board whose size is right, the test by both kinds of marks together is that of the definition
pub free_in_free_at : (b : Board) → b.width ≤ 16 → b.height ≤ 16 → (p : Position) → free_in b.width b.height (marks b) p ≡ free_at b p
unfolding free_in free_at
free_in_free_at b w h p = go (inside b.width b.height p) refl
  where
    go : (t : Bool) → inside b.width b.height p ≡ t → (t && not (has_cell (marks b) (cell_of p))) ≡ (t && not (is_marked b (cell_of p)))
    go true e = ap not (sym (is_marked_marks b (cell_of p) (cell_of_lt b.width b.height p e w h)))
    go false e = refl

-- ---- an accepted board

pub size_ok_le : (w h : ℕ) → So (size_ok w h) → (w ≤ 16) × (h ≤ 16)
unfolding size_ok
size_ok_le w h = go (eqb w 0 && eqb h 0) refl
  where
    go : (t : Bool) → (eqb w 0 && eqb h 0) ≡ t → So (t || ltb 0 w && leb w 16 && (ltb 0 h && leb h 16)) → (w ≤ 16) × (h ≤ 16)
    go true e s =
        let both = (and-eq-true_iff (eqb w 0) (eqb h 0)).0 e in
        (omega (arith, eqb-true w 0 both.0), omega (arith, eqb-true h 0 both.1))
    go false e s =
        let both = (and-eq-true_iff (ltb 0 w && leb w 16) (ltb 0 h && leb h 16)).0 s in
        (leb-true w 16 ((and-eq-true_iff (ltb 0 w) (leb w 16)).0 both.0).1, leb-true h 16 ((and-eq-true_iff (ltb 0 h) (leb h 16)).0 both.1).1)

module _ (b : Board) (ok : So (valid b)) where
  valid_parts : So (size_ok b.width b.height) × So (all_below (mark_ok b) 256)
  unfolding valid
  valid_parts = (and-eq-true_iff (size_ok b.width b.height) (all_below (mark_ok b) 256)).0 ok

  -- its size is accepted, and the marks of each of its cells
  pub valid_size : So (size_ok b.width b.height)
  valid_size = valid_parts.0

  pub valid_mark : (c : ℕ) → c < 256 → So (mark_ok b c)
  valid_mark c h = all_below_at (mark_ok b) 256 c valid_parts.1 h

  pub valid_width : b.width ≤ 16
  valid_width = (size_ok_le b.width b.height valid_parts.0).0

  pub valid_height : b.height ≤ 16
  valid_height = (size_ok_le b.width b.height valid_parts.0).1

  mark_parts : (c : ℕ) → c < 256 → So (not (has_cell b.fixed c && has_cell b.laid c)) × So (inside b.width b.height (position_of c) || not (is_marked b c))
  unfolding mark_ok
  mark_parts c h =
      (and-eq-true_iff (not (has_cell b.fixed c && has_cell b.laid c)) (inside b.width b.height (position_of c) || not (is_marked b c))).0
      (valid_mark c h)

  -- no cell is both fixed and laid
  pub valid_disjoint : b.fixed < 2 ^ 256 → Disjoint b.fixed b.laid
  valid_disjoint small c = go (dec_lt c 256)
    where
      go : Dec (c < 256) → bit b.fixed c + bit b.laid c ≤ 1
      go (yes h) = both (ℕ_discrete (bit b.fixed c) 1) (ℕ_discrete (bit b.laid c) 1)
        where
          both : Dec (bit b.fixed c ≡ 1) → Dec (bit b.laid c ≡ 1) → bit b.fixed c + bit b.laid c ≤ 1
          both (yes e) (yes f) =
              absurd (false≢true (sym (not-true (has_cell b.fixed c && has_cell b.laid c) (mark_parts c h).0) ∙ (and-eq-true_iff (has_cell b.fixed c) (has_cell b.laid c)).1 ((has_cell_iff b.fixed c).1 e, (has_cell_iff b.laid c).1 f)))
          both (yes e) (no f) = omega (arith, bit_le b.laid c)
          both (no e) y = omega (arith, bit_le b.fixed c, bit_le b.laid c)
      go (no h) = omega (arith, bit_high 256 b.fixed c small (omega arith), bit_le b.laid c)

  -- no mark is outside the rectangle
  pub valid_inside : (c : ℕ) → c < 256 → So (has_cell (marks b) c) → So (inside b.width b.height (position_of c))
  valid_inside c h e = go (inside b.width b.height (position_of c)) (is_marked b c) (is_marked_marks b c h ∙ e) (mark_parts c h).1
    where
      go : (x y : Bool) → So y → So (x || not y) → So x
      go true y f s = refl
      go false true f s = s
      go false false f s = f

-- ---- sizes

pub size_ok_wide : (w h : ℕ) → 16 < w → size_ok w h ≡ false
unfolding size_ok
size_ok_wide w h l = rw (ne_eqb w 0 (λ e. omega arith), lt-leb w 16 l) (no (ltb 0 w) (ltb 0 h && leb h 16))
  where
    no : (a b : Bool) → (a && false && b) ≡ false
    no true b = refl
    no false b = refl

pub size_ok_high : (w h : ℕ) → 16 < h → size_ok w h ≡ false
unfolding size_ok
size_ok_high w h l = rw (ne_eqb h 0 (λ e. omega arith), lt-leb h 16 l) (no (eqb w 0) (ltb 0 w && leb w 16) (ltb 0 h))
  where
    no : (a b c : Bool) → (a && false || b && (c && false)) ≡ false
    no true true true = refl
    no true true false = refl
    no true false c = refl
    no false true true = refl
    no false true false = refl
    no false false c = refl

-- ---- which boards are accepted

module _ (b : Board) where
  pub accept_board_given : valid b ≡ true → accept_board b ≡ given b
  unfolding accept_board
  accept_board_given e = rw e

  pub accept_board_refused : valid b ≡ false → accept_board b ≡ refused 4
  unfolding accept_board
  accept_board_refused e = rw e

  pub accept_board_accepted : 0 ≡ refusal_of (accept_board b) → valid b ≡ true
  unfolding accept_board refusal_of
  accept_board_accepted e = go (valid b) refl e
    where
      go : (t : Bool) → valid b ≡ t → 0 ≡ refusal_of (cond t (given b) (refused 4)) → valid b ≡ true
      go true f g = f
      go false f g = absurd (omega arith)

  -- a board that is given is the board itself, and a refusal has a number above 0
  pub accept_board_is : (board : Board) → accept_board b ≡ given board → (b ≡ board) × So (valid b)
  unfolding accept_board
  accept_board_is board e = go (valid b) refl e
    where
      go : (t : Bool) → valid b ≡ t → cond t (given b) (refused 4) ≡ given board → (b ≡ board) × So (valid b)
      go true f g = (given_inj b board g, f)
      go false f g = absurd (refused_given 4 board g)

  pub accept_board_positive : (n : ℕ) → accept_board b ≡ refused n → 0 < n
  unfolding accept_board refusal_of
  accept_board_positive n e = go (valid b) e
    where
      go : (t : Bool) → cond t (given b) (refused 4) ≡ refused n → 0 < n
      go true g = absurd (refused_given n b (sym g))
      go false g = omega (arith, ap refusal_of g)

-- ---- the set of the free cells

module _ (b : Board) where
  -- a cell is in the set of the free cells if it is free
  pub has_cell_free_set : (cell : ℕ) → cell < 256 → has_cell (free_set b) cell ≡ is_free b cell
  unfolding free_set
  has_cell_free_set cell h = has_cell_set_of (is_free b) cell h

  pub free_set_lt : free_set b < 2 ^ 256
  unfolding free_set
  free_set_lt = set_of_lt (is_free b)

  -- a full board has no free cell
  pub full_none : is_full b ≡ true → (cell : ℕ) → cell < 256 → So (is_free b cell) → ⊥
  unfolding is_full free_count
  full_none e cell h f =
      let empty : free_set b ≡ 0 = size_none (free_set b) free_set_lt (eqb-true (size (free_set b)) 0 e) in
      false≢true (sym (has_cell_none cell) ∙ ap (λ (n : ℕ). has_cell n cell) (sym empty) ∙ has_cell_free_set cell h ∙ f)

  -- a board with no free cell is full
  pub none_full : ((cell : ℕ) → So (is_free b cell) → ⊥) → is_full b ≡ true
  unfolding is_full free_count
  none_full f =
      let empty : free_set b ≡ 0 = bit_ext 256 (free_set b) 0 free_set_lt (pow_pos 256) (λ c h. bit_free (free_set b) c (has_cell_free_set c h ∙ so_eq (is_free b c) false (λ e. absurd (f c e)) (λ e. absurd (false≢true e))) ∙ sym (zero_bit c)) in
      eq-eqb (size (free_set b)) 0 (ap size empty ∙ size_zero)
