-- Laws of positions: the tests tell equal positions; offsets add up; turns and reflections of the plane go through sums and keep the tests.
-- Rests on `lib.IntN`. Assumes nothing.
use Rattle.std.specs.Prelude.{◌≡◌, ◌↔◌, ℤ, pos, negsuc, ◌+ℤ◌, neg_ℤ}
use Rattle.std.proofs.Common.{sym, ap, ap₂, ◌∙◌, eq-eqb, eqb-true}
use Rattle.std.proofs.Math.Bool.{So, and-eq-true_iff}
use Rattle.std.proofs.lemmas.Bool.{false≢true}
use Rattle.std.proofs.Math.IntN.{neg_ℤ-neg_ℤ, neg_ℤ-+ℤ, +ℤ_assoc, +ℤ_comm, +ℤ_idl, +ℤ-neg_ℤ_cancel, pos-ne-negsuc}
use Rattle.cells.specs.FirstsLaws.{Tells, so_eq}
use Rattle.direction.specs.Direction.{Position, at, origin, shift, same_int, same_position}

-- a quarter turn clockwise about the origin: up becomes right
abbrev pub quarter_turn : Position → Position
quarter_turn p = at p.col (neg_ℤ p.row)

-- the reflections that the Rust calls `Horizontal`, up for down, and `Vertical`, left for right
abbrev pub mirror_rows : Position → Position
mirror_rows p = at (neg_ℤ p.row) p.col

abbrev pub mirror_cols : Position → Position
mirror_cols p = at p.row (neg_ℤ p.col)

-- ---- the tests tell equal positions

pub same_int_iff : (x y : ℤ) → So (same_int x y) ↔ (x ≡ y)
unfolding same_int
same_int_iff (pos m) (pos n) = (λ e. ap pos (eqb-true m n e), λ e. eq-eqb m n (cc))
same_int_iff (pos m) (negsuc n) = (λ e. absurd (false≢true e), λ e. absurd (pos-ne-negsuc m n e))
same_int_iff (negsuc m) (pos n) = (λ e. absurd (false≢true e), λ e. absurd (pos-ne-negsuc n m (sym e)))
same_int_iff (negsuc m) (negsuc n) = (λ e. ap negsuc (eqb-true m n e), λ e. eq-eqb m n (cc))

pub same_position_iff : Tells same_position
unfolding same_position
same_position_iff p q =
    let both = and-eq-true_iff (same_int p.row q.row) (same_int p.col q.col) in (
      λ e. let h = both.0 e in ap₂ at ((same_int_iff p.row q.row).0 h.0) ((same_int_iff p.col q.col).0 h.1),
      λ e. both.1 ((same_int_iff p.row q.row).1 (ap (λ (x : Position). x.row) e), (same_int_iff p.col q.col).1 (ap (λ (x : Position). x.col) e)),
    )

-- a one-to-one map keeps the test
pub same_position_map : (F : Position → Position) → ((p q : Position) → F p ≡ F q → p ≡ q) → (p q : Position) → same_position (F p) (F q) ≡ same_position p q
same_position_map F one p q =
    so_eq (same_position (F p) (F q)) (same_position p q)
    (λ e. (same_position_iff p q).1 (one p q ((same_position_iff (F p) (F q)).0 e)))
    (λ e. (same_position_iff (F p) (F q)).1 (ap F ((same_position_iff p q).0 e)))

-- ---- offsets

pub shift_origin : (p : Position) → shift origin p ≡ p
shift_origin p = ap₂ at (+ℤ_idl p.row) (+ℤ_idl p.col)

pub shift_shift : (p d e : Position) → shift (shift p d) e ≡ shift (shift p e) d
shift_shift p d e = ap₂ at (swap p.row d.row e.row) (swap p.col d.col e.col)
  where
    swap : (x y z : ℤ) → (x +ℤ y) +ℤ z ≡ (x +ℤ z) +ℤ y
    swap x y z = +ℤ_assoc x y z ∙ ap (λ (k : ℤ). x +ℤ k) (+ℤ_comm y z) ∙ sym (+ℤ_assoc x z y)

pub cancel : (x y z : ℤ) → x +ℤ z ≡ y +ℤ z → x ≡ y
cancel x y z e = sym (+ℤ-neg_ℤ_cancel x z) ∙ ap (λ (k : ℤ). k +ℤ neg_ℤ z) e ∙ +ℤ-neg_ℤ_cancel y z

pub shift_inj : (d p q : Position) → shift p d ≡ shift q d → p ≡ q
shift_inj d p q e =
    ap₂ at (cancel p.row q.row d.row (ap (λ (x : Position). x.row) e)) (cancel p.col q.col d.col (ap (λ (x : Position). x.col) e))

-- ---- turns and reflections

neg_inj : (x y : ℤ) → neg_ℤ x ≡ neg_ℤ y → x ≡ y
neg_inj x y e = sym (neg_ℤ-neg_ℤ x) ∙ ap neg_ℤ e ∙ neg_ℤ-neg_ℤ y

pub turn_inj : (p q : Position) → quarter_turn p ≡ quarter_turn q → p ≡ q
turn_inj p q e = ap₂ at (neg_inj p.row q.row (ap (λ (x : Position). x.col) e)) (ap (λ (x : Position). x.row) e)

pub mirror_rows_inj : (p q : Position) → mirror_rows p ≡ mirror_rows q → p ≡ q
mirror_rows_inj p q e = ap₂ at (neg_inj p.row q.row (ap (λ (x : Position). x.row) e)) (ap (λ (x : Position). x.col) e)

pub turn_shift : (p d : Position) → quarter_turn (shift p d) ≡ shift (quarter_turn p) (quarter_turn d)
turn_shift p d = ap (at (p.col +ℤ d.col)) (neg_ℤ-+ℤ p.row d.row)

pub mirror_rows_shift : (p d : Position) → mirror_rows (shift p d) ≡ shift (mirror_rows p) (mirror_rows d)
mirror_rows_shift p d = ap (λ (r : ℤ). at r (p.col +ℤ d.col)) (neg_ℤ-+ℤ p.row d.row)
