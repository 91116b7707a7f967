-- `fit::tile_fits_at_position` meets its contract: nothing for a wrong point, size, cell or path; else the walk.
-- Assumes nothing.
use mathlib.Core.Path.{sym, ◌∙◌}
use native.Mathlib.Omega.{arith}
use Rattle.rectangle.proofs.BoardLaws.{inside_iff}
use Rattle.rectangle.proofs.SizeLaws.{sized, unsized}
use Rattle.fit.proofs.FitForLaws.{fit_in_size, fit_in_path, fit_in_point, fit_in_outside, fit_in_fit}
use Rattle.fit.proofs.WalkLaws.{path_codes}
use Rattle.fit.proofs.tile_fits_at_position.Goals as goal

pub returns-then-path-start : goal.returns-then-path-start
returns-then-path-start c = sym (fit_in_point _ _ _ _ _ _ c.if-path-start.true)

pub returns-in_err-rectangle : goal.returns-in_err-rectangle
returns-in_err-rectangle c = rw c.from_residual.ensures (sym (fit_in_size _ _ _ _ _ _ (unsized _ _ _ c.of_size.ensures c.in_err-rectangle.was)))

pub returns-then-not-has_cell : goal.returns-then-not-has_cell
returns-then-not-has_cell c =
    let s = sized _ _ _ c.of_size.ensures _ c.in_ok-rectangle.was in
    rw (← s.1, ← s.2) (sym (fit_in_outside _ _ _ _ _ _ (sym c.if-not-has_cell.ensures)))

pub returns-then-not-is_path : goal.returns-then-not-is_path
returns-then-not-is_path c = sym (fit_in_path _ _ _ _ _ _ (sym c.is_path.ensures ∙ c.if-not-is_path.true))

pub invariant_of-point : goal.invariant_of-point
invariant_of-point c = record { on_path = omega arith; codes = path_codes _ (sym c.if-not-is_path.ensures) }

pub invariant_of-place : goal.invariant_of-place
invariant_of-place c =
    let i = (inside_iff _ _ _ _).0 (sym c.if-not-has_cell.ensures) in
    let h = c.in_ok-rectangle.rectangle.low in
    record { low = omega (arith, i.0, h); narrow = omega arith }

pub fit-requires : goal.fit-requires
fit-requires c = (inside_iff _ _ _ _).0 (sym c.if-not-has_cell.ensures)

pub returns : goal.returns
returns c =
    let s = sized _ _ _ c.of_size.ensures _ c.in_ok-rectangle.was in
    rw (← s.1, ← s.2) (c.fit.ensures ∙ sym (fit_in_fit _ _ _ _ _ _ s.0 (sym c.if-not-is_path.ensures) (omega arith)))
