-- `fit::walk::Ground::free_step` meets its contract: the place one step on, tested for a mark.
-- Assumes nothing.
use Rattle.std.proofs.Common.{sym, ◌∙◌, ap, arith}
use Rattle.cells.specs.Set.{has_cell, number}
use Rattle.fit.proofs.WalkLaws.{step_placed, free_nowhere, free_marked, free_open}
use Rattle.fit.proofs.walk.Ground.free_step.Goals as goal

pub returns-in_err-row : goal.returns-in_err-row
returns-in_err-row c = rw c.from_residual.ensures (free_nowhere _ _ _ _ _ _ c.args.place.low c.args.place.narrow (sym c.in_err-row.ensures))

pub invariant_of-next : goal.invariant_of-next
invariant_of-next c =
    let p = step_placed _ _ 0 _ _ _ c.args.place.low c.args.place.narrow _ _ (sym c.in_ok-row.ensures) in
    let h = c.args.self.rectangle.low in
    let w = c.args.self.rectangle.narrow in
    record { low = omega (arith, p.row, h); narrow = omega (arith, p.col, w) }

pub returns-then-has_cell : goal.returns-then-has_cell
returns-then-has_cell c =
    free_marked _ _ _ _ _ _ c.args.place.low c.args.place.narrow _ _ (sym c.in_ok-row.ensures)
    (c.if-has_cell.ensures ∙ ap (has_cell (number c.args.self.marks)) c.cell.ensures)

pub returns : goal.returns
returns c =
    free_open _ _ _ _ _ _ c.args.place.low c.args.place.narrow _ _ (sym c.in_ok-row.ensures)
    (c.if-has_cell.ensures ∙ ap (has_cell (number c.args.self.marks)) c.cell.ensures)
