-- `fit::walk::Ground::fit` meets its contract: the place itself, the walk back and the walk on cover what the tile's cells do.
-- Assumes nothing.
use Rattle.std.proofs.Common.{sym, ap, ◌∙◌}
use Rattle.cells.specs.Set.{has_cell, with_cell, number}
use Rattle.fit.proofs.WalkLaws.{fit_marked, fit_stops, fit_goes}
use Rattle.fit.proofs.walk.Ground.fit.Goals as goal

pub returns-then-has_cell : goal.returns-then-has_cell
returns-then-has_cell c =
    fit_marked _ _ _ _ _ _ _ c.requires.0 c.requires.1 c.args.point.on_path (ap (has_cell (number c.args.self.marks)) (sym c.cell.ensures) ∙ sym c.if-has_cell.ensures)

pub returns-in_err-behind : goal.returns-in_err-behind
returns-in_err-behind c =
    rw c.from_residual.ensures
    (fit_stops _ _ _ _ _ _ _ c.requires.0 c.requires.1 c.args.point.on_path (ap (has_cell (number c.args.self.marks)) (sym c.cell.ensures) ∙ sym c.if-has_cell.ensures) _ _ c.of_words.ensures.0 (c.with_cell-first.ensures ∙ ap (with_cell (number c.of_words.result)) c.cell-2.ensures) _ c.walk_back.ensures c.in_err-behind.was)

pub returns : goal.returns
returns c =
    c.walk_on.ensures
    ∙ fit_goes _ _ _ _ _ _ _ c.requires.0 c.requires.1 c.args.point.on_path (ap (has_cell (number c.args.self.marks)) (sym c.cell.ensures) ∙ sym c.if-has_cell.ensures) _ _ c.of_words.ensures.0 (c.with_cell-first.ensures ∙ ap (with_cell (number c.of_words.result)) c.cell-2.ensures) _ c.walk_back.ensures _ c.in_ok-behind.was
