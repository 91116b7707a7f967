-- `board::shape::is_free` meets its contract: a cell of the rectangle without a mark of either kind.
-- Assumes nothing.
use Rattle.std.proofs.Common.{◌≡◌, Bool, not, ◌&&◌, sym, ap, ap₂, ◌∙◌}
use Rattle.cells.specs.Set.{has_cell, number}
use Rattle.rectangle.specs.Board.{inside, position_of}
use Rattle.board.proofs.ShapeLaws.{free_is}
use Rattle.board.proofs.shape.is_free.Goals as goal
use Rattle.board.proofs.shape.is_free.Goals.{Joined-is_inside, then-is_inside, else-is_inside}

-- in the rectangle and not fixed
unfixed : (c : Joined-is_inside) → c.if-is_inside.value ≡ (inside c.args.board.width c.args.board.height (position_of c.args.cell) && not (has_cell (number c.args.board.fixed) c.args.cell))
unfixed c =
    elim c.if-is_inside.branch [
      | then-is_inside w ↦ w.value-is ∙ ap₂ (λ (i f : Bool). i && not f) w.if-is_inside.ensures w.has_cell.ensures
      | else-is_inside w ↦ w.value-is ∙ w.if-is_inside.false ∙ ap (λ (i : Bool). i && not (has_cell (number c.args.board.fixed) c.args.cell)) w.if-is_inside.ensures
    ]

pub returns-then-not-has_cell : goal.returns-then-not-has_cell
returns-then-not-has_cell c =
    ap₂ (λ (u l : Bool). u && not l) (sym c.if-not-has_cell.true ∙ unfixed c.before.before.before) c.has_cell-then-not-has_cell.ensures ∙ free_is _ _

pub returns-else-not-has_cell : goal.returns-else-not-has_cell
returns-else-not-has_cell c =
    c.if-not-has_cell.false
    ∙ ap (λ (u : Bool). u && not (has_cell (number c.args.board.laid) c.args.cell)) (sym c.if-not-has_cell.false ∙ unfixed c.before)
    ∙ free_is _ _
