-- `board::shape::shape_marks` meets its contract: the set is filled in the order of its cells.
-- Assumes nothing.
use Rattle.std.proofs.Common.{Bool, cond, ap, ◌∙◌, arith}
use Rattle.cells.specs.Set.{number, with_cell}
use Rattle.cells.specs.ListLaws.{value_none}
use Rattle.board.proofs.ShapeLaws.{filled_none, filled_more, filled_all}
use Rattle.board.proofs.shape.shape_marks.Goals as goal
use Rattle.board.proofs.shape.shape_marks.Goals.{then-is_shape_mark, else-is_shape_mark}

pub loop-cell-init : goal.loop-cell-init
loop-cell-init c = filled_none _ _ (c.of_words-set.ensures.0 ∙ value_none)

pub loop-cell-preserved : goal.loop-cell-preserved
loop-cell-preserved c =
    let l = c.loop-cell in
    elim c.if-is_shape_mark.branch [
      | then-is_shape_mark w ↦ filled_more _ (number l.set) _ _ c.loop-cell-test.true l.invariant (ap number w.set-is ∙ w.with_cell-set.ensures ∙ ap (λ (t : Bool). cond t (with_cell (number l.set) l.cell) (number l.set)) w.if-is_shape_mark.ensures)
      | else-is_shape_mark w ↦ filled_more _ (number l.set) _ _ c.loop-cell-test.true l.invariant (ap number w.set-is ∙ ap (λ (t : Bool). cond t (with_cell (number l.set) l.cell) (number l.set)) w.if-is_shape_mark.ensures)
    ]

pub returns : goal.returns
returns c = filled_all _ _ _ c.loop-cell.invariant (omega arith) c.loop-cell-test.false
