-- `board::shape::marks_ok` meets its contract: every cell is tested.
-- Assumes nothing.
use Rattle.std.proofs.Common.{sym, arith}
use Rattle.cells.specs.ArrayLaws.{all_below_none, all_below_more, all_below_fails}
use Rattle.board.proofs.ShapeLaws.{all_below_end}
use Rattle.board.proofs.shape.marks_ok.Goals as goal

pub loop-cell-init : goal.loop-cell-init
loop-cell-init c = all_below_none _

pub returns-then-not-mark_ok : goal.returns-then-not-mark_ok
returns-then-not-mark_ok c = sym (all_below_fails _ _ _ c.loop-cell-test.true (sym c.if-not-mark_ok.ensures))

pub loop-cell-preserved : goal.loop-cell-preserved
loop-cell-preserved c = all_below_more _ _ c.loop-cell.invariant (sym c.if-not-mark_ok.ensures)

pub returns : goal.returns
returns c = all_below_end _ _ c.loop-cell.invariant (omega arith) c.loop-cell-test.false
