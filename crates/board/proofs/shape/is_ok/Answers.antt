-- `board::shape::is_ok` meets its contract: by the size first, then the marks.
-- Assumes nothing.
use Rattle.std.proofs.Common.{sym, ◌∙◌}
use Rattle.board.proofs.ShapeLaws.{refused_size, accepted_marks}
use Rattle.board.proofs.shape.is_ok.Goals as goal

pub returns-then-size_ok : goal.returns-then-size_ok
returns-then-size_ok c = c.marks_ok.ensures ∙ accepted_marks _ (sym c.if-size_ok.ensures)

pub returns-else-size_ok : goal.returns-else-size_ok
returns-else-size_ok c = c.if-size_ok.false ∙ refused_size _ (sym c.if-size_ok.ensures)
