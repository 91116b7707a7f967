-- `board::made` meets its contract: the marks of the shape, if the size is right.
-- Assumes nothing.
use Rattle.std.proofs.Common.{sym, ◌∙◌}
use Rattle.cells.specs.ListLaws.{value_none}
use Rattle.board.proofs.MadeLaws.{shaped_refused, makes_refused, makes_shaped}
use Rattle.board.proofs.made.Goals as goal

pub returns-then-not-size_ok : goal.returns-then-not-size_ok
returns-then-not-size_ok c = makes_refused _ _ (shaped_refused _ _ _ _ _ (sym c.if-not-size_ok.ensures))

pub returns : goal.returns
returns c =
    makes_shaped _ _ _ _ _ (sym c.if-not-size_ok.ensures) _ _
    c.shape_marks-fixed.ensures (c.of_words.ensures.0 ∙ value_none) _ c.of_marks.ensures
