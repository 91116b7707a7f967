-- `numbered_tilings::check::is_bad_edge` meets its contract: the child is compared with the parent and with the nodes.
-- Assumes nothing.
use Rattle.std.proofs.Common.{◌∙◌, le-leb}
use Rattle.numbered_tilings.proofs.CheckLaws.{falling_edge, rising_edge}
use Rattle.numbered_tilings.proofs.check.is_bad_edge.Goals as goal

pub returns-then-child-parent : goal.returns-then-child-parent
returns-then-child-parent c =
    le-leb _ _ c.if-child-parent.true ∙ falling_edge _ _ _ c.parent.ensures c.child-child.ensures _ c.if-child-parent.true

pub returns-else-child-parent : goal.returns-else-child-parent
returns-else-child-parent c = rising_edge _ _ _ c.parent.ensures c.child-child.ensures _ c.if-child-parent.false
