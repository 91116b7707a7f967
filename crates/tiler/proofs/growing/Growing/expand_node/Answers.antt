-- `tiler::growing::Growing::expand_node` meets its contract: the node's children are written, then added in order.
-- Assumes nothing.
use mathlib.Core.Path.{sym, subst}
use Rattle.expansion.specs.Boards.{From}
use Rattle.expansion.proofs.ExpansionLaws.{expanded_children}
use Rattle.tiler.proofs.BuildLaws.{children_read}
use Rattle.tiler.proofs.growing.Growing.expand_node.Goals as goal

pub returns-clause-adds : goal.returns-clause-adds
returns-clause-adds c = λ d k.
    children_read c.args.plot.board c.args.plot.tiles _ _ _ _ _ _ _ _ _ _
    (expanded_children _ _ c.args.plot.accepted _ (subst (From _) (sym c.node.ensures) c.requires.0) _ _ c.requires.1 _ c.expand-n.ensures).1 c.node.ensures
    (c.add_children.ensures.adds d k)
