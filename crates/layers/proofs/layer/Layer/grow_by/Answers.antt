-- `layers::layer::Layer::grow_by` meets its contract: the children get the board's paths.
-- Assumes nothing.
use mathlib.Core.Path.{sym, ap, ◌∙◌, subst}
use Rattle.board.specs.Board.{board_of}
use Rattle.covers.specs.Setting.{child_boards}
use Rattle.expansion.specs.Boards.{From}
use Rattle.layers.specs.Inner.{setting_in}
use Rattle.expansion.proofs.ExpansionLaws.{expanded_children}
use Rattle.layers.proofs.LayerLaws.{grown_by}
use Rattle.layers.proofs.layer.Layer.grow_by.Goals as goal

pub returns-clause-adds : goal.returns-clause-adds
returns-clause-adds c =
    let a = c.args in
    let from = subst (From (board_of a.plot.board)) (sym c.board.ensures) c.requires.0 in
    let e = (expanded_children _ _ a.plot.accepted _ from _ _ c.requires.1 _ c.expand-n.ensures).1 ∙ ap (child_boards (setting_in a.plot)) c.board.ensures in
    λ es h. grown_by _ _ _ _ _ _ _ _ _ e c.paths.ensures (c.add_all.ensures.adds es h)
