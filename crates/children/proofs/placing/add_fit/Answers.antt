-- `children::placing::add_fit` meets its contract: the fit by numbers is that of the board; one piece, one child.
-- Assumes nothing.
use Rattle.std.proofs.Common.{ap, ◌∙◌}
use Rattle.rectangle.specs.Board.{marks}
use Rattle.children.proofs.PlacingLaws.{fit_is, fit_none, fit_one}
use Rattle.children.proofs.placing.add_fit.Goals as goal

pub returns-in_default : goal.returns-in_default
returns-in_default c = λ ns k. fit_none _ _ _ _ _ (c.in_default.ensures ∙ fit_is _ c.args.parent.sound _ c.args.parent.both _ c.requires.0 _ c.requires.1 _) k

pub returns : goal.returns
returns c = λ ns k. fit_one _ _ _ _ _ _ _ (c.in-Some.ensures ∙ fit_is _ c.args.parent.sound _ c.args.parent.both _ c.requires.0 _ c.requires.1 _) (c.marks.ensures ∙ ap marks c.mark_tile_at_position.ensures) (c.add_child.ensures ns k)
