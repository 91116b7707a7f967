-- `layers::layer::Layer::grow` meets its contract: the part of the array that is lent holds the children of any board.
-- Assumes nothing.
use mathlib.Core.Path.{refl}
use Rattle.expansion.proofs.ExpansionLaws.{child_words_lem, child_part}
use Rattle.layers.proofs.layer.Layer.grow.Goals as goal

pub slice_bounds-children-end : goal.slice_bounds-children-end
slice_bounds-children-end c = (child_words_lem _ _ c.args.plot.accepted _ c.child_words-end.ensures).1

pub slice_bounds-grow_all-end : goal.slice_bounds-grow_all-end
slice_bounds-grow_all-end c = (child_part _ _ c.args.plot.accepted _ c.child_words-end.ensures _ refl).0

pub grow_all-requires : goal.grow_all-requires
grow_all-requires c = (c.requires, (child_part _ _ c.args.plot.accepted _ c.child_words-end.ensures _ refl).1, refl, refl)
