-- `layers::from_layer::grow_once` meets its contract: the layer grows, and is refused where its boards pass the room, else where a count is too large.
-- Assumes nothing.
use mathlib.Core.Path.{ap}
use Rattle.std.specs.Prelude.{Option, ⊤}
use Rattle.layers.specs.Layers.{state_of}
use Rattle.layers.proofs.RunSteps.{layer_from, once_no_room, once_large, once_boards}
use Rattle.layers.proofs.from_layer.grow_once.Goals as goal

pub grow-requires : goal.grow-requires
grow-requires c = layer_from _ c.args.plot.tiles _ _ _ _ c.requires.0

pub returns-in_default-clause-grows : goal.returns-in_default-clause-grows
returns-in_default-clause-grows c =
    once_no_room _ _ _ _ _ _ c.requires.0 c.args.plot.accepted _ _ c.args.plot.step c.requires.1 _ _ _ c.grow.ensures.holds
    (ap (λ (r : Option ⊤). state_of r c.grow.new.self) c.in_default.is)

pub returns-then-next-clause-grows : goal.returns-then-next-clause-grows
returns-then-next-clause-grows c =
    once_large _ _ _ _ _ _ c.requires.0 c.args.plot.accepted _ _ c.args.plot.step c.requires.1 _ _ _ c.grow.ensures.holds _ _
    (ap (λ (r : Option ⊤). state_of r c.grow.new.self) c.in-Some.is) c.if-next.true

pub returns-clause-grows : goal.returns-clause-grows
returns-clause-grows c =
    once_boards _ _ _ _ _ _ c.requires.0 c.args.plot.accepted _ _ c.args.plot.step c.requires.1 _ _ _ c.grow.ensures.holds _ _
    (ap (λ (r : Option ⊤). state_of r c.grow.new.self) c.in-Some.is) c.if-next.false
