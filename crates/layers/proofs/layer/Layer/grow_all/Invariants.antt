use Rattle.std.specs.Prelude.{Some}
use Rattle.layers.specs.Inner.{entries_in, setting_in, next_of}
use Rattle.layers.specs.Layers.{SameWords, HoldsIn}
use Rattle.layers.proofs.layer.Layer.grow_all.Given as goal

abbrev pub invariant-loop-i : goal.invariant-loop-i
invariant-loop-i l = SameWords l.initial.self l.self
    × HoldsIn l.self l.self (Some tt) (next_of (setting_in l.plot) (entries_in l.before.boards.now l.before.counts.now l.i))
