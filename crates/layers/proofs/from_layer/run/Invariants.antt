use Prim.Native.Nat.{ℕ}
use Rattle.refusal.specs.Refusal.{Answer}
use Rattle.layers.specs.Inner.{setting_in, Right, Ready}
use Rattle.layers.specs.Layers.{SameWords, entries_of}
use Rattle.layers.proofs.from_layer.run.Given as goal

abbrev pub invariant-loop-free : goal.invariant-loop-free
invariant-loop-free l = SameWords l.initial.layer l.layer × SameWords l.initial.next l.next × Ready (setting_in l.plot) l.free (entries_of l.layer)
    × ((x : Answer ℕ) → Right (setting_in l.plot) l.initial.next.room l.free (entries_of l.layer) x → Right (setting_in l.plot) l.initial.next.room l.initial.free (entries_of l.initial.layer) x)

abbrev pub decreases-loop-free : goal.decreases-loop-free
decreases-loop-free l = l.free
