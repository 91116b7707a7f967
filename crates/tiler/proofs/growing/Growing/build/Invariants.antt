use Prim.Native.Nat.{◌-◌, ◌≤◌}
use lib.ListN.{length}
use Rattle.std.specs.Prelude.{Some}
use Rattle.covers.specs.Setting.{nodes_of}
use Rattle.expansion.specs.Boards.{setting_of, start_of}
use Rattle.tiler.specs.Growths.{SameWords, HoldsIn}
use Rattle.tiler.proofs.BuildLaws.{found_graph}
use Rattle.tiler.proofs.growing.Growing.build.Given as goal

abbrev pub invariant-loop-i : goal.invariant-loop-i
invariant-loop-i l = SameWords l.initial.self l.self × (l.i ≤ length (nodes_of (setting_of l.plot.board l.plot.tiles) (start_of l.plot.board)))
    × HoldsIn l.self l.self (Some tt) (found_graph l.plot.board l.plot.tiles l.i)

abbrev pub decreases-loop-i : goal.decreases-loop-i
decreases-loop-i l = l.self.node_room - l.i
