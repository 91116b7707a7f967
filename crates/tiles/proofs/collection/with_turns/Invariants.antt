use Rattle.tile.specs.Path.{path_in}
use Rattle.tiles.specs.Paths.{paths_in}
use Rattle.tiles.proofs.MadeLaws.{Collected}
use Rattle.tiles.proofs.collection.with_turns.Given as goal

abbrev pub invariant-loop-turn : goal.invariant-loop-turn
invariant-loop-turn l = Collected (paths_in l.initial.out) (path_in l.initial.turned) l._turn l.out l.turned
