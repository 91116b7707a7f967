use Rattle.std.proofs.Common.{◌≡◌, pos, drop}
use Rattle.cells.specs.Set.{number}
use Rattle.direction.specs.Direction.{at}
use Rattle.rectangle.specs.Parts.{free_in}
use Rattle.fit.specs.Fit.{cover}
use Rattle.fit.specs.Inner.{onward}
use Rattle.fit.proofs.walk.Ground.walk_on.Given as goal

abbrev pub invariant-loop-code : goal.invariant-loop-code
invariant-loop-code l = cover (free_in l.self.rectangle.width l.self.rectangle.height (number l.self.marks)) (number l.covered) (onward (at (pos l.here.row) (pos l.here.col)) (drop l.code-index l.code-items))
    ≡ cover (free_in l.self.rectangle.width l.self.rectangle.height (number l.self.marks)) (number l.fn.set) (onward (at (pos l.fn.place.row) (pos l.fn.place.col)) (drop l.point.start l.point.path.now))
