use Rattle.std.proofs.Common.{◌≡◌, pos}
use Rattle.cells.specs.Set.{number}
use Rattle.direction.specs.Direction.{at}
use Rattle.rectangle.specs.Parts.{free_in}
use Rattle.fit.specs.Fit.{cover}
use Rattle.fit.specs.Inner.{back}
use Rattle.fit.proofs.walk.Ground.walk_back.Given as goal

abbrev pub invariant-loop-i : goal.invariant-loop-i
invariant-loop-i l = cover (free_in l.self.rectangle.width l.self.rectangle.height (number l.self.marks)) (number l.covered) (back (at (pos l.here.row) (pos l.here.col)) l.point.path.now l.i)
    ≡ cover (free_in l.self.rectangle.width l.self.rectangle.height (number l.self.marks)) (number l.fn.set) (back (at (pos l.fn.place.row) (pos l.fn.place.col)) l.point.path.now l.point.start)
