-- `fit::walk::Ground::walk_back` meets its contract: what is left of the walk gives what the whole walk gives.
-- Assumes nothing.
use Rattle.std.proofs.Common.{◌-◌, sym, ap, ◌∙◌, arith}
use Rattle.cells.specs.Set.{with_cell, number}
use Rattle.direction.specs.Direction.{opposite}
use Rattle.tile.specs.PathLaws.{codes_ok_at}
use Rattle.fit.specs.Inner.{back}
use Rattle.fit.proofs.WalkLaws.{walk_stops, walk_goes, walk_ends, back_next, back_none}
use Rattle.fit.proofs.walk.Ground.walk_back.Goals as goal

pub direction_of-requires : goal.direction_of-requires
direction_of-requires c = codes_ok_at _ _ c.args.point.codes (omega arith)

pub returns-in_err-here : goal.returns-in_err-here
returns-in_err-here c =
    rw c.from_residual.ensures
    (walk_stops _ _ _ _ _ _ c.loop-i.invariant _ _ (back_next _ _ _ _ c.loop-i-test.true (c.opposite.ensures ∙ ap opposite c.direction_of.ensures)) c.in_err-here.ensures)

pub loop-i-preserved : goal.loop-i-preserved
loop-i-preserved c =
    walk_goes _ _ _ _ _ _ c.loop-i.invariant _ (λ q. back q c.args.point.path.now (c.loop-i.i - 1))
    (back_next _ _ _ _ c.loop-i-test.true (c.opposite.ensures ∙ ap opposite c.direction_of.ensures)) _ _
    (sym c.in_ok-here.ensures) _ (c.with_cell-covered.ensures ∙ ap (with_cell (number c.loop-i.covered)) c.cell.ensures)

pub returns : goal.returns
returns c = walk_ends _ _ _ _ _ _ c.loop-i.invariant (back_none _ _ _ c.loop-i-test.false)
