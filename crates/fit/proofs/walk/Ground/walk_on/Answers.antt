-- `fit::walk::Ground::walk_on` meets its contract: what is left of the walk gives what the whole walk gives.
-- Assumes nothing.
use Rattle.std.proofs.Common.{◌+◌, ◌-◌, length, take, drop, refl, sym, ap, ◌∙◌}
use Rattle.cells.specs.Set.{with_cell, number}
use Rattle.fit.specs.Inner.{onward}
use Rattle.fit.proofs.WalkLaws.{walk_stops, walk_goes, walk_ends, onward_next, onward_none, rest_is, rest_ok}
use Rattle.fit.proofs.walk.Ground.walk_on.Goals as goal

pub loop-code-init : goal.loop-code-init
loop-code-init c = rw rest_is refl

pub direction_of-requires : goal.direction_of-requires
direction_of-requires c = rest_ok _ _ _ c.args.point.codes c.loop-code-test.true

pub returns-in_err-here : goal.returns-in_err-here
returns-in_err-here c =
    rw c.from_residual.ensures
    (walk_stops _ _ _ _ _ _ c.loop-code.invariant _ _ (onward_next _ _ _ _ c.loop-code-test.true c.direction_of.ensures) c.in_err-here.ensures)

pub loop-code-preserved : goal.loop-code-preserved
loop-code-preserved c =
    let path = c.args.point.path.now in
    let start = c.args.point.start in
    walk_goes _ _ _ _ _ _ c.loop-code.invariant _
    (λ q. onward q (drop (c.loop-code.code-index + 1) (take (length path - start) (drop start path))))
    (onward_next _ _ _ _ c.loop-code-test.true c.direction_of.ensures) _ _
    (sym c.in_ok-here.ensures) _ (c.with_cell-covered.ensures ∙ ap (with_cell (number c.loop-code.covered)) c.cell.ensures)

pub returns : goal.returns
returns c = walk_ends _ _ _ _ _ _ c.loop-code.invariant (onward_none _ _ _ c.loop-code-test.false)
