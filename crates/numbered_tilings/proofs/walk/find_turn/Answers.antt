-- `numbered_tilings::walk::find_turn` meets its contract: the turn is that among the edges from i on, with what is left of m, until an edge's share holds it.
-- Assumes nothing.
use Rattle.std.proofs.Common.{sym, ◌∙◌}
use Rattle.numbered_tilings.proofs.WalkLoops.{turn_start, turn_none, turn_passed, turn_held}
use borrow.Author.Tests.{ltb-true, ltb-false}
use Rattle.numbered_tilings.proofs.walk.find_turn.Goals as goal

pub loop-i-init : goal.loop-i-init
loop-i-init c = turn_start _ _ _ _ _

pub returns-then-less : goal.returns-then-less
returns-then-less c =
    turn_held _ _ _ _ _ c.loop-i-test.true _ _ c.share-share.ensures (ltb-true _ _ (sym c.less.ensures ∙ c.if-less.true)) _ c.parent.ensures
    ∙ sym c.loop-i.invariant

pub loop-i-preserved : goal.loop-i-preserved
loop-i-preserved c =
    c.loop-i.invariant
    ∙ turn_passed _ _ _ _ _ c.loop-i-test.true _ _ c.share-share.ensures
    (ltb-false _ _ (sym c.less.ensures ∙ c.if-less.false)) _ c.minus-left.ensures

pub returns : goal.returns
returns c = turn_none _ _ _ _ _ _ c.loop-i-test.false ∙ sym c.loop-i.invariant
