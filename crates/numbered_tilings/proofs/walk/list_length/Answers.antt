-- `numbered_tilings::walk::list_length` meets its contract: each step back goes to an earlier node whose list is one shorter, until node 0, whose list has one.
-- Assumes nothing.
use Rattle.numbered_tilings.proofs.WalkLoops.{steps_back, measured_next, measured_end}
use Rattle.numbered_tilings.proofs.walk.list_length.Goals as goal

pub loop-v-smaller : goal.loop-v-smaller
loop-v-smaller c =
    let at = c.loop-v.invariant in
    (steps_back _ _ _ c.requires.1 _ _ _ _ c.loop-v-test.true at.node at.below c.find_turn-turn.ensures).lower

pub loop-v-preserved : goal.loop-v-preserved
loop-v-preserved c =
    let at = c.loop-v.invariant in
    measured_next _ _ _ c.requires.1 _ _ _ _ _ at _ _ (steps_back _ _ _ c.requires.1 _ _ _ _ c.loop-v-test.true at.node at.below c.find_turn-turn.ensures)

pub returns : goal.returns
returns c = measured_end _ _ _ c.requires.1 _ _ _ _ _ c.loop-v.invariant c.loop-v-test.false
