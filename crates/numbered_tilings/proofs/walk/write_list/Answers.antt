-- `numbered_tilings::walk::write_list` meets its contract: each node is stored at the last place of its own list, which is the front of the whole.
-- Assumes nothing.
use Rattle.std.proofs.Common.{arith}
use Rattle.numbered_tilings.proofs.WalkLoops.{tiling_some, steps_back, place_later, backfilled_start, backfilled_next, backfilled_end}
use Rattle.numbered_tilings.proofs.walk.write_list.Goals as goal

pub overflow_sub-at : goal.overflow_sub-at
overflow_sub-at c = let pre = c.requires in omega (arith, pre.1, tiling_some _ _ _ pre.0.1 _ _ pre.0.2 pre.0.3)

pub loop-v-init : goal.loop-v-init
loop-v-init c = let pre = c.requires in backfilled_start _ _ _ pre.0.1 _ _ _ _ pre.2 pre.0.2 pre.0.3 pre.1

pub overflow_sub-at-in-loop-v : goal.overflow_sub-at-in-loop-v
overflow_sub-at-in-loop-v c =
    let pre = c.requires in
    let at = c.loop-v.invariant in
    place_later _ _ _ pre.0.1 _ _ _ _ pre.2 _ _ _ _ at _ _ (steps_back _ _ _ pre.0.1 _ _ _ _ c.loop-v-test.true at.node at.below c.find_turn-turn.ensures)

pub loop-v-smaller : goal.loop-v-smaller
loop-v-smaller c =
    let at = c.loop-v.invariant in
    (steps_back _ _ _ c.requires.0.1 _ _ _ _ c.loop-v-test.true at.node at.below c.find_turn-turn.ensures).lower

pub loop-v-preserved : goal.loop-v-preserved
loop-v-preserved c =
    let pre = c.requires in
    let at = c.loop-v.invariant in
    backfilled_next _ _ _ pre.0.1 _ _ _ _ pre.2 _ _ _ _ at _ _ (steps_back _ _ _ pre.0.1 _ _ _ _ c.loop-v-test.true at.node at.below c.find_turn-turn.ensures)

pub returns : goal.returns
returns c =
    let pre = c.requires in
    backfilled_end _ _ _ pre.0.1 _ _ _ _ pre.2 _ _ _ _ c.loop-v.invariant c.loop-v-test.false
