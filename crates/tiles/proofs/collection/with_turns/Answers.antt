-- `tiles::collection::with_turns` meets its contract: the turns are collected in order (`Collected`).
-- Assumes nothing.
use Rattle.std.proofs.Common.{arith}
use Rattle.tile.specs.Path.{path_in, rotated}
use Rattle.tiles.proofs.MadeLaws.{collected_start, collected_step, collected_end, made_is_ok, image_given}
use Rattle.tiles.proofs.collection.with_turns.Goals as goal

pub loop-turn-init : goal.loop-turn-init
loop-turn-init c = collected_start _ _ c.requires.0 c.requires.1 c.requires.2 c.requires.3

pub with_new-out-requires : goal.with_new-out-requires
with_new-out-requires c = let so = c.loop-turn.invariant in (so.clean, so.clean_tile, omega arith)

pub unwrap-turned-requires : goal.unwrap-turned-requires
unwrap-turned-requires c =
    let so = c.loop-turn.invariant in
    made_is_ok _ (rotated (path_in c.loop-turn.turned)) (image_given rotated c.loop-turn.turned so.clean_tile.short so.ok) _ c.rotate.ensures

pub loop-turn-preserved : goal.loop-turn-preserved
loop-turn-preserved c = collected_step _ _ _ _ _ _ _ _ c.loop-turn.invariant c.loop-turn-test.true c.with_new-out.ensures c.rotate.ensures c.unwrap-turned.ensures

pub returns : goal.returns
returns c = collected_end _ _ _ _ _ c.loop-turn.invariant c.loop-turn-test.false
