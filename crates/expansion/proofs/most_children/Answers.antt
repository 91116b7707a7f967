-- `expansion::most_children` meets its contract: the lengths are added in order.
-- Assumes nothing.
use mathlib.Core.Path.{◌≡◌}
use lib.ListN.{length}
use native.Mathlib.Omega.{arith}
use borrow.Author.Rules.{rules}
use Rattle.tiles.specs.ReadLaws.{read_tiles_sound, sound_tile}
use Rattle.expansion.proofs.PlotLaws.{points_none, points_more, points_all}
use Rattle.expansion.proofs.most_children.Goals as goal

pub loop-i-init : goal.loop-i-init
loop-i-init c = (points_none _, omega arith)

pub offset_bounds-tiles-i : goal.offset_bounds-tiles-i
offset_bounds-tiles-i c = let few = (read_tiles_sound _ _ c.requires).0 in omega (arith, c.loop-i-test.true)

pub bounds-tiles-i : goal.bounds-tiles-i
bounds-tiles-i c = let few = (read_tiles_sound _ _ c.requires).0 in omega (arith, c.loop-i-test.true)

pub overflow_add-sum : goal.overflow_add-sum
overflow_add-sum c = let short = (sound_tile _ c.requires _ c.loop-i-test.true).0 in omega arith

pub overflow_add-sum-in-loop-i : goal.overflow_add-sum-in-loop-i
overflow_add-sum-in-loop-i c =
    let few = (read_tiles_sound _ _ c.requires).0 in
    let short = (sound_tile _ c.requires _ c.loop-i-test.true).0 in
    omega (arith, c.loop-i.invariant.1, c.loop-i-test.true)

pub loop-i-preserved : goal.loop-i-preserved
loop-i-preserved c =
    let short = (sound_tile _ c.requires _ c.loop-i-test.true).0 in
    (points_more _ _ _ c.loop-i.invariant.0, omega (arith, c.loop-i.invariant.1))

pub returns : goal.returns
returns c =
    let few = (read_tiles_sound _ _ c.requires).0 in
    let long : length c.args.tiles.codes ≡ 2048 = search rules in
    (points_all c.args.tiles long c.requires _ _ c.loop-i.auto.i-end c.loop-i-test.false c.loop-i.invariant.0, omega (arith, c.loop-i.auto.i-end, c.loop-i.invariant.1))
