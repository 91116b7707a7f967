-- `plot_file::records::joined` meets its contract: the others are put behind one by one (`joined_step`).
-- Assumes nothing.
use Rattle.std.proofs.Common.{◌<◌, arith}
use Rattle.plot_file.proofs.TilesLaws.{joined_start, joined_count, joined_end, next_clean, adds_ok, adds_one, joined_step}
use Rattle.plot_file.proofs.records.joined.Goals as goal

pub loop-i-init : goal.loop-i-init
loop-i-init c = joined_start _ _ c.requires.0

pub unwrap-all-requires : goal.unwrap-all-requires
unwrap-all-requires c =
    let inv = c.loop-i.invariant in
    let few = c.requires.2 in
    adds_ok _ _ _ inv.clean (next_clean _ _ _ _ inv c.requires.1 c.loop-i-test.true _ c.get.ensures) (omega (arith, joined_count _ _ _ _ inv, c.loop-i-test.true)) c.with_tile.ensures

pub loop-i-preserved : goal.loop-i-preserved
loop-i-preserved c =
    let inv = c.loop-i.invariant in
    let few = c.requires.2 in
    let room : c.loop-i.all.count < 64 = omega (arith, joined_count _ _ _ _ inv, c.loop-i-test.true) in
    let next = next_clean _ _ _ _ inv c.requires.1 c.loop-i-test.true _ c.get.ensures in
    joined_step _ _ _ _ inv c.requires.1 c.loop-i-test.true _ c.get.ensures few _ (adds_one _ _ _ inv.clean next room c.with_tile.ensures _ c.unwrap-all.ensures)

pub returns : goal.returns
returns c = joined_end _ _ _ _ c.loop-i.invariant c.loop-i-test.false
