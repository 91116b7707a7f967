-- `plot_file::records::added` meets its contract: there is room, or there is not.
-- Assumes nothing.
use Rattle.std.proofs.Common.{arith}
use Rattle.refusal.specs.Refusal.{map_answer}
use Rattle.plot_file.proofs.StepLaws.{steps_many, steps_added}
use Rattle.plot_file.proofs.records.added.Goals as goal

pub returns-then-plot-tiles : goal.returns-then-plot-tiles
unfolding map_answer
returns-then-plot-tiles c =
    let few = c.args.plot.kept.few in
    let many = c.if-plot-tiles.true in
    steps_many c.args.plot c.args.tiles _ (omega arith)

pub joined-requires : goal.joined-requires
joined-requires c =
    let few = c.args.plot.kept.few in
    let room = c.if-plot-tiles.false in
    (c.args.plot.kept, c.requires, omega arith)

pub returns : goal.returns
unfolding map_answer
returns c =
    let few = c.args.plot.kept.few in
    let room = c.if-plot-tiles.false in
    steps_added c.args.plot c.args.tiles _ (omega arith) _ c.joined.ensures.1
