-- `plot_file::holes::hole_record` meets its contract: the place is tested first, then that the two bytes are there, and then they make a hole (`hole_body_at`).
-- Assumes nothing.
use Rattle.std.proofs.Common.{sym, arith}
use Rattle.refusal.specs.Refusal.{map_answer}
use Rattle.plot_file.specs.Inner.{plot_of}
use Rattle.plot_file.proofs.ReadLaws.{hole_body_misplaced, hole_body_cut, hole_body_at}
use Rattle.plot_file.proofs.StepLaws.{pair_refused, pair_read}
use Rattle.plot_file.proofs.TilesLaws.{count_is, no_paths}
use Rattle.plot_file.proofs.holes.hole_record.Goals as goal

pub returns-then-plot-gt0 : goal.returns-then-plot-gt0
unfolding map_answer
returns-then-plot-gt0 c =
    sym (hole_body_misplaced (plot_of c.args.plot) _ (omega (arith, c.if-plot-gt0.true, count_is c.args.plot.tiles)))

pub returns-in_default : goal.returns-in_default
unfolding map_answer
returns-in_default c =
    sym (hole_body_cut (plot_of c.args.plot) _ (no_paths c.args.plot.tiles c.if-plot-gt0.false) c.in_default.len_below)

pub returns-in_err-board : goal.returns-in_err-board
returns-in_err-board c =
    let is = hole_body_at (plot_of c.args.plot) c.args.bytes.now (no_paths c.args.plot.tiles c.if-plot-gt0.false) c.in-len2-up.len_at_least in
    pair_refused _ _ _ is _ (rw (c.from.ensures, c.from-2.ensures) at c.with_hole.ensures) _ c.in_err-board.was _ c.from_residual.ensures.1

pub returns : goal.returns
returns c =
    let is = hole_body_at (plot_of c.args.plot) c.args.bytes.now (no_paths c.args.plot.tiles c.if-plot-gt0.false) c.in-len2-up.len_at_least in
    pair_read _ _ _ is _ (rw (c.from.ensures, c.from-2.ensures) at c.with_hole.ensures) _ c.in_ok-board.was _ c.started.ensures
