-- `plot_file::marks::read_mark` meets its contract: the first two bytes, if they are there.
-- Assumes nothing.
use Rattle.std.proofs.Common.{refl}
use Rattle.refusal.specs.Refusal.{map_answer}
use Rattle.plot_file.proofs.ReadLaws.{read_mark_cut, read_mark_not, read_mark_at}
use Rattle.plot_file.proofs.marks.read_mark.Goals as goal

pub returns-in_default : goal.returns-in_default
unfolding map_answer
returns-in_default c = read_mark_cut c.args.bytes.now c.in_default.len_below

pub returns-in_err-mark : goal.returns-in_err-mark
returns-in_err-mark c = read_mark_not c.args.bytes.now c.in-len2-up.len_at_least _ c.try_from.ensures _ c.in_err-mark.was _ c.from_residual.ensures.1

pub returns : goal.returns
returns c = read_mark_at c.args.bytes.now c.in-len2-up.len_at_least _ c.try_from.ensures _ c.in_ok-mark.was _ refl
