-- `plot_file::records::no_plot` meets its contract: the board of 0 by 0 has no marks.
-- Assumes nothing.
use Rattle.plot_file.proofs.StepLaws.{plot_none}
use Rattle.plot_file.proofs.TilesLaws.{none_clean}
use Rattle.plot_file.proofs.records.no_plot.Goals as goal

pub invariant_of-result : goal.invariant_of-result
invariant_of-result c = record { kept = none_clean _ c.new.ensures }

pub returns : goal.returns
returns c = (plot_none _ _ _ c.of_words-none.ensures.0 c.of_marks.ensures c.new.ensures, c.new.ensures)
