-- `plot_file::records::started` meets its contract: no tiles, and where to go on.
-- Assumes nothing.
use Rattle.plot_file.proofs.StepLaws.{starts}
use Rattle.plot_file.proofs.TilesLaws.{none_clean}
use Rattle.plot_file.proofs.records.started.Goals as goal

pub invariant_of-result : goal.invariant_of-result
invariant_of-result c = record { kept = none_clean _ c.new.ensures }

pub returns : goal.returns
returns c = starts _ _ _ c.new.ensures
