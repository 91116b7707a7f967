-- A turn begins at a place of the file with the plot so far, from which on the file comes to what it holds (`Going`), and behind the turn before.
use Rattle.std.proofs.Common.{◌≡◌, ◌-◌, length}
use Rattle.plot_file.proofs.StepLaws.{Going}
use Rattle.plot_file.proofs.read_records.Given as goal

abbrev pub invariant-loop-step : goal.invariant-loop-step
invariant-loop-step l = (l.reader.file.now ≡ l.file) × Going l.file l.reader.at l.plot

abbrev pub decreases-loop-step : goal.decreases-loop-step
decreases-loop-step l = length l.file - l.reader.at
