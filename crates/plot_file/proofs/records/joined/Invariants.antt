use Rattle.plot_file.proofs.TilesLaws.{Joined}
use Rattle.plot_file.proofs.records.joined.Given as goal

abbrev pub invariant-loop-i : goal.invariant-loop-i
invariant-loop-i l = Joined l.initial.all l.others l.i l.all
