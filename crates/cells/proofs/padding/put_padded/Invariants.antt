use Rattle.std.proofs.Common.{length, get_or}
use Rattle.cells.specs.ArrayLaws.{Filled}
use Rattle.cells.proofs.padding.put_padded.Given as goal

abbrev pub invariant-loop-i : goal.invariant-loop-i
invariant-loop-i g l = Filled l.zero (λ k. get_or l.items k l.zero) (λ k. get_or l.initial.out k l.zero) (length l.initial.out) l.i l.out
