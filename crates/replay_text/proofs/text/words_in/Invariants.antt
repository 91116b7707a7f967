use Prim.Native.Nat.{◌≤◌}
use lib.ListN.{length}
use Rattle.replay_text.proofs.text.words_in.Given as goal

abbrev pub invariant-loop-part : goal.invariant-loop-part
invariant-loop-part l = l.count ≤ length l.words
