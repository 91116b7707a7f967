-- Laws of the calls over a host's words: an outcome by what it is, and answers of too few words and of enough. Rests on `Calls`. Assumes nothing.
use Rattle.std.specs.Prelude.{◌≡◌, List, ℕ, ◌≤◌, ◌<◌}
use Rattle.std.proofs.Common.{subst, le-leb}
use Rattle.std.proofs.lemmas.Bool.{lt-leb}
use Rattle.archive.specs.Archive.{Outcome, refused_by, LeavesOutcome}
use Rattle.host_records.specs.Calls.{unless_short}

-- an outcome by what it is
pub leaves_as : (old new : List ℕ) (a b : Outcome (List ℕ)) (r : ℕ) → a ≡ b → LeavesOutcome a old new r → LeavesOutcome b old new r
leaves_as old new a b r e = subst (λ (o : Outcome (List ℕ)). LeavesOutcome o old new r) e

-- ---- answers of too few words

module _ {A : Type 0} (needed words : ℕ) (a : Outcome A) where
  pub unless_short_lem : words < needed → refused_by 8 ≡ unless_short needed words a
  unfolding unless_short
  unless_short_lem h = rw (lt-leb needed words h)

  pub unless_enough : needed ≤ words → a ≡ unless_short needed words a
  unfolding unless_short
  unless_enough h = rw (le-leb needed words h)
