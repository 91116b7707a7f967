-- `cells::Cells::union` meets its contract: word by word (`number_or`).
-- Assumes nothing.
use borrow.Author.Rules.{rules}
use Rattle.cells.specs.Set.{Sound}
use Rattle.cells.specs.WordLaws.{number_or}
use Rattle.cells.proofs.Cells.union.Goals as goal
use Rattle.cells.proofs.Cells.union.Goals.{Start}

sound : (c : Start) → Sound c.args.self
sound c = record { s0 = search rules; s1 = search rules; s2 = search rules; s3 = search rules }

sound_other : (c : Start) → Sound c.args.other
sound_other c = record { s0 = search rules; s1 = search rules; s2 = search rules; s3 = search rules }

pub returns : goal.returns
returns c = number_or _ _ (sound c.before.before.before.before.before.before.before.before) (sound_other c.before.before.before.before.before.before.before.before)
