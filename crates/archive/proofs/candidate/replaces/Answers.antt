-- `archive::candidate::replaces` meets its contract: the year, and then the revision.
-- Assumes nothing.
use Rattle.std.proofs.Common.{◌∙◌}
use Rattle.archive.proofs.ReadingLaws.{replaces_pair}
use Rattle.archive.proofs.candidate.replaces.Goals as goal

pub returns : goal.returns
returns c = c.le.ensures ∙ replaces_pair c.args.«record» c.args.before
