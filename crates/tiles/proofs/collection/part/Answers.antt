-- `tiles::collection::part` meets its contract: the part is copied.
-- Assumes nothing.
use Rattle.std.proofs.Common.{◌∙◌}
use Rattle.tiles.proofs.CodeLaws.{part_is}
use Rattle.tiles.proofs.collection.part.Goals as goal

pub returns : goal.returns
returns c = c.copy_from_slice.ensures.after ∙ part_is c.args.codes.now c.args.from c.requires
