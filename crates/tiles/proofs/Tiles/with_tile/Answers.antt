-- `tiles::Tiles::with_tile` meets its contract: below 64 there is room (`with_tile_given`).
-- Assumes nothing.
use Rattle.std.proofs.Common.{ap, sym, ◌∙◌, arith}
use Rattle.refusal.specs.Refusal.{given}
use Rattle.tiles.specs.StoredLaws.{with_tile_given}
use Rattle.tiles.proofs.Tiles.with_tile.Goals as goal

pub returns : goal.returns
returns c = ap given c.appended.ensures ∙ sym (with_tile_given c.args.self c.args.tile (omega arith))
