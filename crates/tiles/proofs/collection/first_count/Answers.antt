-- `tiles::collection::first_count` meets its contract: with a tile, the first is counted.
-- Assumes nothing.
use Rattle.std.proofs.Common.{◌∙◌}
use Rattle.tiles.proofs.CountLaws.{shared_count_none, shared_count_first}
use Rattle.tiles.proofs.collection.first_count.Goals as goal

pub returns-then-tiles-eq0 : goal.returns-then-tiles-eq0
returns-then-tiles-eq0 c = shared_count_none c.args.tiles c.if-tiles-eq0.true

pub returns : goal.returns
returns c = c.count_at.ensures ∙ shared_count_first c.args.tiles c.if-tiles-eq0.false
