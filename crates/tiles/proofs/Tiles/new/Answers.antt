-- `tiles::Tiles::new` meets its contract: zeros store no tiles.
-- Assumes nothing.
use Rattle.cells.specs.ArrayLaws.{replicate_list_of}
use Rattle.tiles.specs.StoredLaws.{stores_none}
use Rattle.tiles.proofs.Tiles.new.Goals as goal

pub returns : goal.returns
returns c = stores_none _ _ (replicate_list_of 0 64 0) (replicate_list_of 0 2048 0)
