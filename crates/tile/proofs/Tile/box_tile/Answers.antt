-- `tile::Tile::box_tile` meets its contract: zeros store the empty path.
-- Assumes nothing.
use Rattle.std.proofs.Common.{refl, [], lit≤}
use Rattle.tile.proofs.CodeLaws.{stores_over}
use Rattle.tile.proofs.Tile.box_tile.Goals as goal

pub returns : goal.returns
returns c = stores_over [] 0 _ refl (lit≤ tt) refl
