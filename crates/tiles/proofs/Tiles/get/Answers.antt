-- `tiles::Tiles::get` meets its contract: below 64 the length and the part of the codes (`tile_at_is`), from 64 on no codes (`tile_at_past`).
-- Assumes nothing.
use Rattle.std.proofs.Common.{◌≡◌, ◌∙◌, length, arith, rules}
use Rattle.tiles.specs.StoredLaws.{tile_at_is, tile_at_past}
use Rattle.tiles.proofs.Tiles.get.Goals as goal

pub returns-then-i-ge64 : goal.returns-then-i-ge64
returns-then-i-ge64 c =
    let lens : length c.args.self.lens ≡ 64 = search rules in
    let codes : length c.args.self.codes ≡ 2048 = search rules in
    c.box_tile.ensures ∙ tile_at_past c.args.self c.args.i (omega arith) (omega arith)

pub returns : goal.returns
returns c = tile_at_is c.args.self c.args.i _ c.part.ensures
