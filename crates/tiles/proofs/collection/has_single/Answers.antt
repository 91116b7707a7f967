-- `tiles::collection::has_single` meets its contract: a tile is single where its length is 0.
-- Assumes nothing.
use Rattle.std.proofs.Common.{◌≡◌, length, rules}
use Rattle.tiles.proofs.CodeLaws.{single_cases}
use Rattle.tiles.proofs.collection.has_single.Goals as goal

pub returns : goal.returns
returns c =
    let long : length c.args.tiles.codes ≡ 2048 = search rules in
    let lens : length c.args.tiles.lens ≡ 64 = search rules in
    single_cases c.args.tiles long lens c.requires c.contains.result c.contains.ensures.cases
