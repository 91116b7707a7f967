-- `tiles::Tiles::count_cells` meets its contract: the test decides, and then the numbers of cells.
-- Assumes nothing.
use Rattle.std.proofs.Common.{◌≡◌, Err, ap, sym, ◌∙◌, rules}
use Rattle.refusal.specs.Refusal.{given, answer_of, map_answer}
use Rattle.tiles.specs.Paths.{shared_count, read_tiles}
use Rattle.refusal.specs.RefusalLaws.{refused_of}
use Rattle.tiles.specs.ReadLaws.{read_tiles_accepted}
use Rattle.tiles.specs.EqualLaws.{read_equal_tiles_refused, read_equal_tiles_equal, read_equal_tiles_unequal}
use Rattle.tiles.proofs.Tiles.count_cells.Goals as goal

pub returns-in_err-check : goal.returns-in_err-check
unfolding map_answer
returns-in_err-check c =
    let r : c.from_residual.result ≡ Err c.in_err-check.field-0.0 = search rules in
    let read = refused_of (read_tiles c.args.self) _ c.in_err-check.ensures in
    ap answer_of r ∙ sym (ap (map_answer shared_count) (read_equal_tiles_refused c.args.self _ read))

pub first_count-cells-requires : goal.first_count-cells-requires
first_count-cells-requires c = (read_tiles_accepted c.args.self c.in_ok-check.ensures).1

pub all_cover-requires : goal.all_cover-requires
all_cover-requires c = ((read_tiles_accepted c.args.self c.in_ok-check.ensures).1, c.first_count-cells.ensures)

pub returns-then-not-all_cover : goal.returns-then-not-all_cover
unfolding map_answer
returns-then-not-all_cover c =
    let read = (read_tiles_accepted c.args.self c.in_ok-check.ensures).1 in
    let unequal = sym c.all_cover.ensures ∙ c.if-not-all_cover.true in
    sym (ap (map_answer shared_count) (read_equal_tiles_unequal c.args.self _ read unequal))

pub returns : goal.returns
unfolding map_answer
returns c =
    let read = (read_tiles_accepted c.args.self c.in_ok-check.ensures).1 in
    let equal = sym c.all_cover.ensures ∙ c.if-not-all_cover.false in
    ap given c.first_count-cells.ensures ∙ sym (ap (map_answer shared_count) (read_equal_tiles_equal c.args.self _ read equal))
