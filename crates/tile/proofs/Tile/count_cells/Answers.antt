-- `tile::Tile::count_cells` meets its contract: a tile that is accepted is counted.
-- Assumes nothing.
use Rattle.std.proofs.Common.{◌≡◌, Err, ap, sym, ◌∙◌, arith, rules}
use Rattle.refusal.specs.Refusal.{answer_of, map_answer, given}
use Rattle.tile.specs.Path.{cell_count}
use Rattle.tile.specs.StoredLaws.{read_tile_accepted, read_tile_given, length_path_in}
use Rattle.tile.proofs.MadeLaws.{passes_refusal}
use Rattle.tile.proofs.Tile.count_cells.Goals as goal

pub returns-in_err-check : goal.returns-in_err-check
returns-in_err-check c =
    let r : c.from_residual.result ≡ Err c.in_err-check.field-0.0 = search rules in
    ap answer_of r ∙ passes_refusal cell_count _ _ c.in_err-check.ensures

pub count-requires : goal.count-requires
count-requires c =
    let ok = read_tile_accepted c.args.self c.in_ok-check.ensures in
    (omega (arith, ok.0, length_path_in c.args.self), ok.1)

pub returns : goal.returns
unfolding map_answer
returns c =
    let ok = read_tile_accepted c.args.self c.in_ok-check.ensures in
    ap given c.count.ensures ∙ sym (ap (map_answer cell_count) (read_tile_given c.args.self ok.0 ok.1))
