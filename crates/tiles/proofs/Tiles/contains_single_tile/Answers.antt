-- `tiles::Tiles::contains_single_tile` meets its contract: the test decides, and then the lengths.
-- Assumes nothing.
use Rattle.std.proofs.Common.{◌≡◌, Err, ap, sym, ◌∙◌, rules}
use Rattle.refusal.specs.Refusal.{given, answer_of, map_answer}
use Rattle.tiles.specs.Paths.{contains_single}
use Rattle.tiles.specs.ReadLaws.{read_tiles_accepted}
use Rattle.tile.proofs.MadeLaws.{passes_refusal}
use Rattle.tiles.proofs.Tiles.contains_single_tile.Goals as goal

pub returns-in_err-check : goal.returns-in_err-check
returns-in_err-check c =
    let r : c.from_residual.result ≡ Err c.in_err-check.field-0.0 = search rules in
    ap answer_of r ∙ passes_refusal contains_single _ _ c.in_err-check.ensures

pub has_single-requires : goal.has_single-requires
has_single-requires c = (read_tiles_accepted c.args.self c.in_ok-check.ensures).0

pub returns : goal.returns
unfolding map_answer
returns c = ap given c.has_single.ensures ∙ sym (ap (map_answer contains_single) (read_tiles_accepted c.args.self c.in_ok-check.ensures).1)
