-- `tile::Tile::reflect` meets its contract: a tile that is accepted is moved.
-- Assumes nothing.
use Rattle.std.proofs.Common.{◌≡◌, ◌≤◌, Err, ap, sym, ◌∙◌, cond, ltb, get_or, length, take, length-take-le, arith, rules, tests}
use Rattle.std.proofs.Math.ListN.{length-map}
use Rattle.direction.specs.Direction.{reflect}
use Rattle.refusal.specs.Refusal.{answer_of, map_answer}
use Rattle.tile.specs.Path.{reflected, tile_of}
use Rattle.tile.specs.StoredLaws.{read_tile_accepted, read_tile_given}
use Rattle.tile.proofs.CodeLaws.{made_of, image_codes, stores}
use Rattle.tile.proofs.MadeLaws.{passes_refusal, makes_given}
use Rattle.tile.proofs.Tile.reflect.Goals as goal

pub returns-in_err-check : goal.returns-in_err-check
unfolding map_answer
returns-in_err-check c =
    let r : c.from_residual.result ≡ Err c.in_err-check.field-0.0 = search rules in
    ap answer_of r ∙ ap (map_answer tile_of) (passes_refusal (reflected c.args.axis) _ _ c.in_err-check.ensures)

pub returns : goal.returns
unfolding map_answer reflected
returns c =
    let ok = read_tile_accepted c.args.self c.in_ok-check.ensures in
    let n = c.args.self.len in
    let codes = c.args.self.codes in
    let long : length codes ≡ 32 = search rules in
    let whole : n ≤ length codes = omega (arith, ok.0) in
    let made = made_of _ _ _ (λ k. cond (ltb k n) ((reflect c.args.axis) (get_or codes k 0)) 0) 0 (λ x y q called. search (rules, tests)) 32 c.from_fn.ensures.items in
    makes_given _ _ _ (ap (map_answer (reflected c.args.axis)) (read_tile_given c.args.self ok.0 ok.1))
    (stores _ n _ (sym (length-map (take n codes) (reflect c.args.axis) ∙ length-take-le n codes whole)) (made ∙ image_codes (reflect c.args.axis) codes n whole))
