-- `tiles::Tiles::orbit` meets its contract: the turns of the tile, and then those of its reflection, are collected (`orbit_is`).
-- Assumes nothing.
use Rattle.std.proofs.Common.{◌≡◌, ◌≤◌, Err, ap, ◌∙◌, length, arith, rules}
use Rattle.direction.specs.declared.Axis.TheVariants as A
use Rattle.refusal.specs.Refusal.{answer_of, map_answer}
use Rattle.tile.specs.Path.{reflected, path_in}
use Rattle.tile.specs.StoredLaws.{length_path_in, read_path_given, read_tile_accepted, read_tile_given}
use Rattle.tile.proofs.MadeLaws.{passes_refusal}
use Rattle.tiles.specs.Paths.{orbit, tiles_of}
use Rattle.tiles.proofs.MadeLaws.{made_is_ok, made_is, image_given, orbit_starts, orbit_goes_on, orbit_is, makes_tiles}
use Rattle.tiles.proofs.Tiles.orbit.Goals as goal

pub returns-in_err-check : goal.returns-in_err-check
unfolding map_answer
returns-in_err-check c =
    let r : c.from_residual.result ≡ Err c.in_err-check.field-0.0 = search rules in
    ap answer_of r ∙ ap (map_answer tiles_of) (passes_refusal orbit _ _ c.in_err-check.ensures)

pub unwrap-first-requires : goal.unwrap-first-requires
unwrap-first-requires c =
    let ok = read_tile_accepted c.args.tile c.in_ok-check.ensures in
    let short : length (path_in c.args.tile) ≤ 32 = omega (arith, ok.0, length_path_in c.args.tile) in
    made_is_ok _ _ (read_path_given _ short ok.1) _ c.new.ensures

pub unwrap-mirror-requires : goal.unwrap-mirror-requires
unwrap-mirror-requires c =
    let ok = read_tile_accepted c.args.tile c.in_ok-check.ensures in
    made_is_ok _ _ (image_given (reflected A.Horizontal) c.args.tile ok.0 ok.1) _ c.reflect.ensures

pub with_turns-half-requires : goal.with_turns-half-requires
with_turns-half-requires c =
    let ok = read_tile_accepted c.args.tile c.in_ok-check.ensures in
    let short : length (path_in c.args.tile) ≤ 32 = omega (arith, ok.0, length_path_in c.args.tile) in
    let first = made_is _ _ (read_path_given _ short ok.1) _ c.new.ensures _ c.unwrap-first.ensures in
    orbit_starts _ short ok.1 _ c.new-2.ensures _ first

pub with_turns-requires : goal.with_turns-requires
with_turns-requires c =
    let ok = read_tile_accepted c.args.tile c.in_ok-check.ensures in
    let short : length (path_in c.args.tile) ≤ 32 = omega (arith, ok.0, length_path_in c.args.tile) in
    let first = made_is _ _ (read_path_given _ short ok.1) _ c.new.ensures _ c.unwrap-first.ensures in
    let mirror = made_is _ _ (image_given (reflected A.Horizontal) c.args.tile ok.0 ok.1) _ c.reflect.ensures _ c.unwrap-mirror.ensures in
    orbit_goes_on _ short ok.1 _ c.new-2.ensures _ first _ c.with_turns-half.ensures _ mirror

pub returns : goal.returns
unfolding map_answer
returns c =
    let ok = read_tile_accepted c.args.tile c.in_ok-check.ensures in
    let short : length (path_in c.args.tile) ≤ 32 = omega (arith, ok.0, length_path_in c.args.tile) in
    let first = made_is _ _ (read_path_given _ short ok.1) _ c.new.ensures _ c.unwrap-first.ensures in
    let mirror = made_is _ _ (image_given (reflected A.Horizontal) c.args.tile ok.0 ok.1) _ c.reflect.ensures _ c.unwrap-mirror.ensures in
    makes_tiles _ _ _ (ap (map_answer orbit) (read_tile_given _ ok.0 ok.1))
    (c.with_turns.ensures ∙ orbit_is _ short ok.1 _ c.new-2.ensures _ first _ c.with_turns-half.ensures _ mirror)
