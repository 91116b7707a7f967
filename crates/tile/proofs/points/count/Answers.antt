-- `tile::points::count` meets its contract: the keys of the points, first appearances kept, are as many as the cells (`cell_count_keys`).
-- Assumes nothing.
use Rattle.std.proofs.Common.{◌≡◌, ◌∷◌, [], sym, ap, ◌∙◌, length, length-take-le, arith, rules}
use Rattle.cells.specs.Lists.{any, holds, add_new}
use Rattle.tile.specs.Inner.{keys_in}
use Rattle.tile.specs.PathLaws.{codes_ok_at}
use Rattle.tile.proofs.KeyLaws.{near_first, near_step, cell_count_keys, add_firsts_step, add_firsts_end}
use Rattle.tile.proofs.points.count.Goals as goal

pub loop-code-init : goal.loop-code-init
unfolding add_new holds any
loop-code-init c =
    let first : keys_in c.with_key-seen.result ≡ 5050 ∷ [] = c.with_key-seen.ensures.0 in
    let few = c.with_key-seen.ensures.1 in
    record { few = omega arith; room = search rules; near = near_first; rest = rw first }

pub overflow_add-key : goal.overflow_add-key
overflow_add-key c = let near = c.loop-code.invariant.near in let long = c.requires.0 in omega arith

pub loop-code-preserved : goal.loop-code-preserved
loop-code-preserved c =
    let inv = c.loop-code.invariant in
    let stepped = c.key_step.ensures.0 in
    let inside = c.loop-code-test.true in
    let long = c.requires.0 in
    record {
      few = omega (arith, c.with_key-seen-in-loop-code.ensures.1);
      room = search rules;
      near = rw stepped (near_step _ (codes_ok_at _ _ c.requires.1 inside) _ _ inv.near (omega arith));
      rest = rw (c.with_key-seen-in-loop-code.ensures.0, stepped) (inv.rest ∙ add_firsts_step _ _ _ _ inside);
    }

pub returns : goal.returns
returns c =
    let inv = c.loop-code.invariant in
    let long = c.requires.0 in
    let room = inv.room in
    sym (length-take-le _ _ (omega arith))
    ∙ ap length (sym (inv.rest ∙ add_firsts_end _ _ _ _ c.loop-code-test.false c.loop-code.auto.code-index-end))
    ∙ cell_count_keys _ c.requires.1 long
