-- `tile::points::with_key` meets its contract: a key that is there adds nothing (`keys_in_old`), a new one is stored behind (`keys_in_new`).
-- Assumes nothing.
use Rattle.std.proofs.Common.{◌≡◌, sym, ◌∙◌, length, arith, rules}
use Rattle.tile.proofs.KeyLaws.{keys_in_new, keys_in_old}
use Rattle.tile.proofs.points.with_key.Goals as goal

pub returns-then-contains : goal.returns-then-contains
returns-then-contains c =
    (keys_in_old c.args.seen c.args.key (sym c.contains.ensures.value ∙ c.if-contains.true), omega arith)

pub returns : goal.returns
returns c =
    let h : length c.args.seen.keys ≡ 33 = search rules in
    (keys_in_new c.args.seen c.args.key (omega arith) (sym c.contains.ensures.value ∙ c.if-contains.false), omega arith)
