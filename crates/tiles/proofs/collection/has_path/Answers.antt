-- `tiles::collection::has_path` meets its contract: the tiles are compared in order.
-- Assumes nothing.
use Rattle.std.proofs.Common.{sym, ◌∙◌, below_more, arith}
use Rattle.cells.specs.Lists.{holds}
use Rattle.cells.specs.ArrayLaws.{any_list_of, none_list_of}
use Rattle.tiles.proofs.collection.has_path.Goals as goal

pub same_at-requires : goal.same_at-requires
same_at-requires c =
    let few = c.requires.few in
    let short = c.requires.short c.loop-i.i in
    omega arith

pub returns-then-same_at : goal.returns-then-same_at
unfolding holds
returns-then-same_at c =
    sym (any_list_of _ _ _ _ c.loop-i-test.true (sym c.same_at.ensures ∙ c.if-same_at.true))

pub loop-i-preserved : goal.loop-i-preserved
loop-i-preserved c = below_more _ _ c.loop-i.invariant (sym c.same_at.ensures ∙ c.if-same_at.false)

pub returns : goal.returns
unfolding holds
returns c = sym (none_list_of _ _ _ (λ k h. c.loop-i.invariant k (omega arith)))
