-- `tiles::collection::all_cover` meets its contract: the tiles are counted in order.
-- Assumes nothing.
use Rattle.std.proofs.Common.{sym, ◌∙◌, arith}
use Rattle.tiles.proofs.CountLaws.{equal_counts_fails, equal_counts_all}
use Rattle.tiles.proofs.collection.all_cover.Goals as goal

pub returns-then-count_at-cells : goal.returns-then-count_at-cells
returns-then-count_at-cells c =
    sym (equal_counts_fails c.args.tiles c.args.cells c.requires.1 _ c.loop-i-test.true (λ e. c.if-count_at-cells.true (c.count_at.ensures ∙ e)))

pub returns : goal.returns
returns c = sym (equal_counts_all c.args.tiles c.args.cells c.requires.1 (λ k h. c.loop-i.invariant k (omega arith)))
