-- `cells::list::find` meets its contract: the sets that are lent are compared one by one from the first on.
-- Assumes nothing.
use Rattle.cells.proofs.ListLoops.{looked_at}
use Rattle.cells.specs.SearchLaws.{missed_more, set_found, set_missed}
use borrow.Author.Rules.{rules}
use native.Mathlib.Omega.{arith}
use Rattle.cells.proofs.list.find.Goals as goal

pub loop-i-init : goal.loop-i-init
loop-i-init c = λ k a b. absurd (omega arith)

pub returns-then-equal : goal.returns-then-equal
returns-then-equal c =
    set_found _ _ _ _ _ c.loop-i.invariant (search rules) (search rules) (search rules)
    (looked_at _ _ _ _ _ _ c.get.ensures c.equal.ensures c.if-equal.true)

pub loop-i-preserved : goal.loop-i-preserved
loop-i-preserved c = missed_more _ _ _ c.loop-i.invariant (looked_at _ _ _ _ _ _ c.get.ensures c.equal.ensures c.if-equal.false)

pub returns : goal.returns
returns c = set_missed _ _ _ _ _ c.loop-i.invariant (search rules)
