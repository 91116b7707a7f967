-- `tiler::building::find_complete` meets its contract: the nodes behind node 0 are tested one by one.
-- Assumes nothing.
use mathlib.Core.Path.{sym, subst}
use Rattle.expansion.specs.Boards.{From}
use Rattle.cells.specs.SearchLaws.{missed_more}
use Rattle.tiler.proofs.FinishLaws.{full_at_lem, complete_found, complete_none}
use native.Mathlib.Omega.{arith}
use Rattle.tiler.proofs.building.find_complete.Goals as goal

pub is_full-requires : goal.is_full-requires
is_full-requires c = subst (From _) (sym c.get.ensures) (c.requires _ (omega arith))

pub returns-then-is_full : goal.returns-then-is_full
returns-then-is_full c =
    complete_found _ _ c.loop-i.invariant _ (omega arith) (omega arith)
    (full_at_lem c.args.board _ _ _ _ c.is_full.ensures c.get.ensures c.if-is_full.true)

pub loop-i-preserved : goal.loop-i-preserved
loop-i-preserved c = missed_more _ _ _ c.loop-i.invariant (full_at_lem c.args.board _ _ _ _ c.is_full.ensures c.get.ensures c.if-is_full.false)

pub returns : goal.returns
returns c = complete_none _ _ c.loop-i.invariant _ (omega arith)
