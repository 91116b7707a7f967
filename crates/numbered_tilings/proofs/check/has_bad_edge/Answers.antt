-- `numbered_tilings::check::has_bad_edge` meets its contract: the edges are tested one by one.
-- Assumes nothing.
use Rattle.std.proofs.Common.{sym, ◌∙◌, arith}
use Rattle.cells.specs.ArrayLaws.{any_list_of, none_list_of}
use Rattle.numbered_tilings.proofs.check.has_bad_edge.Goals as goal

pub returns-then-is_bad_edge : goal.returns-then-is_bad_edge
returns-then-is_bad_edge c = sym (any_list_of _ _ _ _ c.loop-i-test.true (sym c.is_bad_edge.ensures ∙ c.if-is_bad_edge.true))

pub returns : goal.returns
returns c = sym (none_list_of _ _ _ (λ j h. c.loop-i.invariant j (omega (arith, c.loop-i-test.false))))
