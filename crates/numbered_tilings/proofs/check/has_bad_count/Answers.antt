-- `numbered_tilings::check::has_bad_count` meets its contract: the counts of the nodes are tested one by one.
-- Assumes nothing.
use Rattle.std.proofs.Common.{sym, ◌∙◌, arith}
use Rattle.cells.specs.ArrayLaws.{any_list_of, none_list_of}
use Rattle.numbered_tilings.proofs.check.has_bad_count.Goals as goal

pub returns-then-is_bad_count : goal.returns-then-is_bad_count
returns-then-is_bad_count c = sym (any_list_of _ (λ u. u) _ _ c.loop-v-test.true (sym c.is_bad_count.ensures ∙ c.if-is_bad_count.true))

pub returns : goal.returns
returns c = sym (none_list_of _ (λ u. u) _ (λ u h. c.loop-v.invariant u (omega (arith, c.loop-v-test.false))))
