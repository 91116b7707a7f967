-- `numbered_tilings::judged` meets its contract: the tests stand in the order of the refusals, and a graph without a cause of 11 lets the list be walked.
-- Assumes nothing.
use Rattle.std.proofs.Common.{sym, ◌∙◌}
use Rattle.numbered_tilings.proofs.WalkLoops.{edges_lent_lem, walkable, answers_bad, answers_none, answers_short, answers_given}
use borrow.Author.Tests.{ltb-true, ltb-false}
use Rattle.numbered_tilings.proofs.judged.Goals as goal

pub returns-then-is_bad_graph : goal.returns-then-is_bad_graph
returns-then-is_bad_graph c = answers_bad _ _ _ _ _ _ (sym c.is_bad_graph.ensures ∙ c.if-is_bad_graph.true)

pub returns-then-not-less : goal.returns-then-not-less
returns-then-not-less c =
    answers_none _ _ _ _ _ (sym c.is_bad_graph.ensures ∙ c.if-is_bad_graph.false) _ c.count_tilings_from_graph-count.ensures _
    (ltb-false _ _ (sym c.less.ensures ∙ c.if-not-less.true))

pub invariant_of-words : goal.invariant_of-words
invariant_of-words c = record { lent = edges_lent_lem _ _ _ _ 0 (sym c.is_bad_graph.ensures ∙ c.if-is_bad_graph.false) }

pub list_length-size-requires : goal.list_length-size-requires
list_length-size-requires c =
    walkable _ _ _ _ _ (sym c.is_bad_graph.ensures ∙ c.if-is_bad_graph.false) _ c.count_tilings_from_graph-count.ensures
    (ltb-true _ _ (sym c.less.ensures ∙ c.if-not-less.false)) _ c.unwrap_or.ensures

pub returns-then-room-size : goal.returns-then-room-size
returns-then-room-size c =
    answers_short _ _ _ _ _ (sym c.is_bad_graph.ensures ∙ c.if-is_bad_graph.false) _ c.count_tilings_from_graph-count.ensures
    (ltb-true _ _ (sym c.less.ensures ∙ c.if-not-less.false)) _ c.unwrap_or.ensures _ _ c.list_length-size.ensures c.if-room-size.true

pub returns : goal.returns
returns c =
    answers_given _ _ _ _ _ (sym c.is_bad_graph.ensures ∙ c.if-is_bad_graph.false) _ c.count_tilings_from_graph-count.ensures
    (ltb-true _ _ (sym c.less.ensures ∙ c.if-not-less.false)) _ c.unwrap_or.ensures _ _ c.list_length-size.ensures c.if-room-size.false
