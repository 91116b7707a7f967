-- `numbered_tilings::check::is_bad_graph` meets its contract: the causes of refusal 11 are tested one by one.
-- Assumes nothing.
use Rattle.std.proofs.Common.{sym, ◌∙◌}
use Rattle.numbered_tilings.proofs.CheckLaws.{edges_lent_lem, no_nodes_lem, nodes_pass_lem, edges_pass_lem, full_past_lem, edge_bad, counts_told}
use Rattle.numbered_tilings.proofs.check.is_bad_graph.Goals as goal
use Rattle.numbered_tilings.proofs.check.is_bad_graph.Goals.{then-n-eq0-via-then-n-eq0, then-n-eq0-via-else-n-eq0+then-node_room-n, then-n-eq0-via-else-n-eq0+else-node_room-n+then-edge_room-graph, then-n-eq0-via-else-n-eq0+else-node_room-n+else-edge_room-graph+then-is_past}

pub returns-then-n-eq0 : goal.returns-then-n-eq0
returns-then-n-eq0 c =
    elim c.then-n-eq0.branch [
      | then-n-eq0-via-then-n-eq0 w ↦ no_nodes_lem _ _ _ _ w.if-n-eq0.true
      | then-n-eq0-via-else-n-eq0+then-node_room-n w ↦ nodes_pass_lem _ _ _ _ w.if-n-eq0.false _ w.node_room.ensures w.if-node_room-n.true
      | then-n-eq0-via-else-n-eq0+else-node_room-n+then-edge_room-graph w ↦ edges_pass_lem _ _ _ _ w.if-n-eq0.false _ w.node_room.ensures w.if-node_room-n.false _ w.edge_room.ensures w.if-edge_room-graph.true
      | then-n-eq0-via-else-n-eq0+else-node_room-n+else-edge_room-graph+then-is_past w ↦ full_past_lem _ _ _ _ w.if-n-eq0.false _ w.node_room.ensures w.if-node_room-n.false _ w.edge_room.ensures w.if-edge_room-graph.false (sym w.is_past.ensures ∙ w.if-is_past.true)
    ]

pub invariant_of-words : goal.invariant_of-words
invariant_of-words c = record { lent = edges_lent_lem _ _ _ c.edge_room.ensures c.if-edge_room-graph.false }

pub returns-then-has_bad_edge : goal.returns-then-has_bad_edge
returns-then-has_bad_edge c =
    c.if-has_bad_edge.true
    ∙ edge_bad _ _ _ _ c.if-n-eq0.false _ c.node_room.ensures c.if-node_room-n.false _
    c.edge_room.ensures c.if-edge_room-graph.false (sym c.is_past.ensures ∙ c.if-is_past.false)
    (sym c.has_bad_edge.ensures ∙ c.if-has_bad_edge.true)

pub returns-else-has_bad_edge : goal.returns-else-has_bad_edge
returns-else-has_bad_edge c =
    counts_told _ _ _ _ c.if-n-eq0.false _ c.node_room.ensures c.if-node_room-n.false _
    c.edge_room.ensures c.if-edge_room-graph.false (sym c.is_past.ensures ∙ c.if-is_past.false)
    (sym c.has_bad_edge.ensures ∙ c.if-has_bad_edge.false) _ c.has_bad_count.ensures
