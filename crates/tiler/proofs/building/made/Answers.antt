-- `tiler::building::made` meets its contract: board and tiles are judged, the graph grows, its room and its counts are judged, and it is finished.
-- Assumes nothing.
use mathlib.Core.Path.{◌∙◌}
use native.Mathlib.Nat.{le_of_eq}
use Rattle.cells.specs.Set.{Sound}
use Rattle.graph.proofs.RoomLaws.{node_room_lem, edge_room_lem}
use Rattle.expansion.proofs.ExpansionLaws.{judged_size, judged_refused}
use Rattle.tiler.proofs.FinishLaws.{plot_refused, ok_or_refused, graph_refused, graph_refused_on, graph_made, count_asks, finish_asks, made_no_room, made_no_room_for_edges, made_large, made_finished}
use borrow.Author.Rules.{rules}
use Rattle.tiler.proofs.building.made.Goals as goal

pub returns-in_err-size : goal.returns-in_err-size
returns-in_err-size c =
    graph_refused_on _ _ _ _ _ _ _ _ _ _ c.from_residual.ensures.1 (plot_refused _ _ _ _ _ _ (judged_refused _ _ _ _ c.judge.ensures c.in_err-size.was))

pub invariant_of-plot : goal.invariant_of-plot
invariant_of-plot c =
    let plot = judged_size _ _ _ _ c.judge.ensures c.in_ok-size.was in
    record { accepted = plot.0; step = plot.1 }

pub grown-growth-requires : goal.grown-growth-requires
grown-growth-requires c =
    let nodes = node_room_lem _ _ _ (le_of_eq c.node_room-node_room.ensures) in
    let edges = edge_room_lem _ _ (le_of_eq c.edge_room-edge_room.ensures) in
    (nodes.0, edges)

pub returns-in_err-n : goal.returns-in_err-n
returns-in_err-n c =
    let fixed : Sound c.args.board.fixed = record { s0 = search (rules, c.well_formed); s1 = search (rules, c.well_formed); s2 = search (rules, c.well_formed); s3 = search (rules, c.well_formed) } in
    let laid : Sound c.args.board.laid = record { s0 = search (rules, c.well_formed); s1 = search (rules, c.well_formed); s2 = search (rules, c.well_formed); s3 = search (rules, c.well_formed) } in
    let plot = judged_size _ _ _ _ c.judge.ensures c.in_ok-size.was in
    graph_refused_on _ _ _ _ _ _ _ _ _ _ c.from_residual-in_err-n.ensures.1
    (made_no_room _ _ plot.0 fixed laid plot.2 _ _ _ _ _ c.node_room-node_room.ensures c.edge_room-edge_room.ensures _ _ _ c.grown-growth.ensures c.grown-growth.auto.nodes c.grown-growth.auto.edges c.in_err-n.ensures.ok_part ∙ ok_or_refused _ _ _ c.in_err-n.ensures.value c.in_err-n.ensures.ok_part)

pub returns-then-edge_room-e : goal.returns-then-edge_room-e
returns-then-edge_room-e c =
    let fixed : Sound c.args.board.fixed = record { s0 = search (rules, c.well_formed); s1 = search (rules, c.well_formed); s2 = search (rules, c.well_formed); s3 = search (rules, c.well_formed) } in
    let laid : Sound c.args.board.laid = record { s0 = search (rules, c.well_formed); s1 = search (rules, c.well_formed); s2 = search (rules, c.well_formed); s3 = search (rules, c.well_formed) } in
    let plot = judged_size _ _ _ _ c.judge.ensures c.in_ok-size.was in
    graph_refused _ _ _ _ _ _ _ _ _ (made_no_room_for_edges _ _ plot.0 fixed laid plot.2 _ _ _ _ _ c.node_room-node_room.ensures c.edge_room-edge_room.ensures _ _ _ c.grown-growth.ensures c.grown-growth.auto.nodes c.grown-growth.auto.edges _ _ c.in_ok-n.ensures.ok_part c.if-edge_room-e.true)

pub count_paths-requires : goal.count_paths-requires
count_paths-requires c =
    let fixed : Sound c.args.board.fixed = record { s0 = search (rules, c.well_formed); s1 = search (rules, c.well_formed); s2 = search (rules, c.well_formed); s3 = search (rules, c.well_formed) } in
    let laid : Sound c.args.board.laid = record { s0 = search (rules, c.well_formed); s1 = search (rules, c.well_formed); s2 = search (rules, c.well_formed); s3 = search (rules, c.well_formed) } in
    let plot = judged_size _ _ _ _ c.judge.ensures c.in_ok-size.was in
    count_asks _ _ plot.0 fixed laid plot.2 _ _ _ _ _ c.node_room-node_room.ensures c.edge_room-edge_room.ensures _ _ _ c.grown-growth.ensures c.grown-growth.auto.nodes c.grown-growth.auto.edges _ _ c.in_ok-n.ensures.ok_part c.if-edge_room-e.false

pub returns-then-not-count_paths : goal.returns-then-not-count_paths
returns-then-not-count_paths c =
    let fixed : Sound c.args.board.fixed = record { s0 = search (rules, c.well_formed); s1 = search (rules, c.well_formed); s2 = search (rules, c.well_formed); s3 = search (rules, c.well_formed) } in
    let laid : Sound c.args.board.laid = record { s0 = search (rules, c.well_formed); s1 = search (rules, c.well_formed); s2 = search (rules, c.well_formed); s3 = search (rules, c.well_formed) } in
    let plot = judged_size _ _ _ _ c.judge.ensures c.in_ok-size.was in
    graph_refused _ _ _ _ _ _ _ _ _ (made_large _ _ plot.0 fixed laid plot.2 _ _ _ _ _ c.node_room-node_room.ensures c.edge_room-edge_room.ensures _ _ _ c.grown-growth.ensures c.grown-growth.auto.nodes c.grown-growth.auto.edges _ _ c.in_ok-n.ensures.ok_part c.if-edge_room-e.false _ _ c.count_paths.ensures c.if-not-count_paths.true)

pub finished-requires : goal.finished-requires
finished-requires c =
    let fixed : Sound c.args.board.fixed = record { s0 = search (rules, c.well_formed); s1 = search (rules, c.well_formed); s2 = search (rules, c.well_formed); s3 = search (rules, c.well_formed) } in
    let laid : Sound c.args.board.laid = record { s0 = search (rules, c.well_formed); s1 = search (rules, c.well_formed); s2 = search (rules, c.well_formed); s3 = search (rules, c.well_formed) } in
    let plot = judged_size _ _ _ _ c.judge.ensures c.in_ok-size.was in
    finish_asks _ _ plot.0 fixed laid plot.2 _ _ _ _ _ c.node_room-node_room.ensures c.edge_room-edge_room.ensures _ _ _ c.grown-growth.ensures c.grown-growth.auto.nodes c.grown-growth.auto.edges _ _ c.in_ok-n.ensures.ok_part c.if-edge_room-e.false

pub returns : goal.returns
returns c =
    let fixed : Sound c.args.board.fixed = record { s0 = search (rules, c.well_formed); s1 = search (rules, c.well_formed); s2 = search (rules, c.well_formed); s3 = search (rules, c.well_formed) } in
    let laid : Sound c.args.board.laid = record { s0 = search (rules, c.well_formed); s1 = search (rules, c.well_formed); s2 = search (rules, c.well_formed); s3 = search (rules, c.well_formed) } in
    let plot = judged_size _ _ _ _ c.judge.ensures c.in_ok-size.was in
    graph_made _ _ _ _ _ _ _ _ _
    (made_finished _ _ plot.0 fixed laid plot.2 _ _ _ _ _ c.node_room-node_room.ensures c.edge_room-edge_room.ensures _ _ _ c.grown-growth.ensures c.grown-growth.auto.nodes c.grown-growth.auto.edges _ _ c.in_ok-n.ensures.ok_part c.if-edge_room-e.false _ _ c.count_paths.ensures _ _ _ (λ i. search rules) c.if-not-count_paths.false c.finished.ensures)
