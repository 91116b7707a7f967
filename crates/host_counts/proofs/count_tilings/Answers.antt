-- `host_counts::count_tilings` meets its contract: the call where the shapes are right, and zeros where they are not.
-- Assumes nothing.
use lib.ListN.{length}
use Rattle.graph.specs.Graph.{layer_room}
use Rattle.layers.specs.LayerCounts.{count_tilings}
use Rattle.host_counts.specs.Calls.{counted}
use Rattle.host_counts.proofs.HostLaws.{count_accepted, count_unshaped}
use Rattle.host_counts.proofs.ToldLaws.{count_told_lem}
use Rattle.host_counts.proofs.count_tilings.Goals as goal

pub returns-in-Ok : goal.returns-in-Ok
unfolding counted
returns-in-Ok c =
    count_accepted _ _ c.args.marks.now c.args.tiles.now c.args.answer.now _ c.of_plot.ensures
    (λ b ts. count_tilings b ts (layer_room (length c.args.boards_a.now) (length c.args.counts_a.now) (length c.args.boards_b.now) (length c.args.counts_b.now))) _ _ _ _ _ _ _ _ _ _ _ _
    c.in-Ok.is c.board_from-board.ensures c.tiles_from-tiles.ensures
    (count_told_lem _ _ _ _ _ c.count_tilings-count.ensures.answer c.tell_count.ensures)

pub returns-in-Err : goal.returns-in-Err
unfolding counted
returns-in-Err c =
    count_unshaped c.args.width c.args.height c.args.marks.now c.args.tiles.now c.args.answer.now _ c.of_plot.ensures
    (λ b ts. count_tilings b ts (layer_room (length c.args.boards_a.now) (length c.args.counts_a.now) (length c.args.boards_b.now) (length c.args.counts_b.now))) _ _ _ _ _ _ _ _ _ _ _
    c.in-Err.is c.refuse_count.ensures
