-- `layers::counting::count_accepted` meets its contract: no room, a full start, or layer 0 in the first words and the layers from it on. Assumes nothing.
use mathlib.Core.Path.{refl}
use lib.Dec.{lit<}
use native.Mathlib.Omega.{arith}
use Rattle.refusal.specs.RefusalLaws.{is_ok_given}
use Rattle.graph.proofs.RoomLaws.{layer_room_lem}
use Rattle.path_count.specs.PathCountLaws.{word_count}
use Rattle.layers.proofs.LayerLaws.{room_kept}
use Rattle.layers.proofs.StartLaws.{free_answer, free_number, positive, start_no_room, start_full, start_ready, start_run}
use borrow.Author.Rules.{rules}
use Rattle.layers.proofs.counting.count_accepted.Goals as goal

pub returns-then-room-eq0 : goal.returns-then-room-eq0
returns-then-room-eq0 c = start_no_room _ _ _ _ c.layer_room-room.ensures c.if-room-eq0.true

pub returns-then-free-eq0 : goal.returns-then-free-eq0
returns-then-free-eq0 c =
    start_full _ _ c.args.plot.accepted (search (rules, c.well_formed)) (search (rules, c.well_formed)) _ (free_number _ c.args.plot.accepted.board _ c.free_cells.ensures _ c.unwrap-free.ensures) _ _ c.layer_room-room.ensures c.if-room-eq0.false
    _ (word_count 0 (lit< tt) _ c.of_words.ensures) c.if-free-eq0.true

pub unwrap-free-requires : goal.unwrap-free-requires
unwrap-free-requires c = is_ok_given _ _ (free_answer _ c.args.plot.accepted.board _ c.free_cells.ensures)

-- w is that the room is lent
pub start-requires : goal.start-requires
start-requires c =
    let w = layer_room_lem _ _ _ _ _ c.layer_room-room.ensures in
    let some = positive _ c.if-room-eq0.false in
    (omega (arith, w.0, some), omega (arith, w.1, some))

pub invariant_of-first : goal.invariant_of-first
invariant_of-first c =
    let w = layer_room_lem _ _ _ _ _ c.layer_room-room.ensures in
    record {
      boards_lent = omega (arith, w.0, c.start.auto.boards);
      counts_lent = room_kept _ _ _ w.1 c.start.auto.counts;
      fits = omega (arith, positive _ c.if-room-eq0.false);
    }

pub invariant_of-next : goal.invariant_of-next
invariant_of-next c =
    let w = layer_room_lem _ _ _ _ _ c.layer_room-room.ensures in
    record { boards_lent = w.2; counts_lent = w.3; fits = omega arith }

pub run-requires : goal.run-requires
run-requires c = (
  start_ready _ _ c.args.plot.accepted (search (rules, c.well_formed)) (search (rules, c.well_formed)) _ (free_number _ c.args.plot.accepted.board _ c.free_cells.ensures _ c.unwrap-free.ensures) _ _ c.layer_room-room.ensures c.if-room-eq0.false
      _ c.start.ensures,
  refl,
)

pub returns : goal.returns
returns c =
    start_run _ _ c.args.plot.accepted (search (rules, c.well_formed)) (search (rules, c.well_formed)) _ (free_number _ c.args.plot.accepted.board _ c.free_cells.ensures _ c.unwrap-free.ensures) _ _ c.layer_room-room.ensures c.if-room-eq0.false
    _ c.start.ensures c.if-free-eq0.false _ c.run.ensures.answer
