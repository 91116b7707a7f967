-- `single_tiling::descent::descend` meets its contract, by the number of free cells: a full board ends the walk; else the pieces on its chosen cell are laid
-- one after the other, and the walk goes on from each child until one of them reaches a full board. Assumes nothing.
use Rattle.std.proofs.Common.{◌≡◌, None, ◌∙◌, refl, sym, arith}
use Rattle.refusal.specs.RefusalLaws.{is_ok_given}
use Rattle.rectangle.specs.Board.{is_full}
use Rattle.board.proofs.SoundLaws.{board_sound}
use Rattle.single_tiling.proofs.PlaceLaws.{read_given, full_is}
use Rattle.single_tiling.proofs.WalkSteps.{is_some_of, is_none_of, front_board, same_next, fewer_is, room_below, front_same, walked_same, found_none, child_ready, child_none, none_more, says_full, says_nowhere, says_none, says_some}
use Rattle.single_tiling.proofs.descent.+descend.Goals as goal

pub unwrap-full-requires : goal.unwrap-full-requires
unwrap-full-requires t c = is_ok_given _ _ (c.is_all_marked.ensures ∙ read_given _ c.requires.0.board is_full)

pub returns-then-full : goal.returns-then-full
returns-then-full t c =
    let sound = board_sound _ c.well_formed.0 in
    let front = front_board _ _ _ _ _ c.requires.1 c.marks.ensures c.put.ensures in
    says_full c.args.here sound.0 sound.1 _ _ c.requires.0 _ _ _ front (sym (full_is _ c.requires.0.board _ c.is_all_marked.ensures _ c.unwrap-full.ensures) ∙ c.if-full.true)

pub returns-in_err-cell : goal.returns-in_err-cell
returns-in_err-cell t c =
    let sound = board_sound _ c.well_formed.0 in
    let front = front_board _ _ _ _ _ c.requires.1 c.marks.ensures c.put.ensures in
    rw c.from_residual.ensures
    (says_nowhere c.args.here sound.0 sound.1 _ _ c.requires.0 _ _ _ front (sym (full_is _ c.requires.0.board _ c.is_all_marked.ensures _ c.unwrap-full.ensures) ∙ c.if-full.false) (c.in_err-cell.ensures _ c.requires.0.singles))

pub loop-i-init : goal.loop-i-init
loop-i-init t c = ((refl, λ k h. refl), λ k h. absurd (omega arith))

pub loop-i-preserved-in_default : goal.loop-i-preserved-in_default
loop-i-preserved-in_default t c =
    let sound = board_sound _ c.well_formed.0 in (
      c.loop-i.invariant.0,
      none_more _ _ c.loop-i.invariant.1 (child_none c.args.here sound.0 sound.1 _ _ c.requires.0 _ _ _ c.in_default.is c.new_fit.ensures c.loop-i.invariant.1),
    )

pub descend-found-requires : goal.descend-found-requires
descend-found-requires t c =
    let sound = board_sound _ c.well_formed.0 in
    let child = child_ready c.args.here sound.0 sound.1 _ _ c.requires.0 _ _ c.loop-i-test.true _ _ c.in-Some.is c.new_fit.ensures _ c.mark_tile_at_position-child.ensures in
    let same = c.loop-i.invariant.0.0 ∙ c.put.auto.words in
    (fewer_is _ _ _ child.1 c.decreases, (child.0, room_below _ _ _ c.args.out.now c.loop-i.out child.1 c.requires.1 same))

pub returns-then-is_some : goal.returns-then-is_some
returns-then-is_some t c =
    let sound = board_sound _ c.well_formed.0 in
    let front = front_board _ _ _ _ _ c.requires.1 c.marks.ensures c.put.ensures in
    let child = child_ready c.args.here sound.0 sound.1 _ _ c.requires.0 _ _ c.loop-i-test.true _ _ c.in-Some.is c.new_fit.ensures _ c.mark_tile_at_position-child.ensures in
    let some = is_some_of _ (sym c.is_some.ensures ∙ c.if-is_some.true) in
    rw some.1
    (says_some c.args.here sound.0 sound.1 _ _ c.requires.0 _ _ _ (front_same _ _ _ _ _ front c.loop-i.invariant.0) (sym (full_is _ c.requires.0.board _ c.is_all_marked.ensures _ c.unwrap-full.ensures) ∙ c.if-full.false) _
    (c.in_ok-cell.ensures _ c.requires.0.singles) _ c.loop-i-test.true c.loop-i.invariant.1 _ child.2 _ _ _ some.1 c.descend-found.ensures)

pub loop-i-preserved : goal.loop-i-preserved
loop-i-preserved t c =
    let sound = board_sound _ c.well_formed.0 in
    let child = child_ready c.args.here sound.0 sound.1 _ _ c.requires.0 _ _ c.loop-i-test.true _ _ c.in-Some.is c.new_fit.ensures _ c.mark_tile_at_position-child.ensures in
    let none : c.descend-found.result ≡ None = is_none_of _ (sym c.is_some.ensures ∙ c.if-is_some.false) in (
      same_next _ _ _ _ c.loop-i.invariant.0 (walked_same _ _ _ _ _ none c.descend-found.auto.out c.descend-found.ensures),
      none_more _ _ c.loop-i.invariant.1 (child.2 ∙ found_none _ _ (sym none ∙ c.descend-found.ensures.answer)),
    )

pub returns : goal.returns
returns t c =
    let sound = board_sound _ c.well_formed.0 in
    let front = front_board _ _ _ _ _ c.requires.1 c.marks.ensures c.put.ensures in
    says_none c.args.here sound.0 sound.1 _ _ c.requires.0 _ _ _ (front_same _ _ _ _ _ front c.loop-i.invariant.0) (sym (full_is _ c.requires.0.board _ c.is_all_marked.ensures _ c.unwrap-full.ensures) ∙ c.if-full.false) _
    (c.in_ok-cell.ensures _ c.requires.0.singles) (λ k h. c.loop-i.invariant.1 k (omega (arith, c.loop-i-test.false)))
