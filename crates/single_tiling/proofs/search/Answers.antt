-- `single_tiling::search` meets its contract: the boards that the walk found stand in front, and zeros behind them.
-- Assumes nothing.
use Rattle.board.proofs.SoundLaws.{board_sound}
use Rattle.single_tiling.proofs.SearchLaws.{boards_few, gets_boards, gets_nothing}
use native.Mathlib.Omega.{arith}
use Rattle.single_tiling.proofs.search.Goals as goal

pub overflow_mul-n : goal.overflow_mul-n
overflow_mul-n c =
    let sound = board_sound _ c.well_formed.0 in
    let w = c.walk-found in
    let few = boards_few _ sound.0 sound.1 _ _ _ c.requires _ _ w.ensures w.auto.out _ c.in-Some.is in
    omega (arith, few.1)

pub returns-in-Some : goal.returns-in-Some
returns-in-Some c =
    let sound = board_sound _ c.well_formed.0 in
    let w = c.walk-found in
    gets_boards _ sound.0 sound.1 _ _ _ c.requires _ _ w.ensures w.auto.out _ _
    c.in-Some.is (λ i. grind arith) c.clear_from.ensures

pub returns-in-None : goal.returns-in-None
returns-in-None c =
    let sound = board_sound _ c.well_formed.0 in
    let w = c.walk-found in
    gets_nothing _ sound.0 sound.1 _ _ _ c.requires _ _ w.ensures w.auto.out _ c.in-None.is c.clear_from-in-None.ensures
