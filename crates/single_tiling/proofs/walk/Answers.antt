-- `single_tiling::walk` meets its contract: with no free cell, and where the free cells are no sum, there is no tiling; else the walk finds the first.
-- Assumes nothing.
use mathlib.Core.Path.{sym, subst}
use Prim.Native.Nat.{ℕ, ◌≤◌}
use Rattle.board.proofs.SoundLaws.{board_sound}
use Rattle.rectangle.proofs.FreeLaws.{free_le}
use Rattle.refusal.specs.RefusalLaws.{is_ok_given}
use Rattle.single_tiling.proofs.JudgeLaws.{single_told, single_is}
use Rattle.single_tiling.proofs.SearchLaws.{searched_held, walk_full, walk_no_sum, walk_first}
use Rattle.single_tiling.proofs.walk.Goals as goal

pub returns-then-free-eq0 : goal.returns-then-free-eq0
returns-then-free-eq0 c =
    let sound = board_sound _ c.well_formed.0 in
    walk_full _ sound.0 sound.1 _ _ _ c.requires _ c.if-free-eq0.true

pub is_sum-requires : goal.is_sum-requires
is_sum-requires c = (c.requires.tiles, subst (λ (n : ℕ). n ≤ 256) (sym c.requires.cells) (free_le _))

pub returns-then-not-is_sum : goal.returns-then-not-is_sum
returns-then-not-is_sum c =
    let sound = board_sound _ c.well_formed.0 in
    walk_no_sum _ sound.0 sound.1 _ _ _ c.requires _ _ c.if-not-is_sum.true c.is_sum.ensures

pub unwrap-single-requires : goal.unwrap-single-requires
unwrap-single-requires c = is_ok_given _ _ (single_told _ c.requires.tiles _ c.contains_single_tile.ensures)

pub descend-requires : goal.descend-requires
descend-requires c =
    let sound = board_sound _ c.well_formed.0 in
    searched_held _ sound.0 sound.1 _ _ _ c.requires _ (single_is _ c.requires.tiles _ c.contains_single_tile.ensures _ c.unwrap-single.ensures)

pub returns : goal.returns
returns c =
    let sound = board_sound _ c.well_formed.0 in
    walk_first _ sound.0 sound.1 _ _ _ c.requires _ _ _ c.if-free-eq0.false c.descend.ensures
