-- `board::RectangularBoard::with_marks` meets its contract: the laid marks are the union's less the fixed ones.
-- Assumes nothing.
use Rattle.std.proofs.Common.{ℕ, ◌-◌, sym, ap, ◌∙◌, subst}
use Rattle.cells.specs.BitLaws.{Within}
use Rattle.cells.specs.SetLaws.{within_union}
use Rattle.cells.specs.Set.{number}
use Rattle.cells.specs.WordLaws.{number_lt}
use Rattle.board.proofs.MadeLaws.{with_parts}
use Rattle.board.proofs.SoundLaws.{board_sound}
use Rattle.board.proofs.RectangularBoard.with_marks.Goals as goal

pub without-laid-requires : goal.without-laid-requires
without-laid-requires c =
    subst (Within (number c.args.self.fixed)) (sym c.union.ensures) (within_union _ _ (number_lt _ (board_sound _ c.well_formed.0).0))

pub returns : goal.returns
returns c = with_parts c.args.self _ _ _ c.of_marks.ensures (c.without-laid.ensures ∙ ap (λ (n : ℕ). n - number c.args.self.fixed) c.union.ensures)
