-- `cells::Cells::with_cell` meets its contract: the cell is added to its word (`number_set`).
-- Assumes nothing.
use borrow.Author.Rules.{rules}
use mathlib.Core.Path.{refl}
use lib.Dec.{lit<}
use Rattle.cells.specs.Set.{Sound}
use Rattle.cells.specs.WordLaws.{number_set, with_cell_none}
use Rattle.cells.proofs.Match.{rest_le}
use Rattle.cells.proofs.Cells.with_cell.Goals as goal
use Rattle.cells.proofs.Cells.with_cell.Goals.{Start}

sound : (c : Start) → Sound c.args.self
sound c = record { s0 = search rules; s1 = search rules; s2 = search rules; s3 = search rules }

pub returns-in-0 : goal.returns-in-0
returns-in-0 c = number_set _ _ (sound c.before.before) _ 0 (lit< tt) c.in-0.is refl

pub returns-in-1 : goal.returns-in-1
returns-in-1 c = number_set _ _ (sound c.before.before) _ 1 (lit< tt) c.in-1.is refl

pub returns-in-2 : goal.returns-in-2
returns-in-2 c = number_set _ _ (sound c.before.before) _ 2 (lit< tt) c.in-2.is refl

pub returns-in-3 : goal.returns-in-3
returns-in-3 c = number_set _ _ (sound c.before.before) _ 3 (lit< tt) c.in-3.is refl

pub returns-in_default : goal.returns-in_default
returns-in_default c = with_cell_none _ _ (rest_le 4 _ c.in_default.in_default-own.rest)
