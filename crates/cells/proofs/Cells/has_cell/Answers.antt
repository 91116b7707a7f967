-- `cells::Cells::has_cell` meets its contract: the cell is looked up in its word (`has_cell_word`).
-- Assumes nothing.
use borrow.Author.Rules.{rules}
use Rattle.cells.specs.Set.{Sound}
use Rattle.cells.specs.WordLaws.{has_cell_past, has_cell_word}
use Rattle.cells.proofs.Match.{rest_le}
use Rattle.cells.proofs.Cells.has_cell.Goals as goal
use Rattle.cells.proofs.Cells.has_cell.Goals.{Start}

sound : (c : Start) → Sound c.args.self
sound c = record { s0 = search rules; s1 = search rules; s2 = search rules; s3 = search rules }

pub returns-in-0 : goal.returns-in-0
returns-in-0 c = has_cell_word _ (sound c.before.before) _ 0 c.in-0.is

pub returns-in-1 : goal.returns-in-1
returns-in-1 c = has_cell_word _ (sound c.before.before) _ 1 c.in-1.is

pub returns-in-2 : goal.returns-in-2
returns-in-2 c = has_cell_word _ (sound c.before.before) _ 2 c.in-2.is

pub returns-in-3 : goal.returns-in-3
returns-in-3 c = has_cell_word _ (sound c.before.before) _ 3 c.in-3.is

pub returns-in_default : goal.returns-in_default
returns-in_default c = has_cell_past _ (sound c.before) _ (rest_le 4 _ c.in_default.in_default-own.rest)
