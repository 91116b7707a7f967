-- `cells::Cells::shares_cell` meets its contract: word by word (`shares_cell_word`, `shares_cell_last`).
-- Assumes nothing.
use borrow.Author.Rules.{rules}
use Rattle.cells.specs.Set.{Sound}
use Rattle.cells.specs.WordLaws.{shares_cell_word, shares_cell_last}
use Rattle.cells.proofs.Cells.shares_cell.Goals as goal
use Rattle.cells.proofs.Cells.shares_cell.Goals.{Start}

sound : (c : Start) → Sound c.args.self
sound c = record { s0 = search rules; s1 = search rules; s2 = search rules; s3 = search rules }

sound_other : (c : Start) → Sound c.args.other
sound_other c = record { s0 = search rules; s1 = search rules; s2 = search rules; s3 = search rules }

pub returns-then-self-other-ne0 : goal.returns-then-self-other-ne0
returns-then-self-other-ne0 c = shares_cell_word _ _ (sound c.before.before.before) (sound_other c.before.before.before) 0 c.if-self-other-ne0.true

pub returns-then-self-other-ne0-2 : goal.returns-then-self-other-ne0-2
returns-then-self-other-ne0-2 c = shares_cell_word _ _ (sound c.before.before.before.before.before.before) (sound_other c.before.before.before.before.before.before) 1 c.if-self-other-ne0-2.true

pub returns-then-self-other-ne0-3 : goal.returns-then-self-other-ne0-3
returns-then-self-other-ne0-3 c =
    shares_cell_word _ _ (sound c.before.before.before.before.before.before.before.before.before) (sound_other c.before.before.before.before.before.before.before.before.before) 2 c.if-self-other-ne0-3.true

pub returns : goal.returns
returns c =
    shares_cell_last _ _ (sound c.before.before.before.before.before.before.before.before.before.before.before) (sound_other c.before.before.before.before.before.before.before.before.before.before.before) c.if-self-other-ne0.false c.if-self-other-ne0-2.false c.if-self-other-ne0-3.false
