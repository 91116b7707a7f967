-- `board::shape::without` meets its contract: no word of the part is above that of the set (`word_le`), and the words' differences hold the
-- difference (`number_without`).
-- Assumes nothing.
use borrow.Author.Rules.{rules}
use Rattle.cells.specs.Set.{Sound}
use Rattle.board.proofs.WithoutLaws.{word_le, number_without}
use Rattle.board.proofs.shape.without.Goals as goal
use Rattle.board.proofs.shape.without.Goals.{Start}

sound_set : (c : Start) → Sound c.args.set
sound_set c = record { s0 = search rules; s1 = search rules; s2 = search rules; s3 = search rules }

sound_part : (c : Start) → Sound c.args.part
sound_part c = record { s0 = search rules; s1 = search rules; s2 = search rules; s3 = search rules }

pub overflow_sub-result : goal.overflow_sub-result
overflow_sub-result c = word_le _ _ (sound_part c.before.before) (sound_set c.before.before) c.requires 0

pub overflow_sub-result-2 : goal.overflow_sub-result-2
overflow_sub-result-2 c = word_le _ _ (sound_part c.before.before.before.before) (sound_set c.before.before.before.before) c.requires 1

pub overflow_sub-result-3 : goal.overflow_sub-result-3
overflow_sub-result-3 c = word_le _ _ (sound_part c.before.before.before.before.before.before) (sound_set c.before.before.before.before.before.before) c.requires 2

pub overflow_sub-result-4 : goal.overflow_sub-result-4
overflow_sub-result-4 c = word_le _ _ (sound_part c.before.before.before.before.before.before.before.before) (sound_set c.before.before.before.before.before.before.before.before) c.requires 3

pub returns : goal.returns
returns c = number_without c.args.part c.args.set (sound_part c.before.before.before.before.before.before.before.before) (sound_set c.before.before.before.before.before.before.before.before) c.requires
