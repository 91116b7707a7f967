-- `layers::counting::start` meets its contract: the marks are stored as the first board, and its count is 1.
-- Assumes nothing.
use lib.Dec.{lit<}
use Rattle.path_count.specs.PathCountLaws.{word_count}
use Rattle.layers.proofs.StartLaws.{first_entries}
use Rattle.layers.proofs.counting.start.Goals as goal

pub returns : goal.returns
returns c =
    first_entries c.args.board _ c.args.counts.now _ _ _ _ c.marks.ensures (word_count 1 (lit< tt) _ c.of_words.ensures) c.put.ensures c.put-2.ensures
    c.requires.0 c.requires.1
