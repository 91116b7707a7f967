-- `cells::Cells::of_words` meets its contract: each word has 64 bits, so the number has 256.
-- Assumes nothing.
use borrow.Author.Rules.{rules}
use Rattle.cells.specs.WordLaws.{number_words, number_lt}
use Rattle.cells.proofs.Cells.of_words.Goals as goal

pub returns : goal.returns
returns c = (
  number_words _ _ _ _,
  number_lt _ (record { s0 = search rules; s1 = search rules; s2 = search rules; s3 = search rules }),
)
