-- `cells::list::get` meets its contract: the four words at the place, or none.
-- Assumes nothing.
use mathlib.Core.Path.{◌∙◌}
use Rattle.cells.specs.ListLaws.{set_at_none, set_at_value, number_none}
use native.Mathlib.Omega.{arith}
use Rattle.cells.proofs.list.get.Goals as goal

pub returns-then-words-i : goal.returns-then-words-i
returns-then-words-i c = number_none ∙ set_at_none _ _ c.if-words-i.true

pub returns : goal.returns
returns c = c.of_words.ensures.0 ∙ set_at_value _ _ (omega arith)
