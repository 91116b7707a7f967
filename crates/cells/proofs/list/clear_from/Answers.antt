-- `cells::list::clear_from` meets its contract: zeros are written behind the place.
-- Assumes nothing.
use Rattle.std.proofs.Common.{rules, ◌∙◌, ap}
use lib.ListN.{replicate}
use native.Mathlib.Omega.{arith}
use Rattle.cells.proofs.ListLoops.{cleared_filled, cleared_none}
use Rattle.cells.proofs.list.clear_from.Goals as goal

pub returns-then-from-words : goal.returns-then-from-words
returns-then-from-words c = cleared_filled _ _ _ c.if-from-words.true (c.fill.ensures.after (λ y e. e) ∙ ap (λ n. replicate n 0) (search rules))

pub returns-else-from-words : goal.returns-else-from-words
returns-else-from-words c = cleared_none _ _ (omega (arith, c.if-from-words.false))
