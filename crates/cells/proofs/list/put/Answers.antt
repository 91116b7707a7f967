-- `cells::list::put` meets its contract: its four words, where they are all lent.
-- Assumes nothing.
use mathlib.Core.Path.{sym}
use lib.ListN.{length-set}
use Rattle.cells.specs.ListLaws.{with_set_none}
use Rattle.cells.proofs.ListLoops.{with_set_words}
use borrow.Author.Rules.{rules}
use native.Mathlib.Omega.{arith}
use Rattle.cells.proofs.list.put.Goals as goal

pub bounds-words-at-then-i-words : goal.bounds-words-at-then-i-words
bounds-words-at-then-i-words c = simp length-set (omega arith)

pub bounds-words-at-then-i-words-2 : goal.bounds-words-at-then-i-words-2
bounds-words-at-then-i-words-2 c = simp length-set (omega arith)

pub bounds-words-at-then-i-words-3 : goal.bounds-words-at-then-i-words-3
bounds-words-at-then-i-words-3 c = simp length-set (omega arith)

pub returns-then-i-words : goal.returns-then-i-words
returns-then-i-words c = with_set_words _ _ _ (record { s0 = search rules; s1 = search rules; s2 = search rules; s3 = search rules }) c.if-i-words.true

pub returns-else-i-words : goal.returns-else-i-words
returns-else-i-words c = sym (with_set_none _ _ _ c.if-i-words.false)
