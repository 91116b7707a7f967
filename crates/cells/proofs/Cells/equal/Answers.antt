-- `cells::Cells::equal` meets its contract: the first two words that differ decide (`eqb_word`), else the
-- last two (`eqb_last`).
-- Assumes nothing.
use Rattle.std.proofs.Common.{◌∙◌, ne_eqb}
use borrow.Author.Rules.{rules}
use Rattle.cells.specs.WordLaws.{eqb_word, eqb_last}
use Rattle.cells.proofs.Cells.equal.Goals as goal

pub returns-then-self-other-3 : goal.returns-then-self-other-3
returns-then-self-other-3 c =
    eqb_last _ _ (record { s0 = search rules; s1 = search rules; s2 = search rules; s3 = search rules }) (record { s0 = search rules; s1 = search rules; s2 = search rules; s3 = search rules }) c.if-self-other.true c.if-self-other-2.true c.if-self-other-3.true

pub returns-else-self-other-3 : goal.returns-else-self-other-3
returns-else-self-other-3 c =
    ne_eqb _ _ c.if-self-other-3.false ∙ eqb_word _ _ (record { s0 = search rules; s1 = search rules; s2 = search rules; s3 = search rules }) (record { s0 = search rules; s1 = search rules; s2 = search rules; s3 = search rules }) 2 c.if-self-other-3.false

pub returns-else-self-other-2 : goal.returns-else-self-other-2
returns-else-self-other-2 c =
    ne_eqb _ _ c.if-self-other-2.false ∙ eqb_word _ _ (record { s0 = search rules; s1 = search rules; s2 = search rules; s3 = search rules }) (record { s0 = search rules; s1 = search rules; s2 = search rules; s3 = search rules }) 1 c.if-self-other-2.false

pub returns-else-self-other : goal.returns-else-self-other
returns-else-self-other c =
    ne_eqb _ _ c.if-self-other.false ∙ eqb_word _ _ (record { s0 = search rules; s1 = search rules; s2 = search rules; s3 = search rules }) (record { s0 = search rules; s1 = search rules; s2 = search rules; s3 = search rules }) 0 c.if-self-other.false
