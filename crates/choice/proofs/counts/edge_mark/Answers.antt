-- `choice::counts::edge_mark` meets its contract: by the first and the last.
-- Assumes nothing.
use Rattle.std.proofs.Common.{◌≡◌, ◌+◌, ◌||◌, eqb, ap, ◌∙◌}
use borrow.Author.Tests.{eq-eqb, ne_eqb}
use Rattle.choice.specs.Choice.{one}
use Rattle.choice.proofs.ChoiceLaws.{one_byte, one_le}
use Rattle.choice.proofs.counts.edge_mark.Goals as goal
use Rattle.choice.proofs.counts.edge_mark.Goals.{then-at-eq0, else-at-eq0}

pub returns : goal.returns
returns c =
    let at = c.args.at in
    let test : c.if-at-eq0.from ≡ (eqb at 0 || eqb (at + 1) c.args.count) =
    elim c.if-at-eq0.branch [
      | then-at-eq0 w ↦ let e = eq-eqb at 0 w.if-at-eq0.true in rw e (w.from-is ∙ e)
      | else-at-eq0 w ↦ rw (ne_eqb at 0 w.if-at-eq0.false) w.from-is
    ] in
    let e = c.from.ensures ∙ one_byte c.if-at-eq0.from in
    (e ∙ ap one test, rw e (one_le c.if-at-eq0.from))
