-- `archive::write_record` meets its contract: zeros where there is no room, and else the bytes.
-- Assumes nothing.
use Rattle.std.proofs.Common.{ap, ◌∙◌, length}
use Rattle.cells.specs.Lists.{padded}
use Rattle.archive.proofs.OutputLaws.{write_short, write_whole}
use Rattle.archive.proofs.write_record.Goals as goal

pub returns-then-out-lt24 : goal.returns-then-out-lt24
returns-then-out-lt24 c = write_short _ _ _ c.if-out-lt24.true (c.fill.ensures.after (λ y e. e))

pub returns : goal.returns
unfolding padded
returns c = write_whole _ _ _ c.if-out-lt24.false (c.put_padded.ensures ∙ ap (λ l. padded l (length c.args.out.now)) c.bytes_of.ensures)
