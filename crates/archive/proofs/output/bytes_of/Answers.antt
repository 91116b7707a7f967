-- `archive::output::bytes_of` meets its contract: part by part.
-- Assumes nothing.
use Rattle.std.proofs.Common.{◌∙◌, ◌^◌, ◌<◌, rules}
use Rattle.cells.specs.Lists.{ascii}
use Rattle.archive.proofs.OutputLaws.{record_parts}
use Rattle.archive.proofs.output.bytes_of.Goals as goal

pub returns : goal.returns
unfolding ascii
returns c =
    let fits : c.args.«record».low < 2 ^ 64 = search rules in
    rw (
      c.copy_from_slice.ensures.after,
      c.copy_from_slice-2.ensures.after ∙ c.to_be_bytes.ensures,
      c.copy_from_slice-3.ensures.after ∙ c.to_be_bytes-2.ensures,
      c.copy_from_slice-4.ensures.after ∙ c.to_be_bytes-3.ensures,
      c.copy_from_slice-5.ensures.after ∙ c.to_be_bytes-4.ensures,
      c.copy_from_slice-6.ensures.after ∙ c.to_be_bytes-5.ensures,
    )
    (record_parts c.args.«record» fits)
