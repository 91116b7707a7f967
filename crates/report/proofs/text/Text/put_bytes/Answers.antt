-- `report::text::Text::put_bytes` meets its contract: as many bytes as there is room for are copied to the place (`puts_copied`). Assumes nothing.
use Rattle.std.proofs.Common.{refl, arith}
use Rattle.report.specs.TextLaws.{puts_copied}
use Rattle.report.proofs.text.Text.put_bytes.Goals as goal

pub returns : goal.returns
returns c =
    let inside = c.args.self.now.inside in
    record {
      same = refl;
      bytes = puts_copied _ _ _ _ _ _ inside c.min-n.ensures (omega arith) c.copy_from_slice.ensures.after;
      next = omega (arith, c.min-n.ensures);
    }
