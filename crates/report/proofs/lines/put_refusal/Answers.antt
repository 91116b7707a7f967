-- `report::lines::put_refusal` meets its contract: the line of the refusal's number. Assumes nothing.
use mathlib.Core.Path.{ap}
use mathlib.Core.List.{◌++◌}
use Prim.Native.Nat.{ℕ}
use Rattle.report.specs.Report.{decimal, feed}
use Rattle.report.specs.TextLaws.{puts_as}
use Rattle.report.proofs.lines.put_refusal.Goals as goal

pub returns : goal.returns
returns c =
    let words = c.args.words.now in
    puts_as (ap (λ (n : ℕ). (words ++ decimal n) ++ feed) c.into.ensures) c.put_last.ensures
