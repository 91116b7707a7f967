-- `report::text::Text::put_paths` meets its contract: a count is its low word. Assumes nothing.
use mathlib.Core.Path.{ap}
use mathlib.Core.List.{◌++◌}
use Prim.Native.Nat.{ℕ}
use Rattle.path_count.specs.PathCountLaws.{count_small}
use Rattle.report.specs.Report.{decimal}
use Rattle.report.specs.TextLaws.{puts_as}
use Rattle.report.specs.CountLaws.{low_is}
use borrow.Author.Rules.{rules}
use Rattle.report.proofs.text.Text.put_paths.Goals as goal

pub returns : goal.returns
returns c =
    puts_as (ap (λ (n : ℕ). c.args.words.now ++ decimal n) (low_is _ (count_small c.args.count (search rules)) _ c.low.ensures)) c.put_field.ensures
