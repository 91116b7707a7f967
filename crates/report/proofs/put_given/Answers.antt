-- `report::put_given` meets its contract: the line of the graph's sizes, then those of its tilings. Assumes nothing.
use mathlib.Core.Path.{◌∙◌}
use Rattle.report.specs.Report.{graph_lines}
use Rattle.report.specs.TextLaws.{puts_append, puts_as}
use Rattle.report.specs.MadeLaws.{graph_line_lem}
use Rattle.report.proofs.put_given.Goals as goal

pub returns : goal.returns
unfolding graph_lines
returns c =
    record {
      puts = λ g built.
          puts_append (puts_as (graph_line_lem built _ c.count_tilings_from_graph-count.ensures) c.put_sizes.ensures)
          (c.put_tilings.ensures.puts g built (c.count_tilings_from_graph-count.ensures ∙ built.count));
      stays = c.put_tilings.ensures.stays ∙ c.put_sizes.ensures.same;
    }
