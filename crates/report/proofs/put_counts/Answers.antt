-- `report::put_counts` meets its contract: the layer count of the code is the plot's, and so is the figure that is told of it. Assumes nothing.
use mathlib.Core.Path.{refl, ap, ◌∙◌}
use Rattle.report.specs.Report.{layers_line, cuttings_line}
use Rattle.report.specs.TextLaws.{puts_append, puts_as}
use Rattle.report.specs.HoldsLaws.{counts_lent, held_counted, held_figure}
use Rattle.report.proofs.put_counts.Goals as goal

pub returns : goal.returns
returns c =
    record {
      puts = λ p h.
          let counted = held_counted p _ _ h _ _ _ _ _ _ _ _ _ c.count_tilings-count.ensures.answer refl counts_lent.0 refl counts_lent.0 in
          puts_append (puts_as (ap layers_line counted) c.put_layers.ensures)
          (puts_as (ap cuttings_line (c.count_cuttings_from_layers-figure.ensures ∙ held_figure p _ _ h _ counted)) c.put_cuttings.ensures);
      stays = c.put_cuttings.ensures.same ∙ c.put_layers.ensures.same;
    }
