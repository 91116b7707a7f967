-- `report::put_plot` meets its contract: the parts of the text, one behind the other. Assumes nothing.
use mathlib.Core.Path.{sym, ◌∙◌}
use mathlib.Core.List.{◌++◌, append_assoc}
use Rattle.report.specs.Report.{board_line, tiles_line, layers_line, plot_layers, cuttings_line, plot_cuttings, plot_lines}
use Rattle.report.specs.TextLaws.{puts_append, puts_as}
use Rattle.report.specs.MadeLaws.{value_is, board_line_lem, tiles_line_lem}
use Rattle.report.proofs.put_plot.Goals as goal

pub returns : goal.returns
unfolding plot_lines
returns c =
    record {
      puts = λ p h.
          puts_append
          (puts_as (sym (append_assoc (board_line p ++ tiles_line p) (layers_line (plot_layers p)) (cuttings_line (plot_cuttings p))))
          (puts_append
          (puts_append (puts_as (board_line_lem h _ (c.unwrap_or-free.ensures ∙ value_is _ _ c.free_cells.ensures)) c.put_board.ensures) (puts_as (tiles_line_lem h) c.put_tiles.ensures))
          (c.put_counts.ensures.puts p h)))
          (c.put_graph.ensures.puts p h);
      stays = c.put_graph.ensures.stays ∙ c.put_counts.ensures.stays ∙ c.put_tiles.ensures.same ∙ c.put_board.ensures.same;
    }
