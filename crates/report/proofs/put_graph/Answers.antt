-- `report::put_graph` meets its contract: the graph that the code makes is the plot's, and so is its refusal. Assumes nothing.
use mathlib.Core.Path.{refl, sym, ap}
use lib.ListN.{replicate}
use Rattle.board.proofs.SoundLaws.{board_sound}
use Rattle.report.specs.Report.{graph_lines}
use Rattle.report.specs.TextLaws.{puts_as}
use Rattle.report.specs.HoldsLaws.{counts_lent}
use Rattle.report.specs.MadeLaws.{made_refused, made_given}
use Rattle.report.proofs.put_graph.Goals as goal

pub returns-in-Ok : goal.returns-in-Ok
returns-in-Ok c =
    let sound = board_sound _ c.well_formed.1.0 in
    record {
      puts = λ p h.
          let g = made_given p _ _ h (replicate 4096 0) (replicate 1024 0) (replicate 8192 0) refl counts_lent.1 refl c.generate_graph-made.ensures.answer sound.0 sound.1 _ c.in-Ok.is in
          puts_as (ap graph_lines (sym g.1)) (c.put_given.ensures.puts g.0 g.2);
      stays = c.put_given.ensures.stays;
    }

pub returns-in-Err : goal.returns-in-Err
unfolding graph_lines
returns-in-Err c =
    record {
      puts = λ p h.
          puts_as (ap graph_lines (sym (made_refused p _ _ h (replicate 4096 0) (replicate 1024 0) (replicate 8192 0) refl counts_lent.1 refl c.generate_graph-made.ensures.answer _ c.in-Err.is)))
          c.put_no_graph.ensures;
      stays = c.put_no_graph.ensures.same;
    }
