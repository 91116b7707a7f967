-- Which lines the text of a file has, told by what its reader answers: those of the plot that the board and the tiles hold, or the line of the refusal. Rests on
-- plot_file's theorems. Assumes nothing.
use Rattle.std.specs.Prelude.{Err, Ok, ◌≡◌, List, ℕ}
use Rattle.std.proofs.Math.Path.{refl, sym, ap}
use Rattle.std.proofs.Common.{◌∙◌, arith}
use Rattle.refusal.specs.declared.Refusal.{Refusal}
use Rattle.refusal.specs.Refusal.{Answer, refused, given, refusal_number, refusal_of, verdict_number}
use Rattle.refusal.specs.RefusalLaws.{refused_of}
use Rattle.plot_file.specs.declared.MadePlot.{MadePlot}
use Rattle.plot_file.specs.PlotFile.{Plot, plot_in, ReadsPlot}
use Rattle.plot_file.proofs.Theorems.{refusal_positive, read_accepted}
use Rattle.report.specs.Report.{refused_line, plot_lines, lines_for, report}
use Rattle.report.specs.Inner.{HoldsPlot}

module _ (file : List ℕ) (r : MadePlot) (reads : ReadsPlot (plot_in file) r) where
  pub accepted_text : r.verdict ≡ Ok tt → (plot : Plot) × HoldsPlot plot r.board r.tiles × (report file ≡ plot_lines plot)
  unfolding report lines_for refusal_of
  accepted_text v = go (plot_in file) refl
    where
      go : (a : Answer Plot) → plot_in file ≡ a → (plot : Plot) × HoldsPlot plot r.board r.tiles × (report file ≡ plot_lines plot)
      go (refused n) e =
          let z : 0 ≡ n = sym (ap verdict_number v) ∙ reads.verdict ∙ ap refusal_of e in
          absurd (omega (arith, refusal_positive file n e))
      go (given plot) e =
          let h = read_accepted file r plot reads e in
          (plot, record { board_is = h.0; tiles_are = h.1 }, ap lines_for e)

  pub refused_text : (q : Refusal) → r.verdict ≡ Err q → report file ≡ refused_line (refusal_number q)
  unfolding report lines_for
  refused_text q v = ap lines_for (refused_of (plot_in file) q (sym (ap verdict_number v) ∙ reads.verdict))
