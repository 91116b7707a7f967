-- `tiler::count_cuttings` meets its contract: the layers are worked once, and the figure is told of their count; that it is the number of cuttings follows.
-- Assumes nothing.
use Rattle.cells.specs.Set.{Sound}
use Rattle.cuttings.proofs.CuttingLaws.{figure_left}
use Rattle.cuttings.proofs.Theorems.{call_counts_cuttings}
use borrow.Author.Rules.{rules}
use Rattle.tiler.proofs.count_cuttings.Goals as goal

pub returns-clause-answer : goal.returns-clause-answer
returns-clause-answer c = figure_left _ _ _ c.count_tilings-count.ensures.answer c.count_cuttings_from_layers.ensures

pub returns-clause-cuttings : goal.returns-clause-cuttings
returns-clause-cuttings c =
    let fixed : Sound c.args.board.fixed = record { s0 = search (rules, c.well_formed); s1 = search (rules, c.well_formed); s2 = search (rules, c.well_formed); s3 = search (rules, c.well_formed) } in
    let laid : Sound c.args.board.laid = record { s0 = search (rules, c.well_formed); s1 = search (rules, c.well_formed); s2 = search (rules, c.well_formed); s3 = search (rules, c.well_formed) } in
    call_counts_cuttings _ _ fixed laid _ _ _ _ _ _ _ _ _ (returns-clause-answer c)
