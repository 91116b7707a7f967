-- `tiler::generate_graph` meets its contract: the graph is made, and after a refusal the words are cleared; that it numbers the cuttings follows.
-- Assumes nothing.
use mathlib.Core.Path.{sym}
use Rattle.cells.specs.Set.{Sound}
use Rattle.tiler.specs.CuttingTheorems.{graph_numbers_cuttings}
use Rattle.tiler.proofs.FinishLaws.{graph_kept, graph_cleared}
use borrow.Author.Rules.{rules}
use Rattle.tiler.proofs.generate_graph.Goals as goal

pub returns-then-is_err-clause-answer : goal.returns-then-is_err-clause-answer
returns-then-is_err-clause-answer c =
    graph_cleared _ _ c.args.nodes.now c.args.counts.now c.args.edges.now _ _ _ _ _ _ _ c.made-made.ensures (sym c.if-is_err.ensures.value)
    c.made-made.auto.nodes c.made-made.auto.counts c.made-made.auto.edges c.clear.ensures.0 c.clear.ensures.1 c.clear.ensures.2

pub returns-else-is_err-clause-cuttings : goal.returns-else-is_err-clause-cuttings
returns-else-is_err-clause-cuttings c =
    let fixed : Sound c.args.board.fixed = record { s0 = search (rules, c.well_formed); s1 = search (rules, c.well_formed); s2 = search (rules, c.well_formed); s3 = search (rules, c.well_formed) } in
    let laid : Sound c.args.board.laid = record { s0 = search (rules, c.well_formed); s1 = search (rules, c.well_formed); s2 = search (rules, c.well_formed); s3 = search (rules, c.well_formed) } in
    graph_numbers_cuttings _ fixed laid _ c.args.nodes.now c.args.counts.now c.args.edges.now _ _ _ _
    (graph_kept _ _ _ _ _ _ _ _ _ c.made-made.ensures (sym c.if-is_err.ensures.value))
