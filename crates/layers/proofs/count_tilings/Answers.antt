-- `layers::count_tilings` meets its contract: the layers are counted, and then cleared; that the count is the number of cuttings follows. Assumes nothing.
use Rattle.cells.specs.Set.{Sound}
use Rattle.layers.proofs.CountLaws.{counts_cuttings}
use Rattle.layers.proofs.StartLaws.{cleared_zeros}
use borrow.Author.Rules.{rules}
use Rattle.layers.proofs.count_tilings.Goals as goal

pub returns-clause-answer : goal.returns-clause-answer
returns-clause-answer c = record {
  answer = c.counted-count.ensures;
  zero_boards_a = cleared_zeros _ _ _ c.clear_from.ensures c.counted-count.auto.boards_a;
  zero_counts_a = cleared_zeros _ _ _ c.clear_from-2.ensures c.counted-count.auto.counts_a;
  zero_boards_b = cleared_zeros _ _ _ c.clear_from-3.ensures c.counted-count.auto.boards_b;
  zero_counts_b = cleared_zeros _ _ _ c.clear_from-4.ensures c.counted-count.auto.counts_b;
}

pub returns-clause-cuttings : goal.returns-clause-cuttings
returns-clause-cuttings c =
    let fixed : Sound c.args.board.fixed = search (rules, c.well_formed) in
    let laid : Sound c.args.board.laid = search (rules, c.well_formed) in
    counts_cuttings _ fixed laid _ _ _ _ _ _ _ _ _ _ (returns-clause-answer c)
