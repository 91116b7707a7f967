-- `tiler::building::count_paths` meets its contract: the counts are cleared, node 0 has 1, and the edges are passed.
-- Assumes nothing.
-- p is what is known after `put`, s at the start
use Rattle.tiler.proofs.PassingLaws.{first_counts, first_asks, first_passes}
use lib.Dec.{lit<}
use Rattle.path_count.specs.PathCountLaws.{word_count}
use Rattle.tiler.proofs.building.count_paths.Goals as goal

pub pass_edges-requires : goal.pass_edges-requires
pass_edges-requires c =
    let first = first_counts c.args.counts.now _ _ _ c.clear_from.ensures (word_count 1 (lit< tt) _ c.of_words.ensures) c.put.ensures in
    let asks = first_asks c.args.counts.now _ first _ _ c.requires.1 in
    (c.requires.0, asks.0, asks.1)

pub returns : goal.returns
returns c =
    let first = first_counts c.args.counts.now _ _ _ c.clear_from.ensures (word_count 1 (lit< tt) _ c.of_words.ensures) c.put.ensures in
    first_passes c.args.counts.now _ first _ _ _ c.pass_edges.ensures
