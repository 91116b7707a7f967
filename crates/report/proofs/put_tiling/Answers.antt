-- `report::put_tiling` meets its contract: the list that is given is the graph's. Assumes nothing.
use mathlib.Core.Path.{refl, ap}
use mathlib.Core.List.{List, ◌++◌, flat_map}
use Prim.Native.Nat.{ℕ}
use Rattle.cells.specs.Lists.{ascii}
use Rattle.report.specs.Report.{field, feed, tiling_line}
use Rattle.report.specs.TextLaws.{puts_as}
use Rattle.path_count.specs.PathCounts.{count_value}
use Rattle.path_count.specs.PathCountLaws.{word_count}
use Rattle.report.specs.ListedLaws.{gives_same, told_short, told_long, told_list, told_given}
use borrow.Author.Rules.{rules}
use Rattle.report.proofs.put_tiling.Goals as goal

pub slice_bounds-list-end : goal.slice_bounds-list-end
slice_bounds-list-end c =
    told_short c.args.graph c.args.nodes.now c.args.counts.now c.args.edges.now (count_value c.of_words-number.result) _ _ c.tiling_by_number-tiling.result
    c.tiling_by_number-tiling.ensures.answer _ c.in-Ok.is

pub slice_bounds-put_list-end : goal.slice_bounds-put_list-end
slice_bounds-put_list-end c =
    told_long c.args.graph c.args.nodes.now c.args.counts.now c.args.edges.now (count_value c.of_words-number.result) _ _ c.tiling_by_number-tiling.result
    c.tiling_by_number-tiling.ensures.answer _ c.in-Ok.is

pub returns-in-Ok : goal.returns-in-Ok
unfolding tiling_line
returns-in-Ok c =
    let gives = gives_same c.args.graph c.args.nodes.now c.args.counts.now c.args.edges.now _ c.args.m _ _ c.tiling_by_number-tiling.result
    (word_count c.args.m (search rules) _ c.of_words-number.ensures) c.tiling_by_number-tiling.ensures.answer in
    record {
      puts = λ g built below.
          puts_as (ap (λ (l : List ℕ). field "tiling " c.args.m ++ ascii ":" ++ flat_map (field " ") l ++ feed)
          (told_list c.args.graph c.args.nodes.now c.args.counts.now c.args.edges.now c.args.m _ _ c.tiling_by_number-tiling.result gives built below refl _ c.in-Ok.is)) c.put_list.ensures;
      stays = c.put_list.ensures.same;
    }

pub returns-in-Err : goal.returns-in-Err
returns-in-Err c =
    let gives = gives_same c.args.graph c.args.nodes.now c.args.counts.now c.args.edges.now _ c.args.m _ _ c.tiling_by_number-tiling.result
    (word_count c.args.m (search rules) _ c.of_words-number.ensures) c.tiling_by_number-tiling.ensures.answer in
    record {
      puts = λ g built below. absurd (told_given c.args.graph c.args.nodes.now c.args.counts.now c.args.edges.now c.args.m _ _ c.tiling_by_number-tiling.result gives built below refl _ c.in-Err.is);
      stays = refl;
    }
