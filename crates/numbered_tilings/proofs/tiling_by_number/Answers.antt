-- `numbered_tilings::tiling_by_number` meets its contract: the answer is judged, then the list is written if it is given, and the words behind it are cleared; that
-- a list is a chain of edges follows. Assumes nothing.
use Rattle.numbered_tilings.proofs.WalkLoops.{gives_none, gives_list, told_writable}
use Rattle.std.proofs.Common.{refl}
use Rattle.path_count.specs.PathCounts.{count_value}
use Rattle.numbered_tilings.proofs.tiling_by_number.Goals as goal

pub returns-in_default : goal.returns-in_default
returns-in_default c =
    let args = c.args in
    let told = gives_none args.graph args.nodes.now args.counts.now args.edges.now (count_value args.m) args.output.now _ c.judged-answer.ensures _ c.in_default.is _ c.clear_from.ensures in
    record { answer = told.0; chain = told.1 }

pub invariant_of-words : goal.invariant_of-words
invariant_of-words c =
    let args = c.args in
    record {
      lent = (told_writable args.graph args.nodes.now args.counts.now args.edges.now (count_value args.m) args.output.now _
          c.judged-answer.ensures _ c.in-Ok.is _ refl).0.0;
    }

pub write_list-requires : goal.write_list-requires
write_list-requires c =
    let args = c.args in
    told_writable args.graph args.nodes.now args.counts.now args.edges.now (count_value args.m) args.output.now _
    c.judged-answer.ensures _ c.in-Ok.is _ c.unwrap_or-last.ensures

pub returns : goal.returns
returns c =
    let args = c.args in
    let told = gives_list args.graph args.nodes.now args.counts.now args.edges.now (count_value args.m) args.output.now _ c.judged-answer.ensures _ c.in-Ok.is _ c.unwrap_or-last.ensures _ _
    c.write_list.auto.out c.write_list.ensures c.clear_from-2.ensures in
    record { answer = told.0; chain = told.1 }
