-- `host_tilings::calls::tiling` meets its contract: the number of two words is handed on as a count, and what `tiling_by_number` answers is told.
-- Assumes nothing.
use Rattle.host_tilings.proofs.ToldLaws.{list_told, list_refused, gives_number}
use Rattle.host_tilings.proofs.calls.tiling.Goals as goal

pub returns-in-Ok : goal.returns-in-Ok
returns-in-Ok c =
    let list = c.tiling_by_number.result in
    let handed = gives_number c.args.graph c.args.nodes.now c.args.counts.now c.args.edges.now c.args.m.now c.args.out.now _ list _ c.requires c.of_words-number.ensures c.tiling_by_number.ensures.answer in
    list_told c.args.graph c.args.nodes.now c.args.counts.now c.args.edges.now c.args.m.now c.args.out.now _ _ _ list handed
    (λ i. (c.type_inv.counts i).fits) _ _ c.in-Ok.is c.accept.ensures

pub returns-in-Err : goal.returns-in-Err
returns-in-Err c =
    let list = c.tiling_by_number.result in
    let handed = gives_number c.args.graph c.args.nodes.now c.args.counts.now c.args.edges.now c.args.m.now c.args.out.now _ list _ c.requires c.of_words-number.ensures c.tiling_by_number.ensures.answer in
    list_refused c.args.graph c.args.nodes.now c.args.counts.now c.args.edges.now c.args.m.now c.args.out.now _ _ _ list handed
    (λ i. (c.type_inv.counts i).fits) _ _ c.in-Err.is c.refuse.ensures
