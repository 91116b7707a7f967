-- `host_tilings::calls::single_tiling` meets its contract: what `get_single_tiling` answers is told.
-- Assumes nothing.
use Rattle.std.proofs.Common.{ap}
use Rattle.refusal.specs.Refusal.{answer_of}
use Rattle.host_tilings.proofs.ToldLaws.{single_told, single_refused, found_told}
use Rattle.host_tilings.proofs.calls.single_tiling.Goals as goal

pub returns-in-Ok : goal.returns-in-Ok
returns-in-Ok c =
    single_told _ _ c.args.out.now _ _ _ _ c.get_single_tiling.ensures _ c.in-Ok.found (ap answer_of c.in-Ok.is)
    (found_told c.in-Ok.found _ c.unwrap_or.ensures c.accept.ensures)

pub returns-in-Err : goal.returns-in-Err
returns-in-Err c = single_refused _ _ c.args.out.now _ _ _ _ c.get_single_tiling.ensures _ _ c.in-Err.is c.refuse.ensures
