-- `host_counts::calls::refuse_count` meets its contract: the lent layers are cleared, and the refusal is told.
-- Assumes nothing.
use Rattle.host_counts.proofs.HostLaws.{count_cleared}
use Rattle.host_counts.proofs.calls.refuse_count.Goals as goal

pub returns : goal.returns
returns c =
    count_cleared c.args.refusal _ _ _ _ _ c.clear_from.ensures c.clear_from-2.ensures
    c.clear_from-3.ensures c.clear_from-4.ensures c.refuse.ensures
