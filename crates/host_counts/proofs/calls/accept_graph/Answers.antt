-- `host_counts::calls::accept_graph` meets its contract: the words of the full node, or none.
-- Assumes nothing.
use Rattle.host_counts.proofs.ToldLaws.{result_node, result_none}
use Rattle.host_counts.proofs.calls.accept_graph.Goals as goal

pub returns-in-Some : goal.returns-in-Some
returns-in-Some c = result_node _ _ _ c.in-Some.is c.accept.ensures

pub returns-in-None : goal.returns-in-None
returns-in-None c = result_none _ _ _ c.in-None.is c.accept-in-None.ensures
