-- `report::lines::put_nodes` meets its contract. The loop's invariant: the fields of the nodes passed are put. Assumes nothing.
use mathlib.Core.Path.{ap}
use mathlib.Core.List.{flat_map}
use lib.Seq.{take_all}
use Rattle.cells.specs.Lists.{ascii}
use Rattle.report.specs.Report.{field}
use Rattle.report.specs.TextLaws.{puts_none, puts_part, puts_as}
use borrow.Author.Rules.{rules}
use Rattle.report.proofs.lines.put_nodes.Goals as goal

pub loop-node-init : goal.loop-node-init
unfolding flat_map
loop-node-init c = puts_none _

pub loop-node-preserved : goal.loop-node-preserved
unfolding field ascii
loop-node-preserved c = puts_part (field " ") _ _ (search rules) c.loop-node.invariant c.put_field.ensures

pub returns : goal.returns
returns c = puts_as (ap (flat_map (field " ")) (take_all _ _ (search rules))) c.loop-node.invariant
