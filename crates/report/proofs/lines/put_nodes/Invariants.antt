use mathlib.Core.List.{flat_map}
use Rattle.std.proofs.Common.{take}
use Rattle.report.specs.Report.{field}
use Rattle.report.specs.Inner.{Puts}
use Rattle.report.proofs.lines.put_nodes.Given as goal

abbrev pub invariant-loop-node : goal.invariant-loop-node
invariant-loop-node l = Puts l.initial.text (flat_map (field " ") (take l.node-index l.list)) l.text
