use Rattle.std.proofs.Common.{length, map}
use Rattle.pb_names.specs.View.{process_view}
use Rattle.pb_plan.specs.Nests.{IsBegun}
use Rattle.pb_plan.proofs.order.sort.Given as goal

abbrev pub invariant-loop-i : goal.invariant-loop-i
invariant-loop-i g l = IsBegun (map process_view l.processes) l.among l.order.items l.left.items

abbrev pub decreases-loop-i : goal.decreases-loop-i
decreases-loop-i g l = length l.left.items
