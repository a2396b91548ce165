use Rattle.std.proofs.Common.{◌≡◌, map, take}
use Rattle.pb_names.specs.View.{process_view}
use Rattle.pb_plan.specs.Nests.{nest_among}
use Rattle.pb_plan.proofs.nests.find_nest.Given as goal

abbrev pub invariant-loop-process : goal.invariant-loop-process
invariant-loop-process g l =
    l.found ≡ nest_among l.outer l.inner (map process_view (take l.process-index l.processes))
