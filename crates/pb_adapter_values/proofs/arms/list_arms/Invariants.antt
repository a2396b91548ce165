use Rattle.std.proofs.Common.{◌≡◌, ◌++◌, map}
use Rattle.serde_json.specs.View.{view}
use Rattle.pb_machine.specs.Views.{proc_view}
use Rattle.pb_adapter_values.specs.Values.{arms_below}
use Rattle.pb_adapter_values.proofs.arms.list_arms.Given as goal

abbrev pub invariant-loop-arm : goal.invariant-loop-arm
invariant-loop-arm l =
    map view l.list.items ≡ map view l.initial.list.items ++ arms_below l.name l.p (proc_view l.process).threads l.arm
