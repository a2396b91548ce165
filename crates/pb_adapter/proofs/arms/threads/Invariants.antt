use Rattle.std.proofs.Common.{◌≡◌, map}
use Rattle.serde_json.specs.View.{view}
use Rattle.pb_debug.specs.Value.{state_of}
use Rattle.pb_adapter.specs.Values.{threads_below}
use Rattle.pb_adapter.proofs.arms.threads.Given as goal

abbrev pub invariant-loop-p : goal.invariant-loop-p
invariant-loop-p l =
    map view l.list.items ≡ threads_below l.debugger.verified.code.names.processes (state_of l.debugger).processes l.p
