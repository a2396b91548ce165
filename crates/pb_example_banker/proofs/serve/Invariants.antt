use Rattle.std.proofs.Common.{◌≡◌, take}
use Rattle.pb_example_banker.proofs.serve.Given as goal
use Rattle.pb_example_banker.specs.Serving.{Serves}

abbrev pub invariant-loop-request : goal.invariant-loop-request
invariant-loop-request l =
    Serves l.initial.banker.state (take l.request-index l.requests)
    l.round.granted.items l.round.waiting.items l.round.hopeless.items l.banker.state
    × (l.banker.state.claims ≡ l.initial.banker.state.claims)
