use Rattle.std.proofs.Common.{◌≡◌, ◌++◌, map}
use Rattle.pb_search.specs.Deadlocks.{stuck_view}
use Rattle.pb_search_engine.specs.Parts.{collected, stuck_at, stuck_parts}
use Rattle.pb_search_engine.proofs.parts.put_deadlock_parts.Given as goal

abbrev pub invariant-loop-p : goal.invariant-loop-p
invariant-loop-p l =
    l.parts.items ≡ l.initial.parts.items ++ collected (λ p. stuck_parts p (stuck_at (map stuck_view l.processes) p)) l.p
