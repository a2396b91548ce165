use Rattle.std.proofs.Common.{◌<◌, ◌≤◌, ℕ}
use Rattle.pb_debug_stops.specs.Stops.{Moves}
use Rattle.pb_debug.proofs.debugger.Debugger.last_move.Given as goal

abbrev pub invariant-loop-end : goal.invariant-loop-end
invariant-loop-end l = record {
  within : l.end ≤ l.past;
  none : (j : ℕ) → l.end ≤ j → j < l.past → Moves l.self.verified.code l.self.labels l.self.picks l.p l.arm j → ⊥;
}

abbrev pub decreases-loop-end : goal.decreases-loop-end
decreases-loop-end l = l.end
