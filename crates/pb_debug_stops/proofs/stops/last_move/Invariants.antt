use Rattle.std.proofs.Common.{◌-◌, ◌≤◌}
use Rattle.pb_history.specs.Entries.{picks_of}
use Rattle.pb_code.specs.View.{labels_view}
use Rattle.pb_debug_positions.specs.Searches.{IsLast}
use Rattle.pb_debug_positions.specs.Walks.{Walks}
use Rattle.pb_debug_stops.specs.Stops.{Moves}
use Rattle.pb_debug_stops.proofs.stops.last_move.Given as goal

abbrev pub invariant-loop-walker : goal.invariant-loop-walker
invariant-loop-walker l = record {
  walks : Walks l.verified (picks_of l.trace.entries) l.walker;
  later : l.initial.walker.at ≤ l.walker.at;
  within : l.walker.at ≤ l.past;
  last : IsLast (Moves l.verified.code (labels_view l.labels) (picks_of l.trace.entries) l.p l.arm) l.initial.walker.at l.walker.at l.last;
}

abbrev pub decreases-loop-walker : goal.decreases-loop-walker
decreases-loop-walker l = l.past - l.walker.at
