use Rattle.std.proofs.Common.{ℕ, ◌<◌}
use Rattle.std.specs.Prelude.{slice_get}
use Rattle.pb_code.specs.View.{labels_view}
use Rattle.pb_machine.specs.Views.{machine_view}
use Rattle.pb_debug_positions.specs.Searches.{line_in}
use Rattle.pb_debug_stops.specs.Stops.{ComesTo}
use Rattle.pb_debug_stops.proofs.stops.arrives.Given as goal

abbrev pub invariant-loop-arm : goal.invariant-loop-arm
invariant-loop-arm l = (a : ℕ) → a < l.arm → ComesTo l.lines
    (line_in (slice_get (labels_view l.labels) l.p) (slice_get (machine_view l.before).processes l.p) a)
    (line_in (slice_get (labels_view l.labels) l.p) (slice_get (machine_view l.after).processes l.p) a) → ⊥
