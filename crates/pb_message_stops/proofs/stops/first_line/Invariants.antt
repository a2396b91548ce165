use Rattle.std.proofs.Common.{take}
use Rattle.pb_picks.specs.PickLines.{Lacks}
use Rattle.pb_message_stops.proofs.stops.first_line.Given as goal

abbrev pub invariant-loop-end : goal.invariant-loop-end
invariant-loop-end l = Lacks 10 (take l.end l.text)
