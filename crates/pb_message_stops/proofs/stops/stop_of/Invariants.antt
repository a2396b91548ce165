use Rattle.std.proofs.Common.{◌≡◌, ◌+◌, ◌≤◌, [], length, take}
use Rattle.pb_code.specs.Whole.{Code}
use Rattle.pb_history.specs.Replays.{spread}
use Rattle.pb_picks.specs.PickLines.{ReadsPicks}
use Rattle.pb_message_stops.proofs.StopLines.{AreParted}
use Rattle.pb_message_stops.proofs.stops.stop_of.Given as goal

abbrev pub invariant-loop-i : goal.invariant-loop-i
invariant-loop-i l = record {
  counted : length (spread (take l.i l.picks)) + l.before ≡ l.number;
  within : length l.rest ≤ length l.lines;
  parted : (code : Code) → ReadsPicks code l.lines l.picks [] → AreParted code l.lines l.picks l.i l.rest;
}
