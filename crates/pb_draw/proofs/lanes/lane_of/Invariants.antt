use Rattle.std.proofs.Common.{◌<◌, length}
use Rattle.pb_history.specs.Entries.{picks_of}
use Rattle.pb_draw.specs.Lanes.{IsStandingAfter, ShowsStandings}
use Rattle.pb_history.specs.Positions.{IsAfterBy}
use Rattle.pb_draw.proofs.lanes.lane_of.Given as goal

-- what the arm is doing, up to this position
abbrev pub invariant-loop-i : goal.invariant-loop-i
invariant-loop-i l = record {
  stands : IsAfterBy l.fn.lending l.verified (picks_of l.trace.entries) l.i l.machine;
  some : 0 < length l.steps.items;
  lane : ShowsStandings (IsStandingAfter l.fn.lending l.verified.code (picks_of l.trace.entries) l.fn.pick) l.i l.steps.items;
}
