use Rattle.std.proofs.Common.{◌≡◌, take}
use Rattle.pb_base.specs.declared.lending.Lending.{Lending}
use Rattle.pb_history.specs.Entries.{picks_of}
use Rattle.pb_history.specs.Replays.{spread}
use Rattle.pb_debug_positions.specs.Walks.{ReplaysBy}
use Rattle.pb_debug_positions.proofs.checkpoints.Replaying.make_all.Given as goal

abbrev pub invariant-loop-i : goal.invariant-loop-i
invariant-loop-i l = record {
  replays : (lending : Lending) → ReplaysBy lending l.verified l.initial.self → ReplaysBy lending l.verified l.self;
  picks : picks_of l.self.trace.entries ≡ spread (take l.i l.picks);
  interval : l.self.interval ≡ l.initial.self.interval;
}
