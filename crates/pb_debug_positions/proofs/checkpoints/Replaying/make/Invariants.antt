use Rattle.std.proofs.Common.{◌≡◌, ◌-◌, ◌≤◌, ◌++◌, replicate}
use Rattle.pb_base.specs.declared.lending.Lending.{Lending}
use Rattle.pb_history.specs.Entries.{picks_of}
use Rattle.pb_debug_positions.specs.Walks.{ReplaysBy}
use Rattle.pb_debug_positions.proofs.checkpoints.Replaying.make.Given as goal

abbrev pub invariant-loop-left : goal.invariant-loop-left
invariant-loop-left l = record {
  left : l.left ≤ l.fn.counted.count;
  replays : (lending : Lending) → ReplaysBy lending l.verified l.initial.self → ReplaysBy lending l.verified l.self;
  picks : picks_of l.self.trace.entries ≡ picks_of l.initial.self.trace.entries ++ replicate (l.fn.counted.count - l.left) l.fn.counted.pick;
  interval : l.self.interval ≡ l.initial.self.interval;
}

abbrev pub decreases-loop-left : goal.decreases-loop-left
decreases-loop-left l = l.left
