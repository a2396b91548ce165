use Rattle.std.proofs.Common.{◌≡◌, ◌-◌, ◌≤◌, ◌++◌, replicate}
use Rattle.pb_base.specs.declared.lending.Lending.{Lending}
use Rattle.pb_history.specs.Entries.{picks_of}
use Rattle.pb_history.specs.Replays.{HaveLed}
use Rattle.pb_history.proofs.replay.repeat.Given as goal

abbrev pub invariant-loop-left : goal.invariant-loop-left
invariant-loop-left l = record {
  left : l.left ≤ l.fn.counted.count;
  led : (lending : Lending) → HaveLed lending l.verified l.initial.trace.entries l.initial.machine
      → HaveLed lending l.verified l.trace.entries l.machine;
  picks : picks_of l.trace.entries ≡ picks_of l.initial.trace.entries ++ replicate (l.fn.counted.count - l.left) l.fn.counted.pick;
}

abbrev pub decreases-loop-left : goal.decreases-loop-left
decreases-loop-left l = l.left
