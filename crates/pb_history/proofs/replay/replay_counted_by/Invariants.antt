use Rattle.std.proofs.Common.{take}
use Rattle.pb_history.specs.Replays.{IsReplayBy, spread}
use Rattle.pb_machine.specs.Views.{machine_view, IsMachineBy}
use Rattle.pb_history.proofs.replay.replay_counted_by.Given as goal

abbrev pub invariant-loop-i : goal.invariant-loop-i
invariant-loop-i l = record {
  replay : IsReplayBy l.fn.lending l.verified.code (spread (take l.i l.picks)) l.trace.entries (machine_view l.machine);
  machine : IsMachineBy l.fn.lending l.verified l.machine;
}
