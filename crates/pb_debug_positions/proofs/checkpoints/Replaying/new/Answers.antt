use Rattle.std.proofs.Common.{[], sym, subst, arith}
use Rattle.pb_debug_positions.specs.Walks.{AreCheckpoints, IsCheckpoint}
use Rattle.pb_debug_positions.specs.declared.checkpoints.Replaying.{Replaying}
use Rattle.pb_debug_positions.proofs.Walks.{no_checkpoints, replays_none}
use Rattle.pb_debug_positions.proofs.checkpoints.Replaying.new.Goals as goal

pub returns-clause-replays : goal.returns-clause-replays
returns-clause-replays c =
    let v = c.args.verified.now in
    let m = c.in_ok-machine.machine in
    let lending = c.args.lending in
    let interval = c.args.interval in
    let kept = c.keep.new.checkpoints in
    let r : Replaying = record { machine = m; trace = c.new.result; interval = interval; checkpoints = kept } in
    let first : IsCheckpoint lending v [] 0 m = record {
      stands = record { machine = c.in_ok-machine.ensures.machine; state = c.in_ok-machine.ensures.opening };
      within = omega arith;
    } in
    let none = subst (AreCheckpoints lending v [] interval) (sym c.new-checkpoints.ensures.items) (no_checkpoints v interval) in
    replays_none v r c.new.ensures c.in_ok-machine.ensures.machine c.in_ok-machine.ensures.opening
    (c.in_ok-keep.ensures.checkpoints lending v [] none first) c.in_ok-keep.ensures.enough c.in_ok-keep.ensures.fewest
