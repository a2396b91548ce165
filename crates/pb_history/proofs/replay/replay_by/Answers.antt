use Rattle.std.proofs.Common.{◌+◌, length, get_or, take, sym, ap, subst, List, arith}
use Rattle.std.proofs.lemmas.List.{length-map, length-take-le}
use Rattle.std.proofs.lemmas.Grind.{common_steps}
use Rattle.pb_base.specs.declared.pick.Pick.{Pick}
use Rattle.pb_base.specs.declared.step.Step.{Step}
use Rattle.pb_machine.specs.Steps.{IsStepBy}
use Rattle.pb_code.specs.Reached.{CodeMovesBy}
use Rattle.pb_machine.specs.Views.{machine_view}
use Rattle.pb_history.specs.Replays.{IsReplayBy}
use Rattle.pb_history.specs.Entries.{Entry}
use Rattle.pb_history.proofs.TraceSteps.{replay_more, shown_step, silent_step}
use Rattle.pb_history.proofs.SpanEnds.{item_there}
use Rattle.pb_history.proofs.replay.replay_by.Goals.{in-Silent, in-Did}
use Rattle.pb_history.proofs.replay.replay_by.Goals as goal

pub loop-i-preserved : goal.loop-i-preserved
loop-i-preserved c =
    let code = c.args.verified.now.code in
    let i = c.loop-i.i in
    let pick : Pick = get_or c.args.picks.now i (record { process = 0; arm = 0 }) in
    let a = machine_view c.loop-i.machine in
    let b = machine_view c.step.new.self in
    let lending = c.args.lending in
    let is = c.loop-i.invariant.machine in
    let moves : CodeMovesBy lending code a pick c.match-step.event b = elim c.match-step.branch [
      | in-Silent w ↦ silent_step lending code a b pick c.step.result c.match-step.event w.in-Silent.is w.event-is (c.step.ensures.step lending is)
      | in-Did w ↦ shown_step lending code a b pick c.step.result w.in-Did.event c.match-step.event w.in-Did.is w.event-is (c.step.ensures.step lending is)
    ] in
    let there = item_there c.args.picks.now i (record { process = 0; arm = 0 }) (omega arith) in
    record {
      replay = subst (λ (es : List Entry). IsReplayBy lending code (take (i + 1) c.args.picks.now) es b) (sym c.in_ok-push.ensures.ok)
          (replay_more code c.args.picks.now i c.loop-i.trace.entries a b pick c.match-step.event c.loop-i.invariant.replay there moves);
      machine = c.step.ensures.machine lending is;
    }

pub push-requires : goal.push-requires
push-requires c =
    let picks = c.args.picks.now in
    let i = c.loop-i.i in
    let made = ap (λ (ps : List Pick). length ps) c.loop-i.invariant.replay.made in
    let entries = length-map c.loop-i.trace.entries (λ (e : Entry). e.pick) in
    let taken = length-take-le i picks (omega (arith, c.loop-i-test.true)) in
    omega (arith, made, entries, taken, c.loop-i-test.true, c.requires)

pub returns-in-NotEnabled-clause-stopped : goal.returns-in-NotEnabled-clause-stopped
returns-in-NotEnabled-clause-stopped c =
    let code = c.args.verified.now.code in
    let lending = c.args.lending in
    let i = c.loop-i.i in
    let pick : Pick = get_or c.args.picks.now i (record { process = 0; arm = 0 }) in
    let a = machine_view c.loop-i.machine in
    let step = c.step.ensures.step lending c.loop-i.invariant.machine in
    let stays = subst (λ (x : Step). IsStepBy lending code a pick x (machine_view c.step.new.self)) c.in-NotEnabled.is step in
    record {
      entries = c.loop-i.trace.entries;
      end = a;
      pick = pick;
      replay = c.loop-i.invariant.replay;
      there = item_there c.args.picks.now i (record { process = 0; arm = 0 }) (omega arith);
      stays = stays.0;
    }

pub returns-clause-replay : goal.returns-clause-replay
returns-clause-replay c = grind (arith, common_steps) steps 400000
