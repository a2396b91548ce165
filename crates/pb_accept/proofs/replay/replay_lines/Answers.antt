use Rattle.pb_machine.specs.Views.{machine_view}
use Rattle.pb_accept.proofs.ReplayLemmas.{events_are_told, refusal_is_told}
use Rattle.pb_voice.specs.Held.{at}
use Rattle.pb_accept.proofs.replay.replay_lines.Goals as goal

pub tell_replay-requires : goal.tell_replay-requires
tell_replay-requires g c = (c.args.lending, c.in-Ok.ensures.machine)

pub returns-in-Ok : goal.returns-in-Ok
returns-in-Ok g c =
    events_are_told g.T.Teller.tells g.T.Teller.breaks (at g.O.Output.written g.O.Output.failures c.args.teller.now c.args.output.now)
    (at g.O.Output.written g.O.Output.failures c.tell_replay.new.teller c.tell_replay.new.output) c.tell_replay.result c.args.lending c.args.verified.now.code
    c.args.lines.now c.in-Ok.trace.entries (machine_view c.in-Ok.machine) c.in-Ok.ensures.made (c.tell_replay.ensures c.args.lending c.in-Ok.ensures.machine)

pub returns-in-Err : goal.returns-in-Err
returns-in-Err g c =
    refusal_is_told g.T.Teller.tells g.T.Teller.breaks (at g.O.Output.written g.O.Output.failures c.args.teller.now c.args.output.now)
    (at g.O.Output.written g.O.Output.failures c.tell_lines_fault.new.teller c.tell_lines_fault.new.output) c.tell_lines_fault.result c.args.lending
    c.args.verified.now.code c.args.lines.now
    (c.tell_lines_fault.ensures c.args.lending c.args.verified.now.code c.args.lines.now c.in-Err.ensures.fault)
