use Rattle.std.proofs.Common.{List, length, ap, arith}
use Rattle.std.proofs.lemmas.List.{length-map}
use Rattle.pb_base.specs.declared.pick.Pick.{Pick}
use Rattle.pb_code.specs.View.{labels_view}
use Rattle.pb_history.specs.Entries.{Entry}
use Rattle.pb_history.proofs.Positions.{leads_enabled}
use Rattle.pb_machine.specs.Views.{machine_view}
use Rattle.pb_draw_engine.proofs.DrawLemmas.{no_picks_told, picture_told}
use Rattle.pb_voice.specs.Held.{at}
use Rattle.pb_draw_engine.proofs.draw.draw_lines.Goals as goal

pub drawn-picture-requires-clause-enabled : goal.drawn-picture-requires-clause-enabled
drawn-picture-requires-clause-enabled g c =
    leads_enabled c.args.verified.now.code c.in-Ok.trace.entries (machine_view c.in-Ok.machine) c.in-Ok.ensures.made.replay.leads

pub drawn-picture-requires-clause-few : goal.drawn-picture-requires-clause-few
drawn-picture-requires-clause-few g c =
    let are = c.in-Ok.ensures.made in
    let made = ap (λ (ps : List Pick). length ps) are.replay.made in
    let many = length-map c.in-Ok.trace.entries (λ (e : Entry). e.pick) in
    let few = are.spelled.few in
    omega (arith, made, many, few)

pub drawn-picture-requires-clause-machine : goal.drawn-picture-requires-clause-machine
drawn-picture-requires-clause-machine g c = c.in-Ok.ensures.machine

pub returns-in-Ok : goal.returns-in-Ok
returns-in-Ok g c =
    picture_told g.T.Teller.tells g.T.Teller.breaks (at g.O.Output.written g.O.Output.failures c.args.teller.now c.args.output.now)
    (at g.O.Output.written g.O.Output.failures c.tell_drawn.new.teller c.tell_drawn.new.output) c.tell_drawn.result c.args.lending c.args.size
    c.args.verified.now.code (labels_view c.args.labels.now) c.args.lines.now c.in-Ok.trace.entries (machine_view c.in-Ok.machine) c.drawn-picture.result
    c.in-Ok.ensures.made c.drawn-picture.ensures c.tell_drawn.ensures.picture c.tell_drawn.ensures.memory

pub returns-in-Err : goal.returns-in-Err
returns-in-Err g c =
    no_picks_told g.T.Teller.tells g.T.Teller.breaks (at g.O.Output.written g.O.Output.failures c.args.teller.now c.args.output.now)
    (at g.O.Output.written g.O.Output.failures c.tell_lines_fault.new.teller c.tell_lines_fault.new.output) c.tell_lines_fault.result c.args.lending c.args.size
    c.args.verified.now.code (labels_view c.args.labels.now) c.args.lines.now
    (c.tell_lines_fault.ensures c.args.lending c.args.verified.now.code c.args.lines.now c.in-Err.ensures.fault)
