use Rattle.std.proofs.Common.{List, length, ap, arith}
use Rattle.pb_base.specs.declared.pick.Pick.{Pick}
use Rattle.pb_code.specs.View.{labels_view}
use Rattle.pb_history.proofs.Positions.{leads_enabled}
use Rattle.pb_machine.specs.Views.{machine_view}
use Rattle.pb_page_engine.proofs.StatesLemmas.{no_picks_told, document_told}
use Rattle.pb_voice.specs.Held.{at}
use Rattle.pb_page_engine.proofs.states.states_lines.Goals as goal

pub document-made-requires-clause-enabled : goal.document-made-requires-clause-enabled
document-made-requires-clause-enabled g c =
    leads_enabled c.args.verified.now.code c.in-Ok.trace.entries (machine_view c.in-Ok.machine) c.in-Ok.ensures.made.replay.leads

pub document-made-requires-clause-few : goal.document-made-requires-clause-few
document-made-requires-clause-few g c =
    let are = c.in-Ok.ensures.made in
    let made = ap (λ (ps : List Pick). length ps) are.replay.made in
    let few = are.spelled.few in
    omega (arith, made, few)

pub returns-in-Ok : goal.returns-in-Ok
returns-in-Ok g c =
    document_told g.T.Teller.tells g.T.Teller.breaks (at g.O.Output.written g.O.Output.failures c.args.teller.now c.args.output.now)
    (at g.O.Output.written g.O.Output.failures c.tell_document.new.teller c.tell_document.new.output) c.tell_document.result c.args.lending c.args.shown
    c.args.text.now c.args.verified.now.code (labels_view c.args.labels.now) c.args.lines.now
    c.in-Ok.trace.entries (machine_view c.in-Ok.machine) c.document-made.result c.in-Ok.ensures.made
    c.document-made.ensures c.tell_document.ensures.document c.tell_document.ensures.memory

pub returns-in-Err : goal.returns-in-Err
returns-in-Err g c =
    no_picks_told g.T.Teller.tells g.T.Teller.breaks (at g.O.Output.written g.O.Output.failures c.args.teller.now c.args.output.now)
    (at g.O.Output.written g.O.Output.failures c.tell_lines_fault.new.teller c.tell_lines_fault.new.output) c.tell_lines_fault.result c.args.lending c.args.shown
    c.args.text.now c.args.verified.now.code (labels_view c.args.labels.now) c.args.lines.now
    (c.tell_lines_fault.ensures c.args.lending c.args.verified.now.code c.args.lines.now c.in-Err.ensures.fault)
