use Rattle.pb_accept.proofs.InputLemmas.{of_fault}
use Rattle.pb_page_engine.proofs.SchedulesLemmas.{schedules_told}
use Rattle.pb_page_engine.specs.Schedules.{SaysOfSchedules, refused}
use Rattle.pb_voice.specs.Held.{at}
use Rattle.pb_page_engine.proofs.schedules.tell_schedules.Goals as goal

pub document-made-requires : goal.document-made-requires
document-made-requires g c = c.in-Ok.ensures.compiled.fit

pub returns-in-Ok : goal.returns-in-Ok
returns-in-Ok g c =
    schedules_told g.T.Teller.tells g.T.Teller.breaks (at g.O.Output.written g.O.Output.failures c.args.teller.now c.args.output.now)
    (at g.O.Output.written g.O.Output.failures c.tell_document.new.teller c.tell_document.new.output) c.tell_document.result c.args.lending c.args.states
    c.args.text.now c.in-Ok.compiled.verified.code c.in-Ok.compiled.labels c.requires c.in-Ok.ensures.compiled c.document-made.result
    c.document-made.ensures c.tell_document.ensures.document c.tell_document.ensures.memory

pub returns-in-Err : goal.returns-in-Err
returns-in-Err g c =
    of_fault g.T.Teller.tells g.T.Teller.breaks (SaysOfSchedules c.args.lending c.args.states)
    (at g.O.Output.written g.O.Output.failures c.args.teller.now c.args.output.now)
    (at g.O.Output.written g.O.Output.failures c.tell_fault.new.teller c.tell_fault.new.output) c.tell_fault.result c.args.text.now
    c.in-Err.fault c.requires (λ not. refused c.in-Err.fault not c.in-Err.ensures.refused)
    c.tell_fault.ensures.memory c.tell_fault.ensures.refused
