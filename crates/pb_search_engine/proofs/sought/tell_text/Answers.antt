use Rattle.pb_search_engine.specs.SaysOfAll.{SaysOfSought}
use Rattle.pb_search_engine.specs.SaysOfTexts.{refused}
use Rattle.pb_search_engine.proofs.TellLemmas.{code_is_told, of_fault}
use Rattle.pb_voice.specs.Held.{at}
use Rattle.pb_search_engine.proofs.sought.tell_text.Goals as goal

pub tell_compiled-status-requires : goal.tell_compiled-status-requires
tell_compiled-status-requires g c = c.in-Ok.ensures.compiled.fit

pub returns-in-Ok : goal.returns-in-Ok
returns-in-Ok g c =
    code_is_told g.T.Teller.tells g.T.Teller.breaks (at g.O.Output.written g.O.Output.failures c.args.teller.now c.args.output.now)
    (at g.O.Output.written g.O.Output.failures c.tell_compiled-status.new.teller c.tell_compiled-status.new.output) c.tell_compiled-status.result
    c.args.sought c.args.options c.args.bytes.now c.cut.result.0.now c.cut.result.1.now
    c.in-Ok.compiled.verified.code c.in-Ok.compiled.labels c.requires c.cut.ensures c.in-Ok.ensures.compiled c.tell_compiled-status.ensures

pub returns-in-Err : goal.returns-in-Err
returns-in-Err g c =
    of_fault g.T.Teller.tells g.T.Teller.breaks (SaysOfSought c.args.sought c.args.options) (at g.O.Output.written g.O.Output.failures c.args.teller.now c.args.output.now)
    (at g.O.Output.written g.O.Output.failures c.tell_fault.new.teller c.tell_fault.new.output) c.tell_fault.result c.args.bytes.now c.in-Err.fault
    c.requires (λ not. (c.cut.result.0.now, c.cut.result.1.now, c.cut.ensures, refused c.in-Err.fault not c.in-Err.ensures.refused))
    c.tell_fault.ensures.memory c.tell_fault.ensures.refused
