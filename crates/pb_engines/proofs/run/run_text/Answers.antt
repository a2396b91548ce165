use Rattle.std.proofs.Common.{ap}
use Rattle.pb_accept.proofs.InputLemmas.{of_fault}
use Rattle.pb_engines.specs.Runs.{SaysOfTextRun, refused}
use Rattle.pb_engines.proofs.TextLemmas.{text_is_run}
use Rattle.pb_voice.specs.Held.{at}
use Rattle.pb_engines.proofs.run.run_text.Goals as goal

pub returns-in-Ok : goal.returns-in-Ok
returns-in-Ok g c =
    text_is_run g.T.Teller.tells g.T.Teller.breaks (at g.O.Output.written g.O.Output.failures c.args.teller.now c.args.output.now)
    (at g.O.Output.written g.O.Output.failures c.tell_run-status.new.teller c.tell_run-status.new.output) c.tell_run-status.result c.args.options.steps c.args.text.now _ _ _ c.requires c.in-Ok.ensures.compiled
    (ap (λ v. v.code) c.verified.ensures) c.tell_run-status.ensures

pub returns-in-Err : goal.returns-in-Err
returns-in-Err g c =
    of_fault g.T.Teller.tells g.T.Teller.breaks (SaysOfTextRun c.args.options.steps) (at g.O.Output.written g.O.Output.failures c.args.teller.now c.args.output.now)
    (at g.O.Output.written g.O.Output.failures c.tell_fault.new.teller c.tell_fault.new.output) c.tell_fault.result c.args.text.now c.in-Err.fault c.requires
    (λ not. refused c.in-Err.fault not c.in-Err.ensures.refused) c.tell_fault.ensures.memory c.tell_fault.ensures.refused
