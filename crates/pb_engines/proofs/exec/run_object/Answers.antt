use Rattle.pb_code.specs.View.{labels_view}
use Rattle.pb_accept.specs.Causes.{load_cause}
use Rattle.pb_accept.specs.Sayings.{NoCode}
use Rattle.pb_accept.proofs.InputLemmas.{of_cause}
use Rattle.pb_engines.specs.Executions.{SaysOfExecution, no_code}
use Rattle.pb_engines.proofs.ExecutionLemmas.{code_is_run}
use Rattle.pb_voice.specs.Held.{at}
use Rattle.pb_engines.proofs.exec.run_object.Goals as goal

pub returns-in-Ok : goal.returns-in-Ok
returns-in-Ok g c =
    code_is_run g.T.Teller.tells g.T.Teller.breaks (at g.O.Output.written g.O.Output.failures c.args.teller.now c.args.output.now)
    (at g.O.Output.written g.O.Output.failures c.tell_run-status.new.teller c.tell_run-status.new.output) c.tell_run-status.result c.args.options.steps c.args.bytes.now c.in-Ok.verified.code (labels_view c.in-Ok.labels) c.requires
    c.in-Ok.ensures.loaded c.tell_run-status.ensures

pub returns-in-Err : goal.returns-in-Err
returns-in-Err g c =
    of_cause g.T.Teller.tells g.T.Teller.breaks (SaysOfExecution c.args.options.steps) (at g.O.Output.written g.O.Output.failures c.args.teller.now c.args.output.now)
    (at g.O.Output.written g.O.Output.failures c.tell_load_fault.new.teller c.tell_load_fault.new.output) c.tell_load_fault.result c.args.bytes.now (load_cause c.in-Err.fault) (NoCode c.in-Err.fault) c.requires
    (λ cause is. no_code c.in-Err.fault cause c.in-Err.ensures.fault is) c.tell_load_fault.ensures
