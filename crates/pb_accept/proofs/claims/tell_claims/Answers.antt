use Rattle.pb_names.specs.View.{resolved_view}
use Rattle.pb_accept.specs.Claims.{SaysOfClaims, claimed, refused, said_of_program}
use Rattle.pb_voice.specs.Inputs.{read}
use Rattle.pb_voice.specs.Tellings.{whole, broken}
use Rattle.pb_command_io.specs.declared.status.Status.TheVariants as status
use Rattle.pb_accept.proofs.InputLemmas.{of_fault}
use Rattle.pb_voice.specs.Held.{at}
use Rattle.pb_accept.proofs.claims.tell_claims.Goals as goal

pub returns-in-Ok : goal.returns-in-Ok
returns-in-Ok g c =
    let program = resolved_view c.in-Ok.analysis.program in
    let claims = c.in-Ok.analysis.claims in (
      said_of_program program claims,
      status.Done,
      read _ _ c.requires (claimed program claims c.in-Ok.ensures.analyzed),
      broken c.in-Err-tell_program.ensures.broken,
    )

pub returns-in-Ok-tell_program : goal.returns-in-Ok-tell_program
returns-in-Ok-tell_program g c =
    let program = resolved_view c.in-Ok.analysis.program in
    let claims = c.in-Ok.analysis.claims in (
      said_of_program program claims,
      status.Done,
      read _ _ c.requires (claimed program claims c.in-Ok.ensures.analyzed),
      whole (λ e. cc) c.in-Ok-tell_program.ensures.told,
    )

pub returns : goal.returns
returns g c =
    of_fault g.T.Teller.tells g.T.Teller.breaks SaysOfClaims (at g.O.Output.written g.O.Output.failures c.args.teller.now c.args.output.now) (at g.O.Output.written g.O.Output.failures c.tell_fault.new.teller c.tell_fault.new.output) c.tell_fault.result
    c.args.text.now c.in-Err.fault c.requires (λ not. refused c.in-Err.fault not c.in-Err.ensures.refused c.in-Err.ensures.early)
    c.tell_fault.ensures.memory c.tell_fault.ensures.refused
