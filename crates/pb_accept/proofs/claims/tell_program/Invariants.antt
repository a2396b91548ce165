use Rattle.std.proofs.Common.{take}
use Rattle.std.specs.List.{flat_map, zip}
use Rattle.pb_names.specs.Resolves.{process_names, resource_names}
use Rattle.pb_names.specs.View.{resolved_view}
use Rattle.pb_accept.specs.Claims.{said_of_process}
use Rattle.pb_voice.specs.Tellings.{Telling}
use Rattle.pb_voice.specs.Held.{at}
use Rattle.pb_accept.proofs.claims.tell_program.Given as goal

abbrev pub invariant-loop-p : goal.invariant-loop-p
invariant-loop-p g l =
    let program = resolved_view l.program in
    Telling g.T.Teller.tells (at g.O.Output.written g.O.Output.failures l.fn.teller l.fn.output)
    (flat_map (λ process. said_of_process (resource_names program) process.0 process.1)
    (take l.p (zip (process_names program) l.claims))) (at g.O.Output.written g.O.Output.failures l.teller l.output)
