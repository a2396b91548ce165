use Rattle.std.proofs.Common.{ap, ◌∙◌}
use Rattle.std.proofs.lemmas.Option.{IfSome_then}
use Rattle.pb_server_engine.specs.Servers.{end_status}
use Rattle.pb_server_engine.proofs.ServerLemmas.{all_served, read_served, some_served}
use Rattle.pb_server_engine.proofs.server.server_engine.Goals as goal

pub returns-in-Ok-clause-text : goal.returns-in-Ok-clause-text
returns-in-Ok-clause-text g c =
    IfSome_then (g.I.Input.rest c.args.input.now) c.in-Ok.ensures.all
    (λ bytes. all_served c.new-session.result bytes _ _ c.converse.new.session c.status_at.result c.new-session.ensures
    (c.status_at.ensures ∙ ap end_status c.phase.ensures))

pub returns-in-Ok-clause-answered : goal.returns-in-Ok-clause-answered
returns-in-Ok-clause-answered g c = λ changed. absurd (changed c.in-Ok.ensures.counted_reads)

pub returns-clause-answered : goal.returns-clause-answered
returns-clause-answered g c = λ changed.
    let before = c.in-Err.ensures.answered changed in (
      before.0,
      read_served c.new-session.result (g.I.Input.rest c.args.input.now) (g.I.Input.rest c.converse.new.input) (g.O.Output.written c.args.output.now)
          (g.O.Output.written c.converse.new.output) c.new-session.ensures before.1,
    )

pub returns-clause-text : goal.returns-clause-text
returns-clause-text g c =
    IfSome_then (g.I.Input.rest c.args.input.now) c.in-Err.ensures.some
    (λ bytes. some_served c.new-session.result bytes _ _ c.in-Err.stop c.status_of.result c.new-session.ensures c.status_of.ensures)
