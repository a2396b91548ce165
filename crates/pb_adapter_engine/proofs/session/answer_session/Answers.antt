use Rattle.std.proofs.lemmas.Option.{IfSome_then}
use Rattle.pb_adapter_engine.proofs.AdapterLemmas.{session_broken, session_done}
use Rattle.pb_adapter_engine.proofs.session.answer_session.Goals as goal

pub returns-in-Ok-clause-text : goal.returns-in-Ok-clause-text
returns-in-Ok-clause-text g c =
    IfSome_then (g.I.Input.rest c.args.input.now) c.in-Ok.ensures.all
    (λ bytes. session_done c.args.session.now c.args.first bytes _ _ _ c.converse.new.adapter _)

pub returns-in-Err-clause-text : goal.returns-in-Err-clause-text
returns-in-Err-clause-text g c =
    IfSome_then (g.I.Input.rest c.args.input.now) c.in-Err.ensures.some
    (λ bytes. session_broken c.args.session.now c.args.first bytes _ _ c.in-Err.stop c.status_of.result c.status_of.ensures)

pub returns-in-Ok-clause-answered : goal.returns-in-Ok-clause-answered
returns-in-Ok-clause-answered g c = λ changed. absurd (changed c.in-Ok.ensures.counted_reads)

pub returns-in-Err-clause-answered : goal.returns-in-Err-clause-answered
returns-in-Err-clause-answered g c = c.in-Err.ensures.answered
