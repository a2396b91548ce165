use Rattle.pb_base.specs.Lines.{name_of, names_view}
use Rattle.pb_search_engine.specs.ItemLines.{state_end}
use Rattle.std.proofs.lemmas.Result.{on_ok_weaker, on_err_weaker}
use Rattle.pb_command_io.proofs.PageLemmas.{OnErr-of}
use Rattle.pb_voice.specs.Held.{at}
use Rattle.pb_voice.proofs.VoiceLemmas.{adds_more, breaks_later, breaks_sooner}
use Rattle.pb_search_engine.proofs.item_lines.tell_state.Goals as goal

pub returns-in_err-say-clause-err : goal.returns-in_err-say-clause-err
returns-in_err-say-clause-err g c =
    let names = names_view c.args.names.now in
    OnErr-of c.from_residual.result (breaks_sooner (at g.O.Output.written g.O.Output.failures c.args.voice.now c.args.output.now) (at g.O.Output.written g.O.Output.failures c.say.new.self c.say.new.output) (name_of names.processes c.args.process) (state_end c.args.state) (rw (c.name_at.ensures, c.deref.ensures.value) at c.in_err-say.ensures.err))

pub returns-clause-ok : goal.returns-clause-ok
returns-clause-ok g c =
    let names = names_view c.args.names.now in
    on_ok_weaker c.say-2.result (λ last. (adds_more (at g.O.Output.written g.O.Output.failures c.args.voice.now c.args.output.now) (at g.O.Output.written g.O.Output.failures c.say.new.self c.say.new.output) (at g.O.Output.written g.O.Output.failures c.say-2.new.self c.say-2.new.output) (name_of names.processes c.args.process) (state_end c.args.state) (rw (c.name_at.ensures, c.deref.ensures.value) at c.in_ok-say.ensures.ok) last)) (rw (c.state_end.ensures) at c.say-2.ensures.ok)

pub returns-clause-err : goal.returns-clause-err
returns-clause-err g c =
    let names = names_view c.args.names.now in
    on_err_weaker c.say-2.result (λ last. (breaks_later (at g.O.Output.written g.O.Output.failures c.args.voice.now c.args.output.now) (at g.O.Output.written g.O.Output.failures c.say.new.self c.say.new.output) (at g.O.Output.written g.O.Output.failures c.say-2.new.self c.say-2.new.output) (name_of names.processes c.args.process) (state_end c.args.state) (rw (c.name_at.ensures, c.deref.ensures.value) at c.in_ok-say.ensures.ok) last)) (rw (c.state_end.ensures) at c.say-2.ensures.err)
