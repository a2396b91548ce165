use Rattle.std.proofs.Common.{[], ◌∷◌, codes}
use Rattle.std.specs.List.{concat}
use Rattle.pb_base.specs.Lines.{name_of, names_view}
use Rattle.pb_json.specs.Strings.{string_text}
use Rattle.pb_search_engine.specs.ItemObjects.{state_start}
use Rattle.std.proofs.lemmas.Result.{on_ok_weaker, on_err_weaker}
use Rattle.pb_command_io.proofs.PageLemmas.{OnErr-of}
use Rattle.pb_voice.specs.Held.{at}
use Rattle.pb_voice.proofs.VoiceLemmas.{adds_more, breaks_later, breaks_sooner}
use Rattle.pb_search_engine.proofs.part_objects.tell_state.Goals as goal

pub returns-in_err-say-clause-err : goal.returns-in_err-say-clause-err
returns-in_err-say-clause-err g c =
    let names = names_view c.args.names.now in
    OnErr-of c.from_residual.result (breaks_sooner (at g.O.Output.written g.O.Output.failures c.args.voice.now c.args.output.now) (at g.O.Output.written g.O.Output.failures c.say.new.self c.say.new.output) (state_start c.args.state) (concat (string_text (name_of names.processes c.args.process) ∷ codes "}" ∷ [])) (rw (c.state_start.ensures) at c.in_err-say.ensures.err))

pub returns-clause-ok : goal.returns-clause-ok
returns-clause-ok g c =
    let names = names_view c.args.names.now in
    on_ok_weaker c.say_pieces.result (λ last. (adds_more (at g.O.Output.written g.O.Output.failures c.args.voice.now c.args.output.now) (at g.O.Output.written g.O.Output.failures c.say.new.self c.say.new.output) (at g.O.Output.written g.O.Output.failures c.say_pieces.new.voice c.say_pieces.new.output) (state_start c.args.state) (concat (string_text (name_of names.processes c.args.process) ∷ codes "}" ∷ [])) (rw (c.state_start.ensures) at c.in_ok-say.ensures.ok) last)) (rw (c.name_at.ensures, c.deref.ensures.value) at c.say_pieces.ensures.ok)

pub returns-clause-err : goal.returns-clause-err
returns-clause-err g c =
    let names = names_view c.args.names.now in
    on_err_weaker c.say_pieces.result (λ last. (breaks_later (at g.O.Output.written g.O.Output.failures c.args.voice.now c.args.output.now) (at g.O.Output.written g.O.Output.failures c.say.new.self c.say.new.output) (at g.O.Output.written g.O.Output.failures c.say_pieces.new.voice c.say_pieces.new.output) (state_start c.args.state) (concat (string_text (name_of names.processes c.args.process) ∷ codes "}" ∷ [])) (rw (c.state_start.ensures) at c.in_ok-say.ensures.ok) last)) (rw (c.name_at.ensures, c.deref.ensures.value) at c.say_pieces.ensures.err)
