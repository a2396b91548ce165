use Rattle.std.proofs.Common.{[], ◌∷◌, ◌++◌, ℕ, List, codes}
use Rattle.std.specs.Fmt.{decimal}
use Rattle.std.specs.List.{concat}
use Rattle.pb_base.specs.Lines.{name_of, names_view}
use Rattle.pb_json.specs.Strings.{string_text}
use Rattle.pb_voice.specs.Voices.{Adds, Breaks}
use Rattle.pb_search_engine.specs.ItemObjects.{amounts}
use Rattle.std.proofs.lemmas.Result.{on_ok_weaker, on_err_weaker}
use Rattle.pb_command_io.proofs.PageLemmas.{OnErr-of}
use Rattle.pb_voice.specs.Held.{at}
use Rattle.pb_voice.proofs.VoiceLemmas.{adds_more, breaks_later, breaks_sooner}
use Rattle.pb_search_engine.proofs.part_objects.tell_ask.Goals as goal

pub returns-in_err-say_pieces-clause-err : goal.returns-in_err-say_pieces-clause-err
returns-in_err-say_pieces-clause-err g c =
    let names = names_view c.args.names.now in
    let x : List ℕ = concat (codes "{\"kind\":\"asks\",\"process\":" ∷ string_text (name_of names.processes c.args.process) ∷ codes ",\"arm\":" ∷ decimal c.args.ask.now.arm ∷ codes ",\"amounts\":[" ∷ []) in
    let fails : Breaks (at g.O.Output.written g.O.Output.failures c.args.voice.now c.args.output.now) x (at g.O.Output.written g.O.Output.failures c.say_pieces.new.voice c.say_pieces.new.output) = rw (c.name_at.ensures, c.deref.ensures.value, c.as_bytes.ensures.value, c.format.ensures.text) at c.in_err-say_pieces.ensures.err in
    OnErr-of c.from_residual.result (breaks_sooner (at g.O.Output.written g.O.Output.failures c.args.voice.now c.args.output.now) (at g.O.Output.written g.O.Output.failures c.say_pieces.new.voice c.say_pieces.new.output) (x) (amounts names c.args.ask.now.bundle ++ (codes "]}")) fails)

pub returns-in_err-tell_pair_objects-clause-err : goal.returns-in_err-tell_pair_objects-clause-err
returns-in_err-tell_pair_objects-clause-err g c =
    let names = names_view c.args.names.now in
    let x : List ℕ = concat (codes "{\"kind\":\"asks\",\"process\":" ∷ string_text (name_of names.processes c.args.process) ∷ codes ",\"arm\":" ∷ decimal c.args.ask.now.arm ∷ codes ",\"amounts\":[" ∷ []) in
    let first : Adds (at g.O.Output.written g.O.Output.failures c.args.voice.now c.args.output.now) x (at g.O.Output.written g.O.Output.failures c.say_pieces.new.voice c.say_pieces.new.output) = rw (c.name_at.ensures, c.deref.ensures.value, c.as_bytes.ensures.value, c.format.ensures.text) at c.in_ok-say_pieces.ensures.ok in
    OnErr-of c.from_residual-in_err-tell_pair_objects.result (breaks_later (at g.O.Output.written g.O.Output.failures c.args.voice.now c.args.output.now) (at g.O.Output.written g.O.Output.failures c.say_pieces.new.voice c.say_pieces.new.output) (at g.O.Output.written g.O.Output.failures c.tell_pair_objects.new.voice c.tell_pair_objects.new.output) (x) (amounts names c.args.ask.now.bundle ++ (codes "]}")) first (breaks_sooner (at g.O.Output.written g.O.Output.failures c.say_pieces.new.voice c.say_pieces.new.output) (at g.O.Output.written g.O.Output.failures c.tell_pair_objects.new.voice c.tell_pair_objects.new.output) (amounts names c.args.ask.now.bundle) (codes "]}") c.in_err-tell_pair_objects.ensures.err))

pub returns-clause-ok : goal.returns-clause-ok
returns-clause-ok g c =
    let names = names_view c.args.names.now in
    let x : List ℕ = concat (codes "{\"kind\":\"asks\",\"process\":" ∷ string_text (name_of names.processes c.args.process) ∷ codes ",\"arm\":" ∷ decimal c.args.ask.now.arm ∷ codes ",\"amounts\":[" ∷ []) in
    let first : Adds (at g.O.Output.written g.O.Output.failures c.args.voice.now c.args.output.now) x (at g.O.Output.written g.O.Output.failures c.say_pieces.new.voice c.say_pieces.new.output) = rw (c.name_at.ensures, c.deref.ensures.value, c.as_bytes.ensures.value, c.format.ensures.text) at c.in_ok-say_pieces.ensures.ok in
    on_ok_weaker c.say.result (λ last. (adds_more (at g.O.Output.written g.O.Output.failures c.args.voice.now c.args.output.now) (at g.O.Output.written g.O.Output.failures c.say_pieces.new.voice c.say_pieces.new.output) (at g.O.Output.written g.O.Output.failures c.say.new.self c.say.new.output) (x) (amounts names c.args.ask.now.bundle ++ (codes "]}")) first (adds_more (at g.O.Output.written g.O.Output.failures c.say_pieces.new.voice c.say_pieces.new.output) (at g.O.Output.written g.O.Output.failures c.tell_pair_objects.new.voice c.tell_pair_objects.new.output) (at g.O.Output.written g.O.Output.failures c.say.new.self c.say.new.output) (amounts names c.args.ask.now.bundle) (codes "]}") c.in_ok-tell_pair_objects.ensures.ok last))) c.say.ensures.ok

pub returns-clause-err : goal.returns-clause-err
returns-clause-err g c =
    let names = names_view c.args.names.now in
    let x : List ℕ = concat (codes "{\"kind\":\"asks\",\"process\":" ∷ string_text (name_of names.processes c.args.process) ∷ codes ",\"arm\":" ∷ decimal c.args.ask.now.arm ∷ codes ",\"amounts\":[" ∷ []) in
    let first : Adds (at g.O.Output.written g.O.Output.failures c.args.voice.now c.args.output.now) x (at g.O.Output.written g.O.Output.failures c.say_pieces.new.voice c.say_pieces.new.output) = rw (c.name_at.ensures, c.deref.ensures.value, c.as_bytes.ensures.value, c.format.ensures.text) at c.in_ok-say_pieces.ensures.ok in
    on_err_weaker c.say.result (λ last. (breaks_later (at g.O.Output.written g.O.Output.failures c.args.voice.now c.args.output.now) (at g.O.Output.written g.O.Output.failures c.say_pieces.new.voice c.say_pieces.new.output) (at g.O.Output.written g.O.Output.failures c.say.new.self c.say.new.output) (x) (amounts names c.args.ask.now.bundle ++ (codes "]}")) first (breaks_later (at g.O.Output.written g.O.Output.failures c.say_pieces.new.voice c.say_pieces.new.output) (at g.O.Output.written g.O.Output.failures c.tell_pair_objects.new.voice c.tell_pair_objects.new.output) (at g.O.Output.written g.O.Output.failures c.say.new.self c.say.new.output) (amounts names c.args.ask.now.bundle) (codes "]}") c.in_ok-tell_pair_objects.ensures.ok last))) c.say.ensures.err
