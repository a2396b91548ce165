use Rattle.std.proofs.Common.{[], ◌∷◌, ◌++◌, ℕ, List, codes}
use Rattle.std.specs.Fmt.{decimal}
use Rattle.std.specs.List.{concat}
use Rattle.pb_base.specs.Lines.{name_of, names_view}
use Rattle.pb_json.specs.Strings.{string_text}
use Rattle.pb_json.specs.Values.{integer_text}
use Rattle.pb_voice.specs.Voices.{Adds, Breaks}
use Rattle.std.proofs.Common.{◌≡◌, ℤ, rules, subst, w64, to_z, of_z}
use Rattle.std.proofs.lemmas.Result.{on_ok_weaker, on_err_weaker}
use Rattle.pb_command_io.proofs.PageLemmas.{OnErr-of}
use Rattle.pb_voice.specs.Held.{at}
use Rattle.pb_voice.proofs.VoiceLemmas.{adds_more, breaks_later, breaks_sooner}
use Rattle.pb_search_engine.proofs.part_objects.tell_print.Goals as goal

pub returns-in_err-say_pieces-clause-err : goal.returns-in_err-say_pieces-clause-err
returns-in_err-say_pieces-clause-err g c =
    let names = names_view c.args.names.now in
    let x : List ℕ = concat (codes "{\"kind\":\"print\",\"process\":" ∷ string_text (name_of names.processes c.args.print.pick.process) ∷ codes ",\"arm\":" ∷ decimal c.args.print.pick.arm ∷ codes ",\"value\":" ∷ []) in
    let fits : to_z w64 (of_z w64 c.args.print.value) ≡ c.args.print.value = search rules in
    let fails : Breaks (at g.O.Output.written g.O.Output.failures c.args.voice.now c.args.output.now) x (at g.O.Output.written g.O.Output.failures c.say_pieces.new.voice c.say_pieces.new.output) = rw (c.name_at.ensures, c.deref.ensures.value, c.as_bytes.ensures.value, c.format.ensures.text) at c.in_err-say_pieces.ensures.err in
    OnErr-of c.from_residual.result (breaks_sooner (at g.O.Output.written g.O.Output.failures c.args.voice.now c.args.output.now) (at g.O.Output.written g.O.Output.failures c.say_pieces.new.voice c.say_pieces.new.output) (x) (integer_text c.args.print.value ++ (codes "}")) fails)

pub returns-in_err-say_integer-clause-err : goal.returns-in_err-say_integer-clause-err
returns-in_err-say_integer-clause-err g c =
    let names = names_view c.args.names.now in
    let x : List ℕ = concat (codes "{\"kind\":\"print\",\"process\":" ∷ string_text (name_of names.processes c.args.print.pick.process) ∷ codes ",\"arm\":" ∷ decimal c.args.print.pick.arm ∷ codes ",\"value\":" ∷ []) in
    let fits : to_z w64 (of_z w64 c.args.print.value) ≡ c.args.print.value = search rules in
    let first : Adds (at g.O.Output.written g.O.Output.failures c.args.voice.now c.args.output.now) x (at g.O.Output.written g.O.Output.failures c.say_pieces.new.voice c.say_pieces.new.output) = rw (c.name_at.ensures, c.deref.ensures.value, c.as_bytes.ensures.value, c.format.ensures.text) at c.in_ok-say_pieces.ensures.ok in
    OnErr-of c.from_residual-in_err-say_integer.result (breaks_later (at g.O.Output.written g.O.Output.failures c.args.voice.now c.args.output.now) (at g.O.Output.written g.O.Output.failures c.say_pieces.new.voice c.say_pieces.new.output) (at g.O.Output.written g.O.Output.failures c.say_integer.new.voice c.say_integer.new.output) (x) (integer_text c.args.print.value ++ (codes "}")) first (breaks_sooner (at g.O.Output.written g.O.Output.failures c.say_pieces.new.voice c.say_pieces.new.output) (at g.O.Output.written g.O.Output.failures c.say_integer.new.voice c.say_integer.new.output) (integer_text c.args.print.value) (codes "}") (subst (λ (v : ℤ). Breaks (at g.O.Output.written g.O.Output.failures c.say_pieces.new.voice c.say_pieces.new.output) (integer_text v) (at g.O.Output.written g.O.Output.failures c.say_integer.new.voice c.say_integer.new.output)) fits c.in_err-say_integer.ensures.err)))

pub returns-clause-ok : goal.returns-clause-ok
returns-clause-ok g c =
    let names = names_view c.args.names.now in
    let x : List ℕ = concat (codes "{\"kind\":\"print\",\"process\":" ∷ string_text (name_of names.processes c.args.print.pick.process) ∷ codes ",\"arm\":" ∷ decimal c.args.print.pick.arm ∷ codes ",\"value\":" ∷ []) in
    let fits : to_z w64 (of_z w64 c.args.print.value) ≡ c.args.print.value = search rules in
    let first : Adds (at g.O.Output.written g.O.Output.failures c.args.voice.now c.args.output.now) x (at g.O.Output.written g.O.Output.failures c.say_pieces.new.voice c.say_pieces.new.output) = rw (c.name_at.ensures, c.deref.ensures.value, c.as_bytes.ensures.value, c.format.ensures.text) at c.in_ok-say_pieces.ensures.ok in
    on_ok_weaker c.say.result (λ last. (adds_more (at g.O.Output.written g.O.Output.failures c.args.voice.now c.args.output.now) (at g.O.Output.written g.O.Output.failures c.say_pieces.new.voice c.say_pieces.new.output) (at g.O.Output.written g.O.Output.failures c.say.new.self c.say.new.output) (x) (integer_text c.args.print.value ++ (codes "}")) first (adds_more (at g.O.Output.written g.O.Output.failures c.say_pieces.new.voice c.say_pieces.new.output) (at g.O.Output.written g.O.Output.failures c.say_integer.new.voice c.say_integer.new.output) (at g.O.Output.written g.O.Output.failures c.say.new.self c.say.new.output) (integer_text c.args.print.value) (codes "}") (subst (λ (v : ℤ). Adds (at g.O.Output.written g.O.Output.failures c.say_pieces.new.voice c.say_pieces.new.output) (integer_text v) (at g.O.Output.written g.O.Output.failures c.say_integer.new.voice c.say_integer.new.output)) fits c.in_ok-say_integer.ensures.ok) last))) c.say.ensures.ok

pub returns-clause-err : goal.returns-clause-err
returns-clause-err g c =
    let names = names_view c.args.names.now in
    let x : List ℕ = concat (codes "{\"kind\":\"print\",\"process\":" ∷ string_text (name_of names.processes c.args.print.pick.process) ∷ codes ",\"arm\":" ∷ decimal c.args.print.pick.arm ∷ codes ",\"value\":" ∷ []) in
    let fits : to_z w64 (of_z w64 c.args.print.value) ≡ c.args.print.value = search rules in
    let first : Adds (at g.O.Output.written g.O.Output.failures c.args.voice.now c.args.output.now) x (at g.O.Output.written g.O.Output.failures c.say_pieces.new.voice c.say_pieces.new.output) = rw (c.name_at.ensures, c.deref.ensures.value, c.as_bytes.ensures.value, c.format.ensures.text) at c.in_ok-say_pieces.ensures.ok in
    on_err_weaker c.say.result (λ last. (breaks_later (at g.O.Output.written g.O.Output.failures c.args.voice.now c.args.output.now) (at g.O.Output.written g.O.Output.failures c.say_pieces.new.voice c.say_pieces.new.output) (at g.O.Output.written g.O.Output.failures c.say.new.self c.say.new.output) (x) (integer_text c.args.print.value ++ (codes "}")) first (breaks_later (at g.O.Output.written g.O.Output.failures c.say_pieces.new.voice c.say_pieces.new.output) (at g.O.Output.written g.O.Output.failures c.say_integer.new.voice c.say_integer.new.output) (at g.O.Output.written g.O.Output.failures c.say.new.self c.say.new.output) (integer_text c.args.print.value) (codes "}") (subst (λ (v : ℤ). Adds (at g.O.Output.written g.O.Output.failures c.say_pieces.new.voice c.say_pieces.new.output) (integer_text v) (at g.O.Output.written g.O.Output.failures c.say_integer.new.voice c.say_integer.new.output)) fits c.in_ok-say_integer.ensures.ok) last))) c.say.ensures.err
