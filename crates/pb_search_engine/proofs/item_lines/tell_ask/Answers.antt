use Rattle.std.proofs.Common.{[], ◌∷◌, ◌++◌, ℕ, List, codes}
use Rattle.std.specs.Fmt.{decimal}
use Rattle.std.specs.List.{concat}
use Rattle.pb_base.specs.Lines.{name_of, names_view, pairs_text}
use Rattle.pb_voice.specs.Voices.{Adds, Breaks}
use Rattle.std.proofs.lemmas.Result.{on_ok_weaker, on_err_weaker}
use Rattle.pb_command_io.proofs.PageLemmas.{OnErr-of}
use Rattle.pb_voice.specs.Held.{at}
use Rattle.pb_voice.proofs.VoiceLemmas.{adds_more, breaks_later, breaks_sooner}
use Rattle.pb_search_engine.proofs.item_lines.tell_ask.Goals as goal

pub returns-in_err-say_all-clause-err : goal.returns-in_err-say_all-clause-err
returns-in_err-say_all-clause-err g c =
    let names = names_view c.args.names.now in
    let x : List ℕ = concat (name_of names.processes c.args.process ∷ (46 ∷ []) ∷ decimal c.args.ask.now.arm ∷ codes " asks" ∷ []) in
    let fails : Breaks (at g.O.Output.written g.O.Output.failures c.args.voice.now c.args.output.now) x (at g.O.Output.written g.O.Output.failures c.say_all.new.self c.say_all.new.output) = rw (c.name_at.ensures, c.deref.ensures.value, c.as_bytes.ensures.value, c.format.ensures.text) at c.in_err-say_all.ensures.err in
    OnErr-of c.from_residual.result (breaks_sooner (at g.O.Output.written g.O.Output.failures c.args.voice.now c.args.output.now) (at g.O.Output.written g.O.Output.failures c.say_all.new.self c.say_all.new.output) (x) (pairs_text names c.args.ask.now.bundle ++ (codes "\n")) fails)

pub returns-in_err-tell_pairs-clause-err : goal.returns-in_err-tell_pairs-clause-err
returns-in_err-tell_pairs-clause-err g c =
    let names = names_view c.args.names.now in
    let x : List ℕ = concat (name_of names.processes c.args.process ∷ (46 ∷ []) ∷ decimal c.args.ask.now.arm ∷ codes " asks" ∷ []) in
    let first : Adds (at g.O.Output.written g.O.Output.failures c.args.voice.now c.args.output.now) x (at g.O.Output.written g.O.Output.failures c.say_all.new.self c.say_all.new.output) = rw (c.name_at.ensures, c.deref.ensures.value, c.as_bytes.ensures.value, c.format.ensures.text) at c.in_ok-say_all.ensures.ok in
    OnErr-of c.from_residual-in_err-tell_pairs.result (breaks_later (at g.O.Output.written g.O.Output.failures c.args.voice.now c.args.output.now) (at g.O.Output.written g.O.Output.failures c.say_all.new.self c.say_all.new.output) (at g.O.Output.written g.O.Output.failures c.tell_pairs.new.voice c.tell_pairs.new.output) (x) (pairs_text names c.args.ask.now.bundle ++ (codes "\n")) first (breaks_sooner (at g.O.Output.written g.O.Output.failures c.say_all.new.self c.say_all.new.output) (at g.O.Output.written g.O.Output.failures c.tell_pairs.new.voice c.tell_pairs.new.output) (pairs_text names c.args.ask.now.bundle) (codes "\n") c.in_err-tell_pairs.ensures.err))

pub returns-clause-ok : goal.returns-clause-ok
returns-clause-ok g c =
    let names = names_view c.args.names.now in
    let x : List ℕ = concat (name_of names.processes c.args.process ∷ (46 ∷ []) ∷ decimal c.args.ask.now.arm ∷ codes " asks" ∷ []) in
    let first : Adds (at g.O.Output.written g.O.Output.failures c.args.voice.now c.args.output.now) x (at g.O.Output.written g.O.Output.failures c.say_all.new.self c.say_all.new.output) = rw (c.name_at.ensures, c.deref.ensures.value, c.as_bytes.ensures.value, c.format.ensures.text) at c.in_ok-say_all.ensures.ok in
    on_ok_weaker c.say.result (λ last. (adds_more (at g.O.Output.written g.O.Output.failures c.args.voice.now c.args.output.now) (at g.O.Output.written g.O.Output.failures c.say_all.new.self c.say_all.new.output) (at g.O.Output.written g.O.Output.failures c.say.new.self c.say.new.output) (x) (pairs_text names c.args.ask.now.bundle ++ (codes "\n")) first (adds_more (at g.O.Output.written g.O.Output.failures c.say_all.new.self c.say_all.new.output) (at g.O.Output.written g.O.Output.failures c.tell_pairs.new.voice c.tell_pairs.new.output) (at g.O.Output.written g.O.Output.failures c.say.new.self c.say.new.output) (pairs_text names c.args.ask.now.bundle) (codes "\n") c.in_ok-tell_pairs.ensures.ok last))) c.say.ensures.ok

pub returns-clause-err : goal.returns-clause-err
returns-clause-err g c =
    let names = names_view c.args.names.now in
    let x : List ℕ = concat (name_of names.processes c.args.process ∷ (46 ∷ []) ∷ decimal c.args.ask.now.arm ∷ codes " asks" ∷ []) in
    let first : Adds (at g.O.Output.written g.O.Output.failures c.args.voice.now c.args.output.now) x (at g.O.Output.written g.O.Output.failures c.say_all.new.self c.say_all.new.output) = rw (c.name_at.ensures, c.deref.ensures.value, c.as_bytes.ensures.value, c.format.ensures.text) at c.in_ok-say_all.ensures.ok in
    on_err_weaker c.say.result (λ last. (breaks_later (at g.O.Output.written g.O.Output.failures c.args.voice.now c.args.output.now) (at g.O.Output.written g.O.Output.failures c.say_all.new.self c.say_all.new.output) (at g.O.Output.written g.O.Output.failures c.say.new.self c.say.new.output) (x) (pairs_text names c.args.ask.now.bundle ++ (codes "\n")) first (breaks_later (at g.O.Output.written g.O.Output.failures c.say_all.new.self c.say_all.new.output) (at g.O.Output.written g.O.Output.failures c.tell_pairs.new.voice c.tell_pairs.new.output) (at g.O.Output.written g.O.Output.failures c.say.new.self c.say.new.output) (pairs_text names c.args.ask.now.bundle) (codes "\n") c.in_ok-tell_pairs.ensures.ok last))) c.say.ensures.err
