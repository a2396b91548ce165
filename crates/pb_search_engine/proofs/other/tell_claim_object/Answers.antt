use Rattle.std.proofs.Common.{[], ◌∷◌, ◌++◌, ℕ, List, codes}
use Rattle.std.specs.Fmt.{decimal}
use Rattle.std.specs.List.{concat, flat_map}
use Rattle.pb_json.specs.Strings.{escaped}
use Rattle.pb_voice.specs.Voices.{Adds, Breaks}
use Rattle.std.proofs.lemmas.Result.{on_ok_weaker, on_err_weaker}
use Rattle.pb_command_io.proofs.PageLemmas.{OnErr-of}
use Rattle.pb_voice.specs.Held.{at}
use Rattle.pb_voice.proofs.VoiceLemmas.{adds_more, breaks_later, breaks_sooner}
use Rattle.pb_search_engine.proofs.other.tell_claim_object.Goals as goal

pub returns-in_err-say_all-clause-err : goal.returns-in_err-say_all-clause-err
returns-in_err-say_all-clause-err g c =
    let x : List ℕ = concat (codes "{\"kind\":\"not as expected\",\"text\":\"claims at least " ∷ decimal c.args.amount ∷ codes " " ∷ []) in
    let name = flat_map escaped c.args.resource.now in
    let first : Breaks (at g.O.Output.written g.O.Output.failures c.args.voice.now c.args.output.now) x (at g.O.Output.written g.O.Output.failures c.say_all.new.self c.say_all.new.output) = rw (c.as_bytes.ensures.value, c.format.ensures.text) at c.in_err-say_all.ensures.err in
    OnErr-of c.from_residual.result (breaks_sooner (at g.O.Output.written g.O.Output.failures c.args.voice.now c.args.output.now) (at g.O.Output.written g.O.Output.failures c.say_all.new.self c.say_all.new.output) x (name ++ (codes "\"}\n")) first)

pub returns-in_err-say_escaped-clause-err : goal.returns-in_err-say_escaped-clause-err
returns-in_err-say_escaped-clause-err g c =
    let x : List ℕ = concat (codes "{\"kind\":\"not as expected\",\"text\":\"claims at least " ∷ decimal c.args.amount ∷ codes " " ∷ []) in
    let name = flat_map escaped c.args.resource.now in
    let first : Adds (at g.O.Output.written g.O.Output.failures c.args.voice.now c.args.output.now) x (at g.O.Output.written g.O.Output.failures c.say_all.new.self c.say_all.new.output) = rw (c.as_bytes.ensures.value, c.format.ensures.text) at c.in_ok-say_all.ensures.ok in
    OnErr-of c.from_residual-in_err-say_escaped.result
    (breaks_later (at g.O.Output.written g.O.Output.failures c.args.voice.now c.args.output.now) (at g.O.Output.written g.O.Output.failures c.say_all.new.self c.say_all.new.output) (at g.O.Output.written g.O.Output.failures c.say_escaped.new.voice c.say_escaped.new.output) x (name ++ (codes "\"}\n")) first (breaks_sooner (at g.O.Output.written g.O.Output.failures c.say_all.new.self c.say_all.new.output) (at g.O.Output.written g.O.Output.failures c.say_escaped.new.voice c.say_escaped.new.output) name (codes "\"}\n") c.in_err-say_escaped.ensures.err))

pub returns-clause-ok : goal.returns-clause-ok
returns-clause-ok g c =
    let x : List ℕ = concat (codes "{\"kind\":\"not as expected\",\"text\":\"claims at least " ∷ decimal c.args.amount ∷ codes " " ∷ []) in
    let name = flat_map escaped c.args.resource.now in
    let first : Adds (at g.O.Output.written g.O.Output.failures c.args.voice.now c.args.output.now) x (at g.O.Output.written g.O.Output.failures c.say_all.new.self c.say_all.new.output) = rw (c.as_bytes.ensures.value, c.format.ensures.text) at c.in_ok-say_all.ensures.ok in
    on_ok_weaker c.say.result (λ last. adds_more (at g.O.Output.written g.O.Output.failures c.args.voice.now c.args.output.now) (at g.O.Output.written g.O.Output.failures c.say_all.new.self c.say_all.new.output) (at g.O.Output.written g.O.Output.failures c.say.new.self c.say.new.output) x (name ++ (codes "\"}\n")) first
    (adds_more (at g.O.Output.written g.O.Output.failures c.say_all.new.self c.say_all.new.output) (at g.O.Output.written g.O.Output.failures c.say_escaped.new.voice c.say_escaped.new.output) (at g.O.Output.written g.O.Output.failures c.say.new.self c.say.new.output) name (codes "\"}\n") c.in_ok-say_escaped.ensures.ok last)) c.say.ensures.ok

pub returns-clause-err : goal.returns-clause-err
returns-clause-err g c =
    let x : List ℕ = concat (codes "{\"kind\":\"not as expected\",\"text\":\"claims at least " ∷ decimal c.args.amount ∷ codes " " ∷ []) in
    let name = flat_map escaped c.args.resource.now in
    let first : Adds (at g.O.Output.written g.O.Output.failures c.args.voice.now c.args.output.now) x (at g.O.Output.written g.O.Output.failures c.say_all.new.self c.say_all.new.output) = rw (c.as_bytes.ensures.value, c.format.ensures.text) at c.in_ok-say_all.ensures.ok in
    on_err_weaker c.say.result (λ last. breaks_later (at g.O.Output.written g.O.Output.failures c.args.voice.now c.args.output.now) (at g.O.Output.written g.O.Output.failures c.say_all.new.self c.say_all.new.output) (at g.O.Output.written g.O.Output.failures c.say.new.self c.say.new.output) x (name ++ (codes "\"}\n")) first
    (breaks_later (at g.O.Output.written g.O.Output.failures c.say_all.new.self c.say_all.new.output) (at g.O.Output.written g.O.Output.failures c.say_escaped.new.voice c.say_escaped.new.output) (at g.O.Output.written g.O.Output.failures c.say.new.self c.say.new.output) name (codes "\"}\n") c.in_ok-say_escaped.ensures.ok last)) c.say.ensures.err
