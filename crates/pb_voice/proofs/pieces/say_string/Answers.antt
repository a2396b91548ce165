use Rattle.std.proofs.Common.{[], ◌∷◌, ◌++◌}
use Rattle.std.specs.List.{flat_map}
use Rattle.std.proofs.lemmas.Result.{on_ok_weaker, on_err_weaker}
use Rattle.pb_command_io.proofs.PageLemmas.{OnErr-of}
use Rattle.pb_json.specs.Strings.{escaped}
use Rattle.pb_voice.specs.Held.{at}
use Rattle.pb_voice.proofs.VoiceLemmas.{adds_more, breaks_later, breaks_sooner}
use Rattle.pb_voice.proofs.pieces.say_string.Goals as goal

pub returns-in_err-say-clause-err : goal.returns-in_err-say-clause-err
returns-in_err-say-clause-err g c =
    OnErr-of c.from_residual.result
    (breaks_sooner (at g.O.Output.written g.O.Output.failures c.args.voice.now c.args.output.now)
    (at g.O.Output.written g.O.Output.failures c.say.new.self c.say.new.output) (34 ∷ []) (flat_map escaped c.args.bytes.now ++ 34 ∷ [])
    c.in_err-say.ensures.err)

pub returns-in_err-say_escaped-clause-err : goal.returns-in_err-say_escaped-clause-err
returns-in_err-say_escaped-clause-err g c =
    let before = at g.O.Output.written g.O.Output.failures c.args.voice.now c.args.output.now in
    let quoted = at g.O.Output.written g.O.Output.failures c.say.new.self c.say.new.output in
    let inside = at g.O.Output.written g.O.Output.failures c.say_escaped.new.voice c.say_escaped.new.output in
    OnErr-of c.from_residual-in_err-say_escaped.result
    (breaks_later before quoted inside (34 ∷ []) (flat_map escaped c.args.bytes.now ++ 34 ∷ []) c.in_ok-say.ensures.ok
    (breaks_sooner quoted inside (flat_map escaped c.args.bytes.now) (34 ∷ []) c.in_err-say_escaped.ensures.err))

pub returns-clause-ok : goal.returns-clause-ok
returns-clause-ok g c =
    let before = at g.O.Output.written g.O.Output.failures c.args.voice.now c.args.output.now in
    let quoted = at g.O.Output.written g.O.Output.failures c.say.new.self c.say.new.output in
    let inside = at g.O.Output.written g.O.Output.failures c.say_escaped.new.voice c.say_escaped.new.output in
    let after = at g.O.Output.written g.O.Output.failures c.say-2.new.self c.say-2.new.output in
    on_ok_weaker c.say-2.result
    (λ last. adds_more before quoted after (34 ∷ []) (flat_map escaped c.args.bytes.now ++ 34 ∷ []) c.in_ok-say.ensures.ok
    (adds_more quoted inside after (flat_map escaped c.args.bytes.now) (34 ∷ []) c.in_ok-say_escaped.ensures.ok last))
    c.say-2.ensures.ok

pub returns-clause-err : goal.returns-clause-err
returns-clause-err g c =
    let before = at g.O.Output.written g.O.Output.failures c.args.voice.now c.args.output.now in
    let quoted = at g.O.Output.written g.O.Output.failures c.say.new.self c.say.new.output in
    let inside = at g.O.Output.written g.O.Output.failures c.say_escaped.new.voice c.say_escaped.new.output in
    let after = at g.O.Output.written g.O.Output.failures c.say-2.new.self c.say-2.new.output in
    on_err_weaker c.say-2.result
    (λ last. breaks_later before quoted after (34 ∷ []) (flat_map escaped c.args.bytes.now ++ 34 ∷ []) c.in_ok-say.ensures.ok
    (breaks_later quoted inside after (flat_map escaped c.args.bytes.now) (34 ∷ []) c.in_ok-say_escaped.ensures.ok last))
    c.say-2.ensures.err
