use Rattle.std.proofs.lemmas.Result.{on_ok_weaker, on_err_weaker}
use Rattle.pb_command_io.proofs.PageLemmas.{OnErr-of}
use Rattle.pb_voice.specs.Held.{at}
use Rattle.pb_voice.proofs.VoiceLemmas.{adds_more, breaks_later, breaks_sooner}
use Rattle.std.proofs.Common.{Vec, Global, ℕ, map}
use Rattle.std.specs.Prelude.{codes}
use Rattle.pb_plan_engine.specs.Objects.{names_json}
use Rattle.pb_plan_engine.proofs.objects.tell_order.Goals as goal

pub returns-in_err-say-clause-err : goal.returns-in_err-say-clause-err
returns-in_err-say-clause-err g c =
    let before = at g.O.Output.written g.O.Output.failures c.args.voice.now c.args.output.now in
    let s1 = at g.O.Output.written g.O.Output.failures c.say.new.self c.say.new.output in
    OnErr-of c.from_residual.result (breaks_sooner before s1 (codes "{\"kind\":\"order\",\"text\":\"") _ c.in_err-say.ensures.err)

pub returns-in_err-say_names-clause-err : goal.returns-in_err-say_names-clause-err
returns-in_err-say_names-clause-err g c =
    let before = at g.O.Output.written g.O.Output.failures c.args.voice.now c.args.output.now in
    let s1 = at g.O.Output.written g.O.Output.failures c.say.new.self c.say.new.output in
    let s2 = at g.O.Output.written g.O.Output.failures c.say_names.new.voice c.say_names.new.output in
    OnErr-of c.from_residual-in_err-say_names.result (breaks_later before s1 s2 (codes "{\"kind\":\"order\",\"text\":\"") _ c.in_ok-say.ensures.ok (breaks_sooner s1 s2 (names_json (map (λ (name : Vec ℕ Global). name.items) c.args.names.now)) _ c.in_err-say_names.ensures.err))

pub returns-clause-ok : goal.returns-clause-ok
returns-clause-ok g c =
    let before = at g.O.Output.written g.O.Output.failures c.args.voice.now c.args.output.now in
    let s1 = at g.O.Output.written g.O.Output.failures c.say.new.self c.say.new.output in
    let s2 = at g.O.Output.written g.O.Output.failures c.say_names.new.voice c.say_names.new.output in
    let s3 = at g.O.Output.written g.O.Output.failures c.say-2.new.self c.say-2.new.output in
    on_ok_weaker c.say-2.result (λ last. adds_more before s1 s3 (codes "{\"kind\":\"order\",\"text\":\"") _ c.in_ok-say.ensures.ok (adds_more s1 s2 s3 (names_json (map (λ (name : Vec ℕ Global). name.items) c.args.names.now)) _ c.in_ok-say_names.ensures.ok (last))) c.say-2.ensures.ok

pub returns-clause-err : goal.returns-clause-err
returns-clause-err g c =
    let before = at g.O.Output.written g.O.Output.failures c.args.voice.now c.args.output.now in
    let s1 = at g.O.Output.written g.O.Output.failures c.say.new.self c.say.new.output in
    let s2 = at g.O.Output.written g.O.Output.failures c.say_names.new.voice c.say_names.new.output in
    let s3 = at g.O.Output.written g.O.Output.failures c.say-2.new.self c.say-2.new.output in
    on_err_weaker c.say-2.result (λ last. breaks_later before s1 s3 (codes "{\"kind\":\"order\",\"text\":\"") _ c.in_ok-say.ensures.ok (breaks_later s1 s2 s3 (names_json (map (λ (name : Vec ℕ Global). name.items) c.args.names.now)) _ c.in_ok-say_names.ensures.ok (last))) c.say-2.ensures.err
