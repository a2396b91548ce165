use Rattle.std.proofs.lemmas.Result.{on_ok_weaker, on_err_weaker}
use Rattle.pb_command_io.proofs.PageLemmas.{OnErr-of}
use Rattle.pb_voice.specs.Held.{at}
use Rattle.pb_voice.proofs.VoiceLemmas.{adds_more, breaks_later, breaks_sooner}
use Rattle.pb_plan_engine.specs.Sayings.{called_text, claimed_words, lines_text}
use Rattle.pb_joint.specs.View.{full_name}
use Rattle.pb_plan_engine.proofs.lines.tell_claim.Goals as goal

pub returns-in_err-say_called-clause-err : goal.returns-in_err-say_called-clause-err
returns-in_err-say_called-clause-err g c =
    let before = at g.O.Output.written g.O.Output.failures c.args.voice.now c.args.output.now in
    let s1 = at g.O.Output.written g.O.Output.failures c.say_called.new.voice c.say_called.new.output in
    OnErr-of c.from_residual.result (breaks_sooner before s1 (called_text (full_name c.args.claim.now.process)) _ c.in_err-say_called.ensures.err)

pub returns-in_err-say_claim-clause-err : goal.returns-in_err-say_claim-clause-err
returns-in_err-say_claim-clause-err g c =
    let before = at g.O.Output.written g.O.Output.failures c.args.voice.now c.args.output.now in
    let s1 = at g.O.Output.written g.O.Output.failures c.say_called.new.voice c.say_called.new.output in
    let s2 = at g.O.Output.written g.O.Output.failures c.say_claim.new.voice c.say_claim.new.output in
    OnErr-of c.from_residual-in_err-say_claim.result (breaks_later before s1 s2 (called_text (full_name c.args.claim.now.process)) _ c.in_ok-say_called.ensures.ok (breaks_sooner s1 s2 (claimed_words c.args.claim.now.amount c.args.claim.now.resource.items) _ (rw c.deref.ensures.value at c.in_err-say_claim.ensures.err)))

pub returns-in_err-say_lines-clause-err : goal.returns-in_err-say_lines-clause-err
returns-in_err-say_lines-clause-err g c =
    let before = at g.O.Output.written g.O.Output.failures c.args.voice.now c.args.output.now in
    let s1 = at g.O.Output.written g.O.Output.failures c.say_called.new.voice c.say_called.new.output in
    let s2 = at g.O.Output.written g.O.Output.failures c.say_claim.new.voice c.say_claim.new.output in
    let s3 = at g.O.Output.written g.O.Output.failures c.say_lines.new.voice c.say_lines.new.output in
    OnErr-of c.from_residual-in_err-say_lines.result (breaks_later before s1 s3 (called_text (full_name c.args.claim.now.process)) _ c.in_ok-say_called.ensures.ok (breaks_later s1 s2 s3 (claimed_words c.args.claim.now.amount c.args.claim.now.resource.items) _ (rw c.deref.ensures.value at c.in_ok-say_claim.ensures.ok) (breaks_sooner s2 s3 (lines_text c.args.claim.now.parts.items) _ (rw c.deref-2.ensures.value at c.in_err-say_lines.ensures.err))))

pub returns-clause-ok : goal.returns-clause-ok
returns-clause-ok g c =
    let before = at g.O.Output.written g.O.Output.failures c.args.voice.now c.args.output.now in
    let s1 = at g.O.Output.written g.O.Output.failures c.say_called.new.voice c.say_called.new.output in
    let s2 = at g.O.Output.written g.O.Output.failures c.say_claim.new.voice c.say_claim.new.output in
    let s3 = at g.O.Output.written g.O.Output.failures c.say_lines.new.voice c.say_lines.new.output in
    let s4 = at g.O.Output.written g.O.Output.failures c.say.new.self c.say.new.output in
    on_ok_weaker c.say.result (λ last. adds_more before s1 s4 (called_text (full_name c.args.claim.now.process)) _ c.in_ok-say_called.ensures.ok (adds_more s1 s2 s4 (claimed_words c.args.claim.now.amount c.args.claim.now.resource.items) _ (rw c.deref.ensures.value at c.in_ok-say_claim.ensures.ok) (adds_more s2 s3 s4 (lines_text c.args.claim.now.parts.items) _ (rw c.deref-2.ensures.value at c.in_ok-say_lines.ensures.ok) (last)))) c.say.ensures.ok

pub returns-clause-err : goal.returns-clause-err
returns-clause-err g c =
    let before = at g.O.Output.written g.O.Output.failures c.args.voice.now c.args.output.now in
    let s1 = at g.O.Output.written g.O.Output.failures c.say_called.new.voice c.say_called.new.output in
    let s2 = at g.O.Output.written g.O.Output.failures c.say_claim.new.voice c.say_claim.new.output in
    let s3 = at g.O.Output.written g.O.Output.failures c.say_lines.new.voice c.say_lines.new.output in
    let s4 = at g.O.Output.written g.O.Output.failures c.say.new.self c.say.new.output in
    on_err_weaker c.say.result (λ last. breaks_later before s1 s4 (called_text (full_name c.args.claim.now.process)) _ c.in_ok-say_called.ensures.ok (breaks_later s1 s2 s4 (claimed_words c.args.claim.now.amount c.args.claim.now.resource.items) _ (rw c.deref.ensures.value at c.in_ok-say_claim.ensures.ok) (breaks_later s2 s3 s4 (lines_text c.args.claim.now.parts.items) _ (rw c.deref-2.ensures.value at c.in_ok-say_lines.ensures.ok) (last)))) c.say.ensures.err
