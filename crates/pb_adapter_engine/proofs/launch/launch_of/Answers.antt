use Rattle.std.proofs.Common.{IfErr, IfOk, subst}
use Rattle.pb_accept.specs.Refusals.{RefusesWith}
use Rattle.pb_codegen.specs.Compiled.{IsCompiled}
use Rattle.pb_adapter_engine.specs.Waiting.{RefusesPicks, no_text}
use Rattle.pb_adapter_engine.proofs.LaunchLemmas.{has_no_picks}
use Rattle.pb_adapter_engine.proofs.launch.launch_of.Goals as goal

pub returns-in-Err : goal.returns-in-Err
returns-in-Err c =
    no_text c.parts_for.result.0.now c.parts_for.result.1.now c.in-Err.line.items c.parts_for.ensures
    (subst (λ o. IfErr o (λ line. RefusesWith c.parts_for.result.0.now line.items)) c.in-Err.is c.in_ok-compiled.ensures.refused)

pub returns-in-Err-2 : goal.returns-in-Err-2
returns-in-Err-2 c =
    has_no_picks c.args.words.now c.args.seed c.args.lending c.parts_for.result.0.now c.parts_for.result.1.now c.in-Err-2.line.items
    c.in-Ok.compiled.verified c.verified.result.now c.in-Ok.compiled.labels c.parts_for.ensures (subst (λ o. IfOk o (λ made. IsCompiled c.parts_for.result.0.now made.verified.code made.labels)) c.in-Ok.is
    c.in_ok-compiled.ensures.compiled) c.verified.ensures
    (subst (λ o. IfErr o (λ line. RefusesPicks c.args.seed c.args.lending c.verified.result.now.code c.parts_for.result.1.now line.items)) c.in-Err-2.is
    c.in_ok-picks.ensures.refused)
