use Rattle.std.proofs.Common.{List, arith, map, refl, subst}
use Rattle.pb_command_io.proofs.PageLemmas.{OnErr-of}
use Rattle.pb_voice.specs.Held.{at}
use Rattle.pb_voice.specs.Tellings.{Breaking}
use Rattle.pb_warnings.specs.Warnings.{warning}
use Rattle.pb_warnings.specs.declared.warning.Warning.{Warning as Given}
use Rattle.pb_accept.specs.Sayings.{Warns}
use Rattle.pb_accept.proofs.WarnedLemmas.{warning_broken, warning_told}
use Rattle.pb_accept.proofs.check.tell_warnings.Goals as goal

pub loop-one-init : goal.loop-one-init
loop-one-init g c = refl

pub loop-one-preserved : goal.loop-one-preserved
loop-one-preserved g c =
    warning_told g.T.Teller.tells g.T.Teller.breaks c.deref-one-items.result.now c.loop-one.one-index c.one-item.result c.one-item.is (omega arith)
    (at g.O.Output.written g.O.Output.failures c.args.teller.now c.args.output.now)
    (at g.O.Output.written g.O.Output.failures c.loop-one.teller c.loop-one.output)
    (at g.O.Output.written g.O.Output.failures c.tell.new.self c.tell.new.output) c.loop-one.invariant c.in_ok-tell.ensures.told

pub returns-in_err-tell-clause-broken : goal.returns-in_err-tell-clause-broken
returns-in_err-tell-clause-broken g c =
    OnErr-of c.from_residual.result
    (subst (λ (l : List Given). Breaking g.T.Teller.tells g.T.Teller.breaks
    (at g.O.Output.written g.O.Output.failures c.args.teller.now c.args.output.now) (map Warns (map warning l))
    (at g.O.Output.written g.O.Output.failures c.tell.new.self c.tell.new.output)) c.deref-one-items.ensures.value
    (warning_broken g.T.Teller.tells g.T.Teller.breaks c.deref-one-items.result.now c.loop-one.one-index c.one-item.result c.one-item.is (omega arith)
    (at g.O.Output.written g.O.Output.failures c.args.teller.now c.args.output.now)
    (at g.O.Output.written g.O.Output.failures c.loop-one.teller c.loop-one.output)
    (at g.O.Output.written g.O.Output.failures c.tell.new.self c.tell.new.output) c.loop-one.invariant c.in_err-tell.ensures.broken))
