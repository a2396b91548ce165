use Rattle.std.proofs.Common.{refl}
use Rattle.std.proofs.lemmas.Option.{slice_get_read}
use Rattle.pb_command_io.proofs.PageLemmas.{OnErr-of}
use Rattle.pb_accept.proofs.EventLemmas.{all_are_told, one_broken, one_told}
use Rattle.pb_plan_engine.specs.View.{said_view}
use Rattle.pb_voice.specs.Held.{at}
use Rattle.pb_plan_engine.proofs.teller.tell_each.Goals as goal

pub loop-i-init : goal.loop-i-init
loop-i-init g c = refl

pub loop-i-preserved : goal.loop-i-preserved
loop-i-preserved g c =
    let one = c.index-said-i.result in
    let m = at g.O.Output.written g.O.Output.failures c.loop-i.teller c.loop-i.output in
    let u = at g.O.Output.written g.O.Output.failures c.tell.new.self c.tell.new.output in
    one_told g.T.Teller.tells g.T.Teller.breaks said_view c.args.said.now c.loop-i.i one
    (slice_get_read c.args.said.now _ c.loop-i.i one refl c.loop-i-test.true c.index-said-i.is)
    (at g.O.Output.written g.O.Output.failures c.args.teller.now c.args.output.now) m u c.loop-i.invariant
    c.in_ok-tell.ensures.told

pub returns-in_err-tell-clause-broken : goal.returns-in_err-tell-clause-broken
returns-in_err-tell-clause-broken g c =
    let one = c.index-said-i.result in
    let m = at g.O.Output.written g.O.Output.failures c.loop-i.teller c.loop-i.output in
    let u = at g.O.Output.written g.O.Output.failures c.tell.new.self c.tell.new.output in
    OnErr-of c.from_residual.result
    (one_broken g.T.Teller.tells g.T.Teller.breaks said_view c.args.said.now c.loop-i.i one
    (slice_get_read c.args.said.now _ c.loop-i.i one refl c.loop-i-test.true c.index-said-i.is)
    (at g.O.Output.written g.O.Output.failures c.args.teller.now c.args.output.now) m u c.loop-i.invariant
    c.in_err-tell.ensures.broken)

pub returns-clause-told : goal.returns-clause-told
returns-clause-told g c =
    all_are_told g.T.Teller.tells said_view c.args.said.now c.loop-i.i
    (at g.O.Output.written g.O.Output.failures c.args.teller.now c.args.output.now)
    (at g.O.Output.written g.O.Output.failures c.loop-i.teller c.loop-i.output) c.loop-i-test.false c.loop-i.invariant
