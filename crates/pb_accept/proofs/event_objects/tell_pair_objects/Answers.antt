use Rattle.std.proofs.Common.{◌≡◌, ◌++◌, ℕ, List, length, subst, arith}
use Rattle.pb_accept.specs.EventObjects.{pair_at, pair_json}
use Rattle.pb_base.specs.Lines.{names_view}
use Rattle.pb_command_io.proofs.PageLemmas.{OnErr-of}
use Rattle.pb_json.specs.Values.{comma}
use Rattle.pb_accept.proofs.ShownLemmas.{amount_added, amount_breaks, amounts_added}
use Rattle.pb_voice.specs.Held.{at}
use Rattle.pb_voice.specs.Voices.{Adds, Breaks}
use Rattle.pb_voice.proofs.VoiceLemmas.{adds_nothing}
use Rattle.pb_accept.proofs.event_objects.tell_pair_objects.Goals as goal

pub loop-i-init : goal.loop-i-init
loop-i-init g c = adds_nothing (at g.O.Output.written g.O.Output.failures c.args.voice.now c.args.output.now)

pub loop-i-preserved : goal.loop-i-preserved
loop-i-preserved g c =
    amount_added (names_view c.args.names.now) c.args.bundle.now c.loop-i.i c.get.result c.get.ensures (at g.O.Output.written g.O.Output.failures c.args.voice.now c.args.output.now)
    (at g.O.Output.written g.O.Output.failures c.loop-i.voice c.loop-i.output) (at g.O.Output.written g.O.Output.failures c.tell_pair.new.voice c.tell_pair.new.output) c.loop-i.invariant
    (subst (λ (t : List ℕ). Adds (at g.O.Output.written g.O.Output.failures c.loop-i.voice c.loop-i.output) (t ++ pair_json (names_view c.args.names.now) c.get.result) (at g.O.Output.written g.O.Output.failures c.tell_pair.new.voice c.tell_pair.new.output)) c.comma.ensures
    c.in_ok-tell_pair.ensures.ok)

pub returns-in_err-tell_pair-clause-err : goal.returns-in_err-tell_pair-clause-err
returns-in_err-tell_pair-clause-err g c =
    OnErr-of c.from_residual.result
    (amount_breaks (names_view c.args.names.now) c.args.bundle.now c.loop-i.i c.get.result c.get.ensures (at g.O.Output.written g.O.Output.failures c.args.voice.now c.args.output.now)
    (at g.O.Output.written g.O.Output.failures c.loop-i.voice c.loop-i.output) (at g.O.Output.written g.O.Output.failures c.tell_pair.new.voice c.tell_pair.new.output) c.loop-i.invariant
    (subst (λ (t : List ℕ). Breaks (at g.O.Output.written g.O.Output.failures c.loop-i.voice c.loop-i.output) (t ++ pair_json (names_view c.args.names.now) c.get.result) (at g.O.Output.written g.O.Output.failures c.tell_pair.new.voice c.tell_pair.new.output)) c.comma.ensures
    c.in_err-tell_pair.ensures.err))

pub returns-clause-ok : goal.returns-clause-ok
returns-clause-ok g c =
    let len = c.len-i-end.ensures.len in
    let test = c.loop-i-test.false in
    let all : c.loop-i.i ≡ length c.args.bundle.now = omega (arith, len, test) in
    amounts_added (λ k. comma k ++ pair_at (names_view c.args.names.now) c.args.bundle.now k) c.loop-i.i (length c.args.bundle.now) (at g.O.Output.written g.O.Output.failures c.args.voice.now c.args.output.now) (at g.O.Output.written g.O.Output.failures c.loop-i.voice c.loop-i.output) all
    c.loop-i.invariant
