use Rattle.std.proofs.Common.{◌≤◌, length, subst, sym, arith}
use Rattle.pb_base.specs.Lines.{names_view, pair_text}
use Rattle.pb_base.specs.declared.pair.Pair.{Pair}
use Rattle.pb_command_io.proofs.PageLemmas.{OnErr-of}
use Rattle.pb_accept.proofs.ShownLemmas.{is_here, within}
use Rattle.pb_voice.specs.Held.{at}
use Rattle.pb_voice.specs.Voices.{Adds, Breaks}
use Rattle.pb_voice.proofs.VoiceLemmas.{adds_nothing, element_added, element_broken, elements_added}
use Rattle.pb_accept.proofs.event_lines.tell_pairs.Goals as goal

pub loop-i-init : goal.loop-i-init
loop-i-init g c = adds_nothing (at g.O.Output.written g.O.Output.failures c.args.voice.now c.args.output.now)

pub loop-i-preserved : goal.loop-i-preserved
loop-i-preserved g c =
    let names = names_view c.args.names.now in
    let pairs = c.args.bundle.now in
    let i = c.loop-i.i in
    let pair = c.get.result in
    element_added (pair_text names) pairs i pair (within pairs i pair c.get.ensures) (at g.O.Output.written g.O.Output.failures c.args.voice.now c.args.output.now)
    (at g.O.Output.written g.O.Output.failures c.loop-i.voice c.loop-i.output) (at g.O.Output.written g.O.Output.failures c.tell_pair.new.voice c.tell_pair.new.output) c.loop-i.invariant
    (subst (λ (p : Pair). Adds (at g.O.Output.written g.O.Output.failures c.loop-i.voice c.loop-i.output) (pair_text names p) (at g.O.Output.written g.O.Output.failures c.tell_pair.new.voice c.tell_pair.new.output))
    (sym (is_here pairs i pair c.get.ensures)) c.in_ok-tell_pair.ensures.ok)

pub returns-in_err-tell_pair-clause-err : goal.returns-in_err-tell_pair-clause-err
returns-in_err-tell_pair-clause-err g c =
    let names = names_view c.args.names.now in
    let pairs = c.args.bundle.now in
    let i = c.loop-i.i in
    let pair = c.get.result in
    OnErr-of c.from_residual.result
    (element_broken (pair_text names) pairs i pair (within pairs i pair c.get.ensures) (at g.O.Output.written g.O.Output.failures c.args.voice.now c.args.output.now)
    (at g.O.Output.written g.O.Output.failures c.loop-i.voice c.loop-i.output) (at g.O.Output.written g.O.Output.failures c.tell_pair.new.voice c.tell_pair.new.output) c.loop-i.invariant
    (subst (λ (p : Pair). Breaks (at g.O.Output.written g.O.Output.failures c.loop-i.voice c.loop-i.output) (pair_text names p) (at g.O.Output.written g.O.Output.failures c.tell_pair.new.voice c.tell_pair.new.output))
    (sym (is_here pairs i pair c.get.ensures)) c.in_err-tell_pair.ensures.err))

pub returns-clause-ok : goal.returns-clause-ok
returns-clause-ok g c =
    let len = c.len-i-end.ensures.len in
    let test = c.loop-i-test.false in
    let all : length c.args.bundle.now ≤ c.loop-i.i = omega (arith, len, test) in
    elements_added (pair_text (names_view c.args.names.now)) c.args.bundle.now c.loop-i.i (at g.O.Output.written g.O.Output.failures c.args.voice.now c.args.output.now) (at g.O.Output.written g.O.Output.failures c.loop-i.voice c.loop-i.output) all c.loop-i.invariant
