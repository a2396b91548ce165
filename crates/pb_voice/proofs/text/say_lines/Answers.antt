use Rattle.pb_command_io.proofs.PageLemmas.{OnErr-of}
use Rattle.pb_voice.specs.Held.{at}
use Rattle.pb_voice.proofs.TextLemmas.{all_said, none_said, one_breaks, one_more_said}
use Rattle.pb_voice.proofs.text.say_lines.Goals as goal

pub loop-rest-init : goal.loop-rest-init
loop-rest-init g c = none_said c.args.kind.now c.args.text.now (at g.O.Output.written g.O.Output.failures c.args.voice.now c.args.output.now)

pub loop-rest-preserved : goal.loop-rest-preserved
loop-rest-preserved g c =
    one_more_said c.args.kind.now c.args.text.now c.loop-rest.rest.now c.first_line-cut.result.line.now c.first_line-cut.result.rest.now
    (at g.O.Output.written g.O.Output.failures c.args.voice.now c.args.output.now)
    (at g.O.Output.written g.O.Output.failures c.loop-rest.voice c.loop-rest.output)
    (at g.O.Output.written g.O.Output.failures c.say_line.new.voice c.say_line.new.output) c.first_line-cut.ensures.lines c.loop-rest.invariant
    c.in_ok-say_line.ensures.ok

pub returns-in_err-say_line-clause-err : goal.returns-in_err-say_line-clause-err
returns-in_err-say_line-clause-err g c =
    OnErr-of c.from_residual.result
    (one_breaks c.args.kind.now c.args.text.now c.loop-rest.rest.now c.first_line-cut.result.line.now c.first_line-cut.result.rest.now
    (at g.O.Output.written g.O.Output.failures c.args.voice.now c.args.output.now)
    (at g.O.Output.written g.O.Output.failures c.loop-rest.voice c.loop-rest.output)
    (at g.O.Output.written g.O.Output.failures c.say_line.new.voice c.say_line.new.output) c.first_line-cut.ensures.lines c.loop-rest.invariant
    c.in_err-say_line.ensures.err)
