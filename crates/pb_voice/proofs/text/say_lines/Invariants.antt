use Rattle.std.proofs.Common.{length}
use Rattle.pb_voice.specs.Held.{at}
use Rattle.pb_voice.proofs.TextLemmas.{AreSaid}
use Rattle.pb_voice.proofs.text.say_lines.Given as goal

abbrev pub invariant-loop-rest : goal.invariant-loop-rest
invariant-loop-rest g l =
    AreSaid l.kind l.text l.rest (at g.O.Output.written g.O.Output.failures l.fn.voice l.fn.output)
    (at g.O.Output.written g.O.Output.failures l.voice l.output)

abbrev pub decreases-loop-rest : goal.decreases-loop-rest
decreases-loop-rest g l = length l.rest
