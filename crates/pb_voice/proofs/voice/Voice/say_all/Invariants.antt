use Rattle.std.proofs.Common.{take}
use Rattle.std.specs.List.{flat_map}
use Rattle.pb_voice.specs.Held.{at}
use Rattle.pb_voice.specs.Voices.{Adds}
use Rattle.pb_voice.proofs.voice.Voice.say_all.Given as goal

abbrev pub invariant-loop-i : goal.invariant-loop-i
invariant-loop-i g l =
    Adds (at g.O.Output.written g.O.Output.failures l.fn.self l.fn.output) (flat_map (λ piece. piece.now) (take l.i l.pieces))
    (at g.O.Output.written g.O.Output.failures l.self l.output)
