use Rattle.std.proofs.Common.{take}
use Rattle.pb_base.specs.Lines.{names_view, pairs_text}
use Rattle.pb_voice.specs.Held.{at}
use Rattle.pb_voice.specs.Voices.{Adds}
use Rattle.pb_accept.proofs.event_lines.tell_pairs.Given as goal

abbrev pub invariant-loop-i : goal.invariant-loop-i
invariant-loop-i g l =
    Adds (at g.O.Output.written g.O.Output.failures l.fn.voice l.fn.output) (pairs_text (names_view l.names) (take l.i l.bundle))
    (at g.O.Output.written g.O.Output.failures l.voice l.output)
