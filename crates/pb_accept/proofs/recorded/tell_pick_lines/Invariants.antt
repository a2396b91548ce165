use Rattle.std.proofs.Common.{take}
use Rattle.std.specs.List.{flat_map}
use Rattle.pb_base.specs.Lines.{line, names_view}
use Rattle.pb_picks.specs.PickLines.{pick_line}
use Rattle.pb_voice.specs.Held.{at}
use Rattle.pb_voice.specs.Voices.{Adds}
use Rattle.pb_accept.proofs.recorded.tell_pick_lines.Given as goal

abbrev pub invariant-loop-i : goal.invariant-loop-i
invariant-loop-i g l =
    Adds (at g.O.Output.written g.O.Output.failures l.fn.voice l.fn.output) (flat_map (λ pick. line (pick_line (names_view l.names).processes pick)) (take l.i l.picks))
    (at g.O.Output.written g.O.Output.failures l.voice l.output)
