use Rattle.std.proofs.Common.{◌++◌}
use Rattle.pb_accept.specs.EventObjects.{pair_at}
use Rattle.pb_base.specs.Lines.{each_below, names_view}
use Rattle.pb_json.specs.Values.{comma}
use Rattle.pb_voice.specs.Held.{at}
use Rattle.pb_voice.specs.Voices.{Adds}
use Rattle.pb_accept.proofs.event_objects.tell_pair_objects.Given as goal

abbrev pub invariant-loop-i : goal.invariant-loop-i
invariant-loop-i g l =
    Adds (at g.O.Output.written g.O.Output.failures l.fn.voice l.fn.output)
    (each_below (λ k. comma k ++ pair_at (names_view l.names) l.bundle k) l.i)
    (at g.O.Output.written g.O.Output.failures l.voice l.output)
