use Rattle.std.proofs.Common.{map, take}
use Rattle.pb_base.specs.Lines.{names_view}
use Rattle.pb_history.specs.Entries.{events_of}
use Rattle.pb_accept.specs.Sayings.{Shows}
use Rattle.pb_voice.specs.Held.{at}
use Rattle.pb_voice.specs.Tellings.{Telling}
use Rattle.pb_accept.proofs.events.tell_events.Given as goal

abbrev pub invariant-loop-i : goal.invariant-loop-i
invariant-loop-i g l =
    Telling g.T.Teller.tells (at g.O.Output.written g.O.Output.failures l.fn.teller l.fn.output)
    (map (Shows (names_view l.names)) (take l.i (events_of l.trace.entries))) (at g.O.Output.written g.O.Output.failures l.teller l.output)
