use Rattle.std.proofs.Common.{map, take}
use Rattle.pb_plan_engine.specs.View.{said_view}
use Rattle.pb_voice.specs.Held.{at}
use Rattle.pb_voice.specs.Tellings.{Telling}
use Rattle.pb_plan_engine.proofs.teller.tell_each.Given as goal

abbrev pub invariant-loop-i : goal.invariant-loop-i
invariant-loop-i g l =
    Telling g.T.Teller.tells (at g.O.Output.written g.O.Output.failures l.fn.teller l.fn.output)
    (map said_view (take l.i l.said)) (at g.O.Output.written g.O.Output.failures l.teller l.output)
