use Rattle.std.proofs.Common.{map, take}
use Rattle.pb_accept.specs.Sayings.{Warns}
use Rattle.pb_voice.specs.Held.{at}
use Rattle.pb_voice.specs.Tellings.{Telling}
use Rattle.pb_warnings.specs.Warnings.{warning}
use Rattle.pb_accept.proofs.check.tell_warnings.Given as goal

abbrev pub invariant-loop-one : goal.invariant-loop-one
invariant-loop-one g l =
    Telling g.T.Teller.tells (at g.O.Output.written g.O.Output.failures l.fn.teller l.fn.output)
    (map Warns (map warning (take l.one-index l.one-items))) (at g.O.Output.written g.O.Output.failures l.teller l.output)
