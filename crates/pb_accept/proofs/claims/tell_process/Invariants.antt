use Rattle.std.proofs.Common.{◌∷◌, [], map, take}
use Rattle.std.specs.List.{flat_map, zip}
use Rattle.pb_base.specs.Banker.{row_of}
use Rattle.pb_accept.specs.Sayings.{Claim}
use Rattle.pb_voice.specs.Tellings.{Telling}
use Rattle.pb_voice.specs.Held.{at}
use Rattle.pb_accept.proofs.claims.tell_process.Given as goal

abbrev pub invariant-loop-r : goal.invariant-loop-r
invariant-loop-r g l =
    Telling g.T.Teller.tells (at g.O.Output.written g.O.Output.failures l.fn.teller l.fn.output)
    (flat_map (λ claim. Claim l.name claim.0 claim.1 ∷ [])
    (take l.r (zip (row_of l.claims l.p) (map (λ r. r.name.items) l.resources)))) (at g.O.Output.written g.O.Output.failures l.teller l.output)
