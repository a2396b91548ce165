use Rattle.std.proofs.Common.{false, map}
use Rattle.pb_accept.specs.Checks.{acceptance, well}
use Rattle.pb_warnings.specs.Warnings.{warning}
use Rattle.pb_accept.proofs.check.tell_answer.Goals as goal

pub returns-in-Ok-tell_acceptance : goal.returns-in-Ok-tell_acceptance
returns-in-Ok-tell_acceptance g c =
    let program = rw c.in-Ok.is at c.requires.accepted in
    λ warn told. let warned = rw c.in-Ok.is at told in
    (acceptance (map warning c.in-Ok.found.items), well (map warning c.in-Ok.found.items) program warned, c.in-Ok-tell_acceptance.ensures.told)

pub returns-in-Err-tell_acceptance : goal.returns-in-Err-tell_acceptance
returns-in-Err-tell_acceptance g c =
    let program = rw c.in-Ok.is at c.requires.accepted in
    λ warn told. let warned = rw c.in-Ok.is at told in
    (acceptance (map warning c.in-Ok.found.items), false, well (map warning c.in-Ok.found.items) program warned, c.in-Err-tell_acceptance.ensures.broken)

pub returns-in-Err : goal.returns-in-Err
returns-in-Err g c = λ warn told. c.tell_refusal.ensures warn
