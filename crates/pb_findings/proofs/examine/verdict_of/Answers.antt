use Rattle.std.proofs.Common.{map}
use Rattle.pb_findings.specs.Findings.{accepted}
use Rattle.pb_warnings.specs.Warnings.{warning}
use Rattle.pb_findings.proofs.examine.verdict_of.Goals as goal

pub returns-in_ok-warned_of-in-Ok : goal.returns-in_ok-warned_of-in-Ok
returns-in_ok-warned_of-in-Ok c =
    let program = rw c.in-Ok.is at c.requires.accepted in
    let told = rw c.in-Ok.is at c.requires.warned in
    let warned = rw c.deref.ensures.value at c.in_ok-warned_of-in-Ok.ensures in
    accepted (map warning c.in-Ok.found.items) c.in_ok-warned_of-in-Ok.field-0 program told warned
