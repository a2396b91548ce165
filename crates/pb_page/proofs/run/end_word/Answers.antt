use Rattle.std.proofs.Common.{arith}
use Rattle.std.proofs.lemmas.List.{length-map}
use Rattle.pb_history.specs.Entries.{Entry}
use Rattle.pb_page.specs.Runs.{cut, whole}
use Rattle.pb_page.proofs.run.end_word.Goals as goal

pub returns-then-last-len : goal.returns-then-last-len
returns-then-last-len c =
    let many = length-map c.args.trace.now.entries (λ (e : Entry). e.pick) in
    let test = c.if-last-len.true in
    let len = c.len.ensures in
    cut (omega (arith, many, test, len))

pub returns-else-last-len : goal.returns-else-last-len
returns-else-last-len c =
    let many = length-map c.args.trace.now.entries (λ (e : Entry). e.pick) in
    let test = c.if-last-len.false in
    let len = c.len.ensures in
    let within = c.requires in
    whole (omega (arith, many, test, len, within))
