use Rattle.std.proofs.Common.{◌+◌, ap, sym, Some, ◌∙◌, arith}
use Rattle.std.proofs.lemmas.Grind.{common_steps}
use Rattle.pb_generator.proofs.Lists.{line_next}
use Rattle.pb_generator.proofs.statement.line_after.Goals as goal

pub returns-in-Some : goal.returns-in-Some
returns-in-Some g c =
    let found = c.in-Some.ensures.lookup in
    rw (← c.deref.ensures.value)
    (ap Some c.line.ensures ∙ sym (line_next c.deref.result.now (c.args.i + 1) c.in-Some.next.now c.args.after found.1 found.3.0))

pub returns-in-None : goal.returns-in-None
returns-in-None g c = grind (arith, common_steps)
