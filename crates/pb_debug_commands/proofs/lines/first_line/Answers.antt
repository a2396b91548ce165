use Rattle.std.proofs.Common.{length, sym, ◌∙◌}
use Rattle.std.proofs.lemmas.Bool.{eqb-true, eqb-false}
use Rattle.pb_debug_commands.proofs.NumberedLines.{first_ends, first_is_all, none_in_nothing}
use Rattle.pb_debug_commands.proofs.lines.first_line.Goals as goal

pub returns-then-is_empty : goal.returns-then-is_empty
returns-then-is_empty c =
    none_in_nothing c.args.text.now (eqb-true (length c.args.text.now) 0 (sym c.is_empty.ensures ∙ c.if-is_empty.true))

pub returns-in-Some : goal.returns-in-Some
returns-in-Some c = first_ends c.args.text.now c.in-Some.end c.in-Some.ensures.place

pub returns-in-None : goal.returns-in-None
returns-in-None c =
    first_is_all c.args.text.now c.in-None.ensures.place
    (eqb-false (length c.args.text.now) 0 (sym c.is_empty.ensures ∙ c.if-is_empty.false))
