use Rattle.std.proofs.Common.{sym, ◌∙◌}
use Rattle.pb_call.proofs.ExplainedLemmas.{by_itself, of_its_lines}
use Rattle.pb_call.proofs.explained.answer_as_objects.Goals as goal

pub returns-then-has_objects : goal.returns-then-has_objects
returns-then-has_objects g c =
    by_itself g.C.Commands.tool g.C.Commands.MaySay g.C.Commands.Leaves c.args.words.now c.args.input.now.rest c.answer.new.input.rest c.args.input.now.failures c.answer.new.input.failures
    c.args.output.now c.answer.new.output c.answer.result _ (sym c.has_objects.ensures ∙ c.if-has_objects.true) c.answer.ensures.text c.answer.ensures.faults

pub returns-else-has_objects : goal.returns-else-has_objects
returns-else-has_objects g c =
    of_its_lines g.C.Commands.tool g.C.Commands.MaySay g.C.Commands.Leaves c.args.words.now c.args.input.now.rest c.answer_in_json.new.input.rest c.args.input.now.failures
    c.answer_in_json.new.input.failures c.args.output.now c.answer_in_json.new.output c.answer_in_json.result _ (sym c.has_objects.ensures ∙ c.if-has_objects.false) c.answer_in_json.ensures
