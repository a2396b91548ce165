use Rattle.pb_call.proofs.ExplainedLemmas.{as_it_is, as_json}
use Rattle.pb_call.proofs.explained.answer_as.Goals as goal

pub returns-then-json : goal.returns-then-json
returns-then-json g c =
    as_json g.C.Commands.tool g.C.Commands.MaySay g.C.Commands.Leaves c.args.words.now c.args.input.now.rest c.answer_as_objects.new.input.rest c.args.input.now.failures
    c.answer_as_objects.new.input.failures c.args.output.now c.answer_as_objects.new.output c.answer_as_objects.result g.C.Commands.in_objects c.args.json c.if-json.true
    c.answer_as_objects.ensures

pub returns-else-json : goal.returns-else-json
returns-else-json g c =
    as_it_is g.C.Commands.tool g.C.Commands.MaySay g.C.Commands.Leaves c.args.words.now c.args.input.now.rest c.answer.new.input.rest c.args.input.now.failures c.answer.new.input.failures
    c.args.output.now c.answer.new.output c.answer.result g.C.Commands.in_objects c.args.json c.if-json.false c.answer.ensures.text c.answer.ensures.faults
