use Rattle.std.proofs.Common.{List, ℕ, Option, inl, inr, subst}
use Rattle.pb_call.proofs.CallLemmas.{CallWrites-refused}
use Rattle.pb_call.specs.Calls.{elsewhere}
use Rattle.pb_command_io.specs.Answers.{Says}
use Rattle.pb_command_io.specs.declared.status.Status.TheVariants.{Words}
use Rattle.pb_words.specs.Tools.{tool_for}
use Rattle.pb_words.specs.declared.tool.Tool.{Tool}
use Rattle.pb_call.proofs.answer.answer.Goals as goal

pub returns-in-None-clause-text : goal.returns-in-None-clause-text
returns-in-None-clause-text g c =
    let named = subst (λ (tool : Tool). Says (g.O.Output.written c.answer.new.output) (g.O.Output.written c.name_tool.new.output)
    (elsewhere c.args.form tool) Words c.name_tool.result) c.tool_of.ensures c.name_tool.ensures.text in
    let says = subst (λ (old : Option (List ℕ)). Says old (g.O.Output.written c.name_tool.new.output)
    (elsewhere c.args.form (tool_for c.in-Ok.options)) Words c.name_tool.result) c.in-None.ensures.untouched.2 named in
    inr (inl (c.in-Ok.options, c.in-Ok.ensures.read, c.in-None.ensures.elsewhere, says))

pub returns-in-Err-clause-text : goal.returns-in-Err-clause-text
returns-in-Err-clause-text g c =
    CallWrites-refused g.C.Commands.tool g.C.Commands.MaySay c.args.form c.args.words.now (g.I.Input.rest c.args.input.now) _ _ c.refuse.result
    c.in-Err.fault c.in-Err.ensures.refused c.refuse.ensures.text
