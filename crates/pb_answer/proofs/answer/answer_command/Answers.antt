use Rattle.std.proofs.Common.{◌≡◌, ◌∙◌, sym}
use Rattle.pb_answer.proofs.AnswerLemmas.{bank_leaves, bank_tells, debug_leaves, debug_tells, edit_leaves, edit_tells, run_leaves, run_tells, search_leaves, search_tells}
use Rattle.pb_answer.proofs.answer.answer_command.Goals as goal

pub returns-in-Bank-clause-text : goal.returns-in-Bank-clause-text
returns-in-Bank-clause-text g c =
    bank_tells (g.I.Input.rest c.args.input.now) (g.I.Input.rest c.by_tool.new.input) (g.O.Output.written c.args.output.now)
    (g.O.Output.written c.by_tool.new.output) c.by_tool.result c.args.options (sym c.tool_of.ensures ∙ c.in-Bank.is)
    c.by_tool.ensures.text

pub returns-in-Bank-clause-read : goal.returns-in-Bank-clause-read
returns-in-Bank-clause-read g c failed =
    bank_leaves (g.I.Input.rest c.args.input.now) (g.I.Input.rest c.by_tool.new.input) (g.O.Output.written c.args.output.now)
    (g.O.Output.written c.by_tool.new.output) c.by_tool.result c.args.options (sym c.tool_of.ensures ∙ c.in-Bank.is)
    (c.by_tool.ensures.read failed)

pub returns-in-Debug-clause-text : goal.returns-in-Debug-clause-text
returns-in-Debug-clause-text g c =
    debug_tells (g.I.Input.rest c.args.input.now) (g.I.Input.rest c.by_tool-in-Debug.new.input) (g.O.Output.written c.args.output.now)
    (g.O.Output.written c.by_tool-in-Debug.new.output) c.by_tool-in-Debug.result c.args.options (sym c.tool_of.ensures ∙ c.in-Debug.is)
    c.by_tool-in-Debug.ensures.text

pub returns-in-Debug-clause-read : goal.returns-in-Debug-clause-read
returns-in-Debug-clause-read g c failed =
    debug_leaves (g.I.Input.rest c.args.input.now) (g.I.Input.rest c.by_tool-in-Debug.new.input) (g.O.Output.written c.args.output.now)
    (g.O.Output.written c.by_tool-in-Debug.new.output) c.by_tool-in-Debug.result c.args.options (sym c.tool_of.ensures ∙ c.in-Debug.is)
    (c.by_tool-in-Debug.ensures.read failed)

pub returns-in-Edit-clause-text : goal.returns-in-Edit-clause-text
returns-in-Edit-clause-text g c =
    edit_tells (g.I.Input.rest c.args.input.now) (g.I.Input.rest c.by_tool-in-Edit.new.input) (g.O.Output.written c.args.output.now)
    (g.O.Output.written c.by_tool-in-Edit.new.output) c.by_tool-in-Edit.result c.args.options (sym c.tool_of.ensures ∙ c.in-Edit.is)
    c.by_tool-in-Edit.ensures.text

pub returns-in-Edit-clause-read : goal.returns-in-Edit-clause-read
returns-in-Edit-clause-read g c failed =
    edit_leaves (g.I.Input.rest c.args.input.now) (g.I.Input.rest c.by_tool-in-Edit.new.input) (g.O.Output.written c.args.output.now)
    (g.O.Output.written c.by_tool-in-Edit.new.output) c.by_tool-in-Edit.result c.args.options (sym c.tool_of.ensures ∙ c.in-Edit.is)
    (c.by_tool-in-Edit.ensures.read failed)

pub returns-in-Run-clause-text : goal.returns-in-Run-clause-text
returns-in-Run-clause-text g c =
    run_tells (g.I.Input.rest c.args.input.now) (g.I.Input.rest c.by_tool-in-Run.new.input) (g.O.Output.written c.args.output.now)
    (g.O.Output.written c.by_tool-in-Run.new.output) c.by_tool-in-Run.result c.args.options (sym c.tool_of.ensures ∙ c.in-Run.is)
    c.by_tool-in-Run.ensures.text

pub returns-in-Run-clause-read : goal.returns-in-Run-clause-read
returns-in-Run-clause-read g c failed =
    run_leaves (g.I.Input.rest c.args.input.now) (g.I.Input.rest c.by_tool-in-Run.new.input) (g.O.Output.written c.args.output.now)
    (g.O.Output.written c.by_tool-in-Run.new.output) c.by_tool-in-Run.result c.args.options (sym c.tool_of.ensures ∙ c.in-Run.is)
    (c.by_tool-in-Run.ensures.read failed)

pub returns-in-Search-clause-text : goal.returns-in-Search-clause-text
returns-in-Search-clause-text g c =
    search_tells (g.I.Input.rest c.args.input.now) (g.I.Input.rest c.by_tool-in-Search.new.input) (g.O.Output.written c.args.output.now)
    (g.O.Output.written c.by_tool-in-Search.new.output) c.by_tool-in-Search.result c.args.options (sym c.tool_of.ensures ∙ c.in-Search.is)
    c.by_tool-in-Search.ensures.text

pub returns-in-Search-clause-read : goal.returns-in-Search-clause-read
returns-in-Search-clause-read g c failed =
    search_leaves (g.I.Input.rest c.args.input.now) (g.I.Input.rest c.by_tool-in-Search.new.input) (g.O.Output.written c.args.output.now)
    (g.O.Output.written c.by_tool-in-Search.new.output) c.by_tool-in-Search.result c.args.options (sym c.tool_of.ensures ∙ c.in-Search.is)
    (c.by_tool-in-Search.ensures.read failed)
