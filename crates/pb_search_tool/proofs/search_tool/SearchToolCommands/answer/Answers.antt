use Rattle.pb_call.proofs.CallLemmas.{tells_as}
use Rattle.pb_search_tool.specs.Search.{says}
use Rattle.pb_words.specs.declared.words.Options.TheVariants as option
use Rattle.pb_search_tool.proofs.search_tool.SearchToolCommands.answer.Goals as goal

pub returns-in-Outcomes-clause-text : goal.returns-in-Outcomes-clause-text
returns-in-Outcomes-clause-text g c =
    tells_as (g.I.Input.rest c.args.input.now) (g.I.Input.rest c.args.input.now) (g.O.Output.written c.args.output.now)
    (g.O.Output.written c.outcomes_engine.new.output) c.outcomes_engine.result c.args.options (option.Outcomes c.in-Outcomes.options) c.in-Outcomes.is (says c.args.form) c.outcomes_engine.ensures.text

pub returns-in-Plan-clause-text : goal.returns-in-Plan-clause-text
returns-in-Plan-clause-text g c =
    tells_as (g.I.Input.rest c.args.input.now) (g.I.Input.rest c.args.input.now) (g.O.Output.written c.args.output.now)
    (g.O.Output.written c.plan.new.output) c.plan.result c.args.options (option.Plan c.in-Plan.options c.in-Plan.changes) c.in-Plan.is (says c.args.form) c.plan.ensures.text

pub returns-in-States-clause-text : goal.returns-in-States-clause-text
returns-in-States-clause-text g c =
    tells_as (g.I.Input.rest c.args.input.now) (g.I.Input.rest c.args.input.now) (g.O.Output.written c.args.output.now)
    (g.O.Output.written c.states.new.output) c.states.result c.args.options (option.States c.in-States.options) c.in-States.is (says c.args.form) c.states.ensures.text
