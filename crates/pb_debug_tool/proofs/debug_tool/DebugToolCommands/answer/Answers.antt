use Rattle.pb_call.proofs.CallLemmas.{leaves_as, tells_as}
use Rattle.pb_debug_tool.specs.Debug.{leaves, says}
use Rattle.pb_words.specs.declared.words.Options.TheVariants as option
use Rattle.pb_debug_tool.proofs.debug_tool.DebugToolCommands.answer.Goals as goal

pub returns-in-Dap-clause-text : goal.returns-in-Dap-clause-text
returns-in-Dap-clause-text g c =
    tells_as (g.I.Input.rest c.args.input.now) (g.I.Input.rest c.args.input.now) (g.O.Output.written c.args.output.now)
    (g.O.Output.written c.adapter_engine.new.output) c.adapter_engine.result c.args.options option.Dap c.in-Dap.is (says c.args.form) c.adapter_engine.ensures.text

pub returns-in-Debug-clause-text : goal.returns-in-Debug-clause-text
returns-in-Debug-clause-text g c =
    tells_as (g.I.Input.rest c.args.input.now) (g.I.Input.rest c.args.input.now) (g.O.Output.written c.args.output.now)
    (g.O.Output.written c.debug.new.output) c.debug.result c.args.options (option.Debug c.in-Debug.flags) c.in-Debug.is (says c.args.form) c.debug.ensures.text

pub returns-in-Draw-clause-text : goal.returns-in-Draw-clause-text
returns-in-Draw-clause-text g c =
    tells_as (g.I.Input.rest c.args.input.now) (g.I.Input.rest c.args.input.now) (g.O.Output.written c.args.output.now)
    (g.O.Output.written c.write_drawing.new.output) c.write_drawing.result c.args.options (option.Draw c.in-Draw.options) c.in-Draw.is (says c.args.form) c.write_drawing.ensures.text

pub returns-in-Dap-clause-read : goal.returns-in-Dap-clause-read
returns-in-Dap-clause-read g c = λ failed.
    leaves_as (g.I.Input.rest c.args.input.now) (g.I.Input.rest c.adapter_engine.new.input) (g.O.Output.written c.args.output.now)
    (g.O.Output.written c.adapter_engine.new.output) c.adapter_engine.result c.args.options option.Dap c.in-Dap.is leaves
    (c.adapter_engine.ensures.answered failed).1
