use Rattle.std.proofs.Common.{Bool, true, false, IfSome, subst, sym}
use Rattle.pb_base.specs.declared.lending.Lending.{Lending}
use Rattle.pb_command_io.specs.Answers.{Tells}
use Rattle.pb_options.specs.Lends.{lending_for}
use Rattle.pb_debug_tool.specs.Debug.{leaves_of_commands, says_of_commands}
use Rattle.pb_debug_tool.proofs.debug.debug.Goals as goal

pub returns-then-flags-clause-text : goal.returns-then-flags-clause-text
returns-then-flags-clause-text g c =
    subst (λ (live : Bool). IfSome (g.I.Input.rest c.args.input.now) (λ bytes.
    Tells (says_of_commands live (lending_for c.args.flags.lend) bytes) (g.O.Output.written c.args.output.now)
    (g.O.Output.written c.debug_live_engine.new.output) c.debug_live_engine.result))
    (sym c.if-flags.true)
    (subst (λ (l : Lending). IfSome (g.I.Input.rest c.args.input.now) (λ bytes.
    Tells (says_of_commands true l bytes) (g.O.Output.written c.args.output.now)
    (g.O.Output.written c.debug_live_engine.new.output) c.debug_live_engine.result)) c.lending-lending.ensures c.debug_live_engine.ensures.text)

pub returns-else-flags-clause-text : goal.returns-else-flags-clause-text
returns-else-flags-clause-text g c =
    subst (λ (live : Bool). IfSome (g.I.Input.rest c.args.input.now) (λ bytes.
    Tells (says_of_commands live (lending_for c.args.flags.lend) bytes) (g.O.Output.written c.args.output.now)
    (g.O.Output.written c.debug_engine.new.output) c.debug_engine.result))
    (sym c.if-flags.false)
    (subst (λ (l : Lending). IfSome (g.I.Input.rest c.args.input.now) (λ bytes.
    Tells (says_of_commands false l bytes) (g.O.Output.written c.args.output.now)
    (g.O.Output.written c.debug_engine.new.output) c.debug_engine.result)) c.lending-lending.ensures c.debug_engine.ensures.text)

pub returns-then-flags-clause-read : goal.returns-then-flags-clause-read
returns-then-flags-clause-read g c = λ failed.
    subst (λ (live : Bool). leaves_of_commands live (lending_for c.args.flags.lend) (g.I.Input.rest c.args.input.now)
    (g.I.Input.rest c.debug_live_engine.new.input) (g.O.Output.written c.args.output.now) (g.O.Output.written c.debug_live_engine.new.output))
    (sym c.if-flags.true)
    (subst (λ (l : Lending). leaves_of_commands true l (g.I.Input.rest c.args.input.now)
    (g.I.Input.rest c.debug_live_engine.new.input) (g.O.Output.written c.args.output.now) (g.O.Output.written c.debug_live_engine.new.output))
    c.lending-lending.ensures (c.debug_live_engine.ensures.answered failed))
