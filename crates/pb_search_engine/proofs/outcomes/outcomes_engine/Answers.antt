use Rattle.std.proofs.Common.{subst, sym, ◌∙◌}
use Rattle.std.specs.Prelude.{IfSome}
use Rattle.pb_command_io.specs.Answers.{Tells}
use Rattle.pb_search_engine.specs.SaysOfAll.{SaysBy}
use Rattle.pb_search_engine.proofs.outcomes.outcomes_engine.Goals as goal

pub returns-in-One-clause-text : goal.returns-in-One-clause-text
returns-in-One-clause-text g c =
    subst
    (λ way. IfSome (g.I.Input.rest c.args.input.now) (λ bytes. Tells (SaysBy way c.args.form c.args.options bytes) (g.O.Output.written c.args.output.now)
    (g.O.Output.written c.write_one.new.output) c.write_one.result))
    (sym c.in-One.is ∙ c.way_of.ensures) c.write_one.ensures.text
