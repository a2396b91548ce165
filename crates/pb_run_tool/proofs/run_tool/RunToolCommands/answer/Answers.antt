use Rattle.pb_call.proofs.CallLemmas.{tells_as}
use Rattle.pb_run_tool.specs.Run.{says}
use Rattle.pb_words.specs.declared.words.Options.TheVariants as option
use Rattle.pb_run_tool.proofs.run_tool.RunToolCommands.answer.Goals as goal

pub returns-in-Check-clause-text : goal.returns-in-Check-clause-text
returns-in-Check-clause-text g c =
    tells_as (g.I.Input.rest c.args.input.now) (g.I.Input.rest c.args.input.now) (g.O.Output.written c.args.output.now)
    (g.O.Output.written c.write_checks.new.output) c.write_checks.result c.args.options (option.Check c.in-Check.numbers) c.in-Check.is (says c.args.form) c.write_checks.ensures.text

pub returns-in-Claims-clause-text : goal.returns-in-Claims-clause-text
returns-in-Claims-clause-text g c =
    tells_as (g.I.Input.rest c.args.input.now) (g.I.Input.rest c.args.input.now) (g.O.Output.written c.args.output.now)
    (g.O.Output.written c.write_claims.new.output) c.write_claims.result c.args.options option.Claims c.in-Claims.is (says c.args.form) c.write_claims.ensures.text

pub returns-in-Emit-clause-text : goal.returns-in-Emit-clause-text
returns-in-Emit-clause-text g c =
    tells_as (g.I.Input.rest c.args.input.now) (g.I.Input.rest c.args.input.now) (g.O.Output.written c.args.output.now)
    (g.O.Output.written c.write_emission.new.output) c.write_emission.result c.args.options (option.Emit c.in-Emit.numbers) c.in-Emit.is (says c.args.form) c.write_emission.ensures.text

pub returns-in-Exec-clause-text : goal.returns-in-Exec-clause-text
returns-in-Exec-clause-text g c =
    tells_as (g.I.Input.rest c.args.input.now) (g.I.Input.rest c.args.input.now) (g.O.Output.written c.args.output.now)
    (g.O.Output.written c.write_execution.new.output) c.write_execution.result c.args.options (option.Exec c.in-Exec.numbers) c.in-Exec.is (says c.args.form) c.write_execution.ensures.text

pub returns-in-Explain-clause-text : goal.returns-in-Explain-clause-text
returns-in-Explain-clause-text g c =
    tells_as (g.I.Input.rest c.args.input.now) (g.I.Input.rest c.args.input.now) (g.O.Output.written c.args.output.now)
    (g.O.Output.written c.explain_engine.new.output) c.explain_engine.result c.args.options (option.Explain c.in-Explain.code) c.in-Explain.is (says c.args.form) c.explain_engine.ensures.text

pub returns-in-Migrate-clause-text : goal.returns-in-Migrate-clause-text
returns-in-Migrate-clause-text g c =
    tells_as (g.I.Input.rest c.args.input.now) (g.I.Input.rest c.args.input.now) (g.O.Output.written c.args.output.now)
    (g.O.Output.written c.write_migration.new.output) c.write_migration.result c.args.options option.Migrate c.in-Migrate.is (says c.args.form) c.write_migration.ensures.text

pub returns-in-Record-clause-text : goal.returns-in-Record-clause-text
returns-in-Record-clause-text g c =
    tells_as (g.I.Input.rest c.args.input.now) (g.I.Input.rest c.args.input.now) (g.O.Output.written c.args.output.now)
    (g.O.Output.written c.write_record.new.output) c.write_record.result c.args.options (option.Record c.in-Record.numbers) c.in-Record.is (says c.args.form) c.write_record.ensures.text

pub returns-in-Replay-clause-text : goal.returns-in-Replay-clause-text
returns-in-Replay-clause-text g c =
    tells_as (g.I.Input.rest c.args.input.now) (g.I.Input.rest c.args.input.now) (g.O.Output.written c.args.output.now)
    (g.O.Output.written c.write_replay.new.output) c.write_replay.result c.args.options (option.Replay c.in-Replay.options) c.in-Replay.is (says c.args.form) c.write_replay.ensures.text

pub returns-in-Run-clause-text : goal.returns-in-Run-clause-text
returns-in-Run-clause-text g c =
    tells_as (g.I.Input.rest c.args.input.now) (g.I.Input.rest c.args.input.now) (g.O.Output.written c.args.output.now)
    (g.O.Output.written c.write_run.new.output) c.write_run.result c.args.options (option.Run c.in-Run.numbers) c.in-Run.is (says c.args.form) c.write_run.ensures.text
