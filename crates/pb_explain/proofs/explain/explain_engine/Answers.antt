use Rattle.std.proofs.Common.{Option, subst, sym}
use Rattle.pb_command_io.specs.Answers.{Tells}
use Rattle.pb_command_io.specs.declared.status.Status.TheVariants.{Done}
use Rattle.pb_explain.specs.Pages.{SaysOfExplain, explained, list_of_codes}
use Rattle.pb_options.specs.Codes.{all_codes}
use Rattle.pb_options.specs.declared.code.Code.{Code}
use Rattle.pb_explain.proofs.explain.explain_engine.Goals as goal

pub returns-in-None-clause-text : goal.returns-in-None-clause-text
returns-in-None-clause-text g c =
    subst (λ (a : Option Code). Tells (SaysOfExplain c.args.form a) (g.O.Output.written c.args.output.now) (g.O.Output.written c.write_list.new.output) c.write_list.result)
    (sym c.in-None.is) (list_of_codes c.args.form all_codes, Done, explained, c.write_list.ensures.text)
