use Rattle.pb_call.proofs.CallLemmas.{tells_as}
use Rattle.pb_bank_tool.specs.Bank.{says}
use Rattle.pb_words.specs.declared.words.Options.TheVariants as option
use Rattle.pb_bank_tool.proofs.bank_tool.BankToolCommands.answer.Goals as goal

pub returns-in-Bank-clause-text : goal.returns-in-Bank-clause-text
returns-in-Bank-clause-text g c =
    tells_as (g.I.Input.rest c.args.input.now) (g.I.Input.rest c.args.input.now) (g.O.Output.written c.args.output.now)
    (g.O.Output.written c.bank_engine.new.output) c.bank_engine.result c.args.options option.Bank c.in-Bank.is (says c.args.form) c.bank_engine.ensures.text
