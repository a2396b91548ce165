use Rattle.std.proofs.Common.{inl, inr}
use Rattle.pb_answer.proofs.AnswerLemmas.{CallWrites-refused}
use Rattle.pb_answer.proofs.answer.answer.Goals as goal

pub returns-in-Ok-clause-text : goal.returns-in-Ok-clause-text
returns-in-Ok-clause-text g c = inl (c.in-Ok.options, c.in-Ok.ensures.read, c.answer_command.ensures.text)

pub returns-in-Ok-clause-faults : goal.returns-in-Ok-clause-faults
returns-in-Ok-clause-faults g c =
    inr (c.in-Ok.options, c.in-Ok.ensures.read, c.answer_command.ensures.faults, c.answer_command.ensures.read)

pub returns-in-Err-clause-text : goal.returns-in-Err-clause-text
returns-in-Err-clause-text g c =
    CallWrites-refused c.args.words.now (g.I.Input.rest c.args.input.now) _ _ c.refuse.result c.in-Err.fault
    c.in-Err.ensures.refused c.refuse.ensures.text
