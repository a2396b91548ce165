use Rattle.pb_plan_engine.proofs.lines.say_of_text.Goals as goal

pub returns-in_default-clause-ok : goal.returns-in_default-clause-ok
returns-in_default-clause-ok g c = rw c.in_default.is c.say.ensures.ok

pub returns-clause-ok : goal.returns-clause-ok
returns-clause-ok g c = rw c.in-Some.is (rw (c.as_bytes.ensures.value, c.format.ensures.text) at c.say_all.ensures.ok)

pub returns-in_default-clause-err : goal.returns-in_default-clause-err
returns-in_default-clause-err g c = rw c.in_default.is c.say.ensures.err

pub returns-clause-err : goal.returns-clause-err
returns-clause-err g c = rw c.in-Some.is (rw (c.as_bytes.ensures.value, c.format.ensures.text) at c.say_all.ensures.err)
