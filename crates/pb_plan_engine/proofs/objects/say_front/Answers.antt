use Rattle.pb_plan_engine.proofs.objects.say_front.Goals as goal

pub returns-clause-ok : goal.returns-clause-ok
returns-clause-ok g c = rw (c.as_bytes-number.ensures.value, c.format.ensures.text) at c.say_all.ensures.ok

pub returns-clause-err : goal.returns-clause-err
returns-clause-err g c = rw (c.as_bytes-number.ensures.value, c.format.ensures.text) at c.say_all.ensures.err
