use Rattle.pb_plan_engine.proofs.lines.tell_need.Goals as goal

pub returns-clause-ok : goal.returns-clause-ok
returns-clause-ok g c = rw (c.deref.ensures.value, c.as_bytes.ensures.value, c.format.ensures.text, c.as_bytes-2.ensures.value, c.format-2.ensures.text, c.as_bytes-3.ensures.value, c.format-3.ensures.text) at c.say_all.ensures.ok

pub returns-clause-err : goal.returns-clause-err
returns-clause-err g c = rw (c.deref.ensures.value, c.as_bytes.ensures.value, c.format.ensures.text, c.as_bytes-2.ensures.value, c.format-2.ensures.text, c.as_bytes-3.ensures.value, c.format-3.ensures.text) at c.say_all.ensures.err
