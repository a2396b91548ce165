use Rattle.pb_search_engine.proofs.other.tell_bad_object.Goals as goal

pub returns-clause-ok : goal.returns-clause-ok
returns-clause-ok g c = rw (c.as_bytes.ensures.value, c.format.ensures.text) at c.say_all.ensures.ok

pub returns-clause-err : goal.returns-clause-err
returns-clause-err g c = rw (c.as_bytes.ensures.value, c.format.ensures.text) at c.say_all.ensures.err
