use Rattle.pb_search_engine.proofs.part_objects.tell_pick.Goals as goal

pub returns-clause-ok : goal.returns-clause-ok
returns-clause-ok g c = rw (c.name_at.ensures, c.deref.ensures.value, c.as_bytes.ensures.value, c.format.ensures.text, c.as_bytes-2.ensures.value, c.format-2.ensures.text) at c.say_pieces.ensures.ok

pub returns-clause-err : goal.returns-clause-err
returns-clause-err g c = rw (c.name_at.ensures, c.deref.ensures.value, c.as_bytes.ensures.value, c.format.ensures.text, c.as_bytes-2.ensures.value, c.format-2.ensures.text) at c.say_pieces.ensures.err
